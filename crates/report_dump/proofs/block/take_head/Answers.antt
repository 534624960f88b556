use Rattle.std.proofs.Common.{sym, ◌∙◌, ap, drop}
use Rattle.std.proofs.lemmas.List.{drop-drop}
use Rattle.drm_bits.specs.Bits.{front}
use Rattle.report_dump.proofs.block.take_head.Goals as goal

pub returns-clause-head : goal.returns-clause-head
returns-clause-head c =
    let first = c.take_u8.ensures.rest in
    let second = c.take_flag.ensures.rest ∙ ap (drop 1) first in
    let third = c.take_u8-2.ensures.rest ∙ ap (drop 4) second in
    record {
      len = c.take_u8.ensures.number;
      version = sym (ap (front 1) first) ∙ c.take_flag.ensures.number;
      kind = c.take_u8-2.ensures.number ∙ ap (front 4) second;
      nibble = c.take_u8-3.ensures.number ∙ ap (front 4) third;
    }

pub returns-clause-rest : goal.returns-clause-rest
returns-clause-rest c =
    let first = c.take_u8.ensures.rest in
    let second = c.take_flag.ensures.rest ∙ (ap (drop 1) first ∙ drop-drop 1 7 c.args.bits.now) in
    let third = c.take_u8-2.ensures.rest ∙ (ap (drop 4) second ∙ drop-drop 4 8 c.args.bits.now) in
    c.take_u8-3.ensures.rest ∙ (ap (drop 4) third ∙ drop-drop 4 12 c.args.bits.now)
