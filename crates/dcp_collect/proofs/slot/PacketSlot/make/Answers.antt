use Rattle.std.proofs.Common.{◌∙◌, false, length, get_or, sym, ap, arith}
use Rattle.std.proofs.lemmas.Bool.{false≢true}
use Rattle.std.proofs.lemmas.List.{length-replicate}
use Rattle.dcp_pft.specs.Limits.{most_fragments}
use Rattle.dcp_collect.proofs.SlotAnswers.{no_marks}
use Rattle.dcp_collect.proofs.slot.PacketSlot.make.Goals as goal

pub returns : goal.returns
returns c = record {
  bytes = c.in_ok-bytes.ensures.length;
  marks = ap length c.in_ok-kept.ensures ∙ length-replicate most_fragments false;
  counters = c.in_ok-covered.ensures;
  few = omega arith;
  within = λ i m. absurd (false≢true (sym (no_marks most_fragments i) ∙ sym (ap (λ l. get_or l i false) c.in_ok-kept.ensures) ∙ m));
}
