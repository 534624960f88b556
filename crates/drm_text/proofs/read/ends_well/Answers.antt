use Rattle.std.proofs.Common.{sym, ◌∙◌}
use Rattle.std.proofs.lemmas.Bool.{both_ways}
use Rattle.drm_text.proofs.Endings.{parts_of, ends_from, zeros_from, wrong_end}
use Rattle.drm_text.proofs.read.ends_well.Goals as goal

pub returns-then-is_ok : goal.returns-then-is_ok
returns-then-is_ok c =
    let at = parts_of c.args.bytes.now c.split_at.result.0.now c.split_at.result.1.now c.split_at-2.result.0.now c.split_at-2.result.1.now c.args.end c.split_at.ensures.front c.split_at.ensures.back
    c.split_at-2.ensures.front c.split_at-2.ensures.back in (
      (λ h.
          ends_from c.args.bytes.now c.split_at.result.0.now c.split_at-2.result.0.now c.split_at-2.result.1.now c.args.end c.compare_crc16.result at (sym c.is_ok.ensures.value ∙ c.if-is_ok.true)
          c.compare_crc16.ensures.right (c.are_zeros.ensures.0 h)),
      (λ e. c.are_zeros.ensures.1 (zeros_from c.args.bytes.now c.split_at.result.0.now c.split_at-2.result.0.now c.split_at-2.result.1.now c.args.end at e)),
    )

pub returns-else-is_ok : goal.returns-else-is_ok
returns-else-is_ok c =
    let at = parts_of c.args.bytes.now c.split_at.result.0.now c.split_at.result.1.now c.split_at-2.result.0.now c.split_at-2.result.1.now c.args.end c.split_at.ensures.front c.split_at.ensures.back
    c.split_at-2.ensures.front c.split_at-2.ensures.back in (
      (λ h. absurd (both_ways c.is_ok.result c.if-is_ok.false h)),
      (λ e.
          absurd
          (wrong_end c.args.bytes.now c.split_at.result.0.now c.split_at-2.result.0.now c.split_at-2.result.1.now c.args.end c.compare_crc16.result at (sym c.is_ok.ensures.value ∙ c.if-is_ok.false)
          c.compare_crc16.ensures.wrong e)),
    )
