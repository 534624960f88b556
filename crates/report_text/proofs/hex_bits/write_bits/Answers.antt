use Rattle.std.proofs.Common.{ap, ◌/◌, List, ℕ, subst}
use Rattle.drm_links.specs.Sink.{WritesWhole}
use Rattle.report_text.proofs.HexLemmas.{all_digits}
use Rattle.report_text.proofs.hex_bits.write_bits.Goals as goal

pub returns : goal.returns
returns g c =
    let n = c.left-count.result in
    subst (λ (text : List ℕ). WritesWhole c.write_digits.result (g.O.Sink.known c.args.out.now) (g.O.Sink.known c.write_digits.new.out) text)
    (all_digits c.args.bits (n / 4) (ap (λ (m : ℕ). m / 4) c.left-count.ensures)) c.write_digits.ensures.written
