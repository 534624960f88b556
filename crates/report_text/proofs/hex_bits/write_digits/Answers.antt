use Rattle.std.proofs.Common.{◌≡◌, ◌+◌, ◌-◌, ◌*◌, ◌≤◌, ◌++◌, ℕ, List, take, drop, length, ◌∙◌, ap, subst, arith}
use Rattle.std.proofs.lemmas.List.{drop-drop, length-drop}
use Rattle.std.proofs.lemmas.Result.{err_from_is_err_and}
use Rattle.drm_links.specs.Sink.{OutputsText}
use Rattle.drm_links.proofs.KnownLemmas.{done_counts}
use Rattle.drm_links.proofs.WritingLemmas.{Writes-broken, Writes-more}
use Rattle.report_text.specs.HexBits.{hex_of_bits}
use Rattle.report_text.proofs.HexLemmas.{digits_left}
use Rattle.report_text.proofs.hex_bits.write_digits.Goals as goal

pub returns-in_err-write_all-clause-written : goal.returns-in_err-write_all-clause-written
returns-in_err-write_all-clause-written g c =
    let p = err_from_is_err_and c.from_residual.result c.from_residual.ensures.1 in
    let a = g.O.Sink.known c.args.out.now in
    let b = g.O.Sink.known c.loop-left.out in
    let l = c.loop-left.invariant in
    let left = c.loop-left.left in
    let some = c.min-some.result in
    let few : some ≤ left = omega (arith, c.min-some.ensures) in
    let all : List ℕ = hex_of_bits (take (4 * c.args.count) c.args.bits.now) in
    let rest : List ℕ = hex_of_bits (take (4 * (left - some)) c.fill.new.bits) in
    let next = digits_left left some c.loop-left.bits c.fill.new.bits (take some c.fill.new.digits) few l.enough c.fill.ensures.digits c.fill.ensures.rest in
    rw p.1
    (Writes-broken all (take some c.fill.new.digits) rest a b (g.O.Sink.known c.write_all.new.out) c.write_all.result c.in_err-write_all.field-0.0 p.0
    (subst (λ t. OutputsText a b (λ text. text ++ t ≡ all)) next l.written) l.same c.in_err-write_all.was c.write_all.ensures)

pub loop-left-preserved : goal.loop-left-preserved
loop-left-preserved g c =
    let a = g.O.Sink.known c.args.out.now in
    let b = g.O.Sink.known c.loop-left.out in
    let l = c.loop-left.invariant in
    let left = c.loop-left.left in
    let some = c.min-some.result in
    let bits = c.args.bits.now in
    let few : some ≤ left = omega (arith, c.min-some.ensures) in
    let all : List ℕ = hex_of_bits (take (4 * c.args.count) bits) in
    let rest : List ℕ = hex_of_bits (take (4 * (left - some)) c.fill.new.bits) in
    let next = digits_left left some c.loop-left.bits c.fill.new.bits (take some c.fill.new.digits) few l.enough c.fill.ensures.digits c.fill.ensures.rest in
    let place : 4 * (c.args.count - left) + 4 * some ≡ 4 * (c.args.count - (left - some)) = omega (arith, few, l.few) in
    let long : length c.fill.new.bits ≡ length c.loop-left.bits - 4 * some = ap length c.fill.ensures.rest ∙ length-drop (4 * some) c.loop-left.bits in
    record {
      few = omega (arith, l.few);
      bits =
          c.fill.ensures.rest
          ∙ (ap (drop (4 * some)) l.bits ∙ (drop-drop (4 * some) (4 * (c.args.count - left)) bits ∙ ap (λ k. drop k bits) place));
      enough = omega (arith, few, l.enough, long);
      written =
          Writes-more all (take some c.fill.new.digits) rest a b (g.O.Sink.known c.write_all.new.out) c.write_all.result _
          (subst (λ t. OutputsText a b (λ text. text ++ t ≡ all)) next l.written) c.in_ok-write_all.was c.write_all.ensures;
      same = done_counts c.in_ok-write_all.was c.write_all.ensures.cause ∙ l.same;
    }
