use Rattle.std.proofs.Common.{◌≡◌, ◌*◌, ◌++◌, ℕ, List, [], ◌∷◌, ◌∙◌, ap, subst, take, arith}
use Rattle.std.specs.Prelude.{codes, slice_index}
use Rattle.std.proofs.lemmas.Result.{err_from_is_err_and}
use Rattle.hex.specs.Hex.{lower_digits}
use Rattle.drm_links.specs.Sink.{WritesWhole}
use Rattle.drm_links.proofs.WritingLemmas.{Writes-cut, Writes-then}
use Rattle.report_text.specs.HexBits.{hex_of_bits}
use Rattle.report_dump.specs.Lines.{kind_text}
use Rattle.report_dump.proofs.block.write_entity.Goals as goal

pub returns-in_err-write_kind-clause-written : goal.returns-in_err-write_kind-clause-written
returns-in_err-write_kind-clause-written g c =
    let p = err_from_is_err_and c.from_residual.result c.from_residual.ensures.1 in
    let h = c.args.head.now in
    let digit : List ℕ = slice_index lower_digits h.nibble ∷ [] in
    let body : List ℕ = hex_of_bits (take (8 * h.len) c.args.bits.now) in
    rw p.1
    (Writes-cut (kind_text h.kind h.version) (digit ++ (body ++ codes "\n")) (g.O.Sink.known c.args.out.now) (g.O.Sink.known c.write_kind.new.out) c.write_kind.result c.in_err-write_kind.field-0.0 p.0 c.in_err-write_kind.was c.write_kind.ensures)

pub returns-in_err-write_all-clause-written : goal.returns-in_err-write_all-clause-written
returns-in_err-write_all-clause-written g c =
    let p = err_from_is_err_and c.from_residual-in_err-write_all.result c.from_residual-in_err-write_all.ensures.1 in
    let h = c.args.head.now in
    let digit : List ℕ = slice_index lower_digits h.nibble ∷ [] in
    let body : List ℕ = hex_of_bits (take (8 * h.len) c.args.bits.now) in
    let a = g.O.Sink.known c.args.out.now in
    let b = g.O.Sink.known c.write_kind.new.out in
    let d = g.O.Sink.known c.write_all.new.out in
    let is : c.digit.result ≡ slice_index lower_digits h.nibble = c.digit.ensures ∙ ap (slice_index lower_digits) c.from.ensures in
    rw p.1
    (Writes-then (kind_text h.kind h.version) (digit ++ (body ++ codes "\n")) a b d c.write_kind.result _ _ c.in_ok-write_kind.was c.write_kind.ensures
    (Writes-cut digit (body ++ codes "\n") b d c.write_all.result c.in_err-write_all.field-0.0 p.0 c.in_err-write_all.was (rw is at c.write_all.ensures)))

pub returns-in_err-write_digits-clause-written : goal.returns-in_err-write_digits-clause-written
returns-in_err-write_digits-clause-written g c =
    let p = err_from_is_err_and c.from_residual-in_err-write_digits.result c.from_residual-in_err-write_digits.ensures.1 in
    let h = c.args.head.now in
    let digit : List ℕ = slice_index lower_digits h.nibble ∷ [] in
    let body : List ℕ = hex_of_bits (take (8 * h.len) c.args.bits.now) in
    let a = g.O.Sink.known c.args.out.now in
    let b = g.O.Sink.known c.write_kind.new.out in
    let d = g.O.Sink.known c.write_all.new.out in
    let e = g.O.Sink.known c.write_digits.new.out in
    let is : c.digit.result ≡ slice_index lower_digits h.nibble = c.digit.ensures ∙ ap (slice_index lower_digits) c.from.ensures in
    let many : 4 * (2 * c.from-2.result) ≡ 8 * h.len = omega (arith, c.from-2.ensures) in
    rw p.1
    (Writes-then (kind_text h.kind h.version) (digit ++ (body ++ codes "\n")) a b e c.write_kind.result _ _ c.in_ok-write_kind.was c.write_kind.ensures
    (Writes-then digit (body ++ codes "\n") b d e c.write_all.result _ _ c.in_ok-write_all.was (rw is at c.write_all.ensures)
    (Writes-cut body (codes "\n") d e c.write_digits.result c.in_err-write_digits.field-0.0 p.0 c.in_err-write_digits.was
    (subst (λ n. WritesWhole c.write_digits.result d e (hex_of_bits (take n c.args.bits.now))) many c.write_digits.ensures.written))))

pub returns-clause-written : goal.returns-clause-written
returns-clause-written g c =
    let h = c.args.head.now in
    let digit : List ℕ = slice_index lower_digits h.nibble ∷ [] in
    let body : List ℕ = hex_of_bits (take (8 * h.len) c.args.bits.now) in
    let a = g.O.Sink.known c.args.out.now in
    let b = g.O.Sink.known c.write_kind.new.out in
    let d = g.O.Sink.known c.write_all.new.out in
    let e = g.O.Sink.known c.write_digits.new.out in
    let f = g.O.Sink.known c.write_all-2.new.out in
    let is : c.digit.result ≡ slice_index lower_digits h.nibble = c.digit.ensures ∙ ap (slice_index lower_digits) c.from.ensures in
    let many : 4 * (2 * c.from-2.result) ≡ 8 * h.len = omega (arith, c.from-2.ensures) in
    Writes-then (kind_text h.kind h.version) (digit ++ (body ++ codes "\n")) a b f c.write_kind.result _ _ c.in_ok-write_kind.was c.write_kind.ensures
    (Writes-then digit (body ++ codes "\n") b d f c.write_all.result _ _ c.in_ok-write_all.was (rw is at c.write_all.ensures)
    (Writes-then body (codes "\n") d e f c.write_digits.result c.write_all-2.result _ c.in_ok-write_digits.was
    (subst (λ n. WritesWhole c.write_digits.result d e (hex_of_bits (take n c.args.bits.now))) many c.write_digits.ensures.written)
    c.write_all-2.ensures))
