use Rattle.std.proofs.Common.{◌≡◌, ◌++◌, ℕ, List, ap₂, sym, subst, ◌∙◌}
use Rattle.std.proofs.lemmas.List.{take-append-drop}
use Rattle.std.proofs.lemmas.Result.{err_from_is_err_and}
use Rattle.hex.specs.Hex.{encode_lower}
use Rattle.drm_links.specs.Sink.{OutputsText}
use Rattle.drm_links.proofs.KnownLemmas.{done_counts}
use Rattle.drm_links.proofs.WritingLemmas.{Writes-whole, Writes-broken, Writes-more}
use Rattle.text_output.proofs.TextLemmas.{digits_parts, digits_all}
use Rattle.text_output.proofs.output.write_hex.Goals as goal

pub returns-in_err-write_digits : goal.returns-in_err-write_digits
returns-in_err-write_digits g c =
    let p = err_from_is_err_and c.from_residual.result c.from_residual.ensures.1 in
    let a = g.O.Sink.known c.args.out.now in
    let b = g.O.Sink.known c.loop-rest.out in
    let whole : List ℕ = encode_lower c.args.bytes.now in
    let parts : c.split_at.result.0.now ++ c.split_at.result.1.now ≡ c.loop-rest.rest.now =
    ap₂ (λ (p q : List ℕ). p ++ q) c.split_at.ensures.front c.split_at.ensures.back ∙ take-append-drop c.min.result c.loop-rest.rest.now in
    rw p.1
    (Writes-broken whole (encode_lower c.split_at.result.0.now) (encode_lower c.split_at.result.1.now) a b (g.O.Sink.known c.write_digits.new.out) c.write_digits.result c.in_err-write_digits.field-0.0 p.0
    (subst (λ l. OutputsText a b (λ text. text ++ l ≡ whole)) (digits_parts c.split_at.result.0.now c.split_at.result.1.now c.loop-rest.rest.now parts) c.loop-rest.invariant.0)
    c.loop-rest.invariant.1 c.in_err-write_digits.was c.write_digits.ensures)

pub loop-rest-preserved : goal.loop-rest-preserved
loop-rest-preserved g c =
    let a = g.O.Sink.known c.args.out.now in
    let b = g.O.Sink.known c.loop-rest.out in
    let whole : List ℕ = encode_lower c.args.bytes.now in
    let parts : c.split_at.result.0.now ++ c.split_at.result.1.now ≡ c.loop-rest.rest.now =
    ap₂ (λ (p q : List ℕ). p ++ q) c.split_at.ensures.front c.split_at.ensures.back ∙ take-append-drop c.min.result c.loop-rest.rest.now in (
      Writes-more whole (encode_lower c.split_at.result.0.now) (encode_lower c.split_at.result.1.now) a b (g.O.Sink.known c.write_digits.new.out) c.write_digits.result _
          (subst (λ l. OutputsText a b (λ text. text ++ l ≡ whole)) (digits_parts c.split_at.result.0.now c.split_at.result.1.now c.loop-rest.rest.now parts) c.loop-rest.invariant.0)
          c.in_ok-write_digits.was c.write_digits.ensures,
      done_counts c.in_ok-write_digits.was c.write_digits.ensures.cause ∙ c.loop-rest.invariant.1,
    )

pub returns : goal.returns
returns g c =
    let a = g.O.Sink.known c.args.out.now in
    let b = g.O.Sink.known c.loop-rest.out in
    Writes-whole (encode_lower c.args.bytes.now) a b
    (digits_all (encode_lower c.args.bytes.now) c.loop-rest.rest.now a b (sym c.is_empty.ensures ∙ c.loop-rest-test.false) c.loop-rest.invariant.0)
    c.loop-rest.invariant.1
