use Rattle.std.proofs.Common.{◌≡◌, ◌+◌, ◌-◌, ◌*◌, ◌/◌, ◌%◌, ◌∙◌, ℕ, List, sym, subst, ap, arith}
use lib.Lanes.{chunk}
use Rattle.rs_erase.specs.Polynomial.{add}
use Rattle.rs_erase.specs.Register.{IsMultipleRemainder}
use Rattle.rs_erase.specs.Rows.{listed}
use Rattle.rs_erase.proofs.ShiftRegister.{one_taken}
use Rattle.rs_erase.proofs.parity.with_multiple.Goals as goal

pub returns : goal.returns
returns c = λ leaving moved long is h.
    let k : ℕ = c.args.k in let f : ℕ = c.args.coefficient in
    let multiples = c.multiples_of-multiples.ensures in
    let power : 63 - 4 * (k / 4) - k % 4 ≡ 63 - k = omega arith in
    let low : IsMultipleRemainder (f % 16) (63 - k) (listed c.from_place.result) =
    subst (λ (p : ℕ). IsMultipleRemainder (f % 16) p (listed c.from_place.result)) power
    (subst (λ (r : List ℕ). IsMultipleRemainder (f % 16) (63 - 4 * (k / 4) - k % 4) r)
    (sym (c.from_place.ensures ∙ ap (λ (n : ℕ). chunk (48 * (32 * (k % 4) + n)) 48 c.multiples_of-multiples.result.now) c.from.ensures))
    (multiples.low (k % 4) (f % 16) (omega arith) (omega arith))) in
    let high : IsMultipleRemainder (16 * (f / 16)) (63 - k) (listed c.from_place-2.result) =
    subst (λ (p : ℕ). IsMultipleRemainder (16 * (f / 16)) p (listed c.from_place-2.result)) power
    (subst (λ (r : List ℕ). IsMultipleRemainder (16 * (f / 16)) (63 - 4 * (k / 4) - k % 4) r)
    (sym (c.from_place-2.ensures ∙ ap (λ (n : ℕ). chunk (48 * (32 * (k % 4) + 16 + n)) 48 c.multiples_of-multiples.result.now) c.from-2.ensures))
    (multiples.high (k % 4) (f / 16) (omega arith) (omega arith))) in
    one_taken leaving moved (listed c.args.register) (listed c.plus-2.result) (listed c.from_place.result) (listed c.from_place-2.result) f k c.requires long is (omega arith) low high
    (c.plus-2.ensures ∙ ap (λ (r : List ℕ). add r (listed c.from_place-2.result)) c.plus.ensures) h
