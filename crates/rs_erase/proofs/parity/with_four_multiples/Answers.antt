use Rattle.std.proofs.Common.{List, arith, length, refl, subst, ℕ, ◌+◌, ◌*◌, ◌≡◌}
use Rattle.rs_erase.specs.Register.{HasTaken}
use Rattle.rs_erase.specs.Rows.{listed}
use Rattle.rs_erase.proofs.parity.with_four_multiples.Goals as goal

pub returns : goal.returns
returns c = λ moved h.
    let xs : List ℕ = c.args.leaving.now in
    let k = 4 * c.args.four in
    let long : length xs ≡ 16 = c.told-leaving in
    let two : k + 1 + 1 ≡ k + 2 = omega arith in
    let three : k + 2 + 1 ≡ k + 3 = omega arith in
    let four : k + 3 + 1 ≡ k + 4 = omega arith in
    let at_one = c.with_multiple-one.ensures xs moved long refl h in
    let at_two = subst (λ (n : ℕ). HasTaken xs moved (listed c.with_multiple-two.result) n) two (c.with_multiple-two.ensures xs moved long refl at_one) in
    let at_three = subst (λ (n : ℕ). HasTaken xs moved (listed c.with_multiple-three.result) n) three (c.with_multiple-three.ensures xs moved long refl at_two) in
    subst (λ (n : ℕ). HasTaken xs moved (listed c.with_multiple.result) n) four (c.with_multiple.ensures xs moved long refl at_three)
