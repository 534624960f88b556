use Rattle.std.proofs.Common.{◌≡◌, ◌∙◌, ◌<◌, ℕ, ap, arith, bit_xor, length, subst, sym}
use Rattle.std.proofs.lemmas.Nat.{xor_of_8}
use Rattle.rs_erase.specs.Code.{AreElements}
use Rattle.rs_erase.proofs.Elements.{elements_head}
use Rattle.rs_erase.proofs.EquationLoops.{power_sum-lt}
use Rattle.rs_erase.proofs.FromZero.{first_found}
use Rattle.rs_erase.proofs.equations.solve_first.Goals as goal

pub returns-clause-solved : goal.returns-clause-solved
returns-clause-solved c = λ s le ea h.
    let product = c.in-Some-split_first_mut.product.now in let rest = c.in-Some-split_first_mut.rest.now in
    let others = c.in-Some.others.now in let quotients = c.divide-sum.new.products in
    let P : ℕ → Type 0 = λ n. n < 256 in
    let long : length quotients ≡ length others =
    omega (arith, c.divide-sum.auto.products, c.in-Some.ensures.cases.1, c.in-Some-split_first_mut.ensures.cases.1, c.requires.one_each) in
    let first : product < 256 = elements_head product rest (subst AreElements c.in-Some-split_first_mut.ensures.cases.0 c.requires.elements) in
    let sum : c.divide-sum.result < 256 = subst P (sym c.divide-sum.ensures.sum) (power_sum-lt 0 others quotients) in
    first_found c.args.locators.now c.args.products.now s c.in-Some.locator.now product others rest quotients c.add.result
    c.in-Some.ensures.cases.0 c.in-Some-split_first_mut.ensures.cases.0 le c.divide-sum.ensures.product c.divide-sum.ensures.elements long
    (c.add.ensures ∙ ap (bit_xor product) c.divide-sum.ensures.sum) (subst P (sym c.add.ensures) (xor_of_8 product c.divide-sum.result first sum)) ea h
