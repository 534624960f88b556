use Rattle.std.proofs.Common.{◌≡◌, ◌≢◌, ◌<◌, ℕ, length, sym, ◌∙◌, ap, ap₂, subst, bit_xor, arith, get_or, slice_set, take, get_or-set_other, get_or-set_same, below_more}
use Rattle.std.proofs.lemmas.Grind.{get_or_default_zero}
use Rattle.std.proofs.lemmas.List.{length-set, take-set}
use Rattle.gf_field.specs.Field.{times}
use Rattle.rs_erase.specs.Equations.{power_sum}
use Rattle.rs_erase.proofs.Elements.{elements_each}
use Rattle.rs_erase.proofs.EquationLoops.{apart_at, remaining_values_by_index}
use Rattle.rs_erase.proofs.FromZero.{sum_step}
use Rattle.rs_erase.proofs.equations.divide.Goals as goal

pub div-quotient-requires : goal.div-quotient-requires
div-quotient-requires c = λ e.
    let i = c.loop-i.i in
    let lt : i < length c.args.locators.now = omega arith in
    let is : c.index-locators-i.result ≡ get_or c.args.locators.now i 0 = c.index-locators-i.is ∙ get_or_default_zero c.args.locators.now i c.index-locators-i.result lt in
    apart_at c.args.locator c.args.locators.now c.requires.distinct i lt (ap (λ (x : ℕ). bit_xor x c.args.locator) (sym is) ∙ sym c.add.ensures ∙ e)

pub loop-i-preserved : goal.loop-i-preserved
loop-i-preserved c =
    let i = c.loop-i.i in let vs = c.loop-i.products in let r = c.div-quotient.result in let xs = c.args.locators.now in
    let lt : i < length vs = omega arith in
    let lt' : i < length xs = omega arith in
    let is : c.index-locators-i.result ≡ get_or xs i 0 = c.index-locators-i.is ∙ get_or_default_zero xs i c.index-locators-i.result lt' in
    let now : get_or vs i c.index-products-i.result ≡ get_or c.args.products.now i 0 = get_or_default_zero vs i c.index-products-i.result lt ∙ c.loop-i.invariant.rest i (omega arith) in
    let d : c.add.result ≡ bit_xor (get_or xs i 0) c.args.locator = c.add.ensures ∙ ap (λ (x : ℕ). bit_xor x c.args.locator) is in
    let one : times r c.add.result ≡ get_or c.args.products.now i 0 = c.div-quotient.ensures.value ∙ now in
    let P : ℕ → Type 0 = λ n. n < 256 in
    let small : r < 256 = c.div-quotient.ensures.element in
    record {
      done = below_more (λ k. times (get_or (slice_set vs i r) k 0) (bit_xor (get_or xs k 0) c.args.locator) ≡ get_or c.args.products.now k 0) i
          (λ k h. let ne : k ≢ i = omega arith in ap (λ (m : ℕ). times m (bit_xor (get_or xs k 0) c.args.locator)) (get_or-set_other vs i k r 0 ne) ∙ c.loop-i.invariant.done k h)
          (ap₂ times (get_or-set_same vs i r 0 lt) (sym d) ∙ one);
      below = below_more (λ k. get_or (slice_set vs i r) k 0 < 256) i
          (λ k h. let ne : k ≢ i = omega arith in subst P (sym (get_or-set_other vs i k r 0 ne)) (c.loop-i.invariant.below k h))
          (subst P (sym (get_or-set_same vs i r 0 lt)) small);
      rest = λ k h. let ne : k ≢ i = omega arith in get_or-set_other vs i k r 0 ne ∙ c.loop-i.invariant.rest k (omega arith);
      sum = c.add-sum.ensures ∙ ap (λ (s : ℕ). bit_xor s r) (c.loop-i.invariant.sum ∙ ap (power_sum 0 (take i xs)) (sym (take-set vs i r)))
          ∙ sym (sum_step xs (slice_set vs i r) i (omega (arith, length-set vs i r)) lt' r (sym (get_or-set_same vs i r 0 lt)) small);
    }

pub returns-clause-product : goal.returns-clause-product
returns-clause-product c =
    remaining_values_by_index c.args.locator c.args.locators.now c.loop-i.products c.args.products.now (omega arith) (omega arith) (λ k lt. c.loop-i.invariant.done k (omega arith))

pub returns-clause-elements : goal.returns-clause-elements
returns-clause-elements c = elements_each c.loop-i.products (λ k lt. c.loop-i.invariant.below k (omega arith))
