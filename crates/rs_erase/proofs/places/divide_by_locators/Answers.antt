use Rattle.std.proofs.Common.{◌≡◌, ◌≢◌, ◌<◌, ℕ, length, sym, ◌∙◌, ap, subst, arith, get_or, slice_set, get_or-set_other, get_or-set_same, below_more}
use Rattle.std.proofs.lemmas.Grind.{get_or_default_zero}
use Rattle.gf_field.specs.Field.{times}
use Rattle.rs_erase.proofs.Elements.{elements_each}
use Rattle.rs_erase.proofs.FromZero.{locator_pos, weighted_by_index}
use Rattle.rs_erase.proofs.places.divide_by_locators.Goals as goal

pub div-requires : goal.div-requires
div-requires c = λ e.
    let i = c.loop-i.i in
    let lt : i < length c.args.locators.now = omega arith in
    let is : c.index-locators-i.result ≡ get_or c.args.locators.now i 0 = c.index-locators-i.is ∙ get_or_default_zero c.args.locators.now i c.index-locators-i.result lt in
    let pos = locator_pos c.args.locators.now c.requires.locators i lt in
    let none : get_or c.args.locators.now i 0 ≡ 0 = sym is ∙ e in
    omega arith

pub loop-i-preserved : goal.loop-i-preserved
loop-i-preserved c =
    let i = c.loop-i.i in let vs = c.loop-i.products in let r = c.div.result in let xs = c.args.locators.now in
    let lt : i < length vs = omega arith in
    let lt' : i < length xs = omega arith in
    let is : c.index-locators-i.result ≡ get_or xs i 0 = c.index-locators-i.is ∙ get_or_default_zero xs i c.index-locators-i.result lt' in
    let now : get_or vs i c.index-products-i.result ≡ get_or c.args.products.now i 0 = get_or_default_zero vs i c.index-products-i.result lt ∙ c.loop-i.invariant.rest i (omega arith) in
    let one : times r (get_or xs i 0) ≡ get_or c.args.products.now i 0 = ap (times r) (sym is) ∙ c.div.ensures.value ∙ now in
    let P : ℕ → Type 0 = λ n. n < 256 in
    record {
      done = below_more (λ k. times (get_or (slice_set vs i r) k 0) (get_or xs k 0) ≡ get_or c.args.products.now k 0) i
          (λ k h. let ne : k ≢ i = omega arith in ap (λ (m : ℕ). times m (get_or xs k 0)) (get_or-set_other vs i k r 0 ne) ∙ c.loop-i.invariant.done k h)
          (ap (λ (m : ℕ). times m (get_or xs i 0)) (get_or-set_same vs i r 0 lt) ∙ one);
      below = below_more (λ k. get_or (slice_set vs i r) k 0 < 256) i
          (λ k h. let ne : k ≢ i = omega arith in subst P (sym (get_or-set_other vs i k r 0 ne)) (c.loop-i.invariant.below k h))
          (subst P (sym (get_or-set_same vs i r 0 lt)) c.div.ensures.element);
      rest = λ k h. let ne : k ≢ i = omega arith in get_or-set_other vs i k r 0 ne ∙ c.loop-i.invariant.rest k (omega arith);
    }

pub returns-clause-products : goal.returns-clause-products
returns-clause-products c =
    weighted_by_index c.args.locators.now c.loop-i.products c.args.products.now (omega arith) (omega arith) (λ k lt. c.loop-i.invariant.done k (omega arith))

pub returns-clause-elements : goal.returns-clause-elements
returns-clause-elements c = elements_each c.loop-i.products (λ k lt. c.loop-i.invariant.below k (omega arith))
