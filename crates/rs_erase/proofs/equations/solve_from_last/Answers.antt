use Rattle.std.proofs.Common.{All, List, ap, arith, drop, get_or, length, refl, subst, sym, take, ℕ, ◌+◌, ◌-◌, ◌<◌, ◌≡◌, ◌∙◌}
use Rattle.std.proofs.lemmas.List.{get_or_append_left, get_or-take, length-drop, length-take-le, take_all, take_rest}
use borrow.Rule.Slice.PartMut.{put_mid}
use Rattle.rs_erase.specs.Code.{AreElements}
use Rattle.rs_erase.specs.Equations.{AreLocators}
use Rattle.rs_erase.specs.FromZero.{SolvesFromZero, syndromes_without}
use Rattle.rs_erase.proofs.Elements.{append_elements, elements_each}
use Rattle.rs_erase.proofs.FromZero.{none_found}
use Rattle.rs_erase.proofs.RemovedPlaces.{end_of, end_written, locators_from, one_back}
use Rattle.rs_erase.proofs.equations.solve_from_last.Goals as goal

pub loop-i-init : goal.loop-i-init
loop-i-init c =
    let xs = c.args.locators.now in
    let n = length xs - 0 in
    let lx = length-drop n xs in
    let lp = length-drop n c.args.products.now in
    let one_each = c.requires.one_each in
    record {
      elements = c.requires.elements;
      before = λ k h. refl;
      solved = λ s le first zeros.
          none_found (drop n xs) (drop n c.args.products.now) (syndromes_without (take n xs) s) (omega arith) (omega arith)
          (subst (λ (zs : List ℕ). All (λ a. a ≡ 0) (syndromes_without zs s)) (sym (take_all n xs (omega arith))) zeros);
    }

pub solve_first-requires-clause-distinct : goal.solve_first-requires-clause-distinct
solve_first-requires-clause-distinct c =
    let xs = c.args.locators.now in
    let k = length xs - 1 - c.loop-i.i in
    subst AreLocators (sym (take_rest xs k)) (locators_from k xs c.requires.distinct)

pub loop-i-preserved : goal.loop-i-preserved
loop-i-preserved c =
    let i = c.loop-i.i in let xs = c.args.locators.now in let ps = c.loop-i.products in let new = c.solve_first.new.products in
    let k = length xs - 1 - i in
    let same : length ps ≡ length xs = omega (arith, c.loop-i.auto.products, c.requires.one_each) in
    let lt : k < length xs = omega arith in
    let next : k ≡ length xs - (i + 1) = omega arith in
    let last : length xs - i ≡ k + 1 = omega arith in
    let lnew : length new ≡ length ps - k = c.solve_first.auto.products ∙ ap (λ (zs : List ℕ). length zs) (take_rest ps k) ∙ length-drop k ps in
    let is = end_written k (length ps - k) ps new (omega arith) lnew in
    let lk = length-take-le k ps (omega arith) in
    record {
      elements = subst AreElements (sym is)
          (append_elements (take k ps) new (elements_each (take k ps) (λ j h. subst (λ (n : ℕ). n < 256) (sym (get_or-take k ps j 0 (omega arith))) (c.loop-i.invariant.elements j 0 (omega arith)))) c.solve_first.ensures.elements);
      before = λ j h. ap (λ (zs : List ℕ). get_or zs j 0) is ∙ get_or_append_left (take k ps) new 0 j (omega arith) ∙ get_or-take k ps j 0 (omega arith) ∙ c.loop-i.invariant.before j (omega arith);
      solved = λ s le first zeros.
          subst (λ (n : ℕ). SolvesFromZero (drop n xs) (drop n (put_mid k (length ps - k) ps new)) (syndromes_without (take n xs) s)) next
          (subst (λ (us : List ℕ). SolvesFromZero (drop k xs) us (syndromes_without (take k xs) s)) (sym (ap (λ (zs : List ℕ). drop k zs) is ∙ end_of k ps new (omega arith)))
          (one_back xs s c.args.products.now ps new _ _ k lt le first (c.loop-i.invariant.before k (omega arith)) (take_rest xs k) (take_rest ps k)
          (subst (λ (n : ℕ). SolvesFromZero (drop n xs) (drop n ps) (syndromes_without (take n xs) s)) last (c.loop-i.invariant.solved s le first zeros))
          c.solve_first.ensures.solved));
    }

pub returns : goal.returns
returns c = λ s le first zeros.
    let xs = c.args.locators.now in
    let end : length xs - c.loop-i.i ≡ 0 = omega arith in
    subst (λ (n : ℕ). SolvesFromZero (drop n xs) (drop n c.loop-i.products) (syndromes_without (take n xs) s)) end (c.loop-i.invariant.solved s le first zeros)
