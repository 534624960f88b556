use Rattle.std.proofs.Common.{◌≡◌, ◌≢◌, ◌+◌, ◌-◌, ◌<◌, ℕ, List, length, take, sym, ◌∙◌, ap, ap₂, subst, arith, rules, get_or, slice_set, get_or-set_other, get_or-set_same, below_more}
use Rattle.std.proofs.lemmas.Grind.{get_or_default_zero}
use Rattle.std.proofs.lemmas.List.{get_or-take, take_all}
use Rattle.rs_erase.specs.Equations.{remaining_syndromes}
use Rattle.rs_erase.specs.FromZero.{syndromes_without}
use Rattle.rs_erase.specs.Rows.{listed}
use Rattle.rs_erase.proofs.Elements.{elements_each}
use Rattle.rs_erase.proofs.LaneRows.{length_three}
use Rattle.rs_erase.proofs.RemovedPlaces.{without_more}
use Rattle.rs_erase.proofs.equations.remove_places.Goals as goal

pub loop-i-init : goal.loop-i-init
loop-i-init c =
    let s = c.args.syndromes in
    let long : length (listed s) ≡ 48 = length_three s.first s.second s.third (search rules) (search rules) (search rules) in
    record { rest = take_all 48 (listed s) (omega arith); firsts = λ k lt. absurd (omega arith); below = λ k lt. absurd (omega arith) }

pub loop-i-preserved : goal.loop-i-preserved
loop-i-preserved c =
    let i = c.loop-i.i in let fs = c.loop-i.firsts in let r = c.front.result in let xs = c.args.locators.now in
    let s = listed c.args.syndromes in let t = listed c.loop-i.rest in
    let lt : i < length fs = omega arith in
    let lt' : i < length xs = omega arith in
    let few : i < 48 = omega (arith, c.requires.enough) in
    let is : c.index-locators-i.result ≡ get_or xs i 0 = c.index-locators-i.is ∙ get_or_default_zero xs i c.index-locators-i.result lt' in
    let first : r ≡ get_or (syndromes_without (take i xs) s) 0 0 =
    c.front.ensures.value ∙ sym (get_or-take (48 - i) t 0 0 (omega arith)) ∙ ap (λ (zs : List ℕ). get_or zs 0 0) c.loop-i.invariant.rest in
    let P : ℕ → Type 0 = λ n. n < 256 in
    record {
      rest = c.without_place-rest.ensures (48 - (i + 1)) (omega arith)
          ∙ ap₂ (λ (x n : ℕ). remaining_syndromes x (take n t)) is (let e : 48 - (i + 1) + 1 ≡ 48 - i = omega arith in e)
          ∙ ap (remaining_syndromes (get_or xs i 0)) c.loop-i.invariant.rest ∙ sym (without_more xs s i lt');
      firsts = below_more (λ k. get_or (slice_set fs i r) k 0 ≡ get_or (syndromes_without (take k xs) s) 0 0) i
          (λ k h. let ne : k ≢ i = omega arith in get_or-set_other fs i k r 0 ne ∙ c.loop-i.invariant.firsts k h)
          (get_or-set_same fs i r 0 lt ∙ first);
      below = below_more (λ k. get_or (slice_set fs i r) k 0 < 256) i
          (λ k h. let ne : k ≢ i = omega arith in subst P (sym (get_or-set_other fs i k r 0 ne)) (c.loop-i.invariant.below k h))
          (subst P (sym (get_or-set_same fs i r 0 lt)) c.front.ensures.element);
    }

pub returns-clause-rest : goal.returns-clause-rest
returns-clause-rest c =
    let xs = c.args.locators.now in
    let end : c.loop-i.i ≡ length xs = omega arith in
    ap (λ (n : ℕ). take (48 - n) (listed c.loop-i.rest)) (sym end) ∙ c.loop-i.invariant.rest
    ∙ ap (λ (zs : List ℕ). syndromes_without zs (listed c.args.syndromes)) (take_all c.loop-i.i xs (omega arith))

pub returns-clause-firsts : goal.returns-clause-firsts
returns-clause-firsts c = λ k lt. c.loop-i.invariant.firsts k (omega arith)

pub returns-clause-elements : goal.returns-clause-elements
returns-clause-elements c = elements_each c.loop-i.firsts (λ k lt. c.loop-i.invariant.below k (omega arith))
