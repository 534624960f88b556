use Rattle.std.proofs.Common.{◌≡◌, ◌≢◌, ◌+◌, ◌%◌, ◌<◌, ◌∙◌, ℕ, ap, arith, get_or, get_or-set_other, get_or-set_same, inl, inr, length, refl, rules, slice_set}
use Rattle.std.proofs.lemmas.Bool.{cases_lt}
use Rattle.rs_erase.specs.declared.zech_logarithms.TheConstants.{ZECH_LOGARITHMS}
use Rattle.rs_erase.proofs.ZechSums.{before_small, entry_small, next_running}
use Rattle.rs_erase.proofs.OtherPlaces.{zero_at}
use Rattle.rs_erase.proofs.zech_sums.running_sums.Goals as goal

pub loop-t-init : goal.loop-t-init
loop-t-init c = record {
  long = refl;
  first = λ k lt. absurd (omega arith);
  later = λ k lt. absurd (omega arith);
  small = λ k lt. absurd (omega arith);
  rest = λ k le. zero_at 768 k;
}

pub overflow_add-sums : goal.overflow_add-sums
overflow_add-sums c =
    let t = c.loop-t.t in
    let l = c.loop-t.invariant in
    let before = before_small c.loop-t.sums c.args.distance t c.sum_before.result c.sum_before.ensures.none c.sum_before.ensures.later l.small l.rest in
    let entry = entry_small (t % 255) (omega arith) in
    record { fits = omega (arith, before, entry, c.from.ensures, c.logarithm_at.ensures, c.loop-t-test.true) }

pub loop-t-preserved : goal.loop-t-preserved
loop-t-preserved c =
    let t = c.loop-t.t in
    let d = c.args.distance in
    let sums = c.loop-t.sums in
    let l = c.loop-t.invariant in
    let v = c.sum_before.result + c.from.result in
    let new = slice_set sums t v in
    let lt : t < length sums = omega (arith, l.long, c.loop-t-test.true) in
    let before = before_small sums d t c.sum_before.result c.sum_before.ensures.none c.sum_before.ensures.later l.small l.rest in
    let entry = entry_small (t % 255) (omega arith) in
    let from : c.from.result ≡ get_or ZECH_LOGARITHMS (t % 255) 0 = c.from.ensures ∙ c.logarithm_at.ensures in
    let here : get_or new t 0 ≡ v = get_or-set_same sums t v 0 lt in
    record {
      long = search rules;
      first = λ k lk ld. elim (cases_lt k t) [
        | inl less ↦ let ne : k ≢ t = λ q. omega arith in get_or-set_other sums t k v 0 ne ∙ l.first k less ld
        | inr ge ↦
            let e : k ≡ t = omega arith in
            let none = c.sum_before.ensures.none (omega arith) in
            ap (λ (m : ℕ). get_or new m 0) e ∙ here ∙ (let q : v ≡ get_or ZECH_LOGARITHMS (t % 255) 0 = omega (arith, none, from) in q)
            ∙ ap (λ (m : ℕ). get_or ZECH_LOGARITHMS (m % 255) 0) (let q : t ≡ k = omega arith in q)
      ];
      later = next_running sums d t v c.sum_before.result c.from.result lt refl c.sum_before.ensures.later from l.later;
      small = λ k lk. elim (cases_lt k t) [
        | inl less ↦
            let ne : k ≢ t = λ q. omega arith in
            let o : get_or new k 0 ≡ get_or sums k 0 = get_or-set_other sums t k v 0 ne in let s = l.small k less in omega (arith, o, s)
        | inr ge ↦
            let e : k ≡ t = omega arith in
            let o : get_or new k 0 ≡ v = ap (λ (m : ℕ). get_or new m 0) e ∙ here in omega (arith, o, before, entry, from)
      ];
      rest = λ k le. let ne : k ≢ t = λ q. omega arith in get_or-set_other sums t k v 0 ne ∙ l.rest k (omega arith);
    }
