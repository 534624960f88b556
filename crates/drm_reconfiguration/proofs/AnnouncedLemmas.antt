-- Where switches stand over announced reconfigurations.
use Rattle.std.proofs.Common.{◌≡◌, ◌≢◌, ℕ, ◌+◌, ◌-◌, ◌*◌, ◌/◌, ◌%◌, ◌<◌, ◌⊎◌, inl, inr, sym, ◌∙◌, ap, subst, arith}
use Rattle.drm_reconfiguration.specs.Announced.{OnlyAtStarts, AtAllStarts, NoneResumed}
use Rattle.drm_reconfiguration.specs.Switches.{SwitchesAt}
use Rattle.drm_reconfiguration.specs.declared.seen.Seen.{Seen}

pub only_at_starts : OnlyAtStarts
only_at_starts index signature starts first_frame items f announces sent switches =
    let q : ℕ = switches.by in
    let names = switches.names in
    let seen : Seen = names.0 in
    let a = sent q seen names.1 in
    let position : seen.position ≡ (q + first_frame) % 3 = a.0 in
    let is_index : seen.index ≡ index ((q + first_frame) / 3) = a.1 in
    let above : 0 < seen.index = names.2 in
    let named : f ≡ (q + 3 * seen.index) - seen.position = names.3 in
    let start = announces.named ((q + first_frame) / 3) (omega (arith, is_index, above)) in
    ((q + first_frame) / 3 + index ((q + first_frame) / 3), start, omega (arith, position, is_index, above, named))

pub at_all_starts : AtAllStarts
at_all_starts index signature starts first_frame items s announces sent none start low high =
    let q : ℕ = 3 * s - first_frame - 1 in
    let here = none q (omega arith) in
    let a = sent q here.0 here.1 in
    let at : q + first_frame ≡ 3 * (s - 1) + 2 = omega arith in
    let place : (q + first_frame) % 3 ≡ 2 = omega (arith, at) in
    let position : here.0.position ≡ 2 = a.0 ∙ place in
    let super_frame : (q + first_frame) / 3 ≡ s - 1 = omega (arith, at) in
    let one : here.0.index ≡ 1 = a.1 ∙ ap index super_frame ∙ announces.before s start (omega arith) in
    record {
      by = q;
      before = omega arith;
      names = (here.0, here.1, omega (arith, one), omega (arith, one, position));
      last = λ p other after within _. absurd (omega (arith, after, within));
    }

next_or_later : (r p : ℕ) → r < p → (r + 1 < p) ⊎ (r + 1 ≡ p)
next_or_later r p l = grind arith

pub none_resumed : NoneResumed
none_resumed index signature starts first_frame items p announces sent none within resumes =
    let r : ℕ = resumes.r in
    let before : r < p = resumes.last.before in
    let next : r + 1 ≡ p =
    elim (next_or_later r p before) [
      | inl l ↦ let h = none (r + 1) (omega (arith, l, within)) in absurd (resumes.last.last (r + 1) h.0 (omega arith) l h.1)
      | inr e ↦ e
    ]
    in
    let old = (sent r resumes.old resumes.last.frame).2 in
    let new = (sent p resumes.new resumes.frame).2 in
    let other : signature (r + first_frame) ≢ signature (r + first_frame + 1) = λ e. resumes.differ (old ∙ e ∙ ap signature (omega (arith, next)) ∙ sym new) in
    let start = announces.changes (r + first_frame) other in
    let t : r + first_frame + 1 ≡ 3 * start.0 = start.2 in
    let place : 3 * start.0 - first_frame ≡ p = omega (arith, t, next) in
    let switches = at_all_starts index signature starts first_frame items start.0 announces sent none start.1 (omega (arith, t)) (omega (arith, t, next, within)) in
    resumes.quiet p before (omega arith) (subst (λ (j : ℕ). SwitchesAt items j) place switches)
