-- A super frame agrees where its three frames do.
use Rattle.std.proofs.Common.{◌≡◌, ◌↔◌, ℕ, Bool, ◌/◌, ◌<◌, ◌≤◌, inl, inr, ap, subst, ◌∙◌, arith}
use Rattle.std.specs.Prelude.{IsTrue}
use Rattle.std.proofs.lemmas.Bool.{cases_lt}
use Rattle.drm_schedule.specs.declared.plan.Plan.{Plan}
use Rattle.drm_timeline.specs.Numbers.{frame_count}
use Rattle.drm_server.specs.Placed.{PlacedFrame}
use Rattle.drm_compare.specs.Agreement.{SameDatagrams, IsAgreement}

pub counted : (plan other : Plan) (frames : ℕ) → frames ≤ frame_count plan → frames ≤ frame_count other → ((t : ℕ) → t < frames → SameDatagrams plan other t)
    → (frames < frame_count plan → frames < frame_count other → SameDatagrams plan other frames → ⊥) → IsAgreement plan other (frames / 3)
counted plan other frames within within' same differs = record {
  agree = record { within = omega arith; within_other = omega arith; same = λ t below. same t (omega (arith, below)) };
  greatest = λ m agree. elim (cases_lt (frames / 3) m) [
    | inl less ↦
        let l = agree.within in
        let k = agree.within_other in
        absurd (differs (omega (arith, less, l)) (omega (arith, less, k)) (agree.same frames (omega (arith, less))))
    | inr enough ↦ enough
  ];
}

-- what is said of two frames that were loaded is said of the schedules that they are of
pub of_schedules : (result : Bool) (mine theirs : PlacedFrame) (p q plan other : Plan) (t : ℕ) → mine ≡ record { plan = p; frame = t } → theirs ≡ record { plan = q; frame = t } → p ≡ plan → q ≡ other
    → IsTrue result ↔ SameDatagrams mine.plan theirs.plan mine.frame → IsTrue result ↔ SameDatagrams plan other t
of_schedules result mine theirs p q plan other t is is' same same' decides =
    subst (λ (n : ℕ). IsTrue result ↔ SameDatagrams plan other n) (ap (λ (x : PlacedFrame). x.frame) is)
    (subst (λ (b : Plan). IsTrue result ↔ SameDatagrams plan b mine.frame) (ap (λ (x : PlacedFrame). x.plan) is' ∙ same')
    (subst (λ (a : Plan). IsTrue result ↔ SameDatagrams a theirs.plan mine.frame) (ap (λ (x : PlacedFrame). x.plan) is ∙ same) decides))
