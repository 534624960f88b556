-- Which frame has a number.
use Rattle.std.proofs.Common.{ℕ, ◌≡◌, ◌*◌, ◌<◌, Bool, true, false, nat_lt, cond, Some, None, refl, ap, ◌∙◌, arith}
use Rattle.std.specs.Prelude.{ℤ, pos, negsuc}
use Rattle.std.proofs.lemmas.Bool.{ltb-true, lt-ltb, cond-true}
use Rattle.drm_schedule.specs.declared.plan.Plan.{Plan}
use Rattle.drm_timeline.specs.Numbers.{frame_count}
use Rattle.law_delivery.specs.Sent.{frame_at}

some_is : (a b : ℕ) → Some a ≡ Some b → a ≡ b
some_is a b same = cc

-- a frame at a place is that place
pub frame_is : (plan : Plan) (z : ℤ) (t : ℕ) → frame_at plan z ≡ Some t → (z ≡ pos t) × (t < frame_count plan)
frame_is plan (pos n) t is = by (nat_lt n (frame_count plan)) refl is
  where
    by : (b : Bool) → nat_lt n (frame_count plan) ≡ b → cond b (Some n) None ≡ Some t → (pos n ≡ pos t) × (t < frame_count plan)
    by true within same =
        let one : n ≡ t = some_is n t same in
        let below : n < frame_count plan = ltb-true n (frame_count plan) within in
        (ap pos one, omega (arith, one, below))
    by false within same = absurd cc
frame_is plan (negsuc n) t is = absurd (let e : None ≡ Some t = is in cc)

pub frame_within : (plan : Plan) (z : ℤ) (t : ℕ) → z ≡ pos t → t < frame_count plan → frame_at plan z ≡ Some t
frame_within plan z t is below = ap (frame_at plan) is ∙ cond-true (nat_lt t (frame_count plan)) (Some t) None (lt-ltb t (frame_count plan) below)
