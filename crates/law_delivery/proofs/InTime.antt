-- What is in time is given.
use Rattle.std.proofs.Common.{ℕ, ◌≡◌, ◌+◌, ◌≤◌, Bool, true, Option, Some, subst, arith}
use Rattle.std.specs.Prelude.{pos, ◌+ℤ◌}
use Rattle.dcp_pft.specs.Loss.{size, is_recoverable}
use Rattle.dcp_pft.proofs.Carried.{any_may_be_lost}
use Rattle.dcp_pft.specs.Carrying.{losses}
use Rattle.law_collect.specs.Delivery.{got}
use Rattle.drm_schedule.specs.declared.plan.Plan.{Plan}
use Rattle.drm_schedule.specs.Valid.{IsSchedule}
use Rattle.drm_timeline.specs.Numbers.{packet_size}
use Rattle.law_delivery.specs.Sent.{shape_at}
use Rattle.law_delivery.specs.Given.{IsServed, IsServedWhere, IsItemBy}
use Rattle.law_delivery.specs.Laws.{GivenInTime}
use Rattle.law_delivery.proofs.Numbering.{frame_is}
use Rattle.law_delivery.proofs.Configurations.{size_fits}

-- so many datagrams are enough
pub enough_got : (plan : Plan) (t : ℕ) (kept : ℕ → Bool) → IsSchedule plan → (shape_at plan t).count ≤ size (shape_at plan t).count kept + losses plan.carry
    → is_recoverable (shape_at plan t) kept ≡ true
enough_got plan t kept is enough =
    let fits = size_fits plan is t in
    any_may_be_lost plan.carry (packet_size plan t) kept is.in_lines.carry_fits fits.0 fits.1 enough

pub given_in_time : GivenInTime
given_in_time plan window first_frame frame_limit pairs steps q step is given in_time at =
    let kept : ℕ → Bool = got window first_frame pairs q in
    let t : ℕ = in_time.t in
    let by_frame : IsItemBy plan (Some t) q kept step.item = subst (λ (o : Option ℕ). IsItemBy plan o q kept step.item) in_time.is (given.items q step at) in
    let served : IsServed plan t q step.item = subst (λ (b : Bool). IsServedWhere b plan t q kept step.item) (enough_got plan t kept is in_time.enough) by_frame in
    (t, (frame_is plan (first_frame +ℤ pos q) t in_time.is).0, served)
