-- What comes of what a gateway sent.
use Rattle.std.proofs.Common.{ℕ, zero, suc, ◌≡◌, inl, inr, Bool, true, false, List, [], ◌∷◌, slice_get, Option, None, Some, refl, subst}
use Rattle.std.specs.Prelude.{ℤ, pos, ◌+ℤ◌}
use Rattle.std.specs.List.{AllZip, AllByRecursion}
use Rattle.dcp_pft.specs.declared.carry.Carry.{Carry}
use Rattle.dcp_pft.specs.Loss.{is_recoverable}
use Rattle.law_collect.specs.Delivery.{got}
use Rattle.drm_schedule.specs.declared.plan.Plan.{Plan}
use Rattle.drm_schedule.specs.Valid.{IsSchedule}
use Rattle.mod_feed.specs.Items.{FrameItem}
use Rattle.law_delivery.specs.Laws.{Delivering}
use Rattle.law_delivery.specs.Sent.{Arrival, OfSchedule, Foreign, AreSent, IsSent, IsArrival, IsDeliveryOf, pairs_in, shape_at, frame_of_number}
use Rattle.law_delivery.specs.Given.{IsServed, IsServedWhere, IsItemBy, IsAFrame}
use Rattle.law_delivery.proofs.Numbering.{frame_is}
use Rattle.law_frame_lines.specs.Laws.{ServedLines}
use Rattle.law_delivery.specs.OtherCarry.{under}
use Rattle.law_delivery.proofs.OtherCarry.{frame_under}
use Rattle.drm_gate.specs.Passing.{sent_of}
use Rattle.law_gate.specs.Laws.{IsAmong, IsDeliveryPassedOn, PassesSchedules, ComesAgain, GivesServed, ServedBehindOne, ServedBehindTwo, pairs_given}

-- ---- it comes again

found : (plan : Plan) (pairs : List (ℕ × ℕ)) (sent : List (List ℕ)) (k : ℕ) (datagram : List ℕ) → AreSent plan pairs sent → slice_get sent k ≡ Some datagram → (pair : ℕ × ℕ) × IsSent plan pair datagram
found plan [] [] k datagram are at = absurd (let none : None ≡ Some datagram = at in cc)
found plan [] (d ∷ sent) k datagram are at = absurd are
found plan (pair ∷ pairs) [] k datagram are at = absurd are
found plan (pair ∷ pairs) (d ∷ sent) zero datagram are at = let same : d ≡ datagram = cc in (pair, subst (λ (l : List ℕ). IsSent plan pair l) same are.0)
found plan (pair ∷ pairs) (d ∷ sent) (suc k) datagram are at = found plan pairs sent k datagram are.1 at

again_one : (plan : Plan) (pairs : List (ℕ × ℕ)) (sent : List (List ℕ)) (datagram : List ℕ) → AreSent plan pairs sent → IsAmong sent datagram → (arrival : Arrival) × IsArrival plan arrival datagram
again_one plan pairs sent datagram are (inl (k, at)) = let (pair, is) = found plan pairs sent k datagram are at in (OfSchedule pair, is)
again_one plan pairs sent datagram are (inr (cause, is)) = (Foreign cause, is)

again_of : (plan : Plan) (pairs : List (ℕ × ℕ)) (sent later : List (List ℕ)) → AreSent plan pairs sent → AllByRecursion (IsAmong sent) later → (again : List Arrival) × AllZip (IsArrival plan) again later
again_of plan pairs sent [] are all = ([], tt)
again_of plan pairs sent (datagram ∷ later) are all =
    let (arrival, is) = again_one plan pairs sent datagram are all.0 in
    let (again, rest) = again_of plan pairs sent later are all.1 in
    (arrival ∷ again, (is, rest))

pub comes_again : PassesSchedules → ComesAgain
comes_again passes plan carry rules first_frame arrivals datagrams fates passed later among =
    again_of (under carry plan) (pairs_given plan carry rules.window first_frame rules.frames (pairs_in arrivals)) (sent_of fates) later (passes plan carry rules first_frame arrivals datagrams fates passed) among

-- ---- its frames are the server's

served_under : (plan : Plan) (carry : Carry) (t q : ℕ) (item : FrameItem) → IsServed (under carry plan) t q item → IsServed plan t q item
served_under plan carry t q item is = record {
  parts = is.parts;
  is_frame = frame_under plan.carry (under carry plan) t is.parts is.is_frame;
  payload = is.payload;
  written = is.written;
  read = is.read;
  item_is = is.item_is;
}

served_where : (plan : Plan) (t q : ℕ) (kept : ℕ → Bool) (item : FrameItem) (b : Bool) → IsServedWhere b plan t q kept item → IsAFrame item → IsServed plan t q item
served_where plan t q kept item true is frame = is
served_where plan t q kept item false is frame = absurd (subst IsAFrame is frame)

served_by : (plan : Plan) (first_frame : ℤ) (q : ℕ) (kept : ℕ → Bool) (item : FrameItem) (o : Option ℕ) → frame_of_number plan first_frame q ≡ o → IsItemBy plan o q kept item → IsAFrame item
    → (t : ℕ) × ((first_frame +ℤ pos q) ≡ pos t) × IsServed plan t q item
served_by plan first_frame q kept item None at is frame = absurd (subst IsAFrame is frame)
served_by plan first_frame q kept item (Some t) at is frame = (t, (frame_is plan (first_frame +ℤ pos q) t at).0, served_where plan t q kept item (is_recoverable (shape_at plan t) kept) is frame)

module _ (lines : ServedLines) where
  gives_under : (plan : Plan) (carry : Carry) (later : List (List ℕ)) (again : List Arrival) → GivesServed (under carry plan) later again → GivesServed plan later again
  gives_under plan carry later again gives window reach first frame_limit first_frame answers collected steps after some is_first run feeds q step at frame =
      let (t, place, served, line) = gives window reach first frame_limit first_frame answers collected steps after some is_first run feeds q step at frame in
      let is : IsServed plan t q step.item = served_under plan carry t q step.item served in
      (t, place, is, lines plan t q step.item is)

  module _ (delivering : Delivering) (passes : PassesSchedules) where
    gives_served : (plan : Plan) (later : List (List ℕ)) (again : List Arrival) → IsSchedule plan → AllZip (IsArrival plan) again later → GivesServed plan later again
    gives_served plan later again schedule arrive window reach first frame_limit first_frame answers collected steps after some (is_first, within, far) run feeds q step at frame =
        let followed : IsDeliveryOf plan reach first first_frame again later = record { arrive = arrive; is_first = is_first; within_span = within; far = far } in
        let (given, suits) = delivering plan window reach first frame_limit first_frame again later answers collected steps after schedule some followed run feeds in
        let (t, place, is) = served_by plan first_frame q (got window first_frame (pairs_in again) q) step.item (frame_of_number plan first_frame q) refl (given.items q step at) frame in
        (t, place, is, lines plan t q step.item is)

    pub served_behind_one : ServedBehindOne
    served_behind_one plan carry rules first_frame arrivals datagrams fates passed later among =
        let (again, arrive) = comes_again passes plan carry rules first_frame arrivals datagrams fates passed later among in
        (again, arrive, gives_under plan carry later again (gives_served (under carry plan) later again passed.other arrive))

  -- the first gateway's schedule is one under the second one's carry
  pub served_behind_two : ComesAgain → ServedBehindOne → ServedBehindTwo
  served_behind_two comes served plan one other rules rules' first_frame arrivals datagrams datagrams' fates fates' passed schedule some among onward =
      let (arrivals', arrive) = comes plan one rules first_frame arrivals datagrams fates passed datagrams' among in (
        arrivals',
        arrive,
        λ first_frame' later (is_first, within, far) among_later.
            let second : IsDeliveryPassedOn (under one plan) other rules' first_frame' arrivals' datagrams' fates' = record {
              schedule = passed.other;
              other = schedule;
              some = some;
              followed = record { arrive = arrive; is_first = is_first; within_span = within; far = far };
              onward = onward;
            } in
            let (again, is, gives) = served (under one plan) other rules' first_frame' arrivals' datagrams' fates' second later among_later in
            (again, is, gives_under plan one later again gives),
      )
