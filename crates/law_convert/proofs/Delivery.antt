-- What a collector gives of a delivery of a schedule in which each frame is in time: the packets of all its frames.
use Rattle.std.proofs.Common.{ℕ, ◌≡◌, ◌+◌, ◌<◌, ◌≤◌, inl, inr, Bool, List, [], ◌∷◌, ◌++◌, length, map, slice_get, Option, None, Some, refl, sym, ap, subst, ◌∙◌, arith, length-append}
use Rattle.std.specs.Prelude.{pos, ◌+ℤ◌}
use Rattle.std.specs.List.{range_with_len}
use Rattle.std.proofs.lemmas.Bool.{true≢false}
use Rattle.std.proofs.lemmas.Int.{ints}
use Rattle.std.proofs.lemmas.List.FromFn.{length-map-range_with_len}
use Rattle.dcp_pft.specs.declared.shape.Shape.{Shape}
use Rattle.dcp_pft.specs.Carrying.{shape_under, losses}
use Rattle.dcp_pft.specs.Loss.{size}
use Rattle.dcp_collect.specs.declared.taken.Taken.{Taken}
use Rattle.dcp_collect.specs.Numbers.{newer, end_of}
use Rattle.dcp_collect.specs.CollectorState.{CollectorState, made, after_finish}
use Rattle.dcp_collect.specs.Runs.{CollectorItem, CollectorGives, CollectorSteps, up_to}
use Rattle.law_collect.specs.Delivery.{number, newer_number, newest_of, packet_at, got, item, items}
use Rattle.law_collect.specs.Laws.{Collecting, InTime, CollectorInvariant, GivingEnds, OneRun}
use Rattle.drm_schedule.specs.declared.plan.Plan.{Plan}
use Rattle.drm_schedule.specs.Valid.{IsSchedule}
use Rattle.drm_timeline.specs.Numbers.{frame_count}
use Rattle.drm_server.specs.Frames.{IsPacketAt}
use Rattle.law_delivery.specs.Laws.{AllAtOnce}
use Rattle.law_delivery.specs.Sent.{Arrival, shape_at, pairs_in, AreSent, IsInTime}
use Rattle.law_delivery.proofs.Delivered.{none_got}
use Rattle.law_delivery.proofs.Lengths.{packet_long}
use Rattle.law_delivery.proofs.Needed.{some_got}
use Rattle.law_delivery.proofs.Numbering.{frame_is}
use Rattle.law_delivery.proofs.Packets.{IsChosen, ArePackets, all_sent}
use Rattle.law_convert.specs.Laws.{AllInTime, MayBeFrameLimit}
use Rattle.law_convert.proofs.Hearing.{Hears, hears}
use Rattle.law_convert.proofs.Packets.{IsPacketOf, AreFrom, from_each}

-- ---- no number is beyond the schedule

from_first : (pair : ℕ × ℕ) → number (pos 0) pair ≡ pos pair.0
from_first pair = omega (arith, ints)

newer_end : (newest : Option ℕ) (p n : ℕ) → p < n → end_of None newest ≤ n → end_of None (newer newest p) ≤ n
newer_end None p n below low = omega (arith, below)
newer_end (Some m) p n below low = omega (arith, below, low)

newest_end : (plan : Plan) (newest : Option ℕ) (pairs : List (ℕ × ℕ)) (datagrams : List (List ℕ)) → AreSent plan pairs datagrams → end_of None newest ≤ frame_count plan
    → end_of None (newest_of (pos 0) newest pairs) ≤ frame_count plan
newest_end plan newest [] datagrams sent low = low
newest_end plan newest (pair ∷ pairs) [] sent low = absurd sent
newest_end plan newest (pair ∷ pairs) (datagram ∷ datagrams) sent low =
    let here : newer_number newest (number (pos 0) pair) ≡ newer newest pair.0 = ap (newer_number newest) (from_first pair) in
    newest_end plan (newer_number newest (number (pos 0) pair)) pairs datagrams sent.1
    (subst (λ o. end_of None o ≤ frame_count plan) (sym here) (newer_end newest pair.0 (frame_count plan) sent.0.within low))

-- ---- the item of each number is the packet of its frame

module _ (in_time : InTime) (plan : Plan) (window : ℕ) (pairs : List (ℕ × ℕ)) (packets : List (List ℕ)) (is : IsSchedule plan) (are : ArePackets plan pairs packets)
    (q : ℕ) (time : IsInTime plan window (pos 0) pairs q) where
  abbrev kept : ℕ → Bool
  kept = got window (pos 0) pairs q

  item_by : (t : ℕ) (packet : List ℕ) → t ≡ time.t → (pos 0 +ℤ pos q) ≡ pos t → t < frame_count plan → slice_get packets t ≡ Some packet → IsChosen plan pairs t packet
      → IsPacketOf plan q (item plan.carry packets window (pos 0) pairs q)
  item_by t packet same at below there (inl chosen) =
      let shape : shape_at plan time.t ≡ shape_under plan.carry (length packet) =
      sym (ap (shape_under plan.carry) (packet_long plan t packet is below chosen) ∙ ap (shape_at plan) same) in
      let enough = subst (λ (s : Shape). s.count ≤ size s.count kept + losses plan.carry) shape time.enough in
      let place : t ≡ q = omega (arith, ints, at) in
      record {
        packet = packet;
        within = omega (arith, below, place);
        is = subst (λ k. IsPacketAt plan k packet) place chosen;
        same = in_time plan.carry plan.seq window packets (pos 0) pairs q packet (all_sent plan is pairs packets are) (ap (packet_at packets) at ∙ there) enough;
      }
  item_by t packet same at below there (inr none) =
      let one = some_got plan time.t kept is time.enough in
      absurd (true≢false (sym one.1 ∙ none_got window (pos 0) pairs q one.0 t at none.0))

  item_of : IsPacketOf plan q (item plan.carry packets window (pos 0) pairs q)
  item_of =
      let (at, below) = frame_is plan (pos 0 +ℤ pos q) time.t time.is in
      let (packet, there, chosen) = are.each time.t below in
      item_by time.t packet refl at below there chosen

-- ---- what is given

-- They are the packets of all frames of the schedule.
pub record AreAll (plan : Plan) (given : List CollectorItem) : Type 0 where
  pub many : length given ≡ frame_count plan
  pub are : AreFrom plan 0 given

-- Steps over the delivery give them, and with what is given when it ends there are no others.
pub record IsCollected (plan : Plan) (window reach : ℕ) (first : Option ℕ) (datagrams : List (List ℕ)) : Type 0 where
  pub answers : List Taken
  pub given : List CollectorItem
  pub mid : CollectorState
  pub fit : CollectorInvariant mid
  pub steps : CollectorSteps (made window reach first) datagrams answers given mid
  pub enough : frame_count plan ≤ length given
  pub all : (frame_limit : Option ℕ) (rest : List CollectorItem) (after : CollectorState) → MayBeFrameLimit plan frame_limit → CollectorGives (after_finish mid frame_limit) rest after → AreAll plan (up_to frame_limit (given ++ rest))

-- as many as the frames, where the end is told or nothing is beyond it
many_of : (plan : Plan) (frame_limit newest : Option ℕ) (given rest : List CollectorItem) → MayBeFrameLimit plan frame_limit → frame_count plan ≤ length given → end_of None newest ≤ frame_count plan
    → length (up_to frame_limit (given ++ rest)) ≡ end_of frame_limit newest → end_of frame_limit newest ≡ frame_count plan
many_of plan frame_limit newest given rest (inr known) enough low law = ap (λ (o : Option ℕ). end_of o newest) known
many_of plan frame_limit newest given rest (inl unknown) enough low law =
    let all : length (given ++ rest) ≡ end_of None newest = subst (λ (o : Option ℕ). length (up_to o (given ++ rest)) ≡ end_of o newest) unknown law in
    ap (λ (o : Option ℕ). end_of o newest) unknown ∙ omega (arith, all, low, enough, length-append given rest)

all_packets : InTime → (plan : Plan) (window : ℕ) (pairs : List (ℕ × ℕ)) (frame_limit : Option ℕ) (packets others : List (List ℕ)) (given rest : List CollectorItem)
    → IsSchedule plan → ArePackets plan pairs packets → AreSent plan pairs others → ((q : ℕ) → q < frame_count plan → IsInTime plan window (pos 0) pairs q)
    → frame_count plan ≤ length given → MayBeFrameLimit plan frame_limit → up_to frame_limit (given ++ rest) ≡ items plan.carry packets window (pos 0) frame_limit pairs → AreAll plan (up_to frame_limit (given ++ rest))
all_packets in_time plan window pairs frame_limit packets others given rest is are sent times enough may law =
    let of : ℕ → CollectorItem = item plan.carry packets window (pos 0) pairs in
    let newest : Option ℕ = newest_of (pos 0) None pairs in
    let long : length (up_to frame_limit (given ++ rest)) ≡ end_of frame_limit newest = ap length law ∙ length-map-range_with_len of 0 (end_of frame_limit newest) in
    let many : end_of frame_limit newest ≡ frame_count plan = many_of plan frame_limit newest given rest may enough (newest_end plan None pairs others sent (omega arith)) long in
    let each : (q : ℕ) → q < 0 + frame_count plan → IsPacketOf plan q (of q) = λ q within. item_of in_time plan window pairs packets is are q (times q (omega (arith, within))) in
    let same : map of (range_with_len 0 (frame_count plan)) ≡ up_to frame_limit (given ++ rest) = ap (λ k. map of (range_with_len 0 k)) (sym many) ∙ sym law in
    record { many = long ∙ many; are = subst (AreFrom plan 0) same (from_each plan of 0 (frame_count plan) each) }

module _ (collecting : Collecting) (giving_ends : GivingEnds) (in_time : InTime) (one_run : OneRun) (at_once : AllAtOnce) where
  pub collected : (plan : Plan) (window reach : ℕ) (first : Option ℕ) (arrivals : List Arrival) (datagrams : List (List ℕ)) → AllInTime plan window reach first arrivals datagrams
      → IsCollected plan window reach first datagrams
  collected plan window reach first arrivals datagrams whole =
      let pairs : List (ℕ × ℕ) = pairs_in arrivals in
      let h : Hears plan window reach first (pos 0) pairs datagrams = hears collecting giving_ends plan window reach first (pos 0) arrivals datagrams whole.schedule whole.some whole.followed in
      let (answers, given, mid, steps, enough) = at_once plan window reach first arrivals datagrams whole.schedule whole.followed whole.in_time in
      let same : h.given ≡ given = (one_run (made window reach first) mid h.mid datagrams answers h.answers given h.given steps h.steps).1 in
      let all_of : frame_count plan ≤ length h.given = omega (arith, enough, ap length same) in
      record {
        answers = h.answers;
        given = h.given;
        mid = h.mid;
        fit = h.fit;
        steps = h.steps;
        enough = all_of;
        all = λ frame_limit rest after may gives. all_packets in_time plan window pairs frame_limit h.packets h.others h.given rest whole.schedule h.are h.sent whole.in_time all_of may (h.law frame_limit rest after gives);
      }
