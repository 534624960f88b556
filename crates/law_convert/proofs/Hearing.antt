-- What a collector gives of a delivery of a schedule, with any foreign datagrams in it.
use Rattle.std.proofs.Common.{ℕ, ◌≡◌, ◌≤◌, List, [], ◌++◌, Option, None, refl}
use Rattle.std.specs.Prelude.{ℤ}
use Rattle.dcp_collect.specs.declared.taken.Taken.{Taken}
use Rattle.dcp_collect.specs.CollectorState.{CollectorState, made, after_finish}
use Rattle.dcp_collect.specs.Runs.{CollectorItem, CollectorGives, CollectorSteps, CollectorRun, up_to}
use Rattle.law_collect.specs.Delivery.{AreSent as AllSent, items}
use Rattle.law_collect.specs.Laws.{IsHeard, Collecting, CollectorInvariant, GivingEnds}
use Rattle.drm_schedule.specs.declared.plan.Plan.{Plan}
use Rattle.drm_schedule.specs.Valid.{IsSchedule}
use Rattle.law_delivery.specs.Sent.{Arrival, pairs_in, AreSent, IsDeliveryOf}
use Rattle.law_delivery.proofs.Early.{GoesOn, goes_on, all_brought_of}
use Rattle.law_delivery.proofs.Packets.{ArePackets, some_packets, all_sent, delivered}
use Rattle.law_delivery.proofs.ForeignDatagrams.{others_of, with_foreign, stands_new}

-- The datagrams of the delivery that aren't foreign datagrams, and the packets that were sent; steps over those datagrams, and over all
-- of them, which come to the same; and what is given with the end.
pub record Hears (plan : Plan) (window reach : ℕ) (first : Option ℕ) (first_frame : ℤ) (pairs : List (ℕ × ℕ)) (datagrams : List (List ℕ)) : Type 0 where
  pub others : List (List ℕ)
  pub sent : AreSent plan pairs others
  pub packets : List (List ℕ)
  pub are : ArePackets plan pairs packets
  pub all_sent : AllSent plan.carry plan.seq packets
  pub replies : List Taken
  pub answers : List Taken
  pub given : List CollectorItem
  pub mid : CollectorState
  pub fit : CollectorInvariant mid
  pub without : CollectorSteps (made window reach first) others replies given mid
  pub steps : CollectorSteps (made window reach first) datagrams answers given mid
  pub law : (frame_limit : Option ℕ) (rest : List CollectorItem) (after : CollectorState) → CollectorGives (after_finish mid frame_limit) rest after → up_to frame_limit (given ++ rest) ≡ items plan.carry packets window first_frame frame_limit pairs

module _ (collecting : Collecting) (giving_ends : GivingEnds) where
  pub hears : (plan : Plan) (window reach : ℕ) (first : Option ℕ) (first_frame : ℤ) (arrivals : List Arrival) (datagrams : List (List ℕ)) → IsSchedule plan → 1 ≤ window
      → IsDeliveryOf plan reach first first_frame arrivals datagrams → Hears plan window reach first first_frame (pairs_in arrivals) datagrams
  hears plan window reach first first_frame arrivals datagrams is some followed =
      let pairs : List (ℕ × ℕ) = pairs_in arrivals in
      let (others, sent) = others_of plan arrivals datagrams followed.arrive in
      let (packets, are) = some_packets plan pairs others sent in
      let heard : IsHeard plan.carry plan.seq packets reach first first_frame pairs others = record {
        sent = all_sent plan is pairs packets are;
        delivered = delivered plan is pairs packets are others sent;
        is_first = followed.is_first;
        within_span = followed.within_span;
      } in
      let on : GoesOn (made window reach first) others = goes_on giving_ends (made window reach first) others (all_brought_of plan pairs others is sent) (some, tt) in
      let stands = stands_new plan window reach first first_frame arrivals datagrams followed in
      let (answers, again) = with_foreign plan is window reach first_frame (made window reach first) on.after None arrivals [] datagrams on.answers on.given followed.arrive stands on.steps in
      record {
        others = others;
        sent = sent;
        packets = packets;
        are = are;
        all_sent = heard.sent;
        replies = on.answers;
        answers = answers;
        given = on.given;
        mid = on.after;
        fit = on.fit;
        without = on.steps;
        steps = again;
        law = λ frame_limit rest after gives.
            let run : CollectorRun window reach first frame_limit others on.answers (up_to frame_limit (on.given ++ rest)) =
            record { during = on.given; rest = rest; mid = on.after; after = after; steps = on.steps; gives = gives; are = refl } in
            (collecting plan.carry plan.seq window reach packets first frame_limit first_frame pairs others on.answers (up_to frame_limit (on.given ++ rest)) some heard run).0;
      }
