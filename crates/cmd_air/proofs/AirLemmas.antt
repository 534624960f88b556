-- From the receivers of a script's feeds to the whole command.
use Rattle.std.proofs.Common.{◌≡◌, ℕ, zero, suc, ◌+◌, ◌<◌, ◌≤◌, ◌⊎◌, inl, inr, Bool, List, [], ◌∷◌, ◌++◌, length, map, slice_index_or, Some, Result, Ok, Err, refl, sym, ◌∙◌, ap, subst, arith}
use Rattle.std.specs.Prelude.{sum_by}
use Rattle.std.specs.List.{All, AllByRecursion, fold}
use Rattle.std.proofs.lemmas.List.{get_or-map, length-map}
use Rattle.drm_links.specs.Known.{Known, HasCause}
use Rattle.drm_links.specs.Link.{Answer, Datagram, Failed}
use Rattle.drm_links.specs.Sink.{Output}
use Rattle.drm_links.specs.Shelf.{Files}
use Rattle.drm_links.specs.Dock.{LinkStart}
use Rattle.drm_links.specs.MemoryLink.{LinkState, link_known}
use Rattle.drm_links.proofs.KnownLemmas.{counts_none, counts_then, counts_as}
use Rattle.drm_links.proofs.Places.{index_of}
use Rattle.law_collect.specs.Laws.{OneRun}
use Rattle.drm_schedule.specs.declared.plan.Plan.{Plan}
use Rattle.drm_schedule.specs.Valid.{IsSchedule}
use Rattle.plan_script.specs.declared.delivery.Delivery.{Delivery}
use Rattle.plan_script.specs.Script.{IsScript}
use Rattle.recv_reading.specs.declared.options.ReceiveOptions.{ReceiveOptions}
use Rattle.recv_report.specs.declared.receiver.Receiver.{Receiver}
use Rattle.cmd_faults.specs.declared.fault.Fault.{Fault}
use Rattle.cmd_faults.specs.declared.fault.Fault.TheVariants as faults
use Rattle.cmd_faults.proofs.CauseLemmas.{inner_fault}
use Rattle.cmd_load.specs.declared.loading.ScheduleFault.{ScheduleFault}
use Rattle.cmd_load.specs.declared.loading.ScheduleFault.TheVariants as schedule
use Rattle.recv_reading.specs.Ending.{HasNotFailed}
use Rattle.recv_reading.specs.Options.{AreInRange}
use Rattle.cmd_load.specs.Loading.{ReadBy}
use Rattle.cmd_load.specs.Schedule.{schedule_named}
use Rattle.cmd_load.specs.Scripts.{script_named}
use Rattle.cmd_load.specs.Faults.{fault_of_schedule, fault_of_script}
use Rattle.recv_report.specs.Receivers.{IsReceiverDone, NoneFailed}
use Rattle.recv_report.specs.Settling.{ReceiversSettle}
use Rattle.recv_report.specs.declared.stop.ReceiveError.{ReceiveError}
use Rattle.cmd_receive.specs.Receive.{WritesReports}
use Rattle.cmd_receive.specs.Stopping.{ending_of}
use Rattle.cmd_air.specs.Feeds.{BringsFeed, BringFeeds}
use Rattle.recv_report.specs.Following.{HeadlinesFollow, CompletesFollow}
use Rattle.recv_reading.specs.OneReading.{BreaksOff}
use Rattle.recv_report.specs.Ahead.{IsReportOf}
use Rattle.cmd_air.specs.Air.{air_rules, pairs_of, IsAired, AreFeeds, AreAired, ByScript, AirRun}
use Rattle.recv_report.proofs.ReceiverLemmas.{report_of, receiver_report, receiver_breaks, SomeFailed, some_failed}
use Rattle.cmd_receive.proofs.ReceiveLemmas.{Ran, reports_written, ending_kind}
use Rattle.cmd_load.proofs.ScriptLemmas.{read_schedule, read_script, write_schedule, write_script}
use Rattle.recv_report.proofs.Composing.{DeliveryLaws}
use Rattle.cmd_air.proofs.AirStatus.{air_run}
use Rattle.cmd_air.proofs.FedLemmas as fed

-- the rules of a feed are in their range
pub air_in_range : (plan : Plan) (window : ℕ) → IsSchedule plan → 1 ≤ window → window ≤ 64 → AreInRange (air_rules plan window)
air_in_range plan window valid some few =
    let least = valid.in_lines.some_frames in
    let most = valid.in_lines.few_frames in
    record {
      some_window = some;
      few_packets = few;
      some_reach = omega arith;
      near_reach = omega arith;
      some_frames = omega (arith, least);
      few_frames = omega (arith, most);
      some_idles = omega arith;
      few_idles = omega arith;
      some_datagrams = omega arith;
      few_datagrams = omega arith;
    }

-- no feed has more deliveries than all together
abbrev all_from : ℕ → List (List Delivery) → ℕ
all_from n feeds = fold (λ a (feed : List Delivery). a + length feed) n feeds

from_more : (feeds : List (List Delivery)) (n : ℕ) → n ≤ all_from n feeds
from_more [] n = omega arith
from_more (feed ∷ feeds) n = let more = from_more feeds (n + length feed) in omega (arith, more)

few_from : (feeds : List (List Delivery)) (n most k : ℕ) (none : List Delivery) → all_from n feeds ≤ most → k < length feeds → length (slice_index_or feeds k none) ≤ most
few_from [] n most k none few within = absurd (omega arith)
few_from (feed ∷ feeds) n most zero none few within = let more = from_more feeds (n + length feed) in omega (arith, few, more)
few_from (feed ∷ feeds) n most (suc k) none few within = few_from feeds (n + length feed) most k none few (omega arith)

few_here : (feeds : List (List Delivery)) (most k : ℕ) (none : List Delivery) → sum_by length feeds ≤ most → k < length feeds → length (slice_index_or feeds k none) ≤ most
few_here feeds most k none few within = few_from feeds 0 most k none few within

not_sound : (before : List Answer) → AllByRecursion HasNotFailed (before ++ Failed ∷ []) → ⊥
not_sound [] sound = sound.0
not_sound (a ∷ before) sound = not_sound before sound.1

never_breaks : (rules : ReceiveOptions) (brought : List (List ℕ)) → BreaksOff rules (map Datagram brought) → ⊥
never_breaks rules brought breaks =
    not_sound breaks.before (subst (AllByRecursion HasNotFailed) breaks.reading.last (fed.none_failed brought breaks.answers breaks.rest breaks.next))

module _ (plan : Plan) (window : ℕ) (valid : IsSchedule plan) (some : 1 ≤ window) (few : window ≤ 64) (headlines : HeadlinesFollow) (completes : CompletesFollow) (feeds : List (List Delivery)) (are : AreFeeds plan feeds) (before after : List (Receiver LinkState))
    (ran : Ran link_known (air_rules plan window) (length feeds) before after) (brings : BringFeeds plan feeds before) where
  in_range : AreInRange (air_rules plan window)
  in_range = air_in_range plan window valid some few

  are_aired : OneRun → DeliveryLaws → All IsReceiverDone after → AreAired plan window feeds (map report_of after)
  are_aired one_run laws done = record {
    as_many = length-map after report_of ∙ ran.still ∙ ran.size;
    each = λ k feed none within.
        let first : k < length before = (let size = ran.size in omega (arith, size, within)) in
        let last : k < length after = (let still = ran.still in omega (arith, still, first)) in
        let d : Receiver LinkState = (index_of after k last).0 in
        let here : List Delivery = slice_index_or feeds k feed in
        let link : BringsFeed plan here (slice_index_or before k d).link = brings k feed d within in
        let start : LinkStart = record { ahead = map Datagram link.datagrams; sends = Some 0 } in
        let report : IsReportOf (air_rules plan window) (k + 1) (map Datagram link.datagrams) (report_of (slice_index_or after k d)) =
        receiver_report link_known (air_rules plan window) (k + 1) (slice_index_or before k d) (slice_index_or after k d) (ran.receivers k d within) (ran.ended k d first) in_range start link.contents headlines completes (done k d last) in
        let many : length link.datagrams < 4294967295 =
        (let sent = fed.sent_many plan (pairs_of here) link.datagrams link.sent in
        let pairs : length (pairs_of here) ≡ length here = length-map here (λ (x : Delivery). (x.packet, x.fragment)) in
        let limit = few_here feeds 100000 k feed are.few_deliveries within in
        omega (arith, sent, pairs, limit)) in
        let aired : IsAired plan window (k + 1) here (report_of (slice_index_or after k d)) = record {
          datagrams = link.datagrams;
          sent = link.sent;
          report = report;
          headline = λ first_frame followed. fed.headline one_run laws plan window (k + 1) first_frame (pairs_of here) link.datagrams (report_of (slice_index_or after k d)) valid some many followed report;
          complete = λ followed in_time. fed.complete plan window (k + 1) (pairs_of here) link.datagrams (report_of (slice_index_or after k d)) valid many report followed in_time;
        } in
        subst (λ r. IsAired plan window (k + 1) here r) (sym (get_or-map report_of after k d none last)) aired;
  }

  none_failed : SomeFailed after → ⊥
  none_failed failed =
      let last : failed.0 < length after = failed.1 in
      let first : failed.0 < length before = (let still = ran.still in omega (arith, still, last)) in
      let within : failed.0 < length feeds = (let size = ran.size in omega (arith, size, first)) in
      let d : Receiver LinkState = (index_of after failed.0 last).0 in
      let link : BringsFeed plan (slice_index_or feeds failed.0 []) (slice_index_or before failed.0 d).link = brings failed.0 [] d within in
      let start : LinkStart = record { ahead = map Datagram link.datagrams; sends = Some 0 } in
      never_breaks (air_rules plan window) link.datagrams
      (receiver_breaks link_known (air_rules plan window) (failed.0 + 1) (slice_index_or before failed.0 d) (slice_index_or after failed.0 d) (ran.receivers failed.0 d within) (ran.ended failed.0 d first) in_range start link.contents (failed.2 d))

  no_link : (NoneFailed after → ⊥) → ⊥
  no_link some_did = elim (some_failed after) [
    | inl none ↦ some_did none
    | inr failed ↦ none_failed failed
  ]

  pub kind_by : {O : Type 0} (stopped : Result Bool ReceiveError) (known : O → Known Output) (out out' : O) → ReceiversSettle after stopped known out out' → (fault : Fault) → ending_of stopped ≡ Err fault → (fault ≡ faults.NoMemory) ⊎ (fault ≡ faults.Write)
  kind_by stopped known out out' settled fault is =
      elim (ending_kind after stopped known out out' settled fault is) [
        | inl memory ↦ inl memory
        | inr rest ↦ elim rest [
          | inl link ↦ absurd (no_link link.1)
          | inr write ↦ inr write
        ]
      ]

  pub aired : OneRun → DeliveryLaws → {O : Type 0} (stopped : Result Bool ReceiveError) (known : O → Known Output) (out out' : O) → ReceiversSettle after stopped known out out'
      → WritesReports (AreAired plan window feeds) (ending_of stopped) known out out'
  aired one_run laws stopped known out out' settled = reports_written after stopped (AreAired plan window feeds) known out out' (are_aired one_run laws) settled

-- ---- a run over a script that came

not_read : (ending : Result Bool Fault) → ((fault : Fault) → ending ≡ Err fault → (fault ≡ faults.NoMemory) ⊎ (fault ≡ faults.Write)) → ending ≡ Err faults.Read → ⊥
not_read ending kind is =
    elim (kind faults.Read is) [
      | inl memory ↦ cc
      | inr write ↦ cc
    ]

pub ran_over : {S O : Type 0} (name text : List ℕ) (window : ℕ) (plan : Plan) (feeds : List (List Delivery)) (ending : Result Bool Fault) (shelf_known : S → Known Files) (shelf between shelf' : S)
    (out_known : O → Known Output) (out out' : O) → IsSchedule plan
    → ReadBy (schedule_named name) (Ok plan) (shelf_known shelf) (shelf_known between) → ReadBy (script_named plan text) (Ok feeds) (shelf_known between) (shelf_known shelf')
    → (shelf_known between).faults ≡ (shelf_known shelf).faults → (shelf_known shelf').faults ≡ (shelf_known between).faults
    → ByScript plan window (Ok feeds) ending out_known out out' → HasCause (out_known out) (out_known out') (ending ≡ Err faults.Write)
    → AirRun name text window ending shelf_known shelf shelf' out_known out out'
ran_over name text window plan feeds ending shelf_known shelf between shelf' out_known out out' valid loads script_loads same same' writes cause =
    air_run name text window ending shelf_known shelf between shelf' out_known out out' (Ok plan) loads
    (record { valid = valid; outcome = Ok feeds; loads = script_loads; writes = writes })
    (counts_none (not_read ending writes.2) (same' ∙ same))
    cause

-- what air_over asks of a script
pub feeds_are : (plan : Plan) (feeds : List (List Delivery)) → IsScript plan feeds → AreFeeds plan feeds
feeds_are plan feeds script = record { some = script.some; few = script.few; each = script.each; few_deliveries = script.few_deliveries }

-- ---- a run that ends before

abbrev of_fault : Fault → Result Bool Fault
of_fault fault = Err fault

module _ {S O : Type 0} (name text : List ℕ) (window : ℕ) (shelf_known : S → Known Files) (out_known : O → Known Output) (out : O) where
  pub no_schedule : (fault : ScheduleFault) (shelf shelf' : S) → ReadBy (schedule_named name) (Err fault) (shelf_known shelf) (shelf_known shelf')
      → HasCause (shelf_known shelf) (shelf_known shelf') (fault ≡ schedule.Read)
      → AirRun name text window (Err (fault_of_schedule fault)) shelf_known shelf shelf' out_known out out
  no_schedule fault shelf shelf' loads cause =
      air_run name text window (Err (fault_of_schedule fault)) shelf_known shelf shelf' shelf' out_known out out (Err fault) loads (refl, refl, refl)
      (counts_as (λ is. read_schedule fault (inner_fault (fault_of_schedule fault) faults.Read is)) (λ is. ap (λ f. of_fault (fault_of_schedule f)) is) cause)
      (counts_none (λ is. write_schedule fault (inner_fault (fault_of_schedule fault) faults.Write is)) refl)

  pub no_script : (plan : Plan) (fault : ScheduleFault) (shelf between shelf' : S) → IsSchedule plan → ReadBy (schedule_named name) (Ok plan) (shelf_known shelf) (shelf_known between)
      → ReadBy (script_named plan text) (Err fault) (shelf_known between) (shelf_known shelf') → (shelf_known between).faults ≡ (shelf_known shelf).faults
      → HasCause (shelf_known between) (shelf_known shelf') (fault ≡ schedule.Read)
      → AirRun name text window (Err (fault_of_script fault)) shelf_known shelf shelf' out_known out out
  no_script plan fault shelf between shelf' valid loads script_loads same cause =
      air_run name text window (Err (fault_of_script fault)) shelf_known shelf between shelf' out_known out out (Ok plan) loads
      (record { valid = valid; outcome = Err fault; loads = script_loads; writes = (refl, refl) })
      (counts_then same (counts_as (λ is. read_script fault (inner_fault (fault_of_script fault) faults.Read is)) (λ is. ap (λ f. of_fault (fault_of_script f)) is) cause))
      (counts_none (λ is. write_script fault (inner_fault (fault_of_script fault) faults.Write is)) refl)
