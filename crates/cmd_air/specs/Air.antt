-- The command `air`: a report for each feed of a script.
use Rattle.std.specs.Prelude.{ℕ, ℤ, pos, ◌≡◌, ◌+◌, ◌<◌, ◌≤◌, ◌⊎◌, All, Bool, true, List, length, map, sum_by, slice_index_or, Some, Result, Ok, Err}
use Rattle.drm_schedule.specs.declared.plan.Plan.{Plan}
use Rattle.drm_schedule.specs.Valid.{IsSchedule}
use Rattle.plan_script.specs.declared.delivery.Delivery.{Delivery}
use Rattle.plan_script.specs.Script.{IsScript, IsDelivery}
use Rattle.drm_links.specs.Known.{HasFailed, Known, HasCause}
use Rattle.drm_links.specs.Shelf.{Files, ShelfSupplies}
use Rattle.drm_links.specs.Link.{Datagram}
use Rattle.drm_links.specs.Sink.{Output}
use Rattle.drm_timeline.specs.Numbers.{frame_count}
use Rattle.law_delivery.specs.Sent.{AreSent, Arrival, OfSchedule, IsDeliveryOf, IsInTime}
use Rattle.recv_reading.specs.declared.options.ReceiveOptions.{ReceiveOptions}
use Rattle.recv_reading.specs.Values.{receive_options}
use Rattle.recv_report.specs.Headline.{ReportsDelivery, ReportsAllFrames}
use Rattle.cmd_receive.specs.Receive.{WritesReports, WroteReports}
use Rattle.report_text.specs.Reports.{Report}
use Rattle.recv_report.specs.Ahead.{IsReportOf}
use Rattle.cmd_load.specs.Loading.{ShelfStep, ReadBy}
use Rattle.cmd_load.specs.Schedule.{schedule_named}
use Rattle.cmd_load.specs.Scripts.{script_named}
use Rattle.cmd_load.specs.Faults.{fault_of_schedule, fault_of_script}
use Rattle.cmd_load.specs.declared.loading.ScheduleFault.{ScheduleFault}
use Rattle.cmd_faults.specs.Fault.{UnlessMemory}
use Rattle.cmd_faults.specs.declared.fault.Fault.{Fault}
use Rattle.cmd_faults.specs.declared.fault.Fault.TheVariants as faults

-- A feed is read by the greatest reach, the schedule's first sequence number and all its frames, and ends where nothing is left.
abbrev pub air_rules : Plan → ℕ → ReceiveOptions
air_rules plan window = receive_options window 32767 (Some plan.seq) (Some (frame_count plan)) 1 4294967295

-- the pairs that a feed delivers
abbrev pub pairs_of : List Delivery → List (ℕ × ℕ)
pairs_of feed = map (λ d. (d.packet, d.fragment)) feed

-- all that arrives of it: there are no foreign datagrams
abbrev pub arrivals_of : List Delivery → List Arrival
arrivals_of feed = map OfSchedule (pairs_of feed)

-- The report of a feed: that of the datagrams that it delivers.
pub record IsAired (plan : Plan) (window feed : ℕ) (deliveries : List Delivery) (r : Report) : Type 0 where
  pub datagrams : List (List ℕ)
  pub sent : AreSent plan (pairs_of deliveries) datagrams
  pub report : IsReportOf (air_rules plan window) feed (map Datagram datagrams) r
  pub headline : (first_frame : ℤ) → IsDeliveryOf plan 32767 (Some plan.seq) first_frame (arrivals_of deliveries) datagrams
      → ReportsDelivery plan (air_rules plan window) feed first_frame (arrivals_of deliveries) report.answers r.text r.clean
  pub complete : IsDeliveryOf plan 32767 (Some plan.seq) (pos 0) (arrivals_of deliveries) datagrams
      → ((q : ℕ) → q < frame_count plan → IsInTime plan window (pos 0) (pairs_of deliveries) q)
      → ReportsAllFrames plan (air_rules plan window) feed (arrivals_of deliveries) (map Datagram datagrams) r.text r.clean

-- one to sixteen feeds of fragments of a schedule
pub record AreFeeds (plan : Plan) (feeds : List (List Delivery)) : Type 0 where
  pub some : 1 ≤ length feeds
  pub few : length feeds ≤ 16
  pub each : All (All (IsDelivery plan)) feeds
  pub few_deliveries : sum_by length feeds ≤ 100000

-- a report for each feed, in their order
pub record AreAired (plan : Plan) (window : ℕ) (feeds : List (List Delivery)) (reports : List Report) : Type 0 where
  pub as_many : length reports ≡ length feeds
  pub each : (k : ℕ) (feed : List Delivery) (none : Report) → k < length feeds
      → IsAired plan window (k + 1) (slice_index_or feeds k feed) (slice_index_or reports k none)

-- What comes of a script that was read, or not.
abbrev pub ByScript : {O : Type 0} → Plan → ℕ → Result (List (List Delivery)) ScheduleFault → Result Bool Fault → (O → Known Output) → O → O → Type 0
ByScript plan window (Ok feeds) ending known out out' =
    IsScript plan feeds × WritesReports (AreAired plan window feeds) ending known out out'
    × ((fault : Fault) → ending ≡ Err fault → (fault ≡ faults.NoMemory) ⊎ (fault ≡ faults.Write))
ByScript plan window (Err fault) ending known out out' = (ending ≡ Err (fault_of_script fault)) × (out' ≡ out)

-- A run over a schedule that came: its script is read, and its feeds are received.
pub record OverSchedule {S O : Type 0} (plan : Plan) (script : List ℕ) (window : ℕ) (ending : Result Bool Fault)
    (shelf_known : S → Known Files) (shelf shelf' : S) (out_known : O → Known Output) (out out' : O) : Type 0 where
  pub valid : IsSchedule plan
  pub outcome : Result (List (List Delivery)) ScheduleFault
  pub loads : ReadBy (script_named plan script) outcome (shelf_known shelf) (shelf_known shelf')
  pub writes : ByScript plan window outcome ending out_known out out'

abbrev pub BySchedule : {S O : Type 0} → List ℕ → ℕ → Result Plan ScheduleFault → Result Bool Fault
    → (S → Known Files) → S → S → (O → Known Output) → O → O → Type 0
BySchedule script window (Ok plan) ending shelf_known shelf shelf' out_known out out' =
    OverSchedule plan script window ending shelf_known shelf shelf' out_known out out'
BySchedule script window (Err fault) ending shelf_known shelf shelf' out_known out out' =
    (ending ≡ Err (fault_of_schedule fault)) × (shelf' ≡ shelf) × (out' ≡ out)

-- what a script comes to, or the fault that it is
abbrev pub with_feeds : Plan → Result (List (List Delivery)) ScheduleFault → Result (Plan × List (List Delivery)) Fault
with_feeds plan (Ok feeds) = Ok (plan, feeds)
with_feeds plan (Err fault) = Err (fault_of_script fault)

abbrev pub with_script : List ℕ → ShelfStep Plan → Result (Plan × List (List Delivery)) Fault
with_script script step = of step.outcome
  where
    of : Result Plan ScheduleFault → Result (Plan × List (List Delivery)) Fault
    of (Ok plan) = with_feeds plan (script_named plan script step.contents).outcome
    of (Err fault) = Err (fault_of_schedule fault)

-- What the files of these names come to: the schedule and the feeds that the script has for it, or the fault of the first of
-- them that doesn't come.
abbrev pub schedule_and_script : List ℕ → List ℕ → Files → Result (Plan × List (List Delivery)) Fault
schedule_and_script name script contents = with_script script (schedule_named name contents)

-- A run ends by what the files come to: with reports, or with a failed write; or with their fault.
abbrev pub EndsByFiles : {T : Type 0} → Result T Fault → Result Bool Fault → Type 0
EndsByFiles (Ok x) ending = ((clean : Bool) × (ending ≡ Ok clean)) ⊎ (ending ≡ Err faults.Write)
EndsByFiles (Err fault) ending = ending ≡ Err fault

-- What each feed delivers of the schedule has each frame in time.
abbrev pub FeedsAreInTime : Plan → ℕ → List (List Delivery) → Type 0
FeedsAreInTime plan window feeds =
    (k : ℕ) (feed : List Delivery) (datagrams : List (List ℕ)) → k < length feeds
    → let here = slice_index_or feeds k feed in
    AreSent plan (pairs_of here) datagrams
    → IsDeliveryOf plan 32767 (Some plan.seq) (pos 0) (arrivals_of here) datagrams
    × ((q : ℕ) → q < frame_count plan → IsInTime plan window (pos 0) (pairs_of here) q)

-- A run of `air`: the schedule is read, then the script, and then the feeds are received.
pub record AirRun {S O : Type 0} (name script : List ℕ) (window : ℕ) (ending : Result Bool Fault)
    (shelf_known : S → Known Files) (shelf shelf' : S)
    (out_known : O → Known Output) (out out' : O) : Type 0 where
  pub outcome : Result Plan ScheduleFault
  pub between : S
  pub loads : ReadBy (schedule_named name) outcome (shelf_known shelf) (shelf_known between)
  pub runs : BySchedule script window outcome ending shelf_known between shelf' out_known out out'
  -- It is refused exactly where its files are, with the line and the reason; a load fails exactly where one is to fail.
  pub exactly : ShelfSupplies (shelf_known shelf) (shelf_known shelf') (λ before _. UnlessMemory ending (EndsByFiles (schedule_and_script name script before) ending))
  -- Where its files come to feeds and no write failed the report of each is written, in their order: it is that of the datagrams
  -- that the feed delivers.
  pub complete : (HasFailed (out_known out) (out_known out') → ⊥)
      → ShelfSupplies (shelf_known shelf) (shelf_known shelf') (λ before _. (plan : Plan) (feeds : List (List Delivery))
      → schedule_and_script name script before ≡ Ok (plan, feeds)
      → UnlessMemory ending (WroteReports ending (AreAired plan window feeds) out_known out out'))
  -- Where each feed has each frame in time, none is missing.
  pub in_time : (HasFailed (out_known out) (out_known out') → ⊥)
      → ShelfSupplies (shelf_known shelf) (shelf_known shelf') (λ before _. (plan : Plan) (feeds : List (List Delivery))
      → schedule_and_script name script before ≡ Ok (plan, feeds) → FeedsAreInTime plan window feeds → UnlessMemory ending (ending ≡ Ok true))
  -- The count of faults of the shelf rose, by one, exactly where a load ended the run, and that of out where a write did.
  pub read_cause : HasCause (shelf_known shelf) (shelf_known shelf') (ending ≡ Err faults.Read)
  pub write_cause : HasCause (out_known out) (out_known out') (ending ≡ Err faults.Write)
