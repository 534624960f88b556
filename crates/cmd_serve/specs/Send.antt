-- The command `serve --to`: a schedule becomes datagrams over links.
use Rattle.std.specs.Prelude.{ℕ, ◌≡◌, ◌<◌, ◌≤◌, ◌⊎◌, ◌↔◌, Bool, true, false, List, [], length, replicate, slice_index_or, Option, None, Some, Result, Ok, Err, IfOk}
use Rattle.std.specs.FinMap as map
use Rattle.drm_links.specs.Known.{HasFailed, Known, HasCause, KnownThrough}
use Rattle.drm_links.specs.Shelf.{Files, ShelfSupplies}
use Rattle.drm_links.specs.Dock.{DockContents, LinkStart, address_key, OpeningFinds, DockKnownThrough}
use Rattle.drm_links.specs.Transmission.{TakesSends, TakesFewer}
use Rattle.drm_links.specs.History.{GroupEvent, History, EventsHappen}
use Rattle.drm_links.specs.Calls.{is_up, NoneUp}
use Rattle.drm_links.specs.Gathering.{ReachesNone, ReachesFew, GroupStarts, after_gathering, after_disbanding}
use Rattle.drm_links.specs.declared.dock.Address.{Address}
use Rattle.drm_schedule.specs.declared.plan.Plan.{Plan}
use Rattle.drm_schedule.specs.Valid.{IsSchedule}
use Rattle.drm_server.specs.declared.stretch.Stretch.{Stretch}
use Rattle.drm_server.specs.Stretch.{first_in, frames_in}
use Rattle.drm_server.specs.Datagrams.{AreDatagrams}
use Rattle.drm_server.specs.Serving.{FramesCome}
use Rattle.cmd_load.specs.Loading.{ShelfReading, ReadBy}
use Rattle.cmd_serve.specs.ScheduleRun.{ServeEndsBy}
use Rattle.cmd_faults.specs.Fault.{UnlessMemory}
use Rattle.cmd_faults.specs.Causes.{OpeningFailed}
use Rattle.cmd_load.specs.declared.loading.ScheduleFault.{ScheduleFault}
use Rattle.cmd_faults.specs.declared.fault.Fault.{Fault}
use Rattle.cmd_faults.specs.declared.fault.Fault.TheVariants as faults

-- What comes of the frames of a schedule that are sent, over a group of links: all of them go, or as many as until no link is left. Where no
-- schedule came nothing happens.
abbrev pub RunComes : ℕ → Stretch → Result Plan ScheduleFault → List Bool → List GroupEvent → List Bool → Type 0
RunComes pace stretch (Ok schedule) up events up' =
    (n : ℕ) × (n ≤ frames_in stretch schedule) × FramesCome schedule (first_in stretch) pace n up events up' × ((n ≡ frames_in stretch schedule) ⊎ NoneUp up')
RunComes pace stretch (Err fault) up events up' = (events ≡ []) × (up' ≡ up)

-- A group of links was opened at these addresses, what happened at it came so, and it was closed.
pub record GroupRan (Comes : List Bool → List GroupEvent → List Bool → Type 0) (up : List Bool) (addresses : List Address) (before after : DockContents) : Type 0 where
  pub start : History
  pub starts : GroupStarts None addresses before start
  pub events : List GroupEvent
  pub last : History
  pub happened : EventsHappen events start last
  pub comes : Comes (replicate (length addresses) true) events up
  pub contents : after ≡ after_disbanding None addresses events (after_gathering None addresses before)

-- The link takes fewer sends than the schedule that came has datagrams to be sent.
abbrev pub LacksSends : Stretch → Result Plan ScheduleFault → Option ℕ → Type 0
LacksSends stretch (Ok schedule) sends = (datagrams : List (List ℕ)) → AreDatagrams schedule stretch datagrams → TakesFewer sends (length datagrams)
LacksSends stretch (Err fault) sends = ⊥

-- The link that is opened at some address takes fewer sends than that.
pub record LacksSome (stretch : Stretch) (outcome : Result Plan ScheduleFault) (contents : DockContents) (addresses : List Address) : Type 0 where
  pub k : ℕ
  pub within : k < length addresses
  pub lacks : (at : Address) → (start : LinkStart) × OpeningFinds contents k (slice_index_or addresses k at) start × LacksSends stretch outcome start.sends

-- The link that is opened at each address takes so many sends.
abbrev pub TakeAll : DockContents → List Address → ℕ → Type 0
TakeAll contents addresses n =
    (k : ℕ) (at : Address) → k < length addresses → (start : LinkStart) × OpeningFinds contents k (slice_index_or addresses k at) start × TakesSends start.sends n

-- A run of which an opening failed: those before it are closed, and nothing is read.
pub record ClosedRun {S D : Type 0} (addresses : List Address) (ending : Result (Unit {0}) Fault) (shelf shelf' : S)
    (dock_known : D → Known DockContents) (dock dock' : D) : Type 0 where
  pub fault : ending ≡ Err faults.Link
  pub unread : shelf' ≡ shelf
  pub contents : KnownThrough (dock_known dock) (dock_known dock') (ReachesFew addresses)
  pub once : HasFailed (dock_known dock) (dock_known dock')

-- each of so many links is up
abbrev pub AreUp : ℕ → List Bool → Type 0
AreUp links up = (k : ℕ) → k < links → is_up up k ≡ true

-- one of them has failed
abbrev pub IsOneDown : ℕ → List Bool → Type 0
IsOneDown links up = (k : ℕ) × (k < links) × (is_up up k ≡ false)

-- A run over so many links, of which these are up at its end. Of what happened at them is told as `Made` says.
pub record RunOver {S : Type 0} (reading : ShelfReading Plan) (pace : ℕ) (stretch : Stretch) (ending : Result (Unit {0}) Fault)
    (shelf_known : S → Known Files) (shelf shelf' : S) (links : ℕ) (up : List Bool) (Made : (List Bool → List GroupEvent → List Bool → Type 0) → Type 0) : Type 0 where
  -- the schedule, or why there is none
  pub outcome : Result Plan ScheduleFault
  -- Where the shelf tells, that is what its files come to, and these loads were made.
  pub loads : ReadBy reading outcome (shelf_known shelf) (shelf_known shelf')
  -- Whatever it tells, what came is valid.
  pub sound : IfOk outcome IsSchedule
  pub ends : ServeEndsBy faults.Link outcome ending
  -- What happened at the links, in one order, is what the schedule calls for.
  pub made : Made (RunComes pace stretch outcome)
  pub failed : (ending ≡ Err faults.Link) ↔ IsOneDown links up
  -- The shelf's count of faults rose, by one, exactly where a load ended the run.
  pub read_cause : HasCause (shelf_known shelf) (shelf_known shelf') (ending ≡ Err faults.Read)

-- A run whose links were opened, before the schedule was read, and closed at the end. No opening failed.
pub record LinksRun {S D : Type 0} (reading : ShelfReading Plan) (addresses : List Address) (pace : ℕ) (stretch : Stretch) (ending : Result (Unit {0}) Fault)
    (shelf_known : S → Known Files) (shelf shelf' : S)
    (dock_known : D → Known DockContents) (dock dock' : D) : Type 0 where
  pub up : List Bool
  pub over : RunOver reading pace stretch ending shelf_known shelf shelf' (length addresses) up (λ Comes. KnownThrough (dock_known dock) (dock_known dock') (GroupRan Comes up addresses))
  pub same : (dock_known dock').faults ≡ (dock_known dock).faults

-- A run for which there was no memory before the first opening.
pub record UnopenedRun {S D : Type 0} (ending : Result (Unit {0}) Fault) (shelf shelf' : S) (dock dock' : D) : Type 0 where
  pub fault : ending ≡ Err faults.NoMemory
  pub unread : shelf' ≡ shelf
  pub unopened : dock' ≡ dock

-- A run of `serve --to` these addresses, of the schedule that is read so, with this pace, of these super frames.
pub record SendRun {S D : Type 0} (reading : ShelfReading Plan) (addresses : List Address) (pace : ℕ) (stretch : Stretch) (ending : Result (Unit {0}) Fault)
    (shelf_known : S → Known Files) (shelf shelf' : S)
    (dock_known : D → Known DockContents) (dock dock' : D) : Type 0 where
  pub run : ClosedRun addresses ending shelf shelf' dock_known dock dock'
      ⊎ LinksRun reading addresses pace stretch ending shelf_known shelf shelf' dock_known dock dock'
      ⊎ UnopenedRun ending shelf shelf' dock dock'
  -- It fails by a link where an opening fails, and where a link takes fewer sends than the schedule has datagrams there;
  -- nowhere else.
  pub unopened : DockKnownThrough (dock_known dock) (dock_known dock') (λ contents. ReachesNone contents addresses → UnlessMemory ending (ending ≡ Err faults.Link))
  pub cut : DockKnownThrough (dock_known dock) (dock_known dock') (λ contents. ShelfSupplies (shelf_known shelf) (shelf_known shelf') (λ files _.
      UnlessMemory ending ((ending ≡ Err faults.Link)
      ↔ (ReachesNone contents addresses ⊎ LacksSome stretch (reading files).outcome contents addresses))))
  -- Where each opening finds a link, and one of these takes all datagrams, they have gone at its address, whatever becomes of the
  -- others.
  pub complete : KnownThrough (dock_known dock) (dock_known dock') (λ before after. (ReachesNone before addresses → ⊥)
      → ShelfSupplies (shelf_known shelf) (shelf_known shelf') (λ files _. (schedule : Plan) (datagrams : List (List ℕ))
      → (reading files).outcome ≡ Ok schedule → AreDatagrams schedule stretch datagrams
      → (k : ℕ) (at : Address) (start : LinkStart) → k < length addresses → OpeningFinds before k (slice_index_or addresses k at) start
      → TakesSends start.sends (length datagrams)
      → UnlessMemory ending (map.get after.gone (address_key (slice_index_or addresses k at)) ≡ Some datagrams)))
  -- Where each takes them the run is done.
  pub done : DockKnownThrough (dock_known dock) (dock_known dock') (λ contents. ShelfSupplies (shelf_known shelf) (shelf_known shelf') (λ files _.
      (schedule : Plan) (datagrams : List (List ℕ)) → (reading files).outcome ≡ Ok schedule → AreDatagrams schedule stretch datagrams
      → TakeAll contents addresses (length datagrams) → UnlessMemory ending (ending ≡ Ok tt)))
  -- After a run that is done the same has gone at each address.
  pub alike : ending ≡ Ok tt → KnownThrough (dock_known dock) (dock_known dock') (λ _ after. (j k : ℕ) (at : Address) → j < length addresses → k < length addresses
      → map.get after.gone (address_key (slice_index_or addresses j at)) ≡ map.get after.gone (address_key (slice_index_or addresses k at)))
  -- Unless a link failed it is refused exactly where its files are, with the line and the reason; a load fails exactly where
  -- one is to fail.
  pub exactly : (ending ≡ Err faults.Link → ⊥)
      → ShelfSupplies (shelf_known shelf) (shelf_known shelf') (λ files _. UnlessMemory ending (ServeEndsBy faults.Link (reading files).outcome ending))
  -- The dock's count of faults rose, by one, only where an opening ended the run, and that of the shelf exactly where a load did.
  pub dock_cause : OpeningFailed (dock_known dock) (dock_known dock') (ending ≡ Err faults.Link)
  pub read_cause : HasCause (shelf_known shelf) (shelf_known shelf') (ending ≡ Err faults.Read)
