-- A capture of a schedule with live streams.
use Rattle.std.proofs.Common.{◌≡◌, ℕ, inl, inr, not, Bool, List, [], ◌++◌, Result, Ok, Err, refl, sym, ◌∙◌, ap, subst}
use Rattle.drm_links.specs.Known.{Known, HasCause}
use Rattle.drm_links.specs.Shelf.{Files}
use Rattle.drm_links.specs.Source.{Input}
use Rattle.drm_links.specs.Sink.{Output}
use Rattle.drm_schedule.specs.declared.live.Live.{Live}
use Rattle.drm_schedule.specs.declared.plan.Plan.{Plan}
use Rattle.drm_schedule.specs.Valid.{IsSchedule}
use Rattle.live_streams.specs.Laws.{InputMakesASchedule}
use Rattle.drm_server.specs.Capture.{IsCapture, IsPrefixOfCapture}
use Rattle.cmd_load.specs.Loading.{ShelfReading, ReadBy}
use Rattle.cmd_load.specs.Schedule.{schedule_named}
use Rattle.cmd_load.specs.Faults.{fault_of_schedule}
use Rattle.cmd_load.specs.declared.loading.ScheduleFault.{ScheduleFault}
use Rattle.cmd_load.specs.declared.loading.ScheduleFault.TheVariants as schedule
use Rattle.cmd_faults.specs.Fault.{done_of}
use Rattle.cmd_faults.specs.Causes.{OneFailed}
use Rattle.cmd_faults.proofs.CauseLemmas.{one_alone, other_alone, inner_fault}
use Rattle.drm_links.proofs.KnownLemmas.{counts_as, counts_one}
use Rattle.cmd_faults.specs.declared.fault.Fault.{Fault}
use Rattle.cmd_faults.specs.declared.fault.Fault.TheVariants.{Read, Write}
use Rattle.drm_server.specs.declared.stretch.Stretch.{Stretch}
use Rattle.drm_server.specs.Stretch.{first_in}
use Rattle.live_server.specs.Feeding.{fed}
use Rattle.live_server.specs.Capture.{WroteLive}
use Rattle.cmd_serve.specs.ScheduleRun.{ScheduleRun}
use Rattle.cmd_serve.specs.Live.{live_named, LiveServeRun}
use Rattle.cmd_serve.proofs.ScheduleRunLemmas.{refused_run, cut_run, whole_run}
use Rattle.cmd_serve.proofs.LiveLemmas.{live_reads, live_stops, unfed, was_fed}

-- a run of the schedule ends so where the whole does
pub read_of : (ending : Result Bool Fault) (fault : Fault) → done_of ending ≡ Err fault → ending ≡ Err fault
read_of (Ok whole) fault is = cc
read_of (Err other) fault is = cc

module _ {S I O : Type 0} (name : List ℕ) (stretch : Stretch) (live : Live) (shelf_known : S → Known Files) (shelf shelf' : S) (input_known : I → Known Input) (out_known : O → Known Output) where
  abbrev whole : Plan → List ℕ → Type 0
  whole schedule = IsCapture schedule stretch

  abbrev front : Plan → List ℕ → Type 0
  front schedule = IsPrefixOfCapture schedule stretch

  -- a run of a schedule that is read so
  abbrev RunOf : Result Bool Fault → O → O → ShelfReading Plan → Type 0
  RunOf ending out out' reading = ScheduleRun reading IsSchedule whole front (done_of ending) shelf_known shelf shelf' out_known out out'

  -- no schedule came, and nothing was read of input or written
  pub live_refused : (fault : ScheduleFault) (input : I) (out : O) → ReadBy (schedule_named name) (Err fault) (shelf_known shelf) (shelf_known shelf')
      → HasCause (shelf_known shelf) (shelf_known shelf') (fault ≡ schedule.Read)
      → LiveServeRun name stretch live (Err (fault_of_schedule fault)) shelf_known shelf shelf' input_known input input out_known out out
  live_refused fault input out comes cause =
      inl (unfed name live stretch shelf_known shelf shelf' (fault_of_schedule fault) (input_known input) (RunOf (Err (fault_of_schedule fault)) out out)
      (λ bytes. refused_run (live_named name live (first_in stretch) bytes) IsSchedule whole front shelf_known shelf shelf' out_known fault out
      (live_stops name live (first_in stretch) bytes (shelf_known shelf) (shelf_known shelf') fault comes) cause))

  module _ (makes : InputMakesASchedule) (plan : Plan) (valid : IsSchedule plan) (comes : ReadBy (schedule_named name) (Ok plan) (shelf_known shelf) (shelf_known shelf'))
      (same : (shelf_known shelf').faults ≡ (shelf_known shelf).faults) (input input' : I) (out out' : O) where
    abbrev Ran : Result Bool Fault → Type 0
    Ran result = LiveServeRun name stretch live result shelf_known shelf shelf' input_known input input' out_known out out'

    -- one came, and its frames were written
    pub live_served : (result : Result Bool Fault) → HasCause (input_known input) (input_known input') (result ≡ Err Read) → HasCause (out_known out) (out_known out') (result ≡ Err Write)
        → WroteLive live plan stretch result (input_known input) (input_known input') (out_known out) (out_known out') → Ran result
    live_served (Ok all) read write wrote =
        inl (was_fed name live stretch shelf_known shelf shelf' (Ok all) (input_known input) (input_known input') (RunOf (Ok all) out out') plan (not all) wrote.bytes comes wrote.read (read.same (λ is. cc))
        (λ more last.
        let bytes = wrote.bytes ++ more in
        whole_run (live_named name live (first_in stretch) bytes) IsSchedule whole front shelf_known shelf shelf' out_known (fed live plan (first_in stretch) bytes) (makes live plan (first_in stretch) bytes valid)
        (live_reads name live (first_in stretch) bytes (shelf_known shelf) (shelf_known shelf') plan comes) same out out' (wrote.made more last) (write.same (λ is. cc)))
        (λ other is. ((let same : all ≡ other = cc in ap not same), wrote.taken)))
    live_served (Err fault) read write (inl (is, n, within, breaks)) =
        inr (ap Err is, record { plan = plan; loads = comes; sound = valid; n = n; within = within; broken = breaks; once = read.once (ap Err is); loaded = same })
    live_served (Err fault) read write (inr (is, n, within, ended, wrote)) =
        inl (was_fed name live stretch shelf_known shelf shelf' (Err fault) (input_known input) (input_known input') (RunOf (Err fault) out out') plan ended wrote.bytes comes wrote.read (read.same (λ e. let read : Write ≡ Read = sym is ∙ inner_fault fault Read e in absurd cc))
        (λ more last.
        let bytes = wrote.bytes ++ more in
        subst (λ f. RunOf (Err f) out out' (live_named name live (first_in stretch) bytes)) (sym is)
        (cut_run (live_named name live (first_in stretch) bytes) IsSchedule whole front shelf_known shelf shelf' out_known (fed live plan (first_in stretch) bytes) (makes live plan (first_in stretch) bytes valid)
        (live_reads name live (first_in stretch) bytes (shelf_known shelf) (shelf_known shelf') plan comes) same out out' (wrote.made more last) (write.once (ap Err is))))
        (λ other e. absurd cc))

module _ {S I O : Type 0} (name : List ℕ) (stretch : Stretch) (live : Live) (ending : Result Bool Fault) (shelf_known : S → Known Files) (shelf shelf' : S) (input_known : I → Known Input) (input input' : I)
    (out_known : O → Known Output) (out out' : O) where
  -- a read failed, of input or of the shelf, exactly where that is told
  pub served_read : LiveServeRun name stretch live ending shelf_known shelf shelf' input_known input input' out_known out out'
      → OneFailed (input_known input) (input_known input') (shelf_known shelf) (shelf_known shelf') (ending ≡ Err Read)
  served_read (inl fed) = other_alone fed.same (counts_as (λ e. ap done_of e) (λ e. read_of ending Read e) (fed.runs [] (λ end. refl)).read_cause)
  served_read (inr (so, broken)) = one_alone (counts_one so broken.once) broken.loaded
