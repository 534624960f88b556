-- A run over a group of links that was opened.
use Rattle.std.proofs.Common.{◌≡◌, ℕ, ◌+◌, ◌≤◌, ◌⊎◌, inl, inr, ◌↔◌, not, Bool, true, List, [], ◌++◌, length, Result, Ok, Err, IfErr, IsErr, refl, sym, ◌∙◌, ap, subst, arith}
use Rattle.drm_links.specs.Known.{HasFailed, HasCause, Known}
use Rattle.drm_links.specs.Shelf.{Files}
use Rattle.drm_links.specs.Source.{Input}
use Rattle.drm_links.specs.History.{History}
use Rattle.drm_links.specs.Calls.{NoneUp}
use Rattle.drm_links.proofs.KnownLemmas.{counts_none, counts_as}
use Rattle.drm_links.proofs.CallLemmas.{Tells-none}
use Rattle.drm_schedule.specs.declared.live.Live.{Live}
use Rattle.drm_schedule.specs.declared.plan.Plan.{Plan}
use Rattle.drm_schedule.specs.Valid.{IsSchedule}
use Rattle.live_streams.specs.Input.{pieces_of}
use Rattle.live_streams.specs.Laws.{InputMakesASchedule}
use Rattle.live_streams.proofs.FrameLemmas.{same_frame_count}
use Rattle.drm_server.proofs.StretchLemmas.{as_many}
use Rattle.cmd_load.specs.Loading.{ShelfReading, ReadBy}
use Rattle.cmd_load.specs.Schedule.{schedule_named}
use Rattle.cmd_load.specs.Faults.{fault_of_schedule}
use Rattle.cmd_load.specs.declared.loading.ScheduleFault.{ScheduleFault}
use Rattle.cmd_load.specs.declared.loading.ScheduleFault.TheVariants as schedule
use Rattle.cmd_faults.specs.Fault.{done_of}
use Rattle.cmd_faults.specs.declared.fault.Fault.{Fault}
use Rattle.cmd_faults.specs.declared.fault.Fault.TheVariants as faults
use Rattle.drm_server.specs.Serving.{ServesFrames}
use Rattle.drm_server.specs.declared.stretch.Stretch.{Stretch}
use Rattle.drm_server.specs.Stretch.{first_in, frames_in}
use Rattle.live_server.specs.Feeding.{fed, AreTaken}
use Rattle.live_server.specs.Links.{ServedLive}
use Rattle.cmd_serve.specs.Live.{live_named}
use Rattle.cmd_serve.specs.Send.{AreUp, IsOneDown, RunOver}
use Rattle.cmd_serve.specs.OverGroup.{GroupComes, OverGroup}
use Rattle.cmd_serve.specs.ScheduleRun.{ServeEndsBy}
use Rattle.cmd_serve.proofs.ScheduleRunLemmas.{is_read, read_is}
use Rattle.cmd_serve.proofs.LiveLemmas.{live_reads, live_stops, unfed, was_fed}

not_link : (fault : ScheduleFault) → (let ended : Result (Unit {0}) Fault = Err (fault_of_schedule fault) in ended ≡ Err faults.Link) → ⊥
not_link schedule.NoMemory is = cc
not_link (schedule.Line l r) is = cc
not_link schedule.Read is = cc

none_down : (links : ℕ) (up : List Bool) → AreUp links up → IsOneDown links up → ⊥
none_down links up all (k, within, down) = let yes = all k within in absurd (let both = sym yes ∙ down in cc)

-- not each of one or more links is up and has failed
not_down : (links : ℕ) (up : List Bool) → 1 ≤ links → AreUp links up → NoneUp up → ⊥
not_down links up some all none = let yes = all 0 (omega (arith, some)) in let no = none 0 in absurd (let both = sym yes ∙ no in cc)

module _ {S : Type 0} (reading : ShelfReading Plan) (pace : ℕ) (stretch : Stretch) (shelf_known : S → Known Files) (shelf shelf' : S) (up : List Bool) (a : Known History) where
  -- no schedule came, and nothing was sent
  pub unsent : (fault : ScheduleFault) → AreUp (length up) up → ReadBy reading (Err fault) (shelf_known shelf) (shelf_known shelf') → HasCause (shelf_known shelf) (shelf_known shelf') (fault ≡ schedule.Read)
      → RunOver reading pace stretch (Err (fault_of_schedule fault)) shelf_known shelf shelf' (length up) up (GroupComes up up a a)
  unsent fault all comes cause = record {
    outcome = Err fault;
    loads = comes;
    sound = tt;
    ends = refl;
    made = ([], (refl, refl), Tells-none a);
    failed = (λ e. absurd (not_link fault e), λ down. absurd (none_down (length up) up all down));
    read_cause = counts_as (is_read fault) (read_is fault) cause;
  }

  -- its datagrams were sent
  pub sent_over : (plan : Plan) → IsSchedule plan → (ending : Result (Unit {0}) Fault) (n : ℕ) (up' : List Bool) (b : Known History) → ReadBy reading (Ok plan) (shelf_known shelf) (shelf_known shelf')
      → (shelf_known shelf').faults ≡ (shelf_known shelf).faults → ServeEndsBy faults.Link (Ok plan) ending → (ending ≡ Err faults.Read → ⊥) → (ending ≡ Err faults.Link) ↔ IsOneDown (length up) up'
      → n ≤ frames_in stretch plan → (n ≡ frames_in stretch plan) ⊎ NoneUp up' → ServesFrames plan (first_in stretch) pace n up up' a b
      → RunOver reading pace stretch ending shelf_known shelf shelf' (length up) up' (GroupComes up up' a b)
  sent_over plan valid ending n up' b comes same ends no_read failed few begun served = record {
    outcome = Ok plan;
    loads = comes;
    sound = valid;
    ends = ends;
    made = (served.0, (n, few, served.1, begun), served.2);
    failed = failed;
    read_cause = counts_none no_read same;
  }

module _ {S : Type 0} (name : List ℕ) (pace : ℕ) (stretch : Stretch) (live : Live) (shelf_known : S → Known Files) (shelf shelf' : S) (up : List Bool) (a : Known History) where
  -- no schedule came, and nothing was read or sent
  pub live_unsent : (fault : ScheduleFault) (input : Known Input) → AreUp (length up) up → ReadBy (schedule_named name) (Err fault) (shelf_known shelf) (shelf_known shelf')
      → HasCause (shelf_known shelf) (shelf_known shelf') (fault ≡ schedule.Read)
      → OverGroup name pace stretch live (Err (fault_of_schedule fault)) shelf_known shelf shelf' input input up up a a
  live_unsent fault input all comes cause =
      inl (unfed name live stretch shelf_known shelf shelf' (fault_of_schedule fault) input
      (λ reading. RunOver reading pace stretch (Err (fault_of_schedule fault)) shelf_known shelf shelf' (length up) up (GroupComes up up a a))
      (λ bytes. unsent (live_named name live (first_in stretch) bytes) pace stretch shelf_known shelf shelf' up a fault all
      (live_stops name live (first_in stretch) bytes (shelf_known shelf) (shelf_known shelf') fault comes) cause))

  module _ (makes : InputMakesASchedule) (plan : Plan) (valid : IsSchedule plan) (comes : ReadBy (schedule_named name) (Ok plan) (shelf_known shelf) (shelf_known shelf'))
      (same : (shelf_known shelf').faults ≡ (shelf_known shelf).faults) (up' : List Bool) (b : Known History) (many : length up' ≡ length up) (input input' : Known Input) where
    abbrev Sent : Result Bool Fault → Type 0
    Sent result = ServedLive live plan stretch pace result input input' up up' a b

    -- no read failed
    live_sent : (ending : Result Bool Fault) (whole : Bool) → 1 ≤ length up → ServeEndsBy faults.Link (let outcome : Result Plan ScheduleFault = Ok plan in outcome) (done_of ending) → (done_of ending ≡ Err faults.Read → ⊥)
        → (done_of ending ≡ Err faults.Link) ↔ IsOneDown (length up) up' → ((other : Bool) → ending ≡ Ok other → (other ≡ whole) × AreUp (length up) up')
        → Sent (Ok whole) → input'.faults ≡ input.faults
        → OverGroup name pace stretch live ending shelf_known shelf shelf' input input' up up' a b
    live_sent ending whole some ends no_read failed done (n, few, begun, made) still =
        inl (was_fed name live stretch shelf_known shelf shelf' ending input input'
        (λ reading. RunOver reading pace stretch (done_of ending) shelf_known shelf shelf' (length up) up' (GroupComes up up' a b)) plan (not whole) made.bytes comes made.read still
        (λ more last.
        let all = made.bytes ++ more in
        let shown : Plan = fed live plan (first_in stretch) all in
        let frames : frames_in stretch shown ≡ frames_in stretch plan = as_many stretch shown plan (same_frame_count live (pieces_of live plan (first_in stretch) all) plan) in
        sent_over (live_named name live (first_in stretch) all) pace stretch shelf_known shelf shelf' up a shown (makes live plan (first_in stretch) all valid) (done_of ending) n up' b
        (live_reads name live (first_in stretch) all (shelf_known shelf) (shelf_known shelf') plan comes) same ends no_read failed (omega (arith, few, frames))
        (elim begun [ inl whole ↦ inl (omega (arith, whole, frames)) | inr down ↦ inr down ])
        (made.made more last))
        (λ other is.
        let d = done other is in (
          ap not (sym d.0),
          elim begun [
            | inl all ↦ subst (λ m. AreTaken (not whole) live plan (first_in stretch) (first_in stretch + m) made.bytes) all made.taken
            | inr down ↦ absurd (not_down (length up) up' some d.1 down)
          ],
        )))

    -- one did
    live_broken : (ending : Result Bool Fault) (fault : Fault) → ((ending ≡ Err faults.Read) × AreUp (length up) up') ⊎ ((ending ≡ Err faults.Link) × IsOneDown (length up) up') → HasFailed input input' → Sent (Err fault)
        → OverGroup name pace stretch live ending shelf_known shelf shelf' input input' up up' a b
    live_broken ending fault ends once (n, within, left, broken) =
        inr (record { left = left; ends = ends; run = record { plan = plan; loads = comes; sound = valid; n = n; within = within; broken = broken; once = once; loaded = same } })

    -- each link is up: it ends as the sending did
    pub live_up : (result : Result Bool Fault) → 1 ≤ length up → AreUp (length up') up' → IfErr result (λ fault. fault ≡ faults.Read) → HasCause input input' (IsErr result) → Sent result
        → OverGroup name pace stretch live result shelf_known shelf shelf' input input' up up' a b
    live_up result some are kind cause sent = by result kind cause sent
      where
        all : AreUp (length up) up'
        all = subst (λ links. AreUp links up') many are

        by : (r : Result Bool Fault) → IfErr r (λ fault. fault ≡ faults.Read) → HasCause input input' (IsErr r) → Sent r → OverGroup name pace stretch live r shelf_known shelf shelf' input input' up up' a b
        by (Ok whole) kind cause sent =
            live_sent (Ok whole) whole some (inl refl) (λ is. cc) ((λ e. cc), λ down. absurd (none_down (length up) up' all down)) (λ other is. ((let is : whole ≡ other = cc in sym is), all)) sent (cause.same (λ failed. cc))
        by (Err fault) kind cause sent = live_broken (Err fault) fault (inl (ap Err kind, all)) (cause.once refl) sent

    -- one isn't
    pub live_down : (result : Result Bool Fault) → 1 ≤ length up → IsOneDown (length up') up' → HasCause input input' (IsErr result) → Sent result
        → OverGroup name pace stretch live (Err faults.Link) shelf_known shelf shelf' input input' up up' a b
    live_down result some is cause sent = by result cause sent
      where
        down : IsOneDown (length up) up'
        down = subst (λ links. IsOneDown links up') many is

        by : (r : Result Bool Fault) → HasCause input input' (IsErr r) → Sent r → OverGroup name pace stretch live (Err faults.Link) shelf_known shelf shelf' input input' up up' a b
        by (Ok whole) cause sent = live_sent (Err faults.Link) whole some (inr refl) (λ is. cc) ((λ e. down), λ any. refl) (λ other is. absurd cc) sent (cause.same (λ failed. cc))
        by (Err fault) cause sent = live_broken (Err faults.Link) fault (inr (refl, down)) (cause.once refl) sent

pub one_whole : (whole : Bool) → (let done : Result Bool Fault = Ok whole in done ≡ Ok true) → whole ≡ true
one_whole whole is = cc
