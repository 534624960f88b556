-- A run with live streams is one of the schedule that input makes.
use Rattle.std.proofs.Common.{◌≡◌, ℕ, ◌+◌, inl, inr, not, Bool, true, false, List, [], ◌++◌, Result, Ok, Err, refl, ◌∙◌, subst}
use Rattle.drm_links.specs.Known.{Known}
use Rattle.drm_links.specs.Shelf.{Files}
use Rattle.drm_links.specs.Source.{Input}
use Rattle.drm_links.proofs.KnownLemmas.{Tells-weaker, InputsBytes-nothing}
use Rattle.drm_schedule.specs.declared.live.Live.{Live}
use Rattle.drm_schedule.specs.declared.plan.Plan.{Plan}
use Rattle.drm_server.specs.declared.stretch.Stretch.{Stretch}
use Rattle.drm_server.specs.Stretch.{first_in, frames_in}
use Rattle.cmd_load.specs.Loading.{ShelfReading, ReadBy, given}
use Rattle.cmd_load.specs.Schedule.{schedule_named}
use Rattle.cmd_load.specs.declared.loading.ScheduleFault.{ScheduleFault}
use Rattle.cmd_load.proofs.LoadingLemmas.{given_only, ReadBy-then, ReadBy-stops, ReadBy-given}
use Rattle.cmd_load.proofs.ScheduleLemmas.{schedule_only}
use Rattle.cmd_faults.specs.declared.fault.Fault.{Fault}
use Rattle.live_server.specs.Feeding.{fed, AreTaken, HasRead}
use Rattle.cmd_serve.specs.Live.{live_named, FedRun}
use Rattle.cmd_serve.proofs.ScheduleRunLemmas.{outcome_or_memory}

outcome_is : (a b : Plan) → (let x : Result Plan ScheduleFault = Ok a in x ≡ Ok b) → a ≡ b
outcome_is a b same = cc

module _ (name : List ℕ) (live : Live) (first : ℕ) (bytes : List ℕ) (a b : Known Files) where
  abbrev with_bytes : Plan → ShelfReading Plan
  with_bytes plan = given (Ok (fed live plan first bytes))

  -- the schedule with these bytes comes where the schedule does
  pub live_reads : (plan : Plan) → ReadBy (schedule_named name) (Ok plan) a b → ReadBy (live_named name live first bytes) (Ok (fed live plan first bytes)) a b
  live_reads plan comes =
      ReadBy-then (schedule_named name) with_bytes plan (Ok (fed live plan first bytes)) a b b (schedule_only name) comes
      (ReadBy-given (Ok (fed live plan first bytes)) b)

  -- and no other does
  pub live_stops : (fault : ScheduleFault) → ReadBy (schedule_named name) (Err fault) a b → ReadBy (live_named name live first bytes) (Err fault) a b
  live_stops fault stops =
      ReadBy-stops (schedule_named name) with_bytes fault a b (λ plan. given_only (Ok (fed live plan first bytes))) stops

module _ {S : Type 0} (name : List ℕ) (live : Live) (stretch : Stretch) (shelf_known : S → Known Files) (shelf shelf' : S) where
  -- nothing was read of input
  pub unfed : (fault : Fault) (input : Known Input) (Runs : ShelfReading Plan → Type 0) → ((bytes : List ℕ) → Runs (live_named name live (first_in stretch) bytes))
      → FedRun name live stretch (Err fault) shelf_known shelf shelf' input input Runs
  unfed fault input Runs all = record {
    bytes = [];
    ended = false;
    read = record { read = InputsBytes-nothing (λ left rest. left ≡ [] ++ rest) input (λ left. refl); all = λ is. absurd cc };
    same = refl;
    runs = λ more ends. all ([] ++ more);
    taken = λ whole is. absurd cc;
  }

  -- these bytes were, for a schedule that came
  pub was_fed : (ending : Result Bool Fault) (input input' : Known Input) (Runs : ShelfReading Plan → Type 0) (plan : Plan) (ended : Bool) (bytes : List ℕ)
      → ReadBy (schedule_named name) (Ok plan) (shelf_known shelf) (shelf_known shelf') → HasRead ended bytes input input' → input'.faults ≡ input.faults
      → ((more : List ℕ) → (ended ≡ true → more ≡ []) → Runs (live_named name live (first_in stretch) (bytes ++ more)))
      → ((whole : Bool) → ending ≡ Ok whole → (ended ≡ not whole) × AreTaken ended live plan (first_in stretch) (first_in stretch + frames_in stretch plan) bytes)
      → FedRun name live stretch ending shelf_known shelf shelf' input input' Runs
  was_fed ending input input' Runs plan ended bytes loads read same runs taken = record {
    bytes = bytes;
    ended = ended;
    read = read;
    same = same;
    runs = runs;
    taken = λ whole is.
        let t = taken whole is in
        Tells-weaker _ _ (shelf_known shelf) (shelf_known shelf') loads
        (λ x y comes outcome gives. elim (outcome_or_memory (schedule_named name) (Ok plan) x y comes) [
          | inl memory ↦ absurd (let e = memory in cc)
          | inr same ↦
              let one : plan ≡ outcome = outcome_is plan outcome (same ∙ gives) in
              (t.0, subst (λ p. AreTaken ended live p (first_in stretch) (first_in stretch + frames_in stretch p) bytes) one t.1)
        ]);
  }
