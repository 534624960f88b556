-- What is said of how a run of `air` ends.
use Rattle.std.proofs.Common.{◌≡◌, ℕ, ◌<◌, ◌⊎◌, inl, inr, Bool, true, IsTrue, List, [], length, Result, Ok, Err, refl, sym, ◌∙◌, ap, subst, arith}
use Rattle.drm_schedule.specs.declared.plan.Plan.{Plan}
use Rattle.plan_script.specs.declared.delivery.Delivery.{Delivery}
use Rattle.drm_links.specs.Known.{HasFailed, HasCause, Known}
use Rattle.drm_links.specs.Shelf.{Files, ShelfSupplies}
use Rattle.drm_links.specs.Sink.{Output}
use Rattle.drm_links.proofs.KnownLemmas.{Tells-then, Tells-weaker}
use Rattle.cmd_load.specs.declared.loading.ScheduleFault.{ScheduleFault}
use Rattle.cmd_load.specs.declared.loading.ScheduleFault.TheVariants as loads
use Rattle.cmd_faults.specs.declared.fault.Fault.{Fault}
use Rattle.cmd_faults.specs.declared.fault.Fault.TheVariants as faults
use Rattle.cmd_faults.specs.Fault.{UnlessMemory}
use Rattle.cmd_load.specs.Faults.{fault_of_schedule, fault_of_script}
use Rattle.cmd_load.specs.Loading.{ShelfStep, ReadBy}
use Rattle.cmd_load.specs.Schedule.{schedule_named}
use Rattle.cmd_load.specs.Scripts.{script_named}
use Rattle.cmd_load.proofs.LoadingLemmas.{Comes, outcome_by}
use Rattle.cmd_receive.specs.Receive.{AreClean, WritesReports, WroteReports}
use Rattle.report_text.specs.Reports.{Report}
use Rattle.cmd_air.specs.Air.{AreAired, ByScript, BySchedule, with_feeds, with_script, schedule_and_script, EndsByFiles, FeedsAreInTime, AirRun}
use Rattle.cmd_receive.proofs.ReceiveStatus.{is_true}

-- the schedule and the feeds, or their fault
abbrev Both : Type 0
Both = Result (Plan × List (List Delivery)) Fault

-- how a run ends whose files come to this
abbrev Ended : {O : Type 0} → ℕ → Both → Result Bool Fault → (O → Known Output) → O → O → Type 0
Ended window (Ok both) ending known out out' =
    WritesReports (AreAired both.0 window both.1) ending known out out' × ((fault : Fault) → ending ≡ Err fault → (fault ≡ faults.NoMemory) ⊎ (fault ≡ faults.Write))
Ended window (Err fault) ending known out out' = ending ≡ Err fault

-- Unless memory ran out, the files come to this, by which the run ends.
record ReadsFiles {S O : Type 0} (name script : List ℕ) (window : ℕ) (ending : Result Bool Fault) (shelf_known : S → Known Files) (shelf shelf' : S) (out_known : O → Known Output) (out out' : O) : Type 0 where
  pub both : Both
  pub files : ShelfSupplies (shelf_known shelf) (shelf_known shelf') (λ x _. UnlessMemory ending (schedule_and_script name script x ≡ both))
  pub ended : Ended window both ending out_known out out'

module _ {S O : Type 0} (name script : List ℕ) (window : ℕ) (ending : Result Bool Fault) (shelf_known : S → Known Files) (out_known : O → Known Output) where
  no_schedule : (fault : ScheduleFault) (p q : Files) → ending ≡ Err (fault_of_schedule fault) → Comes (schedule_named name) (Err fault) p q → UnlessMemory ending (schedule_and_script name script p ≡ Err (fault_of_schedule fault))
  no_schedule fault p q ends (inl is) = inr (ap (λ (step : ShelfStep Plan). with_script script step) is)
  no_schedule fault p q ends (inr memory) = let same : fault ≡ loads.NoMemory = cc (memory.0) in inl (ends ∙ ap (λ f. Err (fault_of_schedule f)) same)

  scripts : (plan : Plan) (outcome : Result (List (List Delivery)) ScheduleFault) (p q r : Files) → (outcome ≡ Err loads.NoMemory → ending ≡ Err faults.NoMemory)
      → schedule_named name p ≡ record { outcome = Ok plan; contents = q } → Comes (script_named plan script) outcome q r → UnlessMemory ending (schedule_and_script name script p ≡ with_feeds plan outcome)
  scripts plan outcome p q r memory is (inl comes) =
      inr (ap (λ (step : ShelfStep Plan). with_script script step) is ∙ ap (λ (step : ShelfStep (List (List Delivery))). with_feeds plan step.outcome) comes)
  scripts plan outcome p q r memory is (inr some) = inl (memory some.0)

  -- the script's fault is that of the run
  script_memory : (plan : Plan) (outcome : Result (List (List Delivery)) ScheduleFault) (out out' : O) → ByScript plan window outcome ending out_known out out' → outcome ≡ Err loads.NoMemory → ending ≡ Err faults.NoMemory
  script_memory plan (Ok feeds) out out' by is = cc
  script_memory plan (Err fault) out out' by is = let same : fault ≡ loads.NoMemory = cc (is) in by.0 ∙ ap (λ f. Err (fault_of_script f)) same

  script_ended : (plan : Plan) (outcome : Result (List (List Delivery)) ScheduleFault) (out out' : O) → ByScript plan window outcome ending out_known out out' → Ended window (with_feeds plan outcome) ending out_known out out'
  script_ended plan (Ok feeds) out out' by = (by.1, by.2)
  script_ended plan (Err fault) out out' by = by.0

  outcome : (shelf between shelf' : S) (out out' : O) (outcome : Result Plan ScheduleFault) → ReadBy (schedule_named name) outcome (shelf_known shelf) (shelf_known between)
      → BySchedule script window outcome ending shelf_known between shelf' out_known out out' → ReadsFiles name script window ending shelf_known shelf shelf' out_known out out'
  outcome shelf between shelf' out out' (Ok plan) first by = record {
    both = with_feeds plan by.outcome;
    files = Tells-then _ _ _ (shelf_known shelf) (shelf_known between) (shelf_known shelf') first by.loads
        (λ p q r is comes. scripts plan by.outcome p q r (script_memory plan by.outcome out out' by.writes) (outcome_by (schedule_named name) plan p q is) comes);
    ended = script_ended plan by.outcome out out' by.writes;
  }
  outcome shelf between shelf' out out' (Err fault) first by = record {
    both = Err (fault_of_schedule fault);
    files = subst (λ s. ShelfSupplies (shelf_known shelf) (shelf_known s) (λ x _. UnlessMemory ending (schedule_and_script name script x ≡ Err (fault_of_schedule fault)))) (sym by.1)
        (Tells-weaker _ _ (shelf_known shelf) (shelf_known between) first (λ p q is. no_schedule fault p q by.0 is));
    ended = by.0;
  }

  ends : (both : Both) (ending : Result Bool Fault) (out out' : O) → Ended window both ending out_known out out' → UnlessMemory ending (EndsByFiles both ending)
  ends (Ok both) (Ok clean) out out' ended = inr (inl (clean, refl))
  ends (Ok both) (Err fault) out out' ended = elim (ended.1 fault refl) [
    | inl memory ↦ inl (ap Err memory)
    | inr write ↦ inr (inr (ap Err write))
  ]
  ends (Err fault) ending out out' ended = inr ended

  wrote : (both : Plan × List (List Delivery)) (ending : Result Bool Fault) (out out' : O) → (ending ≡ Err faults.Write → ⊥) → Ended window (Ok both) ending out_known out out'
      → UnlessMemory ending (WroteReports ending (AreAired both.0 window both.1) out_known out out')
  wrote both (Ok clean) out out' none ended = inr (clean, refl, ended.0)
  wrote both (Err fault) out out' none ended = elim (ended.1 fault refl) [
    | inl memory ↦ inl (ap Err memory)
    | inr write ↦ absurd (none (ap Err write))
  ]

-- where each frame is in time in each feed, the reports are clean
all_clean : (plan : Plan) (window : ℕ) (feeds : List (List Delivery)) (reports : List Report) → AreAired plan window feeds reports → FeedsAreInTime plan window feeds → AreClean reports
all_clean plan window feeds reports are time k d within =
    let none : List Delivery = [] in
    let l : k < length feeds = (let many = are.as_many in omega (arith, many, within)) in
    let aired = are.each k none d l in
    let (followed, each) = time k none aired.datagrams l aired.sent in
    let all = aired.complete followed each in
    subst IsTrue (sym all.clean_is) is_true

all_given : {O : Type 0} (plan : Plan) (window : ℕ) (feeds : List (List Delivery)) (ending : Result Bool Fault) (known : O → Known Output) (out out' : O)
    → UnlessMemory ending (WroteReports ending (AreAired plan window feeds) known out out') → FeedsAreInTime plan window feeds → UnlessMemory ending (ending ≡ Ok true)
all_given plan window feeds ending known out out' (inl memory) time = inl memory
all_given plan window feeds ending known out out' (inr (clean, is, (reports, are, text, iff))) time =
    let all : IsTrue clean = iff.1 (all_clean plan window feeds reports are time) in
    inr (is ∙ ap Ok (clean_is clean all))
  where
    clean_is : (clean : Bool) → IsTrue clean → clean ≡ true
    clean_is clean all = all

-- ---- the whole run

pub air_run : {S O : Type 0} (name script : List ℕ) (window : ℕ) (ending : Result Bool Fault) (shelf_known : S → Known Files) (shelf between shelf' : S) (out_known : O → Known Output) (out out' : O) (outcome_is : Result Plan ScheduleFault)
    → ReadBy (schedule_named name) outcome_is (shelf_known shelf) (shelf_known between) → BySchedule script window outcome_is ending shelf_known between shelf' out_known out out'
    → HasCause (shelf_known shelf) (shelf_known shelf') (ending ≡ Err faults.Read) → HasCause (out_known out) (out_known out') (ending ≡ Err faults.Write)
    → AirRun name script window ending shelf_known shelf shelf' out_known out out'
air_run {S} {O} name script window ending shelf_known shelf between shelf' out_known out out' outcome_is loaded runs read_cause write_cause = record {
  outcome = outcome_is;
  between = between;
  loads = loaded;
  runs = runs;
  exactly = Tells-weaker _ _ (shelf_known shelf) (shelf_known shelf') is.files
      (λ x y files. elim files [
        | inl memory ↦ inl memory
        | inr same ↦ subst (λ (b : Both). UnlessMemory ending (EndsByFiles b ending)) (sym same) (ends name script window ending shelf_known out_known is.both ending out out' is.ended)
      ]);
  complete = all_wrote;
  in_time = λ no_write.
      Tells-weaker _ _ (shelf_known shelf) (shelf_known shelf') (all_wrote no_write) (λ x y wrote plan feeds gives time. all_given plan window feeds ending out_known out out' (wrote plan feeds gives) time);
  read_cause = read_cause;
  write_cause = write_cause;
}
  where
    is : ReadsFiles name script window ending shelf_known shelf shelf' out_known out out'
    is = outcome name script window ending shelf_known out_known shelf between shelf' out out' outcome_is loaded runs

    all_wrote : (HasFailed (out_known out) (out_known out') → ⊥)
        → ShelfSupplies (shelf_known shelf) (shelf_known shelf') (λ x _. (plan : Plan) (feeds : List (List Delivery)) → schedule_and_script name script x ≡ Ok (plan, feeds) → UnlessMemory ending (WroteReports ending (AreAired plan window feeds) out_known out out'))
    all_wrote no_write =
        Tells-weaker _ _ (shelf_known shelf) (shelf_known shelf') is.files
        (λ x y files plan feeds gives. elim files [
          | inl memory ↦ inl memory
          | inr same ↦ wrote name script window ending shelf_known out_known (plan, feeds) ending out out' (λ e. no_write (write_cause.once e))
              (subst (λ (b : Both). Ended window b ending out_known out out') (sym same ∙ gives) is.ended)
        ])
