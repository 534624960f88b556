-- A script from a shelf.
use Rattle.std.proofs.Common.{◌≡◌, ℕ, inl, inr, List, Result, Ok, Err, refl, sym, ap}
use Rattle.drm_schedule.specs.declared.plan.Plan.{Plan}
use Rattle.plan_script.specs.declared.delivery.Delivery.{Delivery}
use Rattle.plan_script.specs.declared.fault.ScriptFault.{ScriptFault}
use Rattle.plan_script.specs.declared.fault.ScriptFault.TheVariants as script
use Rattle.plan_script.specs.Script.{ScriptTextFault, script_of_text}
use Rattle.plan_script.specs.Steps.{ReadsScript}
use Rattle.drm_links.specs.Known.{Known}
use Rattle.drm_links.specs.Shelf.{Files}
use Rattle.cmd_load.specs.declared.loading.ScheduleFault.{ScheduleFault}
use Rattle.cmd_load.specs.declared.loading.ScheduleFault.TheVariants.{NoMemory, Line, Read}
use Rattle.cmd_faults.specs.declared.fault.Fault.TheVariants as faults
use Rattle.cmd_load.specs.Faults.{fault_of_schedule, fault_of_script}
use Rattle.cmd_load.specs.Loading.{given, load_for, ReadBy, GivesUnlessMemory}
use Rattle.cmd_load.specs.Schedule.{longest_text}
use Rattle.cmd_load.specs.ScriptFaults.{text_fault_of}
use Rattle.cmd_load.specs.Scripts.{by_script, script_in, script_named}
use Rattle.cmd_load.proofs.LoadingLemmas.{LoadsOnly, given_only, load_only, then_only, ReadBy-then, ReadBy-gives}

abbrev pub lifted : {T : Type 0} → Result T ScriptFault → Result T ScheduleFault
lifted (Ok x) = Ok x
lifted (Err fault) = Err (text_fault_of fault)

by_reading : (outcome : Result (List (List Delivery)) ScriptFault) (said : Result (List (List Delivery)) ScriptTextFault) → ReadsScript outcome said → GivesUnlessMemory (lifted outcome) (by_script said)
by_reading (Ok feeds) said reads = inr (ap by_script (sym reads))
by_reading (Err script.NoMemory) said reads = inl refl
by_reading (Err (script.Line line reason)) said reads = inr (ap by_script (sym reads))

pub script_only : (plan : Plan) (name : List ℕ) → LoadsOnly (script_named plan name)
script_only plan name = then_only (load_for 0 name longest_text) (λ t. given (script_in plan t)) (load_only 0 name longest_text) (λ t. given_only (script_in plan t))

pub script_comes : (outcome : Result (List (List Delivery)) ScriptFault) (plan : Plan) (name text : List ℕ) (a b : Known Files) → ReadBy (load_for 0 name longest_text) (Ok text) a b
    → ReadsScript outcome (script_of_text plan text) → ReadBy (script_named plan name) (lifted outcome) a b
script_comes outcome plan name text a b loaded reads =
    ReadBy-then (load_for 0 name longest_text) (λ t. given (script_in plan t)) text (lifted outcome) a b b (load_only 0 name longest_text) loaded
    (ReadBy-gives (lifted outcome) (script_in plan text) b (by_reading outcome (script_of_text plan text) reads))

-- ---- which faults are those of a load

pub read_schedule : (fault : ScheduleFault) → fault_of_schedule fault ≡ faults.Read → fault ≡ Read
read_schedule NoMemory is = cc
read_schedule (Line line reason) is = cc
read_schedule Read is = refl

pub read_script : (fault : ScheduleFault) → fault_of_script fault ≡ faults.Read → fault ≡ Read
read_script NoMemory is = cc
read_script (Line line reason) is = cc
read_script Read is = refl

pub write_schedule : (fault : ScheduleFault) → fault_of_schedule fault ≡ faults.Write → ⊥
write_schedule NoMemory is = cc
write_schedule (Line line reason) is = cc
write_schedule Read is = cc

pub write_script : (fault : ScheduleFault) → fault_of_script fault ≡ faults.Write → ⊥
write_script NoMemory is = cc
write_script (Line line reason) is = cc
write_script Read is = cc
