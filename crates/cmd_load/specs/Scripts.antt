-- The script of a text on a shelf.
use Rattle.std.specs.Prelude.{ℕ, List, Result, Ok, Err}
use Rattle.drm_schedule.specs.declared.plan.Plan.{Plan}
use Rattle.plan_script.specs.declared.delivery.Delivery.{Delivery}
use Rattle.plan_script.specs.Script.{ScriptTextFault, script_of_text}
use Rattle.cmd_load.specs.declared.loading.ScheduleFault.{ScheduleFault}
use Rattle.cmd_load.specs.declared.loading.ScheduleFault.TheVariants.{Line}
use Rattle.cmd_load.specs.Loading.{ShelfReading, given, ◌>>=◌, load_for}
use Rattle.cmd_load.specs.Schedule.{longest_text}

-- what a text gives, or the line that is wrong
abbrev pub by_script : Result (List (List Delivery)) ScriptTextFault → Result (List (List Delivery)) ScheduleFault
by_script (Ok feeds) = Ok feeds
by_script (Err fault) = Err (Line fault.line fault.reason)

-- the feeds that a text gives for a schedule
abbrev pub script_in : Plan → List ℕ → Result (List (List Delivery)) ScheduleFault
script_in plan text = by_script (script_of_text plan text)

-- the script of this name, for a schedule
abbrev pub script_named : Plan → List ℕ → ShelfReading (List (List Delivery))
script_named plan name = do
  text ← load_for 0 name longest_text
  given (script_in plan text)
