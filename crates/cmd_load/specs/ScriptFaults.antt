-- The fault that a fault of a script becomes.
use Rattle.plan_script.specs.declared.fault.ScriptFault.{ScriptFault}
use Rattle.plan_script.specs.declared.fault.ScriptFault.TheVariants as script
use Rattle.cmd_load.specs.declared.loading.ScheduleFault.{ScheduleFault}
use Rattle.cmd_load.specs.declared.loading.ScheduleFault.TheVariants.{NoMemory, Line}

abbrev pub text_fault_of : ScriptFault → ScheduleFault
text_fault_of (script.Line line reason) = Line line reason
text_fault_of script.NoMemory = NoMemory
