-- The fault of a run that a fault of a schedule or of a script becomes.
use Rattle.cmd_faults.specs.declared.fault.Fault.{Fault}
use Rattle.cmd_faults.specs.declared.fault.Fault.TheVariants.{NoMemory, Schedule, Script, Read}
use Rattle.cmd_load.specs.declared.loading.ScheduleFault.{ScheduleFault}
use Rattle.cmd_load.specs.declared.loading.ScheduleFault.TheVariants as schedule

abbrev pub fault_of_schedule : ScheduleFault → Fault
fault_of_schedule schedule.NoMemory = NoMemory
fault_of_schedule (schedule.Line line reason) = Schedule line reason
fault_of_schedule schedule.Read = Read

abbrev pub fault_of_script : ScheduleFault → Fault
fault_of_script schedule.NoMemory = NoMemory
fault_of_script (schedule.Line line reason) = Script line reason
fault_of_script schedule.Read = Read
