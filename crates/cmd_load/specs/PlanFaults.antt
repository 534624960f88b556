-- The fault of a schedule that a fault of its text becomes.
use Rattle.plan_rules.specs.declared.fault.PlanFault.{PlanFault}
use Rattle.plan_rules.specs.declared.fault.PlanFault.TheVariants as plan
use Rattle.cmd_load.specs.declared.loading.ScheduleFault.{ScheduleFault}
use Rattle.cmd_load.specs.declared.loading.ScheduleFault.TheVariants.{NoMemory, Line}

abbrev pub schedule_fault_of : PlanFault → ScheduleFault
schedule_fault_of (plan.Line line reason) = Line line reason
schedule_fault_of plan.NoMemory = NoMemory
