-- A schedule under another carry: the same frames, in other datagrams.
use Rattle.dcp_pft.specs.declared.carry.Carry.{Carry}
use Rattle.drm_schedule.specs.declared.plan.Plan.{Plan}

-- the schedule with this carry in place of its own
abbrev pub under : Carry → Plan → Plan
under carry plan = record plan { carry = carry }
