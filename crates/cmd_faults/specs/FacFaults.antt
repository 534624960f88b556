-- The fault of a run that a fault of a FAC becomes.
use Rattle.drm_fac.specs.declared.fac.FacFault.{FacFault}
use Rattle.drm_fac.specs.declared.fac.FacFault.TheVariants.{Crc}
use Rattle.cmd_faults.specs.declared.fault.Fault.{Fault}
use Rattle.cmd_faults.specs.declared.fault.Fault.TheVariants.{FacCrc}

abbrev pub fault_of : FacFault → Fault
fault_of (Crc stands computed) = FacCrc stands computed
