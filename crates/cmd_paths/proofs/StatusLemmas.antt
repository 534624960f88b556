-- What a status says of the fault.
use Rattle.std.proofs.Common.{◌≡◌, refl}
use Rattle.cmd_paths.specs.declared.fault.PathsFault.{PathsFault}
use Rattle.cmd_paths.specs.declared.fault.PathsFault.TheVariants as faults
use Rattle.cmd_paths.specs.Faults.{fault_status}

pub words_fault : (fault : PathsFault) → fault_status fault ≡ 2 → fault ≡ faults.Words
words_fault faults.NoMemory is = absurd (cc)
words_fault faults.Words is = refl
words_fault faults.Write is = absurd (cc)
words_fault faults.Link is = absurd (cc)
words_fault (faults.Differs path at) is = absurd (cc)

pub write_fault : (fault : PathsFault) → fault_status fault ≡ 5 → fault ≡ faults.Write
write_fault faults.NoMemory is = absurd (cc)
write_fault faults.Words is = absurd (cc)
write_fault faults.Write is = refl
write_fault faults.Link is = absurd (cc)
write_fault (faults.Differs path at) is = absurd (cc)
