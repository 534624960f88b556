use Rattle.std.proofs.Math.ListN.{set}
use Rattle.drm_fac.specs.Fac.{IsFac}
use Rattle.drm_fac.proofs.WrittenFac.{fac_written, fac_once}
use Rattle.drm_fac.proofs.fac.encode.Goals as goal

-- what is written is the FAC
written : (c : goal.After-crc8) → IsFac c.args.fac.now (set c.write_parameters.new.into 8 c.crc8.result)
written c = fac_written c.args.fac.now c.write_parameters.new.into c.crc8.result c.write_parameters.array_long c.write_parameters.ensures.bytes c.requires c.write_parameters.ensures.bits c.crc8.type_inv c.crc8.ensures.check

pub returns-clause-bytes : goal.returns-clause-bytes
returns-clause-bytes c = written c

pub returns-clause-only : goal.returns-clause-only
returns-clause-only c = λ bytes is. fac_once c.args.fac.now bytes (set c.write_parameters.new.into 8 c.crc8.result) is (written c)
