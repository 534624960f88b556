use Rattle.drm_bits.proofs.Checks.{crc16_of_nothing}
use Rattle.drm_bits.proofs.crc_run.CrcRun.start.Goals as goal

pub returns : goal.returns
returns c = crc16_of_nothing
