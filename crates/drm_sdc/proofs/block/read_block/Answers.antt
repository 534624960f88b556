use Rattle.std.proofs.Common.{take}
use Rattle.drm_bits.specs.Bits.{bits_of}
use Rattle.drm_sdc.proofs.BlockLaws.{only_block, only_fault}
use Rattle.drm_sdc.proofs.block.read_block.Goals as goal

pub returns-clause-only : goal.returns-clause-only
returns-clause-only c = only_block c.read_whole.result (take c.args.bits (bits_of c.args.value.now)) c.read_whole.ensures.read c.read_whole.ensures.fault

pub returns-clause-named : goal.returns-clause-named
returns-clause-named c = only_fault c.read_whole.result (take c.args.bits (bits_of c.args.value.now)) c.read_whole.ensures.read c.read_whole.ensures.fault
