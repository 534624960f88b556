use Rattle.std.proofs.Common.{take}
use Rattle.drm_bits.specs.Bits.{bits_of}
use Rattle.drm_sdc.proofs.BlockLaws.{only_info, only_info_fault}
use Rattle.drm_sdc.proofs.block.check_block.Goals as goal

pub returns-clause-only : goal.returns-clause-only
returns-clause-only c = only_info c.check_whole.result (take c.args.bits (bits_of c.args.value.now)) c.check_whole.ensures.right c.check_whole.ensures.fault

pub returns-clause-named : goal.returns-clause-named
returns-clause-named c = only_info_fault c.check_whole.result (take c.args.bits (bits_of c.args.value.now)) c.check_whole.ensures.right c.check_whole.ensures.fault
