use Rattle.std.proofs.Common.{arith}
use Rattle.drm_sdc.proofs.WrittenField.{field_fits, field_size}
use Rattle.test_formats.proofs.blocks_written.written.Goals as goal

pub write_block-requires-clause-fit : goal.write_block-requires-clause-fit
write_block-requires-clause-fit c = field_fits _ _ _ c.in-Ok.ensures.read

pub write_block-requires-clause-in_range : goal.write_block-requires-clause-in_range
write_block-requires-clause-in_range c = omega (arith, field_size _ _ _ c.in-Ok.ensures.read, c.well_formed)
