use Rattle.std.proofs.Common.{arith}
use Rattle.drm_sdc.proofs.Walk.{only_field, only_fault}
use Rattle.drm_sdc.proofs.field.read_entities.Goals as goal

pub returns-clause-only : goal.returns-clause-only
returns-clause-only c = only_field c.read_field.result c.args.field.now (λ i. omega (arith, c.type_inv.field i)) c.read_field.ensures.read c.read_field.ensures.fault

pub returns-clause-named : goal.returns-clause-named
returns-clause-named c = only_fault c.read_field.result c.args.field.now (λ i. omega (arith, c.type_inv.field i)) c.read_field.ensures.read c.read_field.ensures.fault
