use Rattle.std.proofs.Common.{sym, subst, All, false}
use Rattle.drm_bits.specs.declared.description.MuxDesc.{MuxDesc}
use Rattle.drm_sdc.specs.declared.body.Body.TheVariants.{Mux}
use Rattle.drm_sdc.specs.Entity.{EntityFits}
use Rattle.drm_schedule.specs.InForce.{entities_in_force}
use Rattle.drm_timeline.specs.Blocks.{current}
use Rattle.drm_timeline.proofs.OwnLemmas.{description_fits, lines_fit, each_in_force, wrote_own}
use Rattle.drm_timeline.proofs.block.write_own_entities.Goals as goal

pub write_entity-requires-clause-fits : goal.write_entity-requires-clause-fits
write_entity-requires-clause-fits c =
    subst (λ (d : MuxDesc). EntityFits (current (Mux d))) (sym c.description-desc.ensures) (description_fits c.args.config.now false c.requires.fits)

pub write_entities-requires-clause-fit : goal.write_entities-requires-clause-fit
write_entities-requires-clause-fit c = subst (All EntityFits) (sym c.entities_in_force.ensures) (lines_fit (entities_in_force c.args.config.now c.args.sf) (each_in_force c.args.config.now c.args.sf c.requires.fits))

pub returns : goal.returns
returns c =
    wrote_own c.args.config.now c.args.sf c.description-desc.result c.entities_in_force.result.now c.args.sink.now c.write_entity.new.sink c.write_entities.new.sink c.write_clock.new.sink
    c.requires.fits c.description-desc.ensures c.entities_in_force.ensures c.write_entity.ensures.wrote c.write_entity.ensures.remaining c.write_entities.ensures.wrote c.write_entities.ensures.remaining c.write_clock.ensures
