use Rattle.std.proofs.Common.{subst, [], ◌∷◌, map, cond}
use Rattle.drm_timeline.specs.Announcing.{as_next, packed_in}
use Rattle.drm_timeline.specs.Telling.{WroteEntities}
use Rattle.drm_timeline.proofs.PackedLemmas.{wrote_none_of}
use Rattle.drm_timeline.proofs.OwnLemmas.{next_fits}
use Rattle.drm_timeline.proofs.announcing.write_repeated.Goals as goal

pub write_next-requires-clause-fits : goal.write_next-requires-clause-fits
write_next-requires-clause-fits c = next_fits c.args.entity.now c.requires.fits

pub returns-else-is_of-clause-wrote : goal.returns-else-is_of-clause-wrote
unfolding packed_in
returns-else-is_of-clause-wrote c =
    subst (λ b. WroteEntities (packed_in c.args.frame c.args.free.now c.args.spot (map as_next (cond b (c.args.entity.now ∷ []) []))) c.args.sink.now c.args.sink.now)
    c.if-is_of.ensures (wrote_none_of c.args.sink.now)
