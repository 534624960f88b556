use Rattle.std.proofs.Common.{◌∷◌, [], length, map}
use Rattle.drm_sdc.specs.Entity.{entity_size}
use Rattle.drm_schedule.specs.Sizes.{description_size}
use Rattle.plan_packing.specs.Packing.{front}
use Rattle.drm_schedule.specs.Announcement.{all_repeated, parameters_size}
use Rattle.plan_packing.proofs.PackingLemmas.{goes_on, stops}
use Rattle.drm_schedule.proofs.InForceLemmas.{AreOfLines, of_first, each_of_lines}
use Rattle.drm_schedule.proofs.announcement.pack.Goals as goal

pub place_repeated-requires : goal.place_repeated-requires
place_repeated-requires c =
    (of_first (λ entities. AreOfLines entities) c.args.config.now.blocks c.requires.some_block (each_of_lines c.args.config.now.blocks c.requires.each_block)).1

pub returns-in_err-spot : goal.returns-in_err-spot
returns-in_err-spot c =
    stops c.args.free.now front (description_size (length c.args.config.now.streams) ∷ parameters_size ∷ []) (map entity_size (all_repeated c.args.config.now)) _ _ c.place_head.ensures c.in_err-spot.was c.from_residual.ensures

pub returns : goal.returns
returns c =
    goes_on c.args.free.now front c.in_ok-spot.spot (description_size (length c.args.config.now.streams) ∷ parameters_size ∷ []) (map entity_size (all_repeated c.args.config.now)) _ _ c.place_head.ensures c.in_ok-spot.was c.place_repeated.ensures
