use Rattle.std.proofs.Common.{map}
use Rattle.std.proofs.lemmas.List.{map-append}
use Rattle.drm_sdc.specs.Entity.{entity_size}
use Rattle.drm_schedule.specs.declared.announcement.Repeated.TheVariants.{Audio, App}
use Rattle.drm_schedule.specs.Announcement.{repeated_of}
use Rattle.plan_packing.proofs.PackingLemmas.{goes_on, stops}
use Rattle.drm_schedule.proofs.announcement.place_repeated.Goals as goal

pub returns-in_err-spot : goal.returns-in_err-spot
returns-in_err-spot c =
    rw map-append
    (stops c.args.free.now c.args.from (map entity_size (repeated_of Audio c.args.config.now)) (map entity_size (repeated_of App c.args.config.now)) _ _ c.place_all.ensures c.in_err-spot.was c.from_residual.ensures)

pub returns : goal.returns
returns c =
    rw map-append
    (goes_on c.args.free.now c.args.from c.in_ok-spot.spot (map entity_size (repeated_of Audio c.args.config.now)) (map entity_size (repeated_of App c.args.config.now)) _ _ c.place_all.ensures c.in_ok-spot.was c.place_all-2.ensures)
