use Rattle.drm_schedule.specs.declared.announcement.Repeated.TheVariants.{Audio, App}
use Rattle.drm_schedule.specs.Announcement.{repeated_of}
use Rattle.drm_schedule.proofs.InForceLemmas.{AreOfLines, of_first, each_of_lines}
use Rattle.drm_timeline.proofs.PackedLemmas.{packs_room}
use Rattle.drm_timeline.proofs.AnnouncingLemmas.{announcement_with, after_head, behind_audio, behind_apps, some_audio, some_apps, is_announcement}
use Rattle.drm_timeline.proofs.announcing.write_packed.Goals as goal

pub write_all-spot-requires-clause-packs : goal.write_all-spot-requires-clause-packs
write_all-spot-requires-clause-packs c =
    let w = c.write_head-spot.ensures.wrote in
    some_audio (repeated_of Audio c.args.config.now) (repeated_of App c.args.config.now)
    (after_head c.args.config.now w.0 c.args.frame c.args.free.now c.write_head-spot.result c.args.sink.now c.write_head-spot.new.sink c.requires.packs w.1 c.write_head-spot.ensures.spot w.2)

pub write_all-spot-requires-clause-room : goal.write_all-spot-requires-clause-room
write_all-spot-requires-clause-room c =
    let w = c.write_head-spot.ensures.wrote in
    packs_room (after_head c.args.config.now w.0 c.args.frame c.args.free.now c.write_head-spot.result c.args.sink.now c.write_head-spot.new.sink c.requires.packs w.1 c.write_head-spot.ensures.spot w.2) c.requires.room

pub write_all-requires-clause-packs : goal.write_all-requires-clause-packs
write_all-requires-clause-packs c =
    let w = c.write_head-spot.ensures.wrote in
    some_apps (repeated_of App c.args.config.now)
    (behind_audio (repeated_of Audio c.args.config.now) (repeated_of App c.args.config.now)
    (after_head c.args.config.now w.0 c.args.frame c.args.free.now c.write_head-spot.result c.args.sink.now c.write_head-spot.new.sink c.requires.packs w.1 c.write_head-spot.ensures.spot w.2)
    c.write_all-spot.ensures.spot c.write_all-spot.ensures.wrote)

pub write_all-requires-clause-room : goal.write_all-requires-clause-room
write_all-requires-clause-room c =
    let w = c.write_head-spot.ensures.wrote in
    packs_room
    (behind_audio (repeated_of Audio c.args.config.now) (repeated_of App c.args.config.now)
    (after_head c.args.config.now w.0 c.args.frame c.args.free.now c.write_head-spot.result c.args.sink.now c.write_head-spot.new.sink c.requires.packs w.1 c.write_head-spot.ensures.spot w.2)
    c.write_all-spot.ensures.spot c.write_all-spot.ensures.wrote)
    c.requires.room

pub returns : goal.returns
returns c =
    let w = c.write_head-spot.ensures.wrote in
    let done =
    behind_apps (repeated_of App c.args.config.now)
    (behind_audio (repeated_of Audio c.args.config.now) (repeated_of App c.args.config.now)
    (after_head c.args.config.now w.0 c.args.frame c.args.free.now c.write_head-spot.result c.args.sink.now c.write_head-spot.new.sink c.requires.packs w.1 c.write_head-spot.ensures.spot w.2)
    c.write_all-spot.ensures.spot c.write_all-spot.ensures.wrote)
    c.write_all.ensures.spot c.write_all.ensures.wrote in
    record { wrote = (announcement_with c.args.config.now w.0, is_announcement c.args.config.now w.0 w.1, done.0, done.1) }

pub write_all-spot-requires-clause-each : goal.write_all-spot-requires-clause-each
write_all-spot-requires-clause-each c =
    (of_first (λ entities. AreOfLines entities) c.args.config.now.blocks c.requires.fits.some_block (each_of_lines c.args.config.now.blocks c.requires.fits.each_block)).1

pub write_all-requires-clause-each : goal.write_all-requires-clause-each
write_all-requires-clause-each c =
    (of_first (λ entities. AreOfLines entities) c.args.config.now.blocks c.requires.fits.some_block (each_of_lines c.args.config.now.blocks c.requires.fits.each_block)).1
