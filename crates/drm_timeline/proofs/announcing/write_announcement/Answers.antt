use Rattle.std.proofs.Common.{length}
use Rattle.drm_bits.specs.Sink.{unwritten}
use Rattle.drm_timeline.proofs.AnnouncingLemmas.{packs_whole, room_whole, tells_whole}
use Rattle.drm_timeline.proofs.announcing.write_announcement.Goals as goal

pub write_packed-requires-clause-packs : goal.write_packed-requires-clause-packs
write_packed-requires-clause-packs c =
    packs_whole c.args.before.now c.args.config.now c.args.sf
    (record { count = c.from-countdown.ensures; first = c.saturating_sub.ensures; is = c.free_in_countdown-free.ensures; counting = c.requires.counting; can = c.requires.can })

pub write_packed-requires-clause-room : goal.write_packed-requires-clause-room
write_packed-requires-clause-room c =
    room_whole c.args.before.now c.args.config.now c.args.sf (length (unwritten c.args.sink.now))
    (record { count = c.from-countdown.ensures; first = c.saturating_sub.ensures; is = c.free_in_countdown-free.ensures; counting = c.requires.counting; can = c.requires.can })
    c.requires.room

pub returns : goal.returns
returns c = record {
  announces =
      tells_whole c.args.before.now c.args.config.now c.args.sf c.args.sink.now c.write_packed.new.sink
      (record { count = c.from-countdown.ensures; first = c.saturating_sub.ensures; is = c.free_in_countdown-free.ensures; counting = c.requires.counting; can = c.requires.can })
      c.write_packed.ensures.wrote;
}
