use Rattle.std.proofs.Common.{◌≡◌, List, Bool, take, ◌∙◌, ap, arith, subst, false}
use Rattle.std.proofs.lemmas.List.{take_all}
use Rattle.drm_bits.specs.Fields.{spelled}
use Rattle.drm_sdc.specs.Bodies.{channel_fields}
use Rattle.drm_bits.specs.Sink.{WroteBits}
use Rattle.drm_sdc.proofs.Fitting.{channel_fits}
use Rattle.drm_bits.proofs.WroteLemmas.{each, then, wrote_none, wrote_more}
use Rattle.drm_sdc.proofs.Written.{channel_bits, channels_each}
use Rattle.drm_sdc.proofs.write_body.write_channels.Goals as goal

pub put_flag-requires : goal.put_flag-requires
put_flag-requires c = omega (arith, c.loop-channel.invariant.left, c.loop-channel-test.true, c.requires.room)

pub put_u16-requires-clause-fits : goal.put_u16-requires-clause-fits
put_u16-requires-clause-fits c = channel_fits c.args.channels.now c.loop-channel.channel-index (record { first = false; number = 0 }) c.loop-channel-test.true c.requires.fits

pub put_u16-requires-clause-room : goal.put_u16-requires-clause-room
put_u16-requires-clause-room c = omega (arith, c.loop-channel.invariant.left, c.loop-channel-test.true, c.requires.room, c.put_flag.ensures.remaining)

pub loop-channel-init : goal.loop-channel-init
loop-channel-init c = record { wrote = wrote_none c.args.sink.now; left = omega arith }

pub loop-channel-preserved : goal.loop-channel-preserved
loop-channel-preserved c =
    record {
      wrote = wrote_more channel_bits c.args.channels.now c.loop-channel.channel-index (record { first = false; number = 0 }) c.loop-channel-test.true c.loop-channel.invariant.wrote (then c.put_flag.ensures.wrote c.put_u16.ensures.wrote);
      left = omega (arith, c.loop-channel.invariant.left, c.put_flag.ensures.remaining, c.put_u16.ensures.remaining);
    }

pub returns-clause-wrote : goal.returns-clause-wrote
returns-clause-wrote c =
    let all : each channel_bits (take c.loop-channel.channel-index c.args.channels.now) ≡ spelled (channel_fields c.args.channels.now) =
    ap (each channel_bits) (take_all c.loop-channel.channel-index c.args.channels.now c.loop-channel-test.false) ∙ channels_each c.args.channels.now in
    subst (λ (l : List Bool). WroteBits l c.args.sink.now c.loop-channel.sink) all c.loop-channel.invariant.wrote
