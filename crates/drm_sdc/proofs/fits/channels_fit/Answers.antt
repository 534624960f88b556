use Rattle.std.proofs.Common.{arith, false, refl}
use Rattle.drm_sdc.proofs.Fitting.{channels_fit, channel_fits}
use Rattle.drm_sdc.proofs.fits.channels_fit.Goals as goal

pub returns-then-channel : goal.returns-then-channel
returns-then-channel c = (
  λ never. cc never,
  λ fit. absurd (omega (arith, c.if-channel.true, channel_fits c.args.channels.now c.loop-channel.channel-index (record { first = false; number = 0 }) c.loop-channel-test.true fit)),
)

pub returns : goal.returns
returns c = (
  λ always. channels_fit c.args.channels.now (λ k within. c.loop-channel.invariant k (omega (arith, within, c.loop-channel-test.false))),
  λ fit. refl,
)
