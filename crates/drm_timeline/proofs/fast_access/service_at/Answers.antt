use Rattle.std.proofs.Common.{◌≡◌, ◌∙◌, sym, Some, length}
use Rattle.drm_fac.specs.Pattern as pattern
use Rattle.drm_timeline.specs.FastAccess.{audio_services, data_services}
use Rattle.drm_timeline.proofs.FastAccessLemmas.{service_there, service_fits}
use Rattle.drm_timeline.proofs.fast_access.service_at.Goals as goal

pub unreachable-requires : goal.unreachable-requires
unreachable-requires c =
    let is_service : Some c.pattern.result ≡ pattern.service_at (length (audio_services c.args.config.now)) (length (data_services c.args.config.now)) c.args.phase = rw (sym c.counts-audio.ensures.audio, sym c.counts-audio.ensures.data_count, sym c.from.ensures) c.pattern.ensures in
    service_there c.args.config.now c.args.phase c.pattern.result c.requires.services is_service (sym c.service.ensures ∙ c.in-None.is)

pub returns-clause-fits : goal.returns-clause-fits
returns-clause-fits c = service_fits c.args.config.now c.pattern.result c.in-Some.service c.requires.fits.each_service (sym c.service.ensures ∙ c.in-Some.is)
