use Rattle.std.proofs.Common.{◌≡◌, ◌∙◌, ap, sym, length, Some}
use Rattle.drm_fac.specs.declared.order.Slot.{Slot}
use Rattle.drm_fac.specs.Pattern.{before_data}
use Rattle.drm_fac.proofs.OrderLemmas.{at_audio, at_data, at_mixed, is_audio, is_data}
use Rattle.drm_fac.proofs.order.at_place.Goals as goal

pub returns-in_default-eq0 : goal.returns-in_default-eq0
returns-in_default-eq0 c = at_audio c.args.audio c.args.data_count c.args.place c.in_default-eq0.is-1 c.requires.place

pub returns-in-0-default : goal.returns-in-0-default
returns-in-0-default c = at_data c.args.audio c.args.data_count c.args.place c.in-0-default.is-0 c.in-0-default.is-1.1 c.requires.place

pub returns-then-in_group-audio_frames : goal.returns-then-in_group-audio_frames
returns-then-in_group-audio_frames c =
    let turns : c.audio_frames-audio_frames.result ≡ length (before_data c.args.audio) = c.audio_frames-audio_frames.ensures in
    rw turns (ap (λ (s : Slot). Some s) (sym (is_audio c.args.audio c.args.place (rw (sym turns) c.if-in_group-audio_frames.true)))
    ∙ at_mixed c.args.audio c.args.data_count c.args.place c.requires.code c.in_default.is-0.1 c.in_default.is-1.1 c.requires.place)

pub returns-else-in_group-audio_frames : goal.returns-else-in_group-audio_frames
returns-else-in_group-audio_frames c =
    let turns : c.audio_frames-audio_frames.result ≡ length (before_data c.args.audio) = c.audio_frames-audio_frames.ensures in
    rw turns (ap (λ (s : Slot). Some s) (sym (is_data c.args.audio c.args.place (rw (sym turns) c.if-in_group-audio_frames.false)))
    ∙ at_mixed c.args.audio c.args.data_count c.args.place c.requires.code c.in_default.is-0.1 c.in_default.is-1.1 c.requires.place)
