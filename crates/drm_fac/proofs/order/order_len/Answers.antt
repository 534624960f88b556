use Rattle.std.proofs.Common.{◌∙◌, ap, ◌+◌, ◌*◌}
use Rattle.drm_fac.proofs.OrderLemmas.{len_audio, len_data, len_mixed}
use Rattle.drm_fac.proofs.order.order_len.Goals as goal

pub returns-in_default-eq0 : goal.returns-in_default-eq0
returns-in_default-eq0 c = len_audio c.args.audio c.args.data_count c.in_default-eq0.is-1

pub returns-in-0-default : goal.returns-in-0-default
returns-in-0-default c = len_data c.args.audio c.args.data_count c.in-0-default.is-0 c.in-0-default.is-1.1

pub returns-in_default : goal.returns-in_default
returns-in_default c =
    ap (λ n. (n + 1) * c.args.data_count) c.audio_frames.ensures
    ∙ len_mixed c.args.audio c.args.data_count c.requires c.in_default.is-0.1 c.in_default.is-1.1
