use Rattle.std.proofs.Common.{refl}
use Rattle.drm_plan.specs.Files.{filled_stream}
use Rattle.drm_plan.proofs.LookupLemmas.{set_is, past_is}
use Rattle.drm_plan.proofs.files.fill_config.Goals as goal

pub returns-then-stream-len : goal.returns-then-stream-len
returns-then-stream-len c =
    rw (c.fill_stream.ensures, set_is (filled_stream c.args.bytes) c.args.stream c.args.config.now.streams c.get_mut.result.now (rw c.len.ensures at c.if-stream-len.true) c.get_mut.ensures.value) refl

pub returns-else-stream-len : goal.returns-else-stream-len
returns-else-stream-len c =
    rw (past_is (filled_stream c.args.bytes) c.args.stream c.args.config.now.streams (rw c.len.ensures at c.if-stream-len.false)) refl
