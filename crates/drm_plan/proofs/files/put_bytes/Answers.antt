use Rattle.std.proofs.Common.{refl}
use Rattle.drm_plan.specs.Files.{filled_config}
use Rattle.drm_plan.proofs.LookupLemmas.{set_is, past_is}
use Rattle.drm_plan.proofs.files.put_bytes.Goals as goal

pub returns-then-file-len : goal.returns-then-file-len
returns-then-file-len c =
    rw (c.fill_config.ensures, set_is (filled_config c.args.file.stream c.args.bytes) c.args.file.config c.args.plan.now.configs c.get_mut.result.now (rw c.len.ensures at c.if-file-len.true) c.get_mut.ensures.value) refl

pub returns-else-file-len : goal.returns-else-file-len
returns-else-file-len c =
    rw (past_is (filled_config c.args.file.stream c.args.bytes) c.args.file.config c.args.plan.now.configs (rw c.len.ensures at c.if-file-len.false)) refl
