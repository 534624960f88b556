use Rattle.std.proofs.Common.{refl}
use Rattle.drm_plan.proofs.LookupLemmas.{at_is}
use Rattle.drm_plan.proofs.FileLemmas.{with_file_fits}
use Rattle.drm_plan.proofs.draft.Draft.attach.Goals as goal

pub invariant_of-self : goal.invariant_of-self
invariant_of-self c = rw c.put_bytes.ensures (with_file_fits c.get-file.result.now c.args.bytes c.self.inside.plan c.self.invariant)

pub returns : goal.returns
returns c =
    let found = at_is c.args.k c.self.inside.files c.get-file.result.now (rw (← c.self.view_is) at c.requires.file) c.get-file.ensures in
    rw (← c.self.view_is, found, c.put_bytes.ensures) refl
