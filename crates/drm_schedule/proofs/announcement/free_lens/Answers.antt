use Rattle.std.proofs.Common.{◌<◌, length, arith}
use Rattle.std.proofs.lemmas.List.{length-set}
use Rattle.drm_schedule.specs.Sizes.{free_bytes}
use Rattle.plan_packing.proofs.PackingLemmas.{one_more}
use Rattle.drm_schedule.proofs.announcement.free_lens.Goals as goal

pub loop-i-preserved : goal.loop-i-preserved
loop-i-preserved c =
    let within : c.loop-i.i < length c.loop-i.free = omega (arith, c.loop-i-test.true, c.requires.count, c.loop-i.invariant.1) in
    (one_more c.loop-i.free (λ n. free_bytes c.args.before.now n) c.args.first c.loop-i.i c.free_len.result within c.loop-i.invariant.0 c.free_len.ensures, rw length-set c.loop-i.invariant.1)
