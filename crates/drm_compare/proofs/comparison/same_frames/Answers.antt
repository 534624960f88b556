use Rattle.std.proofs.Common.{◌∙◌, ap, sym, below_more}
use Rattle.std.proofs.lemmas.Bool.{true≢false}
use Rattle.drm_server.specs.Placed.{PlacedFrame}
use Rattle.drm_compare.specs.Agreement.{SameDatagrams}
use Rattle.drm_compare.proofs.Counted.{of_schedules}
use Rattle.drm_compare.proofs.comparison.same_frames.Goals as goal

pub returns-then-not-have_same_datagrams-clause-first_other : goal.returns-then-not-have_same_datagrams-clause-first_other
returns-then-not-have_same_datagrams-clause-first_other c = λ within within' same.
    let decides =
    of_schedules c.have_same_datagrams.result c.load.new.self c.load-in-loop-t.new.self c.loop-t.mine.plan c.loop-t.theirs.plan c.args.mine.now.plan c.args.theirs.now.plan c.loop-t.t
    c.load.ensures c.load-in-loop-t.ensures c.loop-t.invariant.mine c.loop-t.invariant.theirs c.have_same_datagrams.ensures in
    true≢false (sym (decides.1 same) ∙ c.if-not-have_same_datagrams.true)

pub loop-t-preserved : goal.loop-t-preserved
loop-t-preserved c =
    let decides =
    of_schedules c.have_same_datagrams.result c.load.new.self c.load-in-loop-t.new.self c.loop-t.mine.plan c.loop-t.theirs.plan c.args.mine.now.plan c.args.theirs.now.plan c.loop-t.t
    c.load.ensures c.load-in-loop-t.ensures c.loop-t.invariant.mine c.loop-t.invariant.theirs c.have_same_datagrams.ensures in
    record {
      mine = ap (λ (x : PlacedFrame). x.plan) c.load.ensures ∙ c.loop-t.invariant.mine;
      theirs = ap (λ (x : PlacedFrame). x.plan) c.load-in-loop-t.ensures ∙ c.loop-t.invariant.theirs;
      within = c.loop-t.invariant.within;
      within_other = c.loop-t.invariant.within_other;
      same = below_more (SameDatagrams c.args.mine.now.plan c.args.theirs.now.plan) c.loop-t.t c.loop-t.invariant.same (decides.0 c.if-not-have_same_datagrams.false);
    }
