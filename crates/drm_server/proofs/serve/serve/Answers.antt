use Rattle.std.proofs.Common.{◌≡◌, ◌∙◌, ◌+◌, ℕ, List, ◌++◌, length, take, ap, subst, arith, length-append}
use Rattle.std.proofs.lemmas.Result.{err_from_is_err_and}
use Rattle.std.specs.List.{concat}
use Rattle.drm_schedule.specs.declared.plan.Plan.{Plan}
use Rattle.drm_server.specs.Stretch.{first_in, frames_in}
use Rattle.drm_server.specs.ServerState.{ServerState}
use Rattle.drm_server.specs.Datagrams.{AreOfFrame, AreOfFrames}
use Rattle.drm_server.specs.Gathering.{GathersDatagrams}
use Rattle.drm_server.proofs.DatagramLemmas.{next_frame, at_frame, first_length}
use Rattle.drm_server.proofs.CaptureLemmas.{gathers_frame, end_written, all_written, one_or_more}
use Rattle.drm_server.proofs.serve.serve.Goals as goal

pub returns-in_err-waiting-clause-front : goal.returns-in_err-waiting-clause-front
returns-in_err-waiting-clause-front g c =
    let i = c.loop-n.invariant in
    let plan : Plan = c.args.loaded.now.base in
    let p = err_from_is_err_and c.from_residual.result c.from_residual.ensures.1 in
    rw p.1 (end_written plan c.args.stretch c.loop-n.n i.0 (take c.loop-n.waiting c.loop-n.scratch) (g.O.Sink.known c.args.out.now) (g.O.Sink.known c.loop-n.out) (g.O.Sink.known c.gather.new.out)
    (omega (arith, c.loop-n-test.true, c.frames_in-n-end.ensures.frames)) i.1 (i.3 c.in_err-waiting.ensures.at_least_one) i.2 c.in_err-waiting.ensures.front)

pub loop-n-preserved : goal.loop-n-preserved
loop-n-preserved g c =
    let i = c.loop-n.invariant in
    let plan : Plan = c.args.loaded.now.base in
    let first : ℕ = first_in c.args.stretch in
    let n : ℕ = c.loop-n.n in
    let waits : List ℕ = take c.in_ok-waiting.waiting c.gather.new.scratch in
    let then_waits : List ℕ = take c.loop-n.waiting c.loop-n.scratch in
    let b = g.O.Sink.known c.loop-n.out in
    let d = g.O.Sink.known c.gather.new.out in
    let loaded = at_frame c.loop-n.loaded c.load.new.self plan c.frame.result (first + n) c.load.ensures c.frame.ensures i.7 in
    let mine : List (List ℕ) = c.datagrams-datagrams.result.now in
    let are : AreOfFrame plan (first + n) mine = subst (λ (s : ServerState). AreOfFrame s.plan s.frame mine) loaded c.datagrams-datagrams.ensures.are in
    let gathered : GathersDatagrams then_waits (concat mine) waits b d = subst (λ l. GathersDatagrams then_waits l waits b d) c.bytes.ensures.bytes c.in_ok-waiting.ensures.gathered in
    let long : length (i.0 ++ mine) ≡ length i.0 + length mine = length-append i.0 mine in (
      i.0 ++ mine,
      next_frame plan first n i.0 mine i.1 are,
      gathers_frame i.0 mine then_waits waits (g.O.Sink.known c.args.out.now) b d i.2 gathered,
      (λ some. one_or_more plan c.args.stretch n are.0 (omega (arith, c.loop-n-test.true, c.frames_in-n-end.ensures.frames)) (omega (arith, first_length plan (first + n) are.0 mine are.2, c.datagrams-datagrams.ensures.some)) i.0 mine i.1 are.2),
      c.in_ok-waiting.ensures.within,
      c.gather.ensures.same_length ∙ i.5,
      c.in_ok-waiting.ensures.cause.same (λ failed. cc) ∙ i.6,
      ap (λ (s : ServerState). s.base) loaded,
      omega (arith, i.8, long, c.from-written.ensures, c.count.ensures.number),
      omega (arith, i.9, c.from-written.ensures, c.count.ensures.within_limit),
    )

pub returns-in_err-write_all-clause-front : goal.returns-in_err-write_all-clause-front
returns-in_err-write_all-clause-front g c =
    let i = c.loop-n.invariant in
    let plan : Plan = c.args.loaded.now.base in
    let all : c.loop-n.n ≡ frames_in c.args.stretch plan = omega (arith, c.loop-n-test.false, c.loop-n.auto.n-end, c.frames_in-n-end.ensures.frames) in
    let p = err_from_is_err_and c.from_residual-in_err-write_all.result c.from_residual-in_err-write_all.ensures.1 in
    let some = i.3 (omega arith) in
    rw p.1 (end_written plan c.args.stretch c.loop-n.n i.0 (take c.loop-n.waiting c.loop-n.scratch) (g.O.Sink.known c.args.out.now) (g.O.Sink.known c.loop-n.out) (g.O.Sink.known c.write_all.new.out)
    (omega (arith, all, some.2.within)) i.1 some i.2 c.in_err-write_all.ensures.front)

pub returns-clause-whole : goal.returns-clause-whole
returns-clause-whole g c =
    let i = c.loop-n.invariant in
    let plan : Plan = c.args.loaded.now.base in
    let all : c.loop-n.n ≡ frames_in c.args.stretch plan = omega (arith, c.loop-n-test.false, c.loop-n.auto.n-end, c.frames_in-n-end.ensures.frames) in
    all_written plan c.args.stretch i.0 (take c.loop-n.waiting c.loop-n.scratch) (g.O.Sink.known c.args.out.now) (g.O.Sink.known c.loop-n.out) (g.O.Sink.known c.write_all.new.out)
    (subst (λ k. AreOfFrames plan (first_in c.args.stretch) k i.0) all i.1) i.2 c.in_ok-write_all.ensures.whole

pub returns-clause-count : goal.returns-clause-count
returns-clause-count g c =
    let i = c.loop-n.invariant in
    let plan : Plan = c.args.loaded.now.base in
    let all : c.loop-n.n ≡ frames_in c.args.stretch plan = omega (arith, c.loop-n-test.false, c.loop-n.auto.n-end, c.frames_in-n-end.ensures.frames) in
    (i.0, subst (λ k. AreOfFrames plan (first_in c.args.stretch) k i.0) all i.1, i.8)
