use Rattle.std.proofs.Common.{◌≡◌, ◌<◌, ◌+◌, ◌∙◌, ℕ, inl, inr, Err, refl, sym, ap, subst, arith}
use Rattle.std.proofs.lemmas.Result.{err_from_is_err_and}
use Rattle.drm_schedule.specs.declared.plan.Plan.{Plan}
use Rattle.drm_server.specs.Stretch.{first_in, frames_in}
use Rattle.drm_server.proofs.StretchLemmas.{as_many}
use Rattle.drm_links.specs.Sink.{OutputsText}
use Rattle.drm_server.specs.Capture.{IsCapture, IsPrefixOfCapture}
use Rattle.drm_server.specs.Gathering.{WroteFrame, IsPrefixOfFrame}
use Rattle.drm_server.specs.ServerState.{HasFrame}
use Rattle.drm_server.proofs.SameFrame.{same_written, same_front}
use Rattle.live_server.specs.Feeding.{AreTaken, IsOneOf, HasMade, BreaksIn}
use Rattle.live_server.specs.Capture.{WroteEach}
use Rattle.live_server.proofs.GoingLemmas.{not_not, made_none, made_so, made_more, broken_off}
use Rattle.live_server.proofs.WritingLemmas.{wrote_none, wrote_more, front_written, capture_written}
use Rattle.live_server.proofs.live_capture.write_frames.Goals as goal

pub loop-n-init : goal.loop-n-init
loop-n-init g c = (
  made_none c.args.live.now c.args.server.now.base (first_in c.args.stretch) (g.I.Source.known c.args.input.now) (WroteEach (first_in c.args.stretch) 0 (g.O.Sink.known c.args.out.now) (g.O.Sink.known c.args.out.now)) (λ plan. wrote_none plan (first_in c.args.stretch) (g.O.Sink.known c.args.out.now)),
  refl,
  refl,
  refl,
  refl,
  refl,
  refl,
)

pub returns-in_err-load-clause-wrote : goal.returns-in_err-load-clause-wrote
returns-in_err-load-clause-wrote g c =
    let i = c.loop-n.invariant in
    let live = c.args.live.now in
    let first : ℕ = first_in c.args.stretch in
    let n = c.loop-n.n in
    let a = g.I.Source.known c.args.input.now in
    let d = g.I.Source.known c.load.new.feed in
    let p = err_from_is_err_and c.from_residual.result c.from_residual.ensures.1 in
    let less = c.loop-n-test.true in
    let many = c.frames_in-n-end.ensures.frames in
    let breaks = subst (λ plan. BreaksIn live plan first n a d (IsOneOf c.loop-n.ended live plan first i.0.bytes)) i.3
    (c.in_err-load.ensures.failed first n a i.0.bytes c.frame.ensures i.0.read (subst (λ plan. AreTaken c.loop-n.ended live plan first (first + n) i.0.bytes) (sym i.3) i.0.taken)) in
    rw (p.1 ∙ ap Err p.2)
    (inl (c.in_err-load.ensures.fault, n, omega (arith, less, many), broken_off live c.args.server.now.base first n c.loop-n.ended a (g.I.Source.known c.loop-n.input) (WroteEach first n (g.O.Sink.known c.args.out.now) (g.O.Sink.known c.loop-n.out)) i.0 d breaks))

pub loop-n-preserved : goal.loop-n-preserved
loop-n-preserved g c =
    let i = c.loop-n.invariant in
    let live = c.args.live.now in
    let first : ℕ = first_in c.args.stretch in
    let n = c.loop-n.n in
    let a = g.I.Source.known c.args.input.now in
    let d = g.I.Source.known c.load.new.feed in
    let x = g.O.Sink.known c.args.out.now in
    let y = g.O.Sink.known c.loop-n.out in
    let z = g.O.Sink.known c.write_frame.new.out in
    let e = c.in_ok-load.ensures in
    let wrote = c.in_ok-write_frame in
    let next = subst (λ p. HasMade live p first (n + 1) c.load.new.ended a d (λ shown. IsOneOf c.loop-n.ended live p first i.0.bytes shown × HasFrame c.load.new.server shown)) i.3
    (e.loaded first n a i.0.bytes c.frame.ensures i.0.read (subst (λ p. AreTaken c.loop-n.ended live p first (first + n) i.0.bytes) (sym i.3) i.0.taken)) in (
      made_more live c.args.server.now.base first n c.loop-n.ended a (g.I.Source.known c.loop-n.input) (WroteEach first n x y) i.0 c.load.new.ended c.load.new.server d (WroteEach first (n + 1) x z) next
          (λ other count has made.
          wrote_more other first n wrote.field-0 x y z made
          (subst (λ t. WroteFrame other t wrote.field-0 y z) (e.at ∙ c.frame.ensures) (same_written c.load.new.server other has wrote.field-0 y z wrote.ensures.whole))),
      e.cause.same (λ failed. cc) ∙ i.1,
      wrote.ensures.cause.same (λ failed. cc) ∙ i.2,
      e.base ∙ i.3,
      e.room ∙ i.4,
      refl,
      refl,
    )

pub returns-in_err-write_frame-clause-wrote : goal.returns-in_err-write_frame-clause-wrote
returns-in_err-write_frame-clause-wrote g c =
    let i = c.loop-n.invariant in
    let live = c.args.live.now in
    let plan : Plan = c.args.server.now.base in
    let stretch = c.args.stretch in
    let first : ℕ = first_in stretch in
    let n = c.loop-n.n in
    let a = g.I.Source.known c.args.input.now in
    let d = g.I.Source.known c.load.new.feed in
    let x = g.O.Sink.known c.args.out.now in
    let y = g.O.Sink.known c.loop-n.out in
    let z = g.O.Sink.known c.write_frame.new.out in
    let p = err_from_is_err_and c.from_residual-in_err-write_frame.result c.from_residual-in_err-write_frame.ensures.1 in
    let less = c.loop-n-test.true in
    let many = c.frames_in-n-end.ensures.frames in
    let within : n < frames_in stretch plan = omega (arith, less, many) in
    let e = c.in_ok-load.ensures in
    let next = subst (λ p. HasMade live p first (n + 1) c.load.new.ended a d (λ shown. IsOneOf c.loop-n.ended live p first i.0.bytes shown × HasFrame c.load.new.server shown)) i.3
    (e.loaded first n a i.0.bytes c.frame.ensures i.0.read (subst (λ p. AreTaken c.loop-n.ended live p first (first + n) i.0.bytes) (sym i.3) i.0.taken)) in
    rw (p.1 ∙ ap Err p.2)
    (inr (
      refl,
      n,
      within,
      c.load.new.ended,
      made_more live plan first n c.loop-n.ended a (g.I.Source.known c.loop-n.input) (WroteEach first n x y) i.0 c.load.new.ended c.load.new.server d (λ other. OutputsText x z (IsPrefixOfCapture other stretch)) next
          (λ other count has made.
          front_written other stretch n x y z (let many = as_many stretch other plan count in omega (arith, within, many)) made
          (subst (λ t. OutputsText y z (IsPrefixOfFrame other t)) (e.at ∙ c.frame.ensures) (same_front c.load.new.server other has y z c.in_err-write_frame.ensures.front))),
    ))

pub returns-clause-wrote : goal.returns-clause-wrote
returns-clause-wrote g c =
    let i = c.loop-n.invariant in
    let live = c.args.live.now in
    let plan : Plan = c.args.server.now.base in
    let stretch = c.args.stretch in
    let first : ℕ = first_in stretch in
    let n = c.loop-n.n in
    let a = g.I.Source.known c.args.input.now in
    let b = g.I.Source.known c.loop-n.input in
    let x = g.O.Sink.known c.args.out.now in
    let y = g.O.Sink.known c.loop-n.out in
    let many = c.frames_in-n-end.ensures.frames in
    let few = c.loop-n.auto.n-end in
    let last = c.loop-n-test.false in
    let all : n ≡ frames_in stretch plan = omega (arith, last, many, few) in
    rw (not_not c.loop-n.ended)
    (subst (λ m. HasMade live plan first m c.loop-n.ended a b (λ p. OutputsText x y (IsCapture p stretch))) all
    (made_so live plan first n c.loop-n.ended a b (WroteEach first n x y) i.0 (λ p. OutputsText x y (IsCapture p stretch))
    (λ other count made. capture_written other stretch n x y (all ∙ sym (as_many stretch other plan count)) made)))
