use Rattle.std.proofs.Common.{◌≡◌, ◌∙◌, false, inr, Err, refl, sym, ap}
use Rattle.std.proofs.lemmas.Result.{err_from_is_err_and}
use Rattle.drm_schedule.specs.Live.{is_any}
use Rattle.drm_links.specs.Sink.{OutputsText}
use Rattle.drm_server.specs.Stretch.{first_in, frames_in}
use Rattle.drm_server.specs.Capture.{IsCapture, IsPrefixOfCapture}
use Rattle.live_server.proofs.NothingLemmas.{made_own}
use Rattle.live_server.proofs.live_capture.serve_live_sink.Goals as goal

pub returns-in_err-serve_sink-clause-wrote : goal.returns-in_err-serve_sink-clause-wrote
returns-in_err-serve_sink-clause-wrote g c =
    let plain : is_any c.args.live.now ≡ false = sym c.any.ensures ∙ c.if-any.false in
    let p = err_from_is_err_and c.from_residual.result c.from_residual.ensures.1 in
    rw (p.1 ∙ ap Err p.2)
    (inr (
      refl,
      0,
      c.in_err-serve_sink.ensures.begun,
      false,
      made_own c.args.live.now (c.none_is_live.ensures plain) c.args.server.now.base (first_in c.args.stretch) 1 (g.I.Source.known c.args.input.now)
          (λ p. OutputsText (g.O.Sink.known c.args.out.now) (g.O.Sink.known c.serve_sink.new.out) (IsPrefixOfCapture p c.args.stretch)) c.in_err-serve_sink.ensures.front,
    ))

pub returns-clause-wrote : goal.returns-clause-wrote
returns-clause-wrote g c =
    let plain : is_any c.args.live.now ≡ false = sym c.any.ensures ∙ c.if-any.false in
    let plan = c.args.server.now.base in
    made_own c.args.live.now (c.none_is_live.ensures plain) plan (first_in c.args.stretch) (frames_in c.args.stretch plan) (g.I.Source.known c.args.input.now)
    (λ p. OutputsText (g.O.Sink.known c.args.out.now) (g.O.Sink.known c.serve_sink.new.out) (IsCapture p c.args.stretch)) c.in_ok-serve_sink.ensures.whole
