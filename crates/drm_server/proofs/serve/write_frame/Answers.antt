use Rattle.std.proofs.Common.{◌≡◌, ◌∙◌, subst, arith}
use Rattle.std.specs.List.{concat}
use Rattle.std.proofs.lemmas.Result.{err_from_is_err_and}
use Rattle.drm_links.specs.Sink.{OutputsText, IsPrefix}
use Rattle.drm_server.specs.Gathering.{WroteFrame, IsPrefixOfFrame}
use Rattle.drm_server.specs.ServerState.{ServerState}
use Rattle.drm_server.proofs.DatagramLemmas.{first_length}
use Rattle.drm_server.proofs.CaptureLemmas.{frame_front}
use Rattle.drm_server.proofs.serve.write_frame.Goals as goal

pub returns-clause-whole : goal.returns-clause-whole
returns-clause-whole g c =
    let s = c.server.inside.loaded in
    let d = c.datagrams-datagrams in
    let a = g.O.Sink.known c.args.out.now in
    let b = g.O.Sink.known c.write_all.new.out in
    let all : OutputsText a b (λ text. text ≡ concat d.result.now) = subst (λ l. OutputsText a b (λ text. text ≡ l)) c.bytes.ensures.bytes c.in_ok-write_all.ensures.whole in
    let wrote : WroteFrame s.plan s.frame c.from.result a b = (d.result.now, d.ensures.are, c.from.ensures ∙ c.count.ensures.number, all) in
    rw (← c.server.view_is) wrote

pub returns-in_err-write_all-clause-front : goal.returns-in_err-write_all-clause-front
returns-in_err-write_all-clause-front g c =
    let s = c.server.inside.loaded in
    let d = c.datagrams-datagrams in
    let a = g.O.Sink.known c.args.out.now in
    let b = g.O.Sink.known c.write_all.new.out in
    let p = err_from_is_err_and c.from_residual.result c.from_residual.ensures.1 in
    let part : OutputsText a b (IsPrefix (concat d.result.now)) = subst (λ l. OutputsText a b (IsPrefix l)) c.bytes.ensures.bytes c.in_err-write_all.ensures.front in
    let are = d.ensures.are in
    let front : OutputsText a b (IsPrefixOfFrame s.plan s.frame) = frame_front s.plan s.frame are.0 d.result.now a b (omega (arith, d.ensures.some, first_length s.plan s.frame are.0 d.result.now are.2)) are.2 part in
    rw p.1 (subst (λ (x : ServerState). OutputsText a b (IsPrefixOfFrame x.plan x.frame)) c.server.view_is front)
