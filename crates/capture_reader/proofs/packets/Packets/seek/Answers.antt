use Rattle.std.proofs.Common.{rules, ◌∙◌, subst, true, Ok}
use Rattle.std.proofs.lemmas.Result.{err_from_is_err_and}
use Rattle.capture_reader.specs.Front.{Cut, BytesBegin}
use Rattle.capture_reader.specs.Fetching.{FetchesBytes}
use Rattle.capture_reader.specs.Walking.{WalkerState, IsPacketCut}
use Rattle.capture_reader.proofs.FetchingLemmas.{fetched_then, finds_broken}
use Rattle.capture_reader.proofs.packets.Packets.seek.Goals as goal

pub returns-in_err-fetch-clause-finds : goal.returns-in_err-fetch-clause-finds
returns-in_err-fetch-clause-finds g c =
    let p = err_from_is_err_and c.from_residual.result c.from_residual.ensures.1 in
    let cut : IsPacketCut c.loop-size.self = (c.in-Cut.field-0, subst (λ (w : WalkerState). BytesBegin w.held (Cut c.in-Cut.field-0)) c.self-in-loop-size.view_is c.in-Cut.ensures) in
    let broken = finds_broken c.args.self.now c.loop-size.self c.fetch.new.self (g.I.Source.known c.args.input.now) (g.I.Source.known c.loop-size.input) (g.I.Source.known c.fetch.new.input)
    c.in_err-fetch.field-0.0 c.loop-size.invariant.fetched cut c.in_err-fetch.ensures.fetches in
    rw (p.1, p.2) broken

pub loop-size-preserved : goal.loop-size-preserved
loop-size-preserved g c =
    let known = g.I.Source.known in
    let more : FetchesBytes (Ok true) c.loop-size.self c.fetch.new.self (known c.loop-size.input) (known c.fetch.new.input) =
    subst (λ b. FetchesBytes (Ok b) c.loop-size.self c.fetch.new.self (known c.loop-size.input) (known c.fetch.new.input)) c.if-not-branch.false c.in_ok-fetch.ensures.fetches in
    record {
      fetched = fetched_then c.args.self.now c.loop-size.self c.fetch.new.self (known c.args.input.now) (known c.loop-size.input) (known c.fetch.new.input) c.loop-size.invariant.fetched more.0;
      same = c.in_ok-fetch.ensures.cause.same (λ failed. cc) ∙ c.loop-size.invariant.same;
      still = search rules;
    }
