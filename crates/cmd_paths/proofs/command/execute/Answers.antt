use Rattle.std.proofs.Common.{◌≡◌, inl, inr, ap, subst, Err, map, string_bytes}
use Rattle.cli_paths.specs.declared.request.PathsRequest.{PathsRequest}
use Rattle.cmd_paths.specs.Run.{PathsRun}
use Rattle.cmd_paths.proofs.RangeLemmas.{in_range}
use Rattle.cmd_paths.proofs.command.execute.Goals as goal

pub run_request-requires-after_bounds : goal.run_request-requires-after_bounds
run_request-requires-after_bounds g c κs within = in_range (map string_bytes c.args.words.now) c.in-Ok.request c.in-Ok.ensures.found

pub returns-in-Ok-clause-runs : goal.returns-in-Ok-clause-runs
returns-in-Ok-clause-runs g c = λ request line.
    let same : c.in-Ok.request ≡ request = elim (c.in-Ok.ensures.only request line) [ inl is ↦ cc | inr is ↦ absurd (cc) ] in
    inl (subst (λ (r : PathsRequest). PathsRun r c.run_request.result g.D.Dock.known c.args.dock.now c.run_request.new.dock g.O.Sink.known c.args.out.now c.run_request.new.out) same c.run_request.ensures)

pub returns-in-Err-Words-clause-runs : goal.returns-in-Err-Words-clause-runs
returns-in-Err-Words-clause-runs g c = λ request line. absurd (c.in-Err-Words.ensures.refused (ap Err c.in-Err-Words.field-0-is) request line)

pub returns-in-Err-Words-clause-words : goal.returns-in-Err-Words-clause-words
returns-in-Err-Words-clause-words g c = λ is request line. c.in-Err-Words.ensures.refused (ap Err c.in-Err-Words.field-0-is) request line
