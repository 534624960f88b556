use Rattle.std.proofs.Common.{◌≡◌, inl, ap, Err, map, string_bytes}
use Rattle.drm_top.proofs.RangeLemmas.{in_range}
use Rattle.drm_top.proofs.WordsLemmas.{request_read}
use Rattle.drm_top.proofs.command.execute.Goals as goal

pub run_command-requires-clause-range : goal.run_command-requires-clause-range
run_command-requires-clause-range g c = λ lifetimes within. in_range c.in-Ok.request (map string_bytes c.args.words.now) c.in-Ok.ensures.found c.in-Ok.ensures.text

pub returns-in-Ok-clause-runs : goal.returns-in-Ok-clause-runs
returns-in-Ok-clause-runs g c = λ request asked.
    let same : c.in-Ok.request ≡ request = request_read c.in-Ok.request request (c.in-Ok.ensures.only request asked) in
    inl (rw (← same) c.run_command.ensures.run)

pub returns-in-Ok-clause-link : goal.returns-in-Ok-clause-link
returns-in-Ok-clause-link g c = λ is. (c.in-Ok.request, c.run_command.ensures.link is, c.in-Ok.ensures.found)

pub returns-in-Ok-clause-dock : goal.returns-in-Ok-clause-dock
returns-in-Ok-clause-dock g c = λ none. c.run_command.ensures.dock (λ opens. none c.in-Ok.request opens c.in-Ok.ensures.found)

pub returns-in-Ok-clause-lacking : goal.returns-in-Ok-clause-lacking
returns-in-Ok-clause-lacking g c = λ is. (c.in-Ok.request, c.run_command.ensures.lacking is, c.in-Ok.ensures.found)

pub returns-in-Err-Words-clause-runs : goal.returns-in-Err-Words-clause-runs
returns-in-Err-Words-clause-runs g c = λ request asked. absurd (c.in-Err-Words.ensures.refused (ap Err c.in-Err-Words.field-0-is) request asked)

pub returns-in-Err-Words-clause-words : goal.returns-in-Err-Words-clause-words
returns-in-Err-Words-clause-words g c = λ is request asked. c.in-Err-Words.ensures.refused (ap Err c.in-Err-Words.field-0-is) request asked
