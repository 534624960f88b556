use Rattle.std.proofs.Common.{sym, ◌∙◌, ap, Err}
use Rattle.drm_links.proofs.KnownLemmas.{counts_as}
use Rattle.cmd_paths.specs.Faults.{fault_status}
use Rattle.cmd_paths.specs.declared.fault.PathsFault.TheVariants as faults
use Rattle.cmd_paths.proofs.StatusLemmas.{words_fault, write_fault}
use Rattle.cmd_paths.proofs.command.run_paths.Goals as goal
use Rattle.cmd_faults.proofs.CauseLemmas.{inner_fault}

pub returns-in-Err-clause-words : goal.returns-in-Err-clause-words
returns-in-Err-clause-words g c = λ is. c.in-Err.ensures.words (ap Err (words_fault c.in-Err.fault (sym c.report.ensures.status ∙ is)))

pub returns-in-Err-clause-write : goal.returns-in-Err-clause-write
returns-in-Err-clause-write g c =
    counts_as (λ is. ap Err (write_fault c.in-Err.fault (sym c.report.ensures.status ∙ is)))
    (λ is. c.report.ensures.status ∙ ap fault_status (inner_fault c.in-Err.fault faults.Write is)) c.in-Err.ensures.write
