use Rattle.std.proofs.Common.{inl, inr, ◌∙◌, ap, Ok, Err, refl}
use Rattle.std.proofs.lemmas.Result.{err_from_is_err_and}
use Rattle.drm_links.proofs.KnownLemmas.{counts_one, counts_none}
use Rattle.cmd_faults.specs.declared.fault.Fault.TheVariants as faults
use Rattle.cmd_receive.proofs.ReceiveLemmas.{no_fault}
use Rattle.cmd_count.proofs.command.write_line.Goals as goal

pub returns-in_err-write_pieces : goal.returns-in_err-write_pieces
returns-in_err-write_pieces g c =
    let e = err_from_is_err_and c.from_residual-in_err-write_pieces.result c.from_residual-in_err-write_pieces.ensures.1 in
    rw c.in_ok-totals.was
    (record {
      line = inr (e.1 ∙ ap Err e.2, c.in_err-write_pieces.ensures.front);
      cause = counts_one (e.1 ∙ ap Err e.2) (c.in_err-write_pieces.ensures.cause.once refl);
    })

pub returns : goal.returns
returns g c =
    rw c.in_ok-totals.was
    (record {
      line = inl (ap Ok c.is_clean.ensures, c.in_ok-write_pieces.ensures.whole);
      cause = counts_none (λ is. no_fault c.is_clean.result faults.Write is) (c.in_ok-write_pieces.ensures.cause.same (λ failed. cc));
    })
