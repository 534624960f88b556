use Rattle.std.proofs.Common.{[], ◌∷◌}
use Rattle.std.proofs.lemmas.Result.{err_from_is_err_and}
use Rattle.mdi_items.specs.Names.{robm}
use Rattle.mdi_items.specs.Table.{NoMode, due_rows}
use Rattle.mdi_items.proofs.TableLemmas.{earlier}
use Rattle.mdi_items.proofs.needed.read_mode.Goals as goal

pub returns-in_err-bytes-clause-value : goal.returns-in_err-bytes-clause-value
returns-in_err-bytes-clause-value c = let p = err_from_is_err_and c.from_residual.result c.from_residual.ensures.1 in rw p.1 tt

pub returns-in_err-bytes-clause-right : goal.returns-in_err-bytes-clause-right
returns-in_err-bytes-clause-right c = let p = err_from_is_err_and c.from_residual.result c.from_residual.ensures.1 in rw p.1 tt

pub returns-in_err-bytes-clause-fault : goal.returns-in_err-bytes-clause-fault
returns-in_err-bytes-clause-fault c = let p = err_from_is_err_and c.from_residual.result c.from_residual.ensures.1 in rw (p.1, p.2) (earlier c.args.payload.now c.args.known.now (due_rows robm 8) (NoMode ∷ []) _ c.in_err-bytes.ensures.fault)
