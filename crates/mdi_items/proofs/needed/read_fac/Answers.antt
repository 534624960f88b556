use Rattle.std.proofs.Common.{ℕ, List, [], ◌∷◌, subst, refl, inl}
use Rattle.std.proofs.lemmas.Result.{err_from_is_err_and}
use Rattle.drm_fac.specs.Fault.{IsFault}
use Rattle.mdi_items.specs.Names.{fac_}
use Rattle.mdi_items.specs.Table.{NoFac, Hierarchical, due_rows}
use Rattle.mdi_items.proofs.TableLemmas.{later, earlier}
use Rattle.mdi_items.proofs.needed.read_fac.Goals as goal

pub returns-in_err-bytes_of-clause-bytes : goal.returns-in_err-bytes_of-clause-bytes
returns-in_err-bytes_of-clause-bytes c = let p = err_from_is_err_and c.from_residual.result c.from_residual.ensures.1 in rw p.1 tt

pub returns-in_err-bytes_of-clause-fac : goal.returns-in_err-bytes_of-clause-fac
returns-in_err-bytes_of-clause-fac c = let p = err_from_is_err_and c.from_residual.result c.from_residual.ensures.1 in rw p.1 tt

pub returns-in_err-bytes_of-clause-fits : goal.returns-in_err-bytes_of-clause-fits
returns-in_err-bytes_of-clause-fits c = let p = err_from_is_err_and c.from_residual.result c.from_residual.ensures.1 in rw p.1 tt

pub returns-in_err-bytes_of-clause-right : goal.returns-in_err-bytes_of-clause-right
returns-in_err-bytes_of-clause-right c = let p = err_from_is_err_and c.from_residual.result c.from_residual.ensures.1 in rw p.1 tt

pub returns-in_err-bytes_of-clause-fault : goal.returns-in_err-bytes_of-clause-fault
returns-in_err-bytes_of-clause-fault c = let p = err_from_is_err_and c.from_residual.result c.from_residual.ensures.1 in rw (p.1, p.2) (earlier c.args.payload.now c.args.known.now (due_rows fac_ 72) (NoFac ∷ Hierarchical ∷ []) _ c.in_err-bytes_of.ensures.fault)

pub returns-in-Err-clause-fault : goal.returns-in-Err-clause-fault
returns-in-Err-clause-fault c =
    let fault = subst (λ (bytes : List ℕ). IsFault bytes c.in-Err.fault) c.nine-bytes.ensures c.in-Err.ensures.fault in
    later c.args.payload.now c.args.known.now (due_rows fac_ 72) (NoFac ∷ Hierarchical ∷ []) _ c.in_ok-bytes_of.ensures.right
    (inl (c.in_ok-bytes_of.field-0.now, c.in-Err.fault, c.in_ok-bytes_of.ensures.value, fault, refl))
