use Rattle.std.proofs.Common.{◌≡◌, ℕ, List, [], ◌∷◌, Option, Some, None, sym, subst, refl, ◌∙◌, inl}
use Rattle.std.proofs.lemmas.Result.{err_from_is_err_and}
use Rattle.mdi_items.specs.declared.known.ItemSpan.{ItemSpan}
use Rattle.mdi_items.specs.declared.fault.MdiFault.{MdiFault}
use Rattle.drm_mux.specs.Faults.{IsSdciFault}
use Rattle.mdi_items.specs.Frame.{IsAt}
use Rattle.mdi_items.specs.Names.{sdci}
use Rattle.mdi_items.specs.Table.{Absent, NoDescription, RowApplies}
use Rattle.mdi_items.proofs.TableLemmas.{later}
use Rattle.mdi_items.proofs.needed.read_description.Goals as goal

is_there : (payload : List ℕ) (known : List (Option ItemSpan)) (k : ℕ) (found : ItemSpan) → IsAt known k found → (f : MdiFault) → ¬ RowApplies payload known (Absent k) f
is_there payload known k found at f absent = let same : Some found ≡ None = sym at ∙ absent.0 in cc

pub returns-in_err-found-clause-value : goal.returns-in_err-found-clause-value
returns-in_err-found-clause-value c = let p = err_from_is_err_and c.from_residual.result c.from_residual.ensures.1 in rw p.1 tt

pub returns-in_err-found-clause-fits : goal.returns-in_err-found-clause-fits
returns-in_err-found-clause-fits c = let p = err_from_is_err_and c.from_residual.result c.from_residual.ensures.1 in rw p.1 tt

pub returns-in_err-found-clause-right : goal.returns-in_err-found-clause-right
returns-in_err-found-clause-right c = let p = err_from_is_err_and c.from_residual.result c.from_residual.ensures.1 in rw p.1 tt

pub returns-in_err-found-clause-fault : goal.returns-in_err-found-clause-fault
returns-in_err-found-clause-fault c = let p = err_from_is_err_and c.from_residual.result c.from_residual.ensures.1 in rw (p.1, p.2) (inl c.in_err-found.ensures.absent)

pub returns-in-Err-clause-fault : goal.returns-in-Err-clause-fault
returns-in-Err-clause-fault c =
    let payload : List ℕ = c.args.payload.now in
    let known : List (Option ItemSpan) = c.args.known.now in
    let found : ItemSpan = c.in_ok-found.found in
    let at : IsAt known sdci found = c.in_ok-found.ensures.found in
    let fault = subst (λ (bytes : List ℕ). IsSdciFault found.bits bytes c.in-Err.fault) c.bytes_at.ensures.value c.in-Err.ensures.fault in
    later payload known (Absent sdci ∷ []) (NoDescription ∷ []) _ (is_there payload known sdci found at, tt)
    (inl (found, c.in-Err.fault, at, fault, refl))
