use Rattle.std.proofs.Common.{◌≡◌, refl, sym, ◌∙◌, subst}
use Rattle.mdi_items.specs.Frame.{frame_of}
use Rattle.mdi_items.specs.Mdi.{IsMdi, IsMdiFault}
use Rattle.mod_feed.proofs.ReadingLemmas.{of_payload}
use Rattle.mod_feed.proofs.read.item_of_payload.Goals as goal

pub returns-in-Ok-clause-item : goal.returns-in-Ok-clause-item
returns-in-Ok-clause-item c = λ packet af is same.
    let here = c.in-Ok.ensures.payload in
    (refl, (af, is, same ∙ sym here, subst (λ payload. IsMdi (frame_of c.in-Ok.view) payload) (sym here) c.in-Ok.ensures.read))

pub returns-in-Err-clause-item : goal.returns-in-Err-clause-item
returns-in-Err-clause-item c = λ packet af is same.
    (refl, (af, is, subst (λ payload. IsMdiFault payload c.in-Err.fault) (sym same) c.in-Err.ensures.fault))

pub returns-in-Err-clause-read : goal.returns-in-Err-clause-read
returns-in-Err-clause-read c = of_payload c.args.payload.now c.in-Err.fault c.in-Err.ensures.fault
