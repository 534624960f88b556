use Rattle.std.proofs.Common.{ap, ◌∙◌, ◌++◌, ◌∷◌, List, ℕ, append-nil}
use Rattle.std.proofs.lemmas.List.{drop-replicate}
use Rattle.rs_erase.proofs.parity.filled.Goals as goal

pub returns : goal.returns
returns c =
    ap (λ (w : List ℕ). 0 ∷ w) (append-nil c.copy_to_front.new.bytes ∙ c.copy_to_front.ensures ∙ ap (λ (z : List ℕ). c.args.chunk.now ++ z) (drop-replicate _ 207 0))
