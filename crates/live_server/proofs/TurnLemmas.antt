-- The order in which input is read and frames are sent.
use Rattle.std.proofs.Common.{◌≡◌, ℕ, ◌==◌, Bool, true, false, List, [], ◌∷◌, ◌++◌, Option, None, Some, if◌then◌else◌, refl, sym, ap, arith, append_assoc}
use Rattle.std.proofs.lemmas.Bool.Decides.{nat_tests}
use Rattle.std.proofs.lemmas.List.{append-nil}
use Rattle.live_server.specs.Turns.{FeedTurn, Asks, with_turns, wanted, asks}

pub with_none : (told : Option (List FeedTurn)) → told ≡ with_turns [] told
with_none None = refl
with_none (Some turns) = ap Some (sym (append-nil turns))

pub with_then : (first second : List FeedTurn) (told : Option (List FeedTurn)) → with_turns second (with_turns first told) ≡ with_turns (first ++ second) told
with_then first second None = refl
with_then first second (Some turns) = ap Some (append_assoc turns first second)

-- input is asked for some bytes
pub asks_some : (len : ℕ) → (len ≡ 0 → ⊥) → asks len ≡ Asks len ∷ []
asks_some len some =
    let no : (len == 0) ≡ false = grind (arith, nat_tests) in
    ap (λ (b : Bool). if b then [] else Asks len ∷ []) no

-- a frame that asks for none
pub wants_none : (ended : Bool) (len : ℕ) → len ≡ 0 → wanted ended len ≡ 0
wants_none true len none = refl
wants_none false len none = none
