use Rattle.std.proofs.Common.{◌≡◌, ℕ, Bool, true, List, [], ◌∷◌}
use Rattle.drm_links.specs.declared.link.Sent.{Sent}
use Rattle.drm_links.specs.declared.link.Sent.TheVariants as send
use Rattle.drm_links.specs.History.{GroupEvent, SentTo, RestedAt}
use Rattle.drm_links.specs.Calls.{Call, Rest, Send, CallsCome, up_after}
use Rattle.law_history.specs.Laws.{OneByOneDiffers}
use Rattle.law_history.proofs.laws.one_by_one_differs.Goals as goal

rest_next : (calls : List Call) (k pace : ℕ) (a : List ℕ) (answer : Sent) (rest rest' : List GroupEvent) (v : List Bool) → SentTo 0 a send.Sent ∷ rest ≡ SentTo 0 a answer ∷ rest'
    → CallsCome (up_after (true ∷ true ∷ []) 0 answer) (Rest 0 pace ∷ calls) rest' v → (more : List GroupEvent) × (rest ≡ RestedAt 0 pace ∷ more)
rest_next calls k pace a send.Sent rest rest' v is comes = (comes.0, let e = comes.1 in cc)
rest_next calls k pace a send.Failed rest rest' v is comes = absurd cc

send_next : (calls : List Call) (a : List ℕ) (answer : Sent) (rest rest' : List GroupEvent) (v : List Bool) → SentTo 0 a send.Sent ∷ rest ≡ SentTo 0 a answer ∷ rest'
    → CallsCome (up_after (true ∷ true ∷ []) 0 answer) (Send 1 a ∷ calls) rest' v → (to : Sent) × (more : List GroupEvent) × (rest ≡ SentTo 1 a to ∷ more)
send_next calls a send.Sent rest rest' v is comes = (comes.0, comes.1, let e = comes.2 in cc)
send_next calls a send.Failed rest rest' v is comes = absurd cc

differs : OneByOneDiffers
differs pace a b rest v w comes comes' =
    let one = rest_next (Send 0 b ∷ Send 1 a ∷ Rest 1 pace ∷ Send 1 b ∷ []) 0 pace a comes.0 rest comes.1 v comes.2 comes.3 in
    let other = send_next (Rest 0 pace ∷ Send 0 b ∷ Rest 1 pace ∷ Send 1 b ∷ []) a comes'.0 rest comes'.1 w comes'.2 comes'.3 in
    let p = one.1 in
    let q = other.2 in
    cc

pub returns : goal.returns
returns c = differs
