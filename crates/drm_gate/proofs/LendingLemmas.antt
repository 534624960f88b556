-- One send over links that are lent apart.
use Rattle.std.proofs.Common.{◌≡◌, ◌⊎◌, ℕ, zero, suc, ◌<◌, Bool, true, false, List, [], ◌∷◌, length, set, refl, sym, ◌∙◌, ap, subst, arith}
use Rattle.std.proofs.lemmas.List.{length-map, get_or-map, map-set, set-get_or}
use Rattle.std.proofs.lemmas.List.Elements.{All-get_or}
use Rattle.drm_links.specs.Known.{Known}
use Rattle.drm_links.specs.Link.{Traffic}
use Rattle.drm_links.specs.declared.link.Sent.{Sent}
use Rattle.drm_links.specs.declared.link.Sent.TheVariants as send
use Rattle.drm_links.specs.declared.member.Member.{Member}
use Rattle.drm_links.specs.MemoryGroup.{up_by}
use Rattle.drm_links.specs.Calls.{is_up, up_after}
use Rattle.drm_links.proofs.Places.{index_of}
use Rattle.drm_links.specs.Members.{AreUp}
use Rattle.drm_gate.specs.Gateway.{AllUp}
use Rattle.drm_gate.specs.Apart.{ups_of}

same_or_not : (j k : ℕ) → (j ≡ k) ⊎ (j ≡ k → ⊥)
same_or_not j k = grind arith

up_within : (u : List Bool) (k : ℕ) → is_up u k ≡ true → k < length u
up_within [] k up = absurd cc
up_within (b ∷ u) zero up = omega arith
up_within (b ∷ u) (suc k) up = let more = up_within u k up in omega (arith, more)

-- one that hasn't failed is there
pub is_there : {K : Type 0} (to : List (Member K)) (k : ℕ) → is_up (ups_of to) k ≡ true → k < length to
is_there to k up = subst (λ (n : ℕ). k < n) (length-map to (λ m. m.up)) (up_within (ups_of to) k up)

pub all_up : {K : Type 0} (to : List (Member K)) → AreUp to → AllUp (ups_of to)
all_up to are k within =
    let below : k < length to = subst (λ (n : ℕ). k < n) (length-map to (λ m. m.up)) within in
    let at = index_of to k below in
    get_or-map (λ m. m.up) to k at.0 false below ∙ All-get_or (λ m. m.up ≡ true) to k at.0 below are

module _ {K : Type 0} (known : K → Known Traffic) (to : List (Member K)) (k : ℕ) (bytes : List ℕ) (answer : Sent) (new : Member K) (within : k < length to) where
  -- and it isn't up any more where that fails
  pub up_then : is_up (ups_of to) k ≡ true → new.up ≡ up_by true answer → ups_of (set to k new) ≡ up_after (ups_of to) k answer
  up_then up is = map-set (λ (m : Member K). m.up) to k new ∙ (ap (λ (b : Bool). set (ups_of to) k b) is ∙ by answer)
    where
      by : (a : Sent) → set (ups_of to) k (up_by true a) ≡ up_after (ups_of to) k a
      by send.Sent = ap (λ (b : Bool). set (ups_of to) k b) (sym up) ∙ set-get_or (ups_of to) k false
      by send.Failed = refl
