-- What a load gives is what the files come to.
use Rattle.std.proofs.Common.{◌≡◌, ℕ, ◌<◌, ◌≤◌, ◌⊎◌, inl, inr, Bool, true, false, List, length, nat_lt, nat_eq, Option, None, Some, if◌then◌else◌, refl, ◌∙◌, ap, arith}
use Rattle.std.specs.Cmp.{nat_eq_equiv}
use Rattle.std.specs.List.{list_any}
use Rattle.std.proofs.lemmas.Map.Views.{list_any-from_Contains, Contains-from_any}
use Rattle.std.proofs.lemmas.Bool.Decides.{nat_tests}
use Rattle.drm_links.specs.Shelf.{Files, LoadGives, ShelfLoads, file_at, within, load_of}
use Rattle.drm_links.specs.declared.shelf.Loaded.{Loaded}
use Rattle.drm_links.specs.declared.shelf.Loaded.TheVariants.{Bytes, TooLong, Failed, NoMemory}
use Rattle.drm_links.proofs.AloneLemmas.{same_number}

is_too_long : (limit : ℕ) (file : List ℕ) (b : Bool) → nat_lt limit (length file) ≡ b → limit < length file → TooLong ≡ (if b then TooLong else Bytes file)
is_too_long limit file true is long = refl
is_too_long limit file false is long = absurd (grind (arith, nat_tests))

is_given : (limit : ℕ) (file : List ℕ) (b : Bool) → nat_lt limit (length file) ≡ b → length file ≤ limit → Bytes file ≡ (if b then TooLong else Bytes file)
is_given limit file true is short = absurd (grind (arith, nat_tests))
is_given limit file false is short = refl

-- the file, as a load gives it
gives_within : (loaded : Loaded) (limit : ℕ) (file : Option (List ℕ)) → LoadGives loaded limit file → (loaded ≡ NoMemory) ⊎ (loaded ≡ within limit file)
gives_within NoMemory limit file gives = inl refl
gives_within Failed limit None gives = inr refl
gives_within Failed limit (Some file) gives = cc
gives_within TooLong limit None gives = absurd gives
gives_within TooLong limit (Some file) gives = inr (is_too_long limit file _ refl gives)
gives_within (Bytes octets) limit None gives = cc
gives_within (Bytes octets) limit (Some file) gives =
    let same : octets ≡ file = cc (gives.0) in
    let short : length file ≤ limit = rw (← same) gives.1 in
    inr (ap Bytes same ∙ is_given limit file _ refl short)

is_load : (loaded : Loaded) (name : List ℕ) (limit : ℕ) (contents : Files) (b : Bool) → list_any (nat_eq contents.loads) contents.failing ≡ b → ShelfLoads loaded name limit contents → (loaded ≡ NoMemory) ⊎ (loaded ≡ (if b then Failed else within limit (file_at contents name)))
is_load NoMemory name limit contents b is loads = inl refl
is_load Failed name limit contents true is loads = inr refl
is_load Failed name limit contents false is (inl listed) = let found : list_any (nat_eq contents.loads) contents.failing ≡ true = list_any-from_Contains nat_eq_equiv contents.loads contents.failing listed in cc
is_load Failed name limit contents false is (inr gives) = gives_within Failed limit (file_at contents name) gives
is_load TooLong name limit contents true is loads = absurd (loads.0 (Contains-from_any same_number contents.loads contents.failing is))
is_load TooLong name limit contents false is loads = gives_within TooLong limit (file_at contents name) loads.1
is_load (Bytes octets) name limit contents true is loads = absurd (loads.0 (Contains-from_any same_number contents.loads contents.failing is))
is_load (Bytes octets) name limit contents false is loads = gives_within (Bytes octets) limit (file_at contents name) loads.1

-- A load is the one that is told, unless memory ran out.
pub Loads-is : (loaded : Loaded) (name : List ℕ) (limit : ℕ) (contents : Files) → ShelfLoads loaded name limit contents → (loaded ≡ NoMemory) ⊎ (loaded ≡ load_of contents name limit)
Loads-is loaded name limit contents loads = is_load loaded name limit contents _ refl loads
