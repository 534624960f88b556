-- Items looked up among sixteen, at a position for each lane.
use Rattle.std.proofs.Common.{◌≡◌, ℕ, ◌+◌, ◌*◌, ◌/◌, ◌<◌, ◌≤◌, suc, List, [], ◌∷◌, length, refl, ap, ap₂, ◌∙◌, sym, subst, arith, get_or, map, Fits, w8}
use Rattle.std.proofs.lemmas.List.{length-map}
use Rattle.std.proofs.lemmas.Simd.{SwzOk, SwzOk-from_below, swz_l, get_or-swz_l_below}
use lib.Lanes.{Each1}

-- f is how a vector computes the position of a byte, g what it is
module _ (f g : ℕ → ℕ) (same : (byte : ℕ) → f byte ≡ g byte) (small : (byte : ℕ) → byte < 256 → g byte < 16) where
  within : (byte : ℕ) → byte < 256 → f byte < 16
  within byte lt = subst (λ (j : ℕ). j < 16) (sym (same byte)) (small byte lt)

  all_within : (bytes : List ℕ) → Each1 (Fits w8) bytes → Each1 (λ j. j < 16) (map f bytes)
  all_within [] fit = tt
  all_within (byte ∷ bytes) fit = (within byte fit.0.fits, all_within bytes fit.1)

  pub may_look_up : (bytes : List ℕ) → length bytes ≡ 16 → Each1 (Fits w8) bytes → SwzOk w8 16 16 0 (map f bytes)
  may_look_up bytes size fit = SwzOk-from_below w8 16 1 16 0 (map f bytes) (omega arith) (omega (arith, size, length-map bytes f)) (all_within bytes fit)

  pub looked_up : (i : ℕ) (items bytes : List ℕ) → i + length bytes ≤ 16 → Each1 (Fits w8) bytes
      → swz_l w8 16 items i (map f bytes) ≡ map (λ byte. get_or items (g byte) 0) bytes
  looked_up i items [] few fit = refl
  looked_up i items (byte ∷ bytes) few fit =
      let first : 16 * ((i + 0) / 16) + f byte ≡ g byte = omega (arith, few, same byte) in
      ap₂ (λ (z : ℕ) (zs : List ℕ). z ∷ zs)
      (get_or-swz_l_below w8 16 items i (f byte ∷ map f bytes) 0 (omega arith) (within byte fit.0.fits) ∙ ap (λ (k : ℕ). get_or items k 0) first)
      (looked_up (suc i) items bytes (omega (arith, few)) fit.1)
