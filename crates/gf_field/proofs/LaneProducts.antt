-- Products of lanes by shifts and sums, lane by lane.
use Rattle.std.proofs.Common.{◌≡◌, ℕ, ◌+◌, ◌-◌, ◌*◌, ◌/◌, ◌%◌, ◌^◌, ◌<◌, zero, suc, Bool, true, false, ◌==◌, List, [], ◌∷◌, length, map, get_or, refl, sym, subst, ◌∙◌, ap, ap₂, arith, cond, replicate, bit_xor, bit_and, w8, add-one}
use Rattle.std.proofs.lemmas.Nat.{and_mask, shr-shr, xor_comm}
use Rattle.std.proofs.lemmas.Bool.{eqb-true}
use lib.Lanes.{zip2, sel_l, top, Each1}
use lib.Dec.{leb, eqb}
use mir.Val.{Fits}
use Rattle.gf_field.specs.Field.{times, IsProduct}
use Rattle.gf_field.specs.Lanes.{chosen_by}
use Rattle.gf_field.proofs.EachBelow.{each_at}
use Rattle.gf_field.proofs.Horner.{product_to, product_to-lt, shifted}
use Rattle.gf_field.proofs.Product.{product, product_is_times}
use Rattle.gf_field.proofs.Times.{is_product, two_times}

doubled_lane : (x : ℕ) → x < 256 → bit_xor (x * 2 ^ 1 % 2 ^ 8) (cond (top 7 (cond (leb 128 x) 255 0)) 29 0) ≡ shifted x
unfolding shifted
doubled_lane x lt = eqb-true _ _ (each_at 256 (λ x. bit_xor (x * 2 ^ 1 % 2 ^ 8) (cond (top 7 (cond (leb 128 x) 255 0)) 29 0) == shifted x) refl x lt)

pub doubled : (n : ℕ) (v : List ℕ) → length v ≡ n → Each1 (Fits w8) v
    → zip2 bit_xor (zip2 (λ (x y : ℕ). x * 2 ^ y % 2 ^ 8) v (replicate n 1))
    (sel_l (map (top 7) (zip2 (λ (x y : ℕ). cond (leb x y) 255 0) (replicate n 128) v)) (replicate n 29) (replicate n 0))
    ≡ map (times 2) v
doubled zero [] e fits = refl
doubled zero (x ∷ v) e fits = absurd (omega arith)
doubled (suc n) [] e fits = absurd (omega arith)
doubled (suc n) (x ∷ v) e fits =
    ap₂ (λ (y : ℕ) (ys : List ℕ). y ∷ ys) (doubled_lane x fits.0.fits ∙ sym (two_times x fits.0.fits)) (doubled n v (omega arith) fits.1)

chosen_true : (t : Bool) (y : ℕ) → cond (top 7 (cond t 255 0)) 0 y ≡ cond t 0 y
chosen_true true y = refl
chosen_true false y = refl

chosen_lane : (s x y : ℕ) → cond (top 7 (cond (eqb (bit_and (x / 2 ^ s) 1) 0) 255 0)) 0 y ≡ chosen_by s x y
chosen_lane s x y =
    chosen_true (eqb (bit_and (x / 2 ^ s) 1) 0) y ∙ ap (λ (m : ℕ). cond (eqb m 0) 0 y) (and_mask (x / 2 ^ s) 1)

pub chosen_lanes : (n s : ℕ) (a b : List ℕ) → length a ≡ n → length b ≡ n
    → sel_l (map (top 7) (zip2 (λ (x y : ℕ). cond (eqb x y) 255 0)
    (zip2 bit_and (zip2 (λ (x y : ℕ). x / 2 ^ y) a (replicate n s)) (replicate n 1)) (replicate n 0))) (replicate n 0) b
    ≡ zip2 (chosen_by s) a b
chosen_lanes zero s [] [] e f = refl
chosen_lanes zero s (x ∷ a) b e f = absurd (omega arith)
chosen_lanes zero s [] (y ∷ b) e f = absurd (omega arith)
chosen_lanes (suc n) s [] b e f = absurd (omega arith)
chosen_lanes (suc n) s (x ∷ a) [] e f = absurd (omega arith)
chosen_lanes (suc n) s (x ∷ a) (y ∷ b) e f = ap₂ (λ (z : ℕ) (zs : List ℕ). z ∷ zs) (chosen_lane s x y) (chosen_lanes n s a b (omega arith) (omega arith))

-- the product with the k highest bits of x
abbrev pub part : ℕ → ℕ → ℕ → ℕ
part k x y = product_to k (x / 2 ^ (8 - k)) y

part_step : (k x y : ℕ) → k < 8 → y < 256 → bit_xor (times 2 (part k x y)) (chosen_by (7 - k) x y) ≡ part (k + 1) x y
unfolding product_to
part_step k x y lt ly =
    let half : x / 2 ^ (7 - k) / 2 ≡ x / 2 ^ (8 - k) = shr-shr x (7 - k) 1 ∙ ap (λ (m : ℕ). x / 2 ^ m) (omega arith) in
    let low : 8 - (k + 1) ≡ 7 - k = omega arith in
    ap (λ (m : ℕ). bit_xor m (chosen_by (7 - k) x y)) (two_times (part k x y) (product_to-lt k (x / 2 ^ (8 - k)) y ly))
    ∙ xor_comm (shifted (part k x y)) (chosen_by (7 - k) x y)
    ∙ ap (λ (m : ℕ). bit_xor (chosen_by (7 - k) x y) (shifted (product_to k m y))) (sym half)
    ∙ sym (ap₂ (λ (m n : ℕ). product_to m (x / 2 ^ n) y) (add-one k) low)

pub part_lanes : (k : ℕ) (a b : List ℕ) → k < 8 → Each1 (Fits w8) b
    → zip2 bit_xor (map (times 2) (zip2 (part k) a b)) (zip2 (chosen_by (7 - k)) a b) ≡ zip2 (part (k + 1)) a b
part_lanes k [] b lt fits = refl
part_lanes k (x ∷ a) [] lt fits = refl
part_lanes k (x ∷ a) (y ∷ b) lt fits =
    ap₂ (λ (z : ℕ) (zs : List ℕ). z ∷ zs) (part_step k x y lt fits.0.fits) (part_lanes k a b lt fits.1)

pub part_none : (n : ℕ) (a b : List ℕ) → length a ≡ n → length b ≡ n → replicate n 0 ≡ zip2 (part 0) a b
unfolding product_to
part_none zero [] [] e f = refl
part_none zero (x ∷ a) b e f = absurd (omega arith)
part_none zero [] (y ∷ b) e f = absurd (omega arith)
part_none (suc n) [] b e f = absurd (omega arith)
part_none (suc n) (x ∷ a) [] e f = absurd (omega arith)
part_none (suc n) (x ∷ a) (y ∷ b) e f = ap (λ (zs : List ℕ). 0 ∷ zs) (part_none n a b (omega arith) (omega arith))

pub part_whole : (a b : List ℕ) → Each1 (Fits w8) a → Each1 (Fits w8) b → zip2 (part 8) a b ≡ zip2 times a b
unfolding product
part_whole [] b fa fb = refl
part_whole (x ∷ a) [] fa fb = refl
part_whole (x ∷ a) (y ∷ b) fa fb =
    ap₂ (λ (z : ℕ) (zs : List ℕ). z ∷ zs)
    (ap (λ (m : ℕ). product_to 8 m y) (let e : x / 2 ^ (8 - 8) ≡ x = omega arith in e) ∙ product_is_times x y fa.0.fits fb.0.fits)
    (part_whole a b fa.1 fb.1)

-- each lane of the products is one
pub product_at : (n : ℕ) (a b r : List ℕ) → r ≡ zip2 times a b → length a ≡ n → length b ≡ n → Each1 (Fits w8) a → Each1 (Fits w8) b
    → (lane : ℕ) → lane < n → IsProduct (get_or a lane 0) (get_or b lane 0) (get_or r lane 0)
product_at zero a b r e la lb fa fb lane lt = absurd (omega arith)
product_at (suc n) [] b r e la lb fa fb lane lt = absurd (omega arith)
product_at (suc n) (x ∷ a) [] r e la lb fa fb lane lt = absurd (omega arith)
product_at (suc n) (x ∷ a) (y ∷ b) r e la lb fa fb zero lt =
    is_product x y (get_or r 0 0) fa.0.fits fb.0.fits (ap (λ (zs : List ℕ). get_or zs 0 0) e)
product_at (suc n) (x ∷ a) (y ∷ b) r e la lb fa fb (suc lane) lt =
    go (product_at n a b (zip2 times a b) refl (omega arith) (omega arith) fa.1 fb.1 lane (omega arith))
  where
    go : IsProduct (get_or a lane 0) (get_or b lane 0) (get_or (zip2 times a b) lane 0) → IsProduct (get_or a lane 0) (get_or b lane 0) (get_or r (suc lane) 0)
    go h = subst (λ (c : ℕ). IsProduct (get_or a lane 0) (get_or b lane 0) c) (sym (ap (λ (zs : List ℕ). get_or zs (suc lane) 0) e)) h
