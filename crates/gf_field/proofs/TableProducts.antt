-- The tables of products and quotients by four bits.
use Rattle.std.proofs.Common.{◌≡◌, ℕ, ◌+◌, ◌-◌, ◌*◌, ◌/◌, ◌%◌, ◌<◌, ◌==◌, zero, suc, List, [], ◌∷◌, ◌++◌, length, map, refl, ap, ap₂, ◌∙◌, sym, arith, get_or, bit_xor, Fits, w8}
use Rattle.std.proofs.lemmas.Bool.{eqb-true}
use Rattle.std.proofs.lemmas.List.{get_or_append_left, get_or-append_right, length-append}
use Rattle.std.proofs.lemmas.List.FromFn.{get_or-map-range_with_len, length-map-range_with_len}
use Rattle.std.proofs.lemmas.Simd.{get_or-chunk}
use Rattle.std.specs.List.{range_with_len}
use lib.Lanes.{Each1, chunk}
use Rattle.gf_field.specs.Field.{times, polynomial_product, remainder}
use Rattle.gf_field.specs.Lanes.{of_nibbles}
use Rattle.gf_field.specs.declared.inverses.TheConstants.{INVERSES}
use Rattle.gf_field.specs.declared.nibbles.TheConstants.{NIBBLES}
use Rattle.gf_field.specs.declared.quotients.TheConstants.{QUOTIENTS}
use Rattle.gf_field.proofs.EachBelow.{each_at}
use Rattle.gf_field.proofs.TableEntries.{inverse_is}
use Rattle.gf_field.proofs.Times.{one_times, times_assoc, times_comm, times_xor}

low_products : ℕ → List ℕ
low_products f = map (λ k. times f k) (range_with_len 0 16)

high_products : ℕ → List ℕ
high_products f = map (λ k. times f (16 * k)) (range_with_len 0 16)

-- n rows, those of g f, g (f + 1) and on
rows : (ℕ → ℕ) → ℕ → ℕ → List ℕ
rows g f zero = []
rows g f (suc n) = (low_products (g f) ++ high_products (g f)) ++ rows g (suc f) n

products_are : NIBBLES ≡ rows (λ f. f) 0 256
unfolding times polynomial_product remainder rows low_products high_products
products_are = refl

inverse_at : ℕ → ℕ
inverse_at d = get_or INVERSES d 0

quotients_are : QUOTIENTS ≡ rows inverse_at 0 256
unfolding times polynomial_product remainder rows low_products high_products inverse_at
quotients_are = refl

length-low : (f : ℕ) → length (low_products f) ≡ 16
unfolding low_products
length-low f = length-map-range_with_len (λ k. times f k) 0 16

length-row : (f : ℕ) → length (low_products f ++ high_products f) ≡ 32
unfolding high_products
length-row f =
    length-append (low_products f) (high_products f)
    ∙ ap₂ (λ (m n : ℕ). m + n) (length-low f) (length-map-range_with_len (λ k. times f (16 * k)) 0 16)

row_at : (g : ℕ → ℕ) (n f i k : ℕ) → i < n → k < 32 → get_or (rows g f n) (32 * i + k) 0 ≡ get_or (low_products (g (f + i)) ++ high_products (g (f + i))) k 0
unfolding rows
row_at g zero f i k hi hk = absurd (omega arith)
row_at g (suc n) f zero k hi hk =
    ap (λ (j : ℕ). get_or (rows g f (suc n)) j 0) (let e : 32 * zero + k ≡ k = omega arith in e)
    ∙ get_or_append_left (low_products (g f) ++ high_products (g f)) (rows g (suc f) n) 0 k (let l = length-row (g f) in omega arith)
    ∙ ap (λ (h : ℕ). get_or (low_products (g h) ++ high_products (g h)) k 0) (let e : f ≡ f + zero = omega arith in e)
row_at g (suc n) f (suc i) k hi hk =
    get_or-append_right (low_products (g f) ++ high_products (g f)) (rows g (suc f) n) 32 (32 * suc i + k) 0 (length-row (g f)) (omega arith)
    ∙ ap (λ (j : ℕ). get_or (rows g (suc f) n) j 0) (let e : 32 * suc i + k - 32 ≡ 32 * i + k = omega arith in e)
    ∙ row_at g n (suc f) i k (omega arith) hk
    ∙ ap (λ (h : ℕ). get_or (low_products (g h) ++ high_products (g h)) k 0) (let e : suc f + i ≡ f + suc i = omega arith in e)

entry_at : (table : List ℕ) (g : ℕ → ℕ) → table ≡ rows g 0 256 → (f k : ℕ) → f < 256 → k < 32
    → get_or table (32 * f + k) 0 ≡ get_or (low_products (g f) ++ high_products (g f)) k 0
entry_at table g is f k hf hk =
    ap (λ (xs : List ℕ). get_or xs (32 * f + k) 0) is ∙ row_at g 256 0 f k hf hk
    ∙ ap (λ (h : ℕ). get_or (low_products (g h) ++ high_products (g h)) k 0) (let e : 0 + f ≡ f = omega arith in e)

low_at : (table : List ℕ) (g : ℕ → ℕ) → table ≡ rows g 0 256 → (f k : ℕ) → f < 256 → k < 16 → get_or table (32 * f + k) 0 ≡ times (g f) k
unfolding low_products
low_at table g is f k hf hk =
    entry_at table g is f k hf (omega arith)
    ∙ get_or_append_left (low_products (g f)) (high_products (g f)) 0 k (let l = length-low (g f) in omega arith)
    ∙ get_or-map-range_with_len (λ k. times (g f) k) 0 16 k k 0 hk (omega arith)

high_at : (table : List ℕ) (g : ℕ → ℕ) → table ≡ rows g 0 256 → (f k : ℕ) → f < 256 → k < 16 → get_or table (32 * f + 16 + k) 0 ≡ times (g f) (16 * k)
unfolding high_products
high_at table g is f k hf hk =
    ap (λ (j : ℕ). get_or table j 0) (let e : 32 * f + 16 + k ≡ 32 * f + (16 + k) = omega arith in e)
    ∙ entry_at table g is f (16 + k) hf (omega arith)
    ∙ get_or-append_right (low_products (g f)) (high_products (g f)) 16 (16 + k) 0 (length-low (g f)) (omega arith)
    ∙ ap (λ (j : ℕ). get_or (high_products (g f)) j 0) (let e : 16 + k - 16 ≡ k = omega arith in e)
    ∙ get_or-map-range_with_len (λ k. times (g f) (16 * k)) 0 16 k k 0 hk (omega arith)

two_nibbles : (x : ℕ) → x < 256 → bit_xor (x % 16) (16 * (x / 16)) ≡ x
two_nibbles x lt = eqb-true _ _ (each_at 256 (λ x. bit_xor (x % 16) (16 * (x / 16)) == x) refl x lt)

by_two_nibbles : (f x : ℕ) → x < 256 → bit_xor (times f (x % 16)) (times f (16 * (x / 16))) ≡ times f x
by_two_nibbles f x hx = sym (times_xor f (x % 16) (16 * (x / 16))) ∙ ap (times f) (two_nibbles x hx)

by_table : (table : List ℕ) (g : ℕ → ℕ) → table ≡ rows g 0 256 → (f x : ℕ) → f < 256 → x < 256
    → bit_xor (get_or table (32 * f + x % 16) 0) (get_or table (32 * f + 16 + x / 16) 0) ≡ times (g f) x
by_table table g is f x hf hx =
    ap₂ bit_xor (low_at table g is f (x % 16) hf (omega arith)) (high_at table g is f (x / 16) hf (omega arith)) ∙ by_two_nibbles (g f) x hx

pub product_is : (f x : ℕ) → f < 256 → x < 256 → bit_xor (get_or NIBBLES (32 * f + x % 16) 0) (get_or NIBBLES (32 * f + 16 + x / 16) 0) ≡ times f x
product_is f x hf hx = by_table NIBBLES (λ f. f) products_are f x hf hx

pub quotient_is : (y x : ℕ) → 0 < y → y < 256 → x < 256
    → times (bit_xor (get_or QUOTIENTS (32 * y + x % 16) 0) (get_or QUOTIENTS (32 * y + 16 + x / 16) 0)) y ≡ x
unfolding inverse_at
quotient_is y x pos hy hx =
    let i = get_or INVERSES y 0 in
    ap (λ (q : ℕ). times q y) (by_table QUOTIENTS inverse_at quotients_are y x hy hx)
    ∙ times_comm (times i x) y ∙ sym (times_assoc y i x) ∙ ap (λ (o : ℕ). times o x) (inverse_is y pos hy) ∙ one_times x hx

lane : (f x : ℕ) → f < 256 → x < 256 → bit_xor (get_or (chunk (32 * f) 16 NIBBLES) (x % 16) 0) (get_or (chunk (32 * f + 16) 16 NIBBLES) (x / 16) 0) ≡ times f x
lane f x hf hx =
    ap₂ bit_xor (get_or-chunk (32 * f) 16 NIBBLES (x % 16) 0 (omega arith)) (get_or-chunk (32 * f + 16) 16 NIBBLES (x / 16) 0 (omega arith))
    ∙ product_is f x hf hx

pub scaled_is : (f : ℕ) (v : List ℕ) → f < 256 → Each1 (Fits w8) v
    → of_nibbles (chunk (32 * f) 16 NIBBLES) (chunk (32 * f + 16) 16 NIBBLES) v ≡ map (times f) v
scaled_is f [] hf h = refl
scaled_is f (x ∷ v) hf h = ap₂ (λ (z : ℕ) (zs : List ℕ). z ∷ zs) (lane f x hf h.0.fits) (scaled_is f v hf h.1)
