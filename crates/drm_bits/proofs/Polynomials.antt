-- Sums and products of polynomials over bits.
use Rattle.std.proofs.Common.{◌≡◌, ℕ, zero, suc, ◌+◌, ◌-◌, Bool, true, false, List, [], ◌∷◌, ◌++◌, length, refl, sym, ◌∙◌, ap, arith, append_assoc, length-append}
use Rattle.std.proofs.lemmas.List.{append-nil, length-replicate, replicate-append-replicate}
use Rattle.drm_bits.specs.Crc.{plus, sum, zeros, times, product}

pub plus-false : (a : Bool) → plus a false ≡ a
plus-false true = refl
plus-false false = refl

pub plus_comm : (a b : Bool) → plus a b ≡ plus b a
plus_comm true true = refl
plus_comm true false = refl
plus_comm false true = refl
plus_comm false false = refl

pub plus_assoc : (a b c : Bool) → plus (plus a b) c ≡ plus a (plus b c)
plus_assoc true true true = refl
plus_assoc true true false = refl
plus_assoc true false c = refl
plus_assoc false b c = refl

pub plus-self : (a : Bool) → plus a a ≡ false
plus-self true = refl
plus-self false = refl

pub plus_again : (a b : Bool) → plus a (plus a b) ≡ b
plus_again true true = refl
plus_again true false = refl
plus_again false b = refl

pub sum_comm : (p q : List Bool) → sum p q ≡ sum q p
sum_comm [] [] = refl
sum_comm [] (b ∷ q) = refl
sum_comm (a ∷ p) [] = refl
sum_comm (a ∷ p) (b ∷ q) = rw (plus_comm a b, sum_comm p q) refl

pub sum_assoc : (p q r : List Bool) → sum (sum p q) r ≡ sum p (sum q r)
sum_assoc [] q r = refl
sum_assoc (a ∷ p) [] r = refl
sum_assoc (a ∷ p) (b ∷ q) [] = refl
sum_assoc (a ∷ p) (b ∷ q) (c ∷ r) = rw (plus_assoc a b c, sum_assoc p q r) refl

pub length-sum : (p q : List Bool) → length p ≡ length q → length (sum p q) ≡ length p
length-sum [] q same = refl
length-sum (a ∷ p) [] same = absurd (omega (arith, same))
length-sum (a ∷ p) (b ∷ q) same = ap suc (length-sum p q (omega (arith, same)))

pub sum-append : (p q r s : List Bool) → length p ≡ length q → sum (p ++ r) (q ++ s) ≡ sum p q ++ sum r s
sum-append [] [] r s same = refl
sum-append [] (b ∷ q) r s same = absurd (omega (arith, same))
sum-append (a ∷ p) [] r s same = absurd (omega (arith, same))
sum-append (a ∷ p) (b ∷ q) r s same = ap (λ l. plus a b ∷ l) (sum-append p q r s (omega (arith, same)))

pub sum-zeros : (p : List Bool) (n : ℕ) → length p ≡ n → sum p (zeros n) ≡ p
sum-zeros [] n same = refl
sum-zeros (a ∷ p) zero same = absurd (omega (arith, same))
sum-zeros (a ∷ p) (suc n) same = rw (plus-false a, sum-zeros p n (omega (arith, same))) refl

pub sum-self : (p : List Bool) → sum p p ≡ zeros (length p)
sum-self [] = refl
sum-self (a ∷ p) = rw (plus-self a, sum-self p) refl

-- four in another order
pub sum_pairs : (p q r s : List Bool) → sum (sum p q) (sum r s) ≡ sum (sum p r) (sum q s)
sum_pairs p q r s =
    sum_assoc p q (sum r s) ∙ (ap (λ l. sum p l) (sym (sum_assoc q r s) ∙ (ap (λ l. sum l s) (sum_comm q r) ∙ sum_assoc r q s)) ∙ sym (sum_assoc p r (sum q s)))

pub length-times : (a : Bool) (g : List Bool) → length (times a g) ≡ length g
length-times true g = refl
length-times false g = length-replicate (length g) false

pub times-sum : (a b : Bool) (g : List Bool) → sum (times a g) (times b g) ≡ times (plus a b) g
times-sum true true g = sum-self g
times-sum true false g = sum-zeros g (length g) refl
times-sum false true g = sum_comm (zeros (length g)) g ∙ sum-zeros g (length g) refl
times-sum false false g = sum-zeros (zeros (length g)) (length g) (length-replicate (length g) false)

pub zeros-push : (n : ℕ) → zeros n ++ false ∷ [] ≡ false ∷ zeros n
zeros-push zero = refl
zeros-push (suc n) = ap (λ l. false ∷ l) (zeros-push n)

one_less : (n : ℕ) → suc n - 1 ≡ n
one_less n = omega arith

-- the two summands of a product are equally long
same_size : (b a : Bool) (low q p : List Bool) → length p ≡ length q + length low → length (times b (a ∷ low) ++ zeros (length q)) ≡ suc (length p)
same_size b a low q p size =
    omega (arith, size, length-append (times b (a ∷ low)) (zeros (length q)), length-times b (a ∷ low), length-replicate (length q) false)

pub length-product : (q : List Bool) (a : Bool) (low : List Bool) → length (product q (a ∷ low)) ≡ length q + length low
length-product [] a low = length-replicate (suc (length low) - 1) false ∙ omega arith
length-product (b ∷ q) a low =
    let size = length-product q a low in
    let same = same_size b a low q (product q (a ∷ low)) size in
    length-sum (times b (a ∷ low) ++ zeros (length q)) (false ∷ product q (a ∷ low)) same ∙ omega (arith, size, same)

-- a further coefficient at the end
pub product-push : (q : List Bool) (c a : Bool) (low : List Bool) → product (q ++ c ∷ []) (a ∷ low) ≡ sum (product q (a ∷ low) ++ false ∷ []) (zeros (length q) ++ times c (a ∷ low))
product-push [] c a low =
    ap (λ l. sum l (false ∷ zeros (suc (length low) - 1))) (append-nil (times c (a ∷ low)))
    ∙ (sum_comm (times c (a ∷ low)) (false ∷ zeros (suc (length low) - 1))
    ∙ ap (λ l. sum l (times c (a ∷ low))) (sym (zeros-push (suc (length low) - 1))))
product-push (b ∷ q) c a low =
    let g : List Bool = a ∷ low in
    let front : List Bool = times b g ++ zeros (length q) in
    let last : List Bool = false ∷ [] in
    let same : length front ≡ suc (length (product q g)) = same_size b a low q (product q g) (length-product q a low) in
    let longer : length (q ++ c ∷ []) ≡ suc (length q) = omega (arith, length-append q (c ∷ [])) in
    ap (λ n. sum (times b g ++ zeros n) (false ∷ product (q ++ c ∷ []) g)) longer
    ∙ (ap (λ l. sum (times b g ++ l) (false ∷ product (q ++ c ∷ []) g)) (sym (zeros-push (length q)))
    ∙ (ap (λ l. sum l (false ∷ product (q ++ c ∷ []) g)) (sym (append_assoc (times b g) (zeros (length q)) last))
    ∙ (ap (λ l. sum (front ++ last) (false ∷ l)) (product-push q c a low)
    ∙ (sym (sum_assoc (front ++ last) (false ∷ (product q g ++ last)) (false ∷ (zeros (length q) ++ times c g)))
    ∙ ap (λ l. sum l (false ∷ (zeros (length q) ++ times c g))) (sum-append front (false ∷ product q g) last last same)))))

pub product-sum : (p q g : List Bool) → length p ≡ length q → sum (product p g) (product q g) ≡ product (sum p q) g
product-sum [] [] g same = sum-self (zeros (length g - 1)) ∙ ap zeros (length-replicate (length g - 1) false)
product-sum [] (b ∷ q) g same = absurd (omega (arith, same))
product-sum (a ∷ p) [] g same = absurd (omega (arith, same))
product-sum (a ∷ p) (b ∷ q) g same =
    let size : length p ≡ length q = omega (arith, same) in
    let zero_parts : sum (zeros (length p)) (zeros (length q)) ≡ zeros (length (sum p q)) =
    sum-zeros (zeros (length p)) (length q) (length-replicate (length p) false ∙ size) ∙ ap zeros (sym (length-sum p q size)) in
    let fronts : sum (times a g ++ zeros (length p)) (times b g ++ zeros (length q)) ≡ times (plus a b) g ++ zeros (length (sum p q)) =
    sum-append (times a g) (times b g) (zeros (length p)) (zeros (length q)) (length-times a g ∙ sym (length-times b g))
    ∙ (ap (λ l. l ++ sum (zeros (length p)) (zeros (length q))) (times-sum a b g) ∙ ap (λ l. times (plus a b) g ++ l) zero_parts) in
    sum_pairs (times a g ++ zeros (length p)) (false ∷ product p g) (times b g ++ zeros (length q)) (false ∷ product q g)
    ∙ (ap (λ l. sum l (false ∷ sum (product p g) (product q g))) fronts
    ∙ ap (λ l. sum (times (plus a b) g ++ zeros (length (sum p q))) (false ∷ l)) (product-sum p q g size))

-- no multiple but 0 is shorter than the polynomial
pub short_multiple : (q low rest : List Bool) → length rest ≡ length low → product q (true ∷ low) ≡ zeros (length q) ++ rest → rest ≡ zeros (length low)
short_multiple [] low rest size is = sym is ∙ ap zeros (one_less (length low))
short_multiple (true ∷ q) low rest size is = cc
short_multiple (false ∷ q) low rest size is =
    let p : List Bool = product q (true ∷ low) in
    let tail : sum (zeros (length low) ++ zeros (length q)) p ≡ zeros (length q) ++ rest = cc in
    let same : sum (zeros (length low) ++ zeros (length q)) p ≡ p =
    ap (λ l. sum l p) (replicate-append-replicate (length low) (length q) false)
    ∙ (sum_comm (zeros (length low + length q)) p ∙ sum-zeros p (length low + length q) (length-product q true low ∙ omega arith)) in
    short_multiple q low rest size (sym same ∙ tail)
