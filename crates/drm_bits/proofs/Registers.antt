-- A register that is shifted bit by bit keeps the check value of the bits so far.
use Rattle.std.proofs.Common.{◌≡◌, ℕ, suc, ◌+◌, ◌<◌, Bool, true, false, List, [], ◌∷◌, ◌++◌, length, refl, sym, ◌∙◌, ap, arith, append_assoc, length-append, replicate, subst}
use Rattle.std.proofs.lemmas.List.{append-nil, length-replicate}
use Rattle.drm_bits.specs.Crc.{plus, sum, zeros, times, product, IsMultiple, prepared}
use Rattle.drm_bits.proofs.Polynomials.{plus-false, plus_again, sum_comm, sum_assoc, sum-append, sum-zeros, sum-self, sum_pairs, length-sum, length-times, zeros-push, length-product, product-push, product-sum, short_multiple}

-- The register takes one bit: it is shifted, and the polynomial is added where a 1 fell out. `low` is the polynomial
-- without its first coefficient.
abbrev pub step : List Bool → List Bool → Bool → List Bool
step low [] bit = []
step low (top ∷ others) bit = sum (others ++ false ∷ []) (times (plus top bit) low)

abbrev pub run : List Bool → List Bool → List Bool → List Bool
run low register [] = register
run low register (bit ∷ bits) = run low (step low register bit) bits

-- the register is the rest that the bits so far leave
abbrev pub Keeps : List Bool → List Bool → List Bool → Type 0
Keeps low bits register = IsMultiple (true ∷ low) (sum (prepared (length low) bits) (zeros (length bits) ++ register))

pub length-step : (low register : List Bool) (bit : Bool) → length register ≡ length low → length (step low register bit) ≡ length low
length-step low [] bit size = size
length-step low (top ∷ others) bit size =
    let shifted : length (others ++ false ∷ []) ≡ length low = omega (arith, length-append others (false ∷ []), size) in
    length-sum (others ++ false ∷ []) (times (plus top bit) low) (shifted ∙ sym (length-times (plus top bit) low)) ∙ shifted

pub length-run : (low register bits : List Bool) → length register ≡ length low → length (run low register bits) ≡ length low
length-run low register [] size = size
length-run low register (bit ∷ bits) size = length-run low (step low register bit) bits (length-step low register bit size)

pub run-append : (low register front back : List Bool) → run low register (front ++ back) ≡ run low (run low register front) back
run-append low register [] back = refl
run-append low register (bit ∷ front) back = run-append low (step low register bit) front back

pub sum_swap : (p q r : List Bool) → sum (sum p q) r ≡ sum (sum p r) q
sum_swap p q r = sum_assoc p q r ∙ (ap (λ l. sum p l) (sum_comm q r) ∙ sym (sum_assoc p r q))

pub times-cons : (c : Bool) (low : List Bool) → times c (true ∷ low) ≡ c ∷ times c low
times-cons true low = refl
times-cons false low = refl

pub length-prepared : (w : ℕ) (bits : List Bool) → length (prepared w bits) ≡ length bits + w
length-prepared w bits =
    let same : length (bits ++ zeros w) ≡ length (replicate w true ++ zeros (length bits)) =
    omega (arith, length-append bits (zeros w), length-append (replicate w true) (zeros (length bits)), length-replicate w false, length-replicate w true, length-replicate (length bits) false) in
    length-sum (bits ++ zeros w) (replicate w true ++ zeros (length bits)) same ∙ omega (arith, length-append bits (zeros w), length-replicate w false)

-- as many coefficients as the polynomial has are gone from the quotient
pub length-quotient : (low bits register : List Bool) → length register ≡ length low → (keeps : Keeps low bits register) → length keeps.0 ≡ length bits
length-quotient low bits register size keeps =
    let whole : length (zeros (length bits) ++ register) ≡ length bits + length low = omega (arith, length-append (zeros (length bits)) register, length-replicate (length bits) false, size) in
    let first : length (sum (prepared (length low) bits) (zeros (length bits) ++ register)) ≡ length bits + length low =
    length-sum (prepared (length low) bits) (zeros (length bits) ++ register) (length-prepared (length low) bits ∙ sym whole) ∙ length-prepared (length low) bits in
    let second : length (product keeps.0 (true ∷ low)) ≡ length keeps.0 + length low = length-product keeps.0 true low in
    omega (arith, first, second, ap length keeps.1)

-- at the start
pub Keeps-start : (low : List Bool) → Keeps low [] (replicate (length low) true)
Keeps-start low =
    let w : ℕ = length low in
    let ones : List Bool = replicate w true in (
      [],
      ap (λ l. sum (sum (zeros w) l) ones) (append-nil ones)
          ∙ (sum_assoc (zeros w) ones ones
          ∙ (ap (λ l. sum (zeros w) l) (sum-self ones ∙ ap zeros (length-replicate w true))
          ∙ (sum-zeros (zeros w) w (length-replicate w false) ∙ ap zeros (omega arith)))),
    )

-- the prepared bits, with one bit more
prepared-push : (w : ℕ) (bits : List Bool) (bit : Bool) → prepared w (bits ++ bit ∷ []) ≡ sum (prepared w bits ++ false ∷ []) (zeros (length bits) ++ (bit ∷ zeros w))
prepared-push w bits bit =
    let n : ℕ = length bits in
    let last : List Bool = false ∷ [] in
    let ones : List Bool = replicate w true in
    let more : List Bool = zeros n ++ (bit ∷ zeros w) in
    let longer : length (bits ++ bit ∷ []) ≡ suc n = omega (arith, length-append bits (bit ∷ [])) in
    let front : sum ((bits ++ zeros w) ++ last) more ≡ (bits ++ bit ∷ []) ++ zeros w =
    ap (λ l. sum l more) (append_assoc bits (zeros w) last ∙ ap (λ l. bits ++ l) (zeros-push w))
    ∙ (sum-append bits (zeros n) (false ∷ zeros w) (bit ∷ zeros w) (sym (length-replicate n false))
    ∙ (ap (λ l. l ++ (bit ∷ sum (zeros w) (zeros w))) (sum-zeros bits n refl)
    ∙ (ap (λ l. bits ++ (bit ∷ l)) (sum-zeros (zeros w) w (length-replicate w false))
    ∙ sym (append_assoc bits (bit ∷ []) (zeros w))))) in
    let mask : (ones ++ zeros n) ++ last ≡ ones ++ zeros (length (bits ++ bit ∷ [])) =
    append_assoc ones (zeros n) last ∙ ap (λ l. ones ++ l) (zeros-push n ∙ ap zeros (sym longer)) in
    let same : length (bits ++ zeros w) ≡ length (ones ++ zeros n) =
    omega (arith, length-append bits (zeros w), length-append ones (zeros n), length-replicate w false, length-replicate w true, length-replicate n false) in
    ap (λ l. sum l (ones ++ zeros (length (bits ++ bit ∷ [])))) (sym front)
    ∙ (ap (λ l. sum (sum ((bits ++ zeros w) ++ last) more) l) (sym mask)
    ∙ (sum_swap ((bits ++ zeros w) ++ last) more ((ones ++ zeros n) ++ last)
    ∙ ap (λ l. sum l more) (sum-append (bits ++ zeros w) (ones ++ zeros n) last last same)))

-- one bit more
pub Keeps-step : (low bits register : List Bool) (bit : Bool) → 0 < length low → length register ≡ length low → Keeps low bits register → Keeps low (bits ++ bit ∷ []) (step low register bit)
Keeps-step low bits [] bit some size keeps = absurd (omega (arith, some, size))
Keeps-step low bits (top ∷ others) bit some size (q, is) =
    let n : ℕ = length bits in
    let w : ℕ = length low in
    let last : List Bool = false ∷ [] in
    let c : Bool = plus top bit in
    let g : List Bool = true ∷ low in
    let now : List Bool = sum (others ++ last) (times c low) in
    let more : List Bool = zeros n ++ (bit ∷ zeros w) in
    let before : List Bool = zeros n ++ (top ∷ others) in
    let added : List Bool = zeros n ++ times c g in
    let before_them : List Bool = prepared w bits in
    let longer : length (bits ++ bit ∷ []) ≡ suc n = omega (arith, length-append bits (bit ∷ [])) in
    let quotient : length q ≡ n = length-quotient low bits (top ∷ others) size (q, is) in
    let zero_sum : sum (zeros n) (zeros n) ≡ zeros n = sum-zeros (zeros n) n (length-replicate n false) in
    let size_now : length now ≡ w = length-step low (top ∷ others) bit size in
    let shifted : zeros (length (bits ++ bit ∷ [])) ++ now ≡ zeros n ++ (false ∷ now) =
    ap (λ k. zeros k ++ now) longer ∙ (ap (λ l. l ++ now) (sym (zeros-push n)) ∙ append_assoc (zeros n) last now) in
    let left : sum more (zeros n ++ (false ∷ now)) ≡ zeros n ++ (bit ∷ now) =
    sum-append (zeros n) (zeros n) (bit ∷ zeros w) (false ∷ now) refl
    ∙ (ap (λ l. l ++ (plus bit false ∷ sum (zeros w) now)) zero_sum
    ∙ (ap (λ b. zeros n ++ (b ∷ sum (zeros w) now)) (plus-false bit)
    ∙ ap (λ l. zeros n ++ (bit ∷ l)) (sum_comm (zeros w) now ∙ sum-zeros now w size_now))) in
    let right : sum (before ++ last) added ≡ zeros n ++ (bit ∷ now) =
    ap (λ l. sum l added) (append_assoc (zeros n) (top ∷ others) last)
    ∙ (sum-append (zeros n) (zeros n) (top ∷ (others ++ last)) (times c g) refl
    ∙ (ap (λ l. l ++ sum (top ∷ (others ++ last)) (times c g)) zero_sum
    ∙ (ap (λ l. zeros n ++ sum (top ∷ (others ++ last)) l) (times-cons c low)
    ∙ ap (λ b. zeros n ++ (b ∷ now)) (plus_again top bit)))) in
    let whole : length before_them ≡ length before = length-prepared w bits ∙ omega (arith, length-append (zeros n) (top ∷ others), length-replicate n false, size) in (
      q ++ c ∷ [],
      ap (λ l. sum l (zeros (length (bits ++ bit ∷ [])) ++ now)) (prepared-push w bits bit)
          ∙ (ap (λ l. sum (sum (before_them ++ last) more) l) shifted
          ∙ (sum_assoc (before_them ++ last) more (zeros n ++ (false ∷ now))
          ∙ (ap (λ l. sum (before_them ++ last) l) (left ∙ sym right)
          ∙ (sym (sum_assoc (before_them ++ last) (before ++ last) added)
          ∙ (ap (λ l. sum l added) (sum-append before_them before last last whole)
          ∙ (ap (λ l. sum (l ++ last) added) is
          ∙ (ap (λ k. sum (product q g ++ last) (zeros k ++ times c g)) (sym quotient)
          ∙ sym (product-push q c true low)))))))),
    )

pub Keeps-run : (low done bits register : List Bool) → 0 < length low → length register ≡ length low → Keeps low done register → Keeps low (done ++ bits) (run low register bits)
Keeps-run low done [] register some size keeps = rw (append-nil done) keeps
Keeps-run low done (bit ∷ bits) register some size keeps =
    let next = Keeps-run low (done ++ bit ∷ []) bits (step low register bit) some (length-step low register bit size) (Keeps-step low done register bit some size keeps) in
    let P : List Bool → Type 0 = λ l. Keeps low l (run low register (bit ∷ bits)) in
    subst P (append_assoc done (bit ∷ []) bits) next

-- The bits may be added to the register all at once.
pub run_at_once : (low register bits : List Bool) (k : ℕ) → length register ≡ length low → length bits + k ≡ length register → run low register bits ≡ run low (sum register (bits ++ zeros k)) (zeros (length bits))
run_at_once low register [] k size fits = sym (sum-zeros register k (omega (arith, fits)))
run_at_once low [] (bit ∷ bits) k size fits = absurd (omega (arith, fits))
run_at_once low (top ∷ others) (bit ∷ bits) k size fits =
    let c : Bool = plus top bit in
    let last : List Bool = false ∷ [] in
    let now : List Bool = step low (top ∷ others) bit in
    let size_now : length now ≡ length low = length-step low (top ∷ others) bit size in
    let longer : bits ++ zeros (suc k) ≡ (bits ++ zeros k) ++ last = ap (λ l. bits ++ l) (sym (zeros-push k)) ∙ sym (append_assoc bits (zeros k) last) in
    let same : length others ≡ length (bits ++ zeros k) = omega (arith, fits, length-append bits (zeros k), length-replicate k false) in
    let added : sum now (bits ++ zeros (suc k)) ≡ sum (sum others (bits ++ zeros k) ++ last) (times (plus c false) low) =
    ap (λ l. sum now l) longer
    ∙ (sum_swap (others ++ last) (times c low) ((bits ++ zeros k) ++ last)
    ∙ (ap (λ l. sum l (times c low)) (sum-append others (bits ++ zeros k) last last same)
    ∙ ap (λ b. sum (sum others (bits ++ zeros k) ++ last) (times b low)) (sym (plus-false c)))) in
    run_at_once low now bits (suc k) size_now (omega (arith, fits, size, size_now))
    ∙ ap (λ l. run low l (zeros (length bits))) added

-- two lists with the sum 0 are equal
equal_from_sum : (a b : List Bool) → length a ≡ length b → sum a b ≡ zeros (length a) → a ≡ b
equal_from_sum a b same is =
    sym (sum-zeros a (length b) same)
    ∙ (ap (λ l. sum a l) (sym (sum-self b))
    ∙ (sym (sum_assoc a b b)
    ∙ (ap (λ l. sum l b) (is ∙ ap zeros same)
    ∙ (sum_comm (zeros (length b)) b ∙ sum-zeros b (length b) refl))))

-- two check values of the same bits are equal
pub same_rest : (low bits a b : List Bool) → length a ≡ length low → length b ≡ length low → Keeps low bits a → Keeps low bits b → a ≡ b
same_rest low bits a b size_a size_b (p, is_p) (q, is_q) =
    let n : ℕ = length bits in
    let g : List Bool = true ∷ low in
    let m : List Bool = prepared (length low) bits in
    let size_p : length p ≡ n = length-quotient low bits a size_a (p, is_p) in
    let size_q : length q ≡ n = length-quotient low bits b size_b (q, is_q) in
    let same : length a ≡ length b = size_a ∙ sym size_b in
    let size_sum : length (sum a b) ≡ length low = length-sum a b same ∙ size_a in
    let size_m : length m ≡ n + length low = length-prepared (length low) bits in
    let rest : List Bool = zeros n ++ sum a b in
    let size_rest : length rest ≡ length m = omega (arith, length-append (zeros n) (sum a b), length-replicate n false, size_sum, size_m) in
    let both : sum (sum m (zeros n ++ a)) (sum m (zeros n ++ b)) ≡ rest =
    sum_pairs m (zeros n ++ a) m (zeros n ++ b)
    ∙ (ap (λ l. sum l (sum (zeros n ++ a) (zeros n ++ b))) (sum-self m)
    ∙ (ap (λ l. sum (zeros (length m)) l) (sum-append (zeros n) (zeros n) a b refl ∙ ap (λ l. l ++ sum a b) (sum-zeros (zeros n) n (length-replicate n false)))
    ∙ (sum_comm (zeros (length m)) rest ∙ sum-zeros rest (length m) size_rest))) in
    let size_quotient : length (sum p q) ≡ n = length-sum p q (size_p ∙ sym size_q) ∙ size_p in
    let multiple : product (sum p q) g ≡ zeros (length (sum p q)) ++ sum a b =
    sym (product-sum p q g (size_p ∙ sym size_q))
    ∙ (ap (λ l. sum l (product q g)) (sym is_p)
    ∙ (ap (λ l. sum (sum m (zeros n ++ a)) l) (sym is_q)
    ∙ (both ∙ ap (λ k. zeros k ++ sum a b) (sym size_quotient)))) in
    equal_from_sum a b same (short_multiple (sum p q) low (sum a b) size_sum multiple ∙ ap zeros (sym size_a))
