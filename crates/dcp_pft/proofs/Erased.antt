-- The places of the coded chunks that are lost with some fragments.
use Rattle.std.proofs.Common.{ℕ, zero, suc, ◌≡◌, ◌+◌, ◌-◌, ◌*◌, ◌%◌, ◌≤◌, Bool, true, false, cond, leb, refl, sym, ap, ◌∙◌, arith}
use Rattle.std.proofs.Math.Nat.{mul-le-mul_left, mod-eq_of_lt, add-mod_right}
use Rattle.std.proofs.lemmas.Bool.{and_from, le-leb}
use Rattle.dcp_pft.specs.Loss.{size, has_all, erased, chunks_stand}

-- a fragment is kept or its places are erased
one_of_both : (b : Bool) → ◌≡◌ {A = ℕ} (cond b 0 1 + cond b 1 0) 1
one_of_both true = refl
one_of_both false = refl

-- the places of one stretch and of the next
erased_add : (count : ℕ) (kept : ℕ → Bool) (start m n : ℕ) → erased count kept start (m + n) ≡ erased count kept start m + erased count kept (start + m) n
unfolding erased
erased_add count kept start m zero = let e : m + 0 ≡ m = omega arith in ap (erased count kept start) e ∙ omega arith
erased_add count kept start m (suc n) =
    let sum : m + suc n ≡ suc (m + n) = omega arith in
    let place : start + (m + n) ≡ start + m + n = omega arith in
    let same : ◌≡◌ {A = ℕ} (cond (kept ((start + (m + n)) % count)) 0 1) (cond (kept ((start + m + n) % count)) 0 1) = ap (λ (k : ℕ). cond (kept (k % count)) 0 1) place in
    ap (erased count kept start) sum ∙ omega (arith, erased_add count kept start m n, same)

-- of the first places each fragment has one
erased_once : (count : ℕ) (kept : ℕ → Bool) (n : ℕ) → n ≤ count → erased count kept 0 n + size n kept ≡ n
unfolding erased size
erased_once count kept zero within = omega arith
erased_once count kept (suc n) within =
    let zero_more : 0 + n ≡ n = omega arith in
    let residue : (0 + n) % count ≡ n = ap (λ (k : ℕ). k % count) zero_more ∙ mod-eq_of_lt within in
    let same : ◌≡◌ {A = ℕ} (cond (kept ((0 + n) % count)) 0 1) (cond (kept n) 0 1) = ap (λ (k : ℕ). cond (kept k) 0 1) residue in
    omega (arith, erased_once count kept n (omega arith), same, one_of_both (kept n))

erased_one : (count : ℕ) (kept : ℕ → Bool) (start : ℕ) → erased count kept start 1 ≡ cond (kept (start % count)) 0 1
unfolding erased
erased_one count kept start =
    let e : start + 0 ≡ start = omega arith in
    ap (λ (k : ℕ). 0 + cond (kept (k % count)) 0 1) e ∙ omega arith

-- as many places as there are fragments have as many erased ones, one place further on
erased_next : (count : ℕ) (kept : ℕ → Bool) (start : ℕ) → erased count kept (start + 1) count ≡ erased count kept start count
erased_next count kept start =
    let turned : 1 + count ≡ count + 1 = omega arith in
    let whole : erased count kept start (1 + count) ≡ erased count kept start (count + 1) = ap (erased count kept start) turned in
    let ends : erased count kept start 1 ≡ erased count kept (start + count) 1 =
    erased_one count kept start ∙ (ap (λ (k : ℕ). cond (kept k) 0 1) (sym (add-mod_right start count)) ∙ sym (erased_one count kept (start + count))) in
    omega (arith, erased_add count kept start 1 count, erased_add count kept start count 1, whole, ends)

-- and from anywhere
erased_anywhere : (count : ℕ) (kept : ℕ → Bool) (start : ℕ) → erased count kept start count ≡ erased count kept 0 count
erased_anywhere count kept zero = refl
erased_anywhere count kept (suc start) =
    let e : suc start ≡ start + 1 = omega arith in
    ap (λ (k : ℕ). erased count kept k count) e ∙ (erased_next count kept start ∙ erased_anywhere count kept start)

erased_rounds : (count : ℕ) (kept : ℕ → Bool) (start q : ℕ) → erased count kept start (q * count) ≡ q * erased count kept 0 count
unfolding erased
erased_rounds count kept start zero = let e : 0 * count ≡ 0 = omega arith in ap (erased count kept start) e ∙ omega arith
erased_rounds count kept start (suc q) =
    let e : suc q * count ≡ q * count + count = omega arith in
    ap (erased count kept start) e
    ∙ (erased_add count kept start (q * count) count
    ∙ omega (arith, erased_rounds count kept start q, erased_anywhere count kept (start + q * count)))

erased_grows : (count : ℕ) (kept : ℕ → Bool) (start m n : ℕ) → m ≤ n → erased count kept start m ≤ erased count kept start n
erased_grows count kept start m n le =
    let e : m + (n - m) ≡ n = omega arith in
    let whole : erased count kept start (m + (n - m)) ≡ erased count kept start n = ap (erased count kept start) e in
    omega (arith, erased_add count kept start m (n - m), whole)

-- of n places at most q belong to each fragment that isn't kept, where q rounds make n
pub erased_few : (count : ℕ) (kept : ℕ → Bool) (start n q m : ℕ) → n ≤ q * count → count ≤ size count kept + m → erased count kept start n ≤ q * m
erased_few count kept start n q m within few =
    let lost : erased count kept 0 count ≤ m = omega (arith, erased_once count kept count (omega arith)) in
    omega (arith, erased_grows count kept start n (q * count) within, erased_rounds count kept start q, mul-le-mul_left q lost)

pub all_stand : (count : ℕ) (kept : ℕ → Bool) (bytes n : ℕ) → ((start : ℕ) → erased count kept start bytes ≤ 48) → chunks_stand count kept bytes n ≡ true
unfolding chunks_stand
all_stand count kept bytes zero each = refl
all_stand count kept bytes (suc n) each =
    and_from (leb (erased count kept (n * bytes) bytes) 48) (chunks_stand count kept bytes n) (le-leb (erased count kept (n * bytes) bytes) 48 (each (n * bytes)))
    (all_stand count kept bytes n each)

-- a set of n indices below n has all
size_within : (n : ℕ) (kept : ℕ → Bool) → size n kept ≤ n
unfolding size
size_within zero kept = omega arith
size_within (suc n) kept = omega (arith, size_within n kept, one_of_both (kept n))

kept_one : (b : Bool) → 1 ≤ cond b 1 0 → b ≡ true
kept_one true some = refl
kept_one false some = absurd (omega arith)

pub all_kept : (n : ℕ) (kept : ℕ → Bool) → n ≤ size n kept → has_all n kept ≡ true
unfolding size has_all
all_kept zero kept all = refl
all_kept (suc n) kept all =
    and_from (kept n) (has_all n kept) (kept_one (kept n) (omega (arith, size_within n kept)))
    (all_kept n kept (omega (arith, one_of_both (kept n))))
