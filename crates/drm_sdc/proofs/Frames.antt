-- A block whose parts were taken from its bits.
use Rattle.std.proofs.Common.{◌≡◌, inl, inr, ℕ, ◌+◌, ◌*◌, ◌/◌, ◌%◌, ◌<◌, ◌≤◌, ◌^◌, Bool, List, ◌++◌, length, take, drop, get_or, refl, sym, ◌∙◌, ap, subst, arith, length-append, length-drop, append_assoc}
use Rattle.std.proofs.lemmas.List.{take-append-drop, length-take-le, take_all, take_more_set, get_or-set_same, get_or-set_other}
use Rattle.std.proofs.lemmas.Bool.{cases_eq}
use Rattle.std.proofs.Math.ListN.{set}
use Rattle.drm_bits.specs.Bits.{value, digits, bits_of}
use Rattle.drm_bits.specs.Crc.{zeros}
use Rattle.drm_bits.proofs.BitsLemmas.{length-digits, length-bits_of}
use Rattle.drm_bits.proofs.DigitsLemmas.{digits-value}
use Rattle.drm_bits.proofs.Checks.{bits_of-push}
use Rattle.drm_bits.specs.Bits.{front}
use Rattle.drm_sdc.specs.Block.{first_form, IsFramed, IsBlockOpen}
use Rattle.drm_sdc.proofs.EntityLaws.{front-below}

pub digits-front : (w : ℕ) (bits : List Bool) → w ≤ length bits → digits w (front w bits) ≡ take w bits
digits-front w bits within = digits-value w (take w bits) (length-take-le w bits within)

no_bits : digits 4 0 ≡ zeros 4
unfolding digits
no_bits = refl

rest_is : (rest b1 b2 : List Bool) (d afs stands : ℕ) (field : List ℕ) → length rest ≡ 8 * d + 20 → length field ≡ d → afs ≡ front 4 rest → b1 ≡ drop 4 rest → b1 ≡ bits_of field ++ b2 → stands ≡ front 16 b2
    → rest ≡ first_form afs field (digits 16 stands)
rest_is rest b1 b2 d afs stands field size_rest size is_afs is_b1 parts is_stands =
    let long : length b1 ≡ 8 * d + 16 = omega (arith, ap length is_b1, length-drop 4 rest, size_rest) in
    let last : length b2 ≡ 16 = omega (arith, ap length parts, length-append (bits_of field) b2, length-bits_of field, long, size) in
    let check : digits 16 stands ≡ b2 = ap (digits 16) is_stands ∙ (digits-front 16 b2 (omega (arith, last)) ∙ take_all 16 b2 (omega (arith, last))) in
    let index : take 4 rest ≡ digits 4 afs = sym (digits-front 4 rest (omega (arith, size_rest))) ∙ ap (digits 4) (sym is_afs) in
    sym (take-append-drop 4 rest)
    ∙ (ap (λ l. l ++ drop 4 rest) index
    ∙ (ap (λ l. digits 4 afs ++ l) (sym is_b1 ∙ parts) ∙ ap (λ l. digits 4 afs ++ (bits_of field ++ l)) (sym check)))

pub framed : (all rest b1 b2 : List Bool) (n d afs stands : ℕ) (field : List ℕ) → n ≡ length all → IsBlockOpen d all → (n % 8 ≡ 0 → rest ≡ drop 4 all) → (¬ (n % 8 ≡ 0) → rest ≡ all) → length field ≡ d → ((i : ℕ) → get_or field i 0 < 2 ^ 8)
    → afs ≡ front 4 rest → b1 ≡ drop 4 rest → b1 ≡ bits_of field ++ b2 → stands ≡ front 16 b2 → IsFramed afs field (digits 16 stands) all
framed all rest b1 b2 n d afs stands field is_n is_open second first size small is_afs is_b1 parts is_stands =
    let in_first : length all ≡ 8 * d + 20 → all ≡ first_form afs field (digits 16 stands) = λ len.
    let same : rest ≡ all = first (λ whole. absurd (omega (arith, is_n, len, whole))) in
    sym same ∙ rest_is rest b1 b2 d afs stands field (ap length same ∙ len) size is_afs is_b1 parts is_stands in
    let in_second : length all ≡ 8 * d + 24 → value (take 4 all) ≡ 0 → all ≡ zeros 4 ++ first_form afs field (digits 16 stands) = λ len none.
    let same : rest ≡ drop 4 all = second (omega (arith, is_n, len)) in
    let size_rest : length rest ≡ 8 * d + 20 = omega (arith, ap length same, length-drop 4 all, len) in
    let zero : take 4 all ≡ zeros 4 = sym (digits-front 4 all (omega (arith, len))) ∙ (ap (digits 4) none ∙ no_bits) in
    sym (take-append-drop 4 all)
    ∙ (ap (λ l. l ++ drop 4 all) zero ∙ ap (λ l. zeros 4 ++ l) (sym same ∙ rest_is rest b1 b2 d afs stands field size_rest size is_afs is_b1 parts is_stands)) in
    let some : 4 ≤ length rest = elim is_open.form [
      | inl len ↦ omega (arith, ap length (first (λ whole. absurd (omega (arith, is_n, len, whole)))), len)
      | inr two ↦ omega (arith, ap length (second (omega (arith, is_n, two.0))), length-drop 4 all, two.0)
    ] in
    record {
      index = subst (λ m. m < 2 ^ 4) (sym is_afs) (front-below 4 rest some);
      room = omega (arith, size, is_open.few);
      octets = small;
      width = length-digits 16 stands;
      form = elim is_open.form [ inl len ↦ inl (in_first len) | inr two ↦ inr (in_second two.0 two.1) ];
    }

pub open_length : (all rest : List Bool) (n d : ℕ) → n ≡ length all → IsBlockOpen d all → (n % 8 ≡ 0 → rest ≡ drop 4 all) → (¬ (n % 8 ≡ 0) → rest ≡ all) → length rest ≡ 8 * d + 20
open_length all rest n d is_n is_open second first =
    elim is_open.form [
      | inl len ↦ omega (arith, ap length (first (λ whole. absurd (omega (arith, is_n, len, whole)))), len)
      | inr two ↦ omega (arith, ap length (second (omega (arith, is_n, two.0))), length-drop 4 all, two.0)
    ]

-- one byte more is taken
pub byte_taken : (bytes : List ℕ) (old bits next : List Bool) (i n : ℕ) → i < length bytes → 8 ≤ length bits → n ≡ front 8 bits → next ≡ drop 8 bits → old ≡ bits_of (take i bytes) ++ bits
    → old ≡ bits_of (take (i + 1) (set bytes i n)) ++ next
byte_taken bytes old bits next i n within enough is_n is_next before =
    let one : digits 8 n ≡ take 8 bits = ap (digits 8) is_n ∙ digits-front 8 bits enough in
    let more : bits_of (take (i + 1) (set bytes i n)) ≡ bits_of (take i bytes) ++ digits 8 n = ap bits_of (take_more_set bytes i n within) ∙ bits_of-push (take i bytes) n in
    before
    ∙ (ap (λ l. bits_of (take i bytes) ++ l) (sym (take-append-drop 8 bits))
    ∙ (ap (λ l. bits_of (take i bytes) ++ (l ++ drop 8 bits)) (sym one)
    ∙ (ap (λ l. bits_of (take i bytes) ++ (digits 8 n ++ l)) (sym is_next)
    ∙ (sym (append_assoc (bits_of (take i bytes)) (digits 8 n) next) ∙ ap (λ l. l ++ next) (sym more)))))

pub small_set : (bytes : List ℕ) (i n : ℕ) → i < length bytes → n < 2 ^ 8 → ((k : ℕ) → get_or bytes k 0 < 2 ^ 8) → (k : ℕ) → get_or (set bytes i n) k 0 < 2 ^ 8
small_set bytes i n within below small k =
    elim (cases_eq k i) [
      | inl e ↦ subst (λ m. get_or (set bytes i n) m 0 < 2 ^ 8) (sym e) (subst (λ m. m < 2 ^ 8) (sym (get_or-set_same bytes i n 0 within)) below)
      | inr other ↦ subst (λ m. m < 2 ^ 8) (sym (get_or-set_other bytes i k n 0 other)) (small k)
    ]

-- the bits that a value has
pub length-value : (value : List ℕ) (bits : ℕ) → length value ≡ (bits + 7) / 8 → length (take bits (bits_of value)) ≡ bits
length-value value bits size = length-take-le bits (bits_of value) (omega (arith, length-bits_of value, size))
