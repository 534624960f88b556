-- Nine bytes that are written for a FAC are one, and the only ones.
use Rattle.std.proofs.Common.{◌≡◌, ◌<◌, ◌^◌, ℕ, List, [], ◌∷◌, ◌++◌, length, take, get_or, sym, ◌∙◌, ap, subst, arith, Bool}
use Rattle.std.proofs.Math.ListN.{set, length-set}
use Rattle.std.proofs.lemmas.Grind.{common_steps}
use Rattle.std.proofs.lemmas.List.{take-set-le, get_or-set_same, take_more, take_all}
use Rattle.drm_bits.specs.Bits.{digits, bits_of, IsBytes}
use Rattle.drm_bits.specs.Crc.{IsCheck, crc8_polynomial}
use Rattle.drm_bits.specs.Fields.{AreFields, spelled}
use Rattle.drm_bits.proofs.ByteBits.{same_bytes}
use Rattle.drm_bits.proofs.Checks.{IsCheck-unique, crc8_low}
use Rattle.drm_bits.proofs.FieldLemmas.{fields_spelled, spelled_fields}
use Rattle.drm_fac.specs.declared.fac.Fac.{Fac}
use Rattle.drm_fac.specs.Fac.{fac_fields, IsFac, FacFits}

set_bytes : (bytes : List ℕ) (i b : ℕ) → IsBytes bytes → b < 2 ^ 8 → IsBytes (set bytes i b)
set_bytes bytes i b all below k = grind (arith, common_steps, all k)

-- the check value behind the fields
pub fac_written : (fac : Fac) (bytes : List ℕ) (check : ℕ) → length bytes ≡ 9 → IsBytes bytes → FacFits fac → bits_of (take 8 bytes) ≡ spelled (fac_fields fac) → check < 2 ^ 8
    → IsCheck crc8_polynomial (bits_of (take 8 bytes)) (digits 8 check) → IsFac fac (set bytes 8 check)
fac_written fac bytes check nine all fits spells below is_check =
    let front : take 8 (set bytes 8 check) ≡ take 8 bytes = take-set-le 8 bytes 8 check (omega arith) in
    let inside : 8 < length bytes = omega (arith, nine) in
    let last : get_or (set bytes 8 check) 8 0 ≡ check = get_or-set_same bytes 8 check 0 inside in
    let Fields : List Bool → Type 0 = λ bits. AreFields (fac_fields fac) bits in
    let Check : List ℕ → Type 0 = λ l. IsCheck crc8_polynomial (bits_of l) (digits 8 check) in
    let Last : ℕ → Type 0 = λ n. IsCheck crc8_polynomial (bits_of (take 8 (set bytes 8 check))) (digits 8 n) in
    record {
      nine = length-set bytes 8 check ∙ nine;
      all_bytes = set_bytes bytes 8 check all below;
      fields = subst Fields (sym (ap bits_of front ∙ spells)) (fields_spelled (fac_fields fac) fits);
      check = subst Last (sym last) (subst Check (sym front) is_check);
    }

front_bytes : (bytes : List ℕ) → IsBytes bytes → (i : ℕ) → get_or (take 8 bytes) i 0 < 2 ^ 8
front_bytes bytes all i = grind (arith, common_steps, all i)

-- nine bytes are the first eight and the last
front_last : (bytes : List ℕ) → length bytes ≡ 9 → bytes ≡ take 8 bytes ++ get_or bytes 8 0 ∷ []
front_last bytes nine = sym (take_all 9 bytes (omega (arith, nine))) ∙ take_more bytes 8 0 (omega (arith, nine))

-- a FAC is written in one way
pub fac_once : (fac : Fac) (a b : List ℕ) → IsFac fac a → IsFac fac b → a ≡ b
fac_once fac a b is_a is_b =
    let bits : bits_of (take 8 a) ≡ bits_of (take 8 b) = spelled_fields (fac_fields fac) (bits_of (take 8 a)) is_a.fields ∙ sym (spelled_fields (fac_fields fac) (bits_of (take 8 b)) is_b.fields) in
    let front : take 8 a ≡ take 8 b = same_bytes (take 8 a) (take 8 b) (front_bytes a is_a.all_bytes) (front_bytes b is_b.all_bytes) bits in
    let Check : List Bool → Type 0 = λ l. IsCheck crc8_polynomial l (digits 8 (get_or a 8 0)) in
    let last : get_or a 8 0 ≡ get_or b 8 0 = IsCheck-unique 8 29 crc8_polynomial (bits_of (take 8 b)) (get_or a 8 0) (get_or b 8 0) crc8_low (is_a.all_bytes 8) (is_b.all_bytes 8) (subst Check bits is_a.check) is_b.check in
    front_last a is_a.nine ∙ (ap (λ l. l ++ get_or a 8 0 ∷ []) front ∙ (ap (λ n. take 8 b ++ n ∷ []) last ∙ sym (front_last b is_b.nine)))
