-- The check value of a header at its place.
use Rattle.std.proofs.Common.{◌≡◌, ℕ, ◌+◌, ◌-◌, List, take, drop, sym, subst, ap, ◌∙◌, arith}
use Rattle.std.specs.Int.{w16, from_be_bytes}
use Rattle.std.proofs.lemmas.List.{take-take, drop-take}
use Rattle.drm_bits.specs.Crc.{IsCheckOf}
use Rattle.drm_bits.specs.Compared.{IsWrongCheck}
use Rattle.drm_bits.specs.declared.compared.WrongCheck.{WrongCheck}
use Rattle.drm_bits.proofs.Checks.{one_check}
use Rattle.dcp_pft.specs.Faults.{checked_size, checked_bytes, check_value, head_size}

front_is : (bytes : List ℕ) (size n : ℕ) → size ≡ n + 2 → take (size - 2) (take size bytes) ≡ take n bytes
front_is bytes size n is =
    let same : size - 2 ≡ n = omega arith in
    take-take (size - 2) size bytes (omega arith) ∙ ap (λ (k : ℕ). take k bytes) same

last_is : (bytes : List ℕ) (size n : ℕ) → size ≡ n + 2 → drop (size - 2) (take size bytes) ≡ take (n + 2 - n) (drop n bytes)
last_is bytes size n is =
    let same : size - 2 ≡ n = omega arith in
    let all : size ≡ n + (n + 2 - n) = omega arith in
    ap (λ (k : ℕ). drop k (take size bytes)) same ∙ (ap (λ (k : ℕ). drop n (take k bytes)) all ∙ drop-take n (n + 2 - n) bytes)

-- what the code compares, in its slices
pub record IsCut (bytes : List ℕ) (size : ℕ) (front last : List ℕ) : Type 0 where
  pub whole : size ≡ head_size bytes
  pub before : front ≡ take (size - 2) (take size bytes)
  pub behind : last ≡ drop (size - 2) (take size bytes)

pub checked : (bytes : List ℕ) (size : ℕ) (front last : List ℕ) → IsCut bytes size front last → front ≡ checked_bytes bytes
checked bytes size front last cut = cut.before ∙ front_is bytes size (checked_size bytes) cut.whole

pub stands : (bytes : List ℕ) (size : ℕ) (front last : List ℕ) → IsCut bytes size front last → from_be_bytes w16 last ≡ check_value bytes
stands bytes size front last cut = ap (from_be_bytes w16) (cut.behind ∙ last_is bytes size (checked_size bytes) cut.whole)

-- the number that stands there is the check value, where it is that of the bytes in front
pub right : (bytes : List ℕ) (size : ℕ) (front last : List ℕ) → IsCut bytes size front last → IsCheckOf front (from_be_bytes w16 last)
    → IsCheckOf (checked_bytes bytes) (check_value bytes)
right bytes size front last cut is =
    let P : List ℕ → Type 0 = λ l. IsCheckOf l (from_be_bytes w16 last) in
    let Q : ℕ → Type 0 = λ n. IsCheckOf (checked_bytes bytes) n in
    subst Q (stands bytes size front last cut) (subst P (checked bytes size front last cut) is)

-- and where they have another, it isn't
pub wrong : (bytes : List ℕ) (size : ℕ) (front last : List ℕ) (w : WrongCheck) → IsCut bytes size front last → IsWrongCheck w front last
    → IsCheckOf (checked_bytes bytes) (check_value bytes)
    → ⊥
wrong bytes size front last w cut other is =
    let P : List ℕ → Type 0 = λ l. IsCheckOf l (check_value bytes) in
    let of_front : IsCheckOf front (check_value bytes) = subst P (sym (checked bytes size front last cut)) is in
    other.differ (other.stands ∙ stands bytes size front last cut ∙ one_check front (check_value bytes) w.computed of_front other.computed)
