-- The first twenty bytes say what a header of a fragment says.
use Rattle.std.proofs.Common.{◌≡◌, ◌≢◌, ℕ, ◌+◌, ◌-◌, ◌%◌, ◌<◌, ◌≤◌, Bool, true, false, List, [], ◌∷◌, length, take, drop, min, sym, subst, ap, ap₂, ◌∙◌, refl, inl, inr, arith, nat_lt}
use Rattle.std.specs.Prelude.{slice_range, if◌then◌else◌}
use Rattle.std.specs.Int.{w16, from_be_bytes}
use Rattle.std.proofs.lemmas.Bool.Decides.{nat_tests}
use Rattle.std.proofs.lemmas.List.{take-take, drop-take, length-take}
use Rattle.drm_bits.specs.Crc.{IsCheckOf}
use Rattle.dcp_pft.specs.Head.{sync}
use Rattle.dcp_pft.specs.Faults.{marks, has_code, has_addresses, described, checked_size, head_size, checked_bytes, check_value, NoneOf, IsFirstRow}
use Rattle.dcp_pft.specs.Reading.{head_rows}
use Rattle.dcp_pft.specs.declared.fault.PftFault.{PftFault}
use Rattle.dcp_pft.specs.declared.fault.PftFault.TheVariants as refused
use Rattle.capture_reader.specs.declared.fault.CaptureField.TheVariants.{HeadCrc, HeadCut, BodyCut}
use Rattle.capture_reader.specs.Front.{Front, PftFront, Packet, Wrong, Cut, IsHeadChecked, fragment_size}
use Rattle.capture_reader.specs.Looking.{IsFrontPart, front_of, front_within, found_by}

-- a part that lies in the front
pub range_part : (bytes : List ℕ) (n i j : ℕ) → i ≤ n → j ≤ n → slice_range (take n bytes) i j ≡ slice_range bytes i j
range_part bytes n i j low high =
    let split : n ≡ i + (n - i) = omega (arith, low) in
    let behind : drop i (take n bytes) ≡ take (n - i) (drop i bytes) = ap (λ k. drop i (take k bytes)) split ∙ drop-take i (n - i) bytes in
    ap (λ l. take (j - i) l) behind ∙ take-take (j - i) (n - i) (drop i bytes) (omega (arith, low, high))

size_small : (a b : Bool) → (if a then (if b then 14 else 12) + 4 else (if b then 14 else 12)) ≤ 18
size_small true true = omega arith
size_small true false = omega arith
size_small false true = omega arith
size_small false false = omega arith

pub checked_size_small : (bytes : List ℕ) → checked_size bytes ≤ 18
checked_size_small bytes = size_small (has_addresses (marks bytes)) (has_code (marks bytes))

size_least : (a b : Bool) → 12 ≤ (if a then (if b then 14 else 12) + 4 else (if b then 14 else 12))
size_least true true = omega arith
size_least true false = omega arith
size_least false true = omega arith
size_least false false = omega arith

pub checked_size_least : (bytes : List ℕ) → 12 ≤ checked_size bytes
checked_size_least bytes = size_least (has_addresses (marks bytes)) (has_code (marks bytes))

pub record IsSameHead (head bytes : List ℕ) : Type 0 where
  pub checked_size : checked_size head ≡ checked_size bytes
  pub described : described head ≡ described bytes
  pub checked_bytes : checked_bytes head ≡ checked_bytes bytes
  pub check_value : check_value head ≡ check_value bytes

marks_part : (bytes : List ℕ) (n : ℕ) → 12 ≤ n → marks (take n bytes) ≡ marks bytes
marks_part bytes n low = ap (λ l. from_be_bytes w16 l) (range_part bytes n 10 12 (omega (arith, low)) low)

pub size_part : (bytes : List ℕ) (n : ℕ) → 12 ≤ n → checked_size (take n bytes) ≡ checked_size bytes
size_part bytes n low = ap (λ m. if has_addresses m then (if has_code m then 14 else 12) + 4 else (if has_code m then 14 else 12)) (marks_part bytes n low)

-- a header that lies in the front
pub same_head_in : (bytes : List ℕ) (n : ℕ) → 12 ≤ n → head_size bytes ≤ n → IsSameHead (take n bytes) bytes
same_head_in bytes n low whole =
    let size = size_part bytes n low in
    record {
      checked_size = size;
      described = ap (λ m. m % 16384) (marks_part bytes n low);
      checked_bytes = ap (λ k. take k (take n bytes)) size ∙ take-take (checked_size bytes) n bytes (omega (arith, whole));
      check_value = ap (λ k. from_be_bytes w16 (slice_range (take n bytes) k (k + 2))) size
          ∙ ap (λ l. from_be_bytes w16 l) (range_part bytes n (checked_size bytes) (checked_size bytes + 2) (omega (arith, whole)) (omega (arith, whole)));
    }

pub same_head : (bytes : List ℕ) → IsSameHead (take 20 bytes) bytes
same_head bytes = same_head_in bytes 20 (omega arith) (omega (arith, checked_size_small bytes))

-- the check value is right in the front where it is in the whole, and the other way round
pub check_part : (head bytes : List ℕ) → IsSameHead head bytes → IsHeadChecked head → IsHeadChecked bytes
check_part head bytes same is =
    let P : List ℕ → Type 0 = λ l. IsCheckOf l (check_value bytes) in
    let Q : ℕ → Type 0 = λ n. IsCheckOf (checked_bytes head) n in
    subst P same.checked_bytes (subst Q same.check_value is)

pub check_whole : (head bytes : List ℕ) → IsSameHead head bytes → IsHeadChecked bytes → IsHeadChecked head
check_whole head bytes same is =
    let P : List ℕ → Type 0 = λ l. IsCheckOf l (check_value head) in
    let Q : ℕ → Type 0 = λ n. IsCheckOf (checked_bytes bytes) n in
    subst P (sym same.checked_bytes) (subst Q (sym same.check_value) is)

same_part : (head bytes : List ℕ) (count : ℕ) → IsFrontPart head count bytes → IsSameHead head bytes
same_part head bytes count part =
    let P : List ℕ → Type 0 = λ l. IsSameHead l bytes in
    subst P (sym part.front) (same_head bytes)

part_size : (head bytes : List ℕ) (count : ℕ) → IsFrontPart head count bytes → length head ≡ min 20 (length bytes)
part_size head bytes count part = ap length part.front ∙ length-take 20 bytes

by_size : (bytes : List ℕ) (size : ℕ) (less : Bool) → less ≡ nat_lt (length bytes) size → head_size bytes ≤ length bytes → IsHeadChecked bytes → size ≡ fragment_size bytes
    → PftFront bytes (if less then Cut BodyCut else Packet size)
by_size bytes size true is whole check same = (whole, check, grind (arith, nat_tests))
by_size bytes size false is whole check same = (whole, check, same, grind (arith, nat_tests))

-- a header that isn't refused
pub fragment_found : (head bytes : List ℕ) (count size : ℕ) (front : Front) → IsFrontPart head count bytes → NoneOf head_rows head → IsHeadChecked head
    → size ≡ head_size head + described head → front ≡ front_within size count → PftFront bytes front
fragment_found head bytes count size front part none check is same =
    let equal = same_part head bytes count part in
    let long : head_size head ≤ length head = omega (arith, none.1.0) in
    let whole : head_size bytes ≤ length bytes = omega (arith, long, equal.checked_size, part_size head bytes count part) in
    let by : PftFront bytes (front_within size (length bytes)) =
    by_size bytes size (nat_lt (length bytes) size) refl whole (check_part head bytes equal check) (is ∙ ap₂ (λ m n. m + 2 + n) equal.checked_size equal.described) in
    let P : Front → Type 0 = λ f. PftFront bytes f in
    subst P (sym (same ∙ ap (λ n. front_within size n) part.size)) by

cut_by : (head bytes : List ℕ) (count : ℕ) → IsFrontPart head count bytes → length head < head_size head → length bytes < head_size bytes
cut_by head bytes count part short =
    let equal = same_part head bytes count part in
    omega (arith, short, equal.checked_size, part_size head bytes count part, checked_size_small bytes)

wrong_by : (head bytes : List ℕ) (count : ℕ) → IsFrontPart head count bytes → (length head < head_size head → ⊥) → (IsHeadChecked head → ⊥)
    → (head_size bytes ≤ length bytes) × (IsHeadChecked bytes → ⊥)
wrong_by head bytes count part long wrong =
    let equal = same_part head bytes count part in (
      omega (arith, long, equal.checked_size, part_size head bytes count part),
      λ check. wrong (check_whole head bytes equal check),
    )

-- a header that is refused
pub fragment_refused : (head bytes : List ℕ) (count : ℕ) (fault : PftFault) → IsFrontPart head count bytes → take 2 head ≡ sync → IsFirstRow head_rows fault head
    → PftFront bytes (front_of (found_by fault))
fragment_refused head bytes count fault part is (inl h) = absurd (h.0 is)
fragment_refused head bytes count fault part is (inr h) = behind h.1
  where
    last : (length head < head_size head → ⊥) → IsFirstRow (refused.HeadCrc ∷ []) fault head → PftFront bytes (front_of (found_by fault))
    last long (inl k) = subst (λ (f : PftFault). PftFront bytes (front_of (found_by f))) (sym k.1) (wrong_by head bytes count part long k.0)
    last long (inr k) = absurd k.1

    behind : IsFirstRow (refused.HeadCut ∷ refused.HeadCrc ∷ []) fault head → PftFront bytes (front_of (found_by fault))
    behind (inl k) = subst (λ (f : PftFault). PftFront bytes (front_of (found_by f))) (sym k.1) (cut_by head bytes count part k.0)
    behind (inr k) = last k.0 k.1
