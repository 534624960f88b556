-- One answer for each byte list: a fragment, or the first row of the table that holds.
use Rattle.std.proofs.Common.{◌≡◌, ℕ, ◌+◌, ◌-◌, ◌*◌, ◌/◌, ◌^◌, ◌<◌, ◌≤◌, ◌⊎◌, ◌≢◌, Bool, true, false, get_or, if◌then◌else◌, inl, inr, List, [], ◌∷◌, length, take, drop, slice_range, take_all, sym, subst, ap, ap₂, ◌∙◌, arith, length-drop, Option, None, Some, Result, Err}
use Rattle.std.specs.Prelude.{IsSomeAnd, IfSome, IsOkAnd}
use Rattle.std.proofs.lemmas.Bool.{cases_lt}
use Rattle.std.proofs.Math.Nat.{lt-div-mul-add, div-eq_of_lt}
use Rattle.drm_bits.specs.Bits.{IsBytes}
use Rattle.dcp_pft.specs.declared.shape.Rs.{Rs}
use Rattle.dcp_pft.specs.declared.fragment.Addr.{Addr}
use Rattle.dcp_pft.specs.declared.fragment.Fragment.{Fragment}
use Rattle.dcp_pft.specs.declared.fault.PftFault.{PftFault}
use Rattle.drm_bits.specs.Crc.{IsCheckOf}
use Rattle.dcp_pft.specs.Limits.{most_fragments, most_carried}
use Rattle.dcp_pft.specs.Head.{PftFragment, sync}
use Rattle.dcp_pft.specs.Faults.{sequence_number, fragment_index, fragment_count, described, code, addresses, addresses_at, addresses_place, marks, has_addresses, checked_bytes, check_value, head_size, payload, table, NoneOf, IsFault}
use Rattle.dcp_pft.specs.Reading.{pft_of, IsCodeFor, IsPft}
use Rattle.dcp_pft.proofs.Table.{one_first, none_first}
use Rattle.dcp_pft.proofs.Spelled.{fragment_at, spelled_at, number_16, IsBytes-range}
use Rattle.dcp_pft.proofs.Placed.{EndsWith, IsPlaced, placed}

ends : (f : PftFragment) (bytes : List ℕ) (is : IsPft f bytes) → EndsWith f is.spells.check bytes
ends f bytes is =
    record {
      seq = is.seq;
      index = omega (arith, is.index, is.few);
      count = omega (arith, is.few);
      small = is.len;
      addr = is.addr;
      narrow = is.spells.checks.narrow;
      spelled = is.spells.spelled;
    }

pub placed_at : (f : PftFragment) (bytes : List ℕ) (is : IsPft f bytes) → IsPlaced f is.spells.check bytes
placed_at f bytes is = placed f is.spells.check bytes (ends f bytes is)

-- the fragment that stands at its places
pub is_fragment_at : (f : PftFragment) (bytes : List ℕ) → IsPft f bytes → fragment_at bytes ≡ f
is_fragment_at f bytes is =
    let at = placed_at f bytes is in
    ap (λ (n : ℕ). record { seq = n; index = fragment_index bytes; count = fragment_count bytes; rs = code bytes; addr = addresses bytes; payload = payload bytes }) at.is_seq
    ∙ (ap (λ (n : ℕ). record { seq = f.seq; index = n; count = fragment_count bytes; rs = code bytes; addr = addresses bytes; payload = payload bytes }) at.is_index
    ∙ (ap (λ (n : ℕ). record { seq = f.seq; index = f.index; count = n; rs = code bytes; addr = addresses bytes; payload = payload bytes }) at.is_count
    ∙ (ap (λ (o : Option Rs). record { seq = f.seq; index = f.index; count = f.count; rs = o; addr = addresses bytes; payload = payload bytes }) at.is_code
    ∙ (ap (λ (o : Option Addr). record { seq = f.seq; index = f.index; count = f.count; rs = f.rs; addr = o; payload = payload bytes }) at.is_addr
    ∙ ap (λ (l : List ℕ). record { seq = f.seq; index = f.index; count = f.count; rs = f.rs; addr = f.addr; payload = l }) at.is_payload))))

-- too few for one
none_of : (size d : ℕ) → 1 ≤ d → size / d ≡ 0 → size < d
none_of size d some is =
    let P : ℕ → Type 0 = λ q. size < q * d + d in
    let less : size < 0 * d + d = subst P is (lt-div-mul-add some) in
    omega (arith, less)

-- a code that goes with so many bytes has no fault
no_code_row : (o : Option Rs) (size : ℕ) → IfSome o (λ rs. IsCodeFor size rs)
    → (IsSomeAnd o (λ rs. (rs.k ≡ 0) ⊎ (207 < rs.k)) → ⊥)
    × (IsSomeAnd o (λ rs. rs.k ≤ rs.z) → ⊥)
    × (IsSomeAnd o (λ rs. size / (rs.k + 48) ≡ 0) → ⊥)
no_code_row None size is = (λ row. row, λ row. row, λ row. row)
no_code_row (Some rs) size is =
    (λ row. elim row [ inl zero ↦ absurd (omega (arith, is.some, zero)) | inr more ↦ absurd (omega (arith, is.most, more)) ], λ row. absurd (omega (arith, is.fill, row)), λ row. absurd (omega (arith, is.chunk, none_of size (rs.k + 48) (omega arith) row)))

head_check : (f : PftFragment) (bytes : List ℕ) → IsPft f bytes → IsCheckOf (checked_bytes bytes) (check_value bytes)
head_check f bytes is =
    let at = placed_at f bytes is in
    let P : List ℕ → Type 0 = λ l. IsCheckOf l is.spells.check in
    let Q : ℕ → Type 0 = λ n. IsCheckOf (checked_bytes bytes) n in
    subst Q (sym at.is_check) (subst P (sym at.is_front) is.spells.checks)

pub none_holds : (f : PftFragment) (bytes : List ℕ) → IsPft f bytes → NoneOf table bytes
none_holds f bytes is =
    let at = placed_at f bytes is in
    let same : f.count * length f.payload ≡ fragment_count bytes * described bytes = ap₂ (λ (m n : ℕ). m * n) (sym at.is_count) (sym at.is_size) in
    let P : Option Rs → Type 0 = λ o. IfSome o (λ rs. IsCodeFor (fragment_count bytes * described bytes) rs) in
    let Q : ℕ → Type 0 = λ n. IfSome f.rs (λ rs. IsCodeFor n rs) in
    let rows = no_code_row (code bytes) (fragment_count bytes * described bytes) (subst P (sym at.is_code) (subst Q same is.code)) in (
      λ row. row at.is_sync,
      (
        λ row. absurd (omega (arith, at.whole, row)),
        (
          λ row. row (head_check f bytes is),
          (
            λ row. absurd (omega (arith, at.is_count, is.some, row)),
            (
              λ row. absurd (omega (arith, at.is_count, at.is_index, is.index, row)),
              (
                λ row. row (at.is_size ∙ ap length (sym at.is_payload)),
                (
                  rows.0,
                  (
                    rows.1,
                    (
                      λ row. absurd (omega (arith, at.is_count, is.few, row)),
                      (
                        λ row. absurd (omega (arith, same, is.size, row)),
                        (
                          rows.2,
                          tt,
                        ),
                      ),
                    ),
                  ),
                ),
              ),
            ),
          ),
        ),
      ),
    )

-- and a code with no fault goes with them
fits_code : (o : Option Rs) (size : ℕ) → (IsSomeAnd o (λ rs. (rs.k ≡ 0) ⊎ (207 < rs.k)) → ⊥) → (IsSomeAnd o (λ rs. rs.k ≤ rs.z) → ⊥) → (IsSomeAnd o (λ rs. size / (rs.k + 48) ≡ 0) → ⊥) → IfSome o (λ rs. IsCodeFor size rs)
fits_code None size length fill chunk = tt
fits_code (Some rs) size length fill chunk =
    let some : rs.k ≡ 0 → ⊥ = λ zero. length (inl zero) in
    let most : 207 < rs.k → ⊥ = λ more. length (inr more) in
    let whole : size < rs.k + 48 → ⊥ = λ few. chunk (div-eq_of_lt few) in
    record { some = omega (arith, some); most = omega (arith, most); fill = omega (arith, fill); chunk = omega (arith, whole) }

addresses_fit : (b : Bool) (n : ℕ) (bytes : List ℕ) → IsBytes bytes → IfSome (if b then Some (addresses_at bytes n) else None) (λ addr. (addr.source < 2 ^ 16) × (addr.dest < 2 ^ 16))
addresses_fit false n bytes fits = tt
addresses_fit true n bytes fits =
    (number_16 (slice_range bytes n (n + 2)) (IsBytes-range n (n + 2) bytes fits), number_16 (slice_range bytes (n + 2) (n + 4)) (IsBytes-range (n + 2) (n + 4) bytes fits))

-- what isn't another is the same
same_number : (m n : ℕ) → ((m ≡ n → ⊥) → ⊥) → m ≡ n
same_number m n h =
    elim (cases_lt m n) [
      | inl less ↦ absurd (h (λ e. absurd (omega arith)))
      | inr most ↦ elim (cases_lt n m) [ inl less ↦ absurd (h (λ e. absurd (omega arith))) | inr least ↦ omega arith ]
    ]

same_sync : (l : List ℕ) → (l ≢ sync → ⊥) → l ≡ sync
same_sync [] h = absurd (h (λ e. cc))
same_sync (a ∷ []) h = absurd (h (λ e. cc))
same_sync (a ∷ b ∷ []) h =
    let first : a ≡ 80 = same_number a 80 (λ other. h (λ e. other (ap (λ (l : List ℕ). get_or l 0 0) e))) in
    let second : b ≡ 70 = same_number b 70 (λ other. h (λ e. other (ap (λ (l : List ℕ). get_or l 1 0) e))) in
    ap₂ (λ (a b : ℕ). a ∷ b ∷ []) first second
same_sync (a ∷ b ∷ c ∷ l) h = absurd (h (λ e. cc))

-- a fragment, where nothing is refused
pub found_at : (bytes : List ℕ) → IsBytes bytes → NoneOf table bytes → IsCheckOf (checked_bytes bytes) (check_value bytes) → IsPft (fragment_at bytes) bytes
found_at bytes fits none check =
    let rows = none.1.1.1 in
    let whole : head_size bytes ≤ length bytes = omega (arith, none.1.0) in
    let is_size : described bytes ≡ length (payload bytes) = same_number (described bytes) (length (payload bytes)) rows.1.1.0 in
    let same : fragment_count bytes * described bytes ≡ fragment_count bytes * length (payload bytes) = ap (λ (n : ℕ). fragment_count bytes * n) is_size in
    let len : length (payload bytes) < 2 ^ 14 = omega (arith, is_size) in
    let some : 1 ≤ fragment_count bytes = omega (arith, rows.0) in
    let index : fragment_index bytes < fragment_count bytes = omega (arith, rows.1.0) in
    let few : fragment_count bytes ≤ most_fragments = omega (arith, rows.1.1.1.1.1.0) in
    let size : fragment_count bytes * length (payload bytes) ≤ most_carried = omega (arith, rows.1.1.1.1.1.1.0, same) in
    let seq : sequence_number bytes < 2 ^ 16 = number_16 (slice_range bytes 2 4) (IsBytes-range 2 4 bytes fits) in
    let addr = addresses_fit (has_addresses (marks bytes)) (addresses_place bytes) bytes fits in
    let spelled = spelled_at bytes fits (same_sync (take 2 bytes) none.0) whole is_size in
    let ends : EndsWith (fragment_at bytes) (check_value bytes) bytes =
    record {
      seq = seq;
      index = omega (arith, index, few);
      count = omega (arith, few);
      small = len;
      addr = addr;
      narrow = check.narrow;
      spelled = spelled;
    } in
    let P : List ℕ → Type 0 = λ l. IsCheckOf l (check_value bytes) in
    let Q : ℕ → Type 0 = λ n. IfSome (code bytes) (λ rs. IsCodeFor n rs) in
    record {
      spells = record { check = check_value bytes; checks = subst P (placed (fragment_at bytes) (check_value bytes) bytes ends).is_front check; spelled = spelled };
      seq = seq;
      addr = addr;
      some = some;
      index = index;
      few = few;
      len = len;
      size = size;
      code = subst Q same (fits_code (code bytes) (fragment_count bytes * described bytes) rows.1.1.1.0 rows.1.1.1.1.0 rows.1.1.1.1.1.1.1.0);
    }

-- the payload in the code's slice
pub payload_is : (bytes : List ℕ) (n : ℕ) → n ≡ head_size bytes → take (length bytes - n) (drop n bytes) ≡ payload bytes
payload_is bytes n is = take_all (length bytes - n) (drop n bytes) (omega (arith, length-drop n bytes)) ∙ ap (λ (k : ℕ). drop k bytes) is

-- the fragment with these fields is the one at its places
pub given_is : (bytes : List ℕ) (seq index count : ℕ) (rs : Option Rs) (addr : Option Addr) (inner : List ℕ) → seq ≡ sequence_number bytes → index ≡ fragment_index bytes → count ≡ fragment_count bytes → rs ≡ code bytes → addr ≡ addresses bytes → inner ≡ payload bytes
    → record { seq = seq; index = index; count = count; rs = rs; addr = addr; payload = inner } ≡ fragment_at bytes
given_is bytes seq index count rs addr inner is_seq is_index is_count is_rs is_addr is_inner =
    ap (λ (n : ℕ). record { seq = n; index = index; count = count; rs = rs; addr = addr; payload = inner }) is_seq
    ∙ (ap (λ (n : ℕ). record { seq = sequence_number bytes; index = n; count = count; rs = rs; addr = addr; payload = inner }) is_index
    ∙ (ap (λ (n : ℕ). record { seq = sequence_number bytes; index = fragment_index bytes; count = n; rs = rs; addr = addr; payload = inner }) is_count
    ∙ (ap (λ (o : Option Rs). record { seq = sequence_number bytes; index = fragment_index bytes; count = fragment_count bytes; rs = o; addr = addr; payload = inner }) is_rs
    ∙ (ap (λ (o : Option Addr). record { seq = sequence_number bytes; index = fragment_index bytes; count = fragment_count bytes; rs = code bytes; addr = o; payload = inner }) is_addr
    ∙ ap (λ (l : List ℕ). record { seq = sequence_number bytes; index = fragment_index bytes; count = fragment_count bytes; rs = code bytes; addr = addresses bytes; payload = l }) is_inner))))

-- what a fault excludes, and that it is the only one
pub fault_only : (r : Result Fragment PftFault) (f : PftFault) (bytes : List ℕ) → IsFault f bytes → (p : PftFragment) → IsPft p bytes → IsOkAnd r (λ given. pft_of given ≡ p)
fault_only r f bytes h p is = absurd (none_first table f bytes (none_holds p bytes is) h)

pub fault_is : (r : Result Fragment PftFault) (e f : PftFault) (bytes : List ℕ) → r ≡ Err e → e ≡ f → IsFault f bytes → (g : PftFault) → IsFault g bytes → r ≡ Err g
fault_is r e f bytes is same h g k = is ∙ ap (λ (x : PftFault). Err x) (same ∙ one_first table f g bytes h k)
