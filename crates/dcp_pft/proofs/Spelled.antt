-- The fields at their places spell a header.
use Rattle.std.proofs.Common.{◌≡◌, ℕ, zero, suc, ◌+◌, ◌-◌, ◌*◌, ◌%◌, ◌^◌, ◌<◌, ◌≤◌, Bool, true, false, get_or, inl, inr, List, ◌∷◌, ◌++◌, length, take, drop, refl, sym, subst, ap, ◌∙◌, arith, append_assoc, length-drop, Option, None, Some, slice_range, if◌then◌else◌}
use Rattle.std.specs.Int.{w16, w32, to_be_bytes, from_be_bytes}
use Rattle.std.proofs.lemmas.Bool.{cases_lt, leb-true, leb-false}
use Rattle.std.proofs.lemmas.List.{take-append-drop, drop_more, length-take-le, length-take, get_or-take, get_or-drop, get_or_past}
use Rattle.std.proofs.lemmas.List.Folds.{drop_split}
use Rattle.std.proofs.lemmas.Nat.{be_bytes_2, be_bytes_4}
use Rattle.drm_bits.specs.Bits.{IsBytes}
use Rattle.dcp_pft.specs.declared.shape.Rs.{Rs}
use Rattle.dcp_pft.specs.declared.fragment.Addr.{Addr}
use Rattle.dcp_pft.specs.Head.{PftFragment, sync, three_bytes, flag, rs_bytes, addr_bytes, head}
use Rattle.dcp_pft.specs.Faults.{sequence_number, fragment_index, fragment_count, marks, has_code, has_addresses, described, code, addresses_place, addresses_at, addresses, checked_size, check_value, head_size, payload}

IsBytes-drop : (n : ℕ) (bytes : List ℕ) → IsBytes bytes → IsBytes (drop n bytes)
IsBytes-drop n bytes h i = rw get_or-drop (h (n + i))

IsBytes-take : (n : ℕ) (bytes : List ℕ) → IsBytes bytes → IsBytes (take n bytes)
IsBytes-take n bytes h i =
    elim (cases_lt i n) [
      | inl lt ↦ rw (get_or-take n bytes i 0 lt) (h i)
      | inr le ↦ rw (get_or_past (take n bytes) i 0 (omega (arith, length-take n bytes))) (omega arith)
    ]

pub IsBytes-range : (n m : ℕ) (bytes : List ℕ) → IsBytes bytes → IsBytes (slice_range bytes n m)
IsBytes-range n m bytes h = IsBytes-take (m - n) (drop n bytes) (IsBytes-drop n bytes h)

IsBytes-zero : (bytes : List ℕ) → IsBytes bytes → IsBytes (0 ∷ bytes)
IsBytes-zero bytes h zero = omega arith
IsBytes-zero bytes h (suc i) = h i

length-range : (n m : ℕ) (bytes : List ℕ) → n ≤ m → m ≤ length bytes → length (slice_range bytes n m) ≡ m - n
length-range n m bytes le within = length-take-le (m - n) (drop n bytes) (omega (arith, length-drop n bytes))

-- the number in two bytes, or in three
pub two_bytes_at : (n : ℕ) (bytes : List ℕ) → IsBytes bytes → n + 2 ≤ length bytes → drop n bytes ≡ to_be_bytes w16 (from_be_bytes w16 (slice_range bytes n (n + 2))) ++ drop (n + 2) bytes
two_bytes_at n bytes fits within =
    let range : List ℕ = slice_range bytes n (n + 2) in
    let two : length range ≡ 2 = length-range n (n + 2) bytes (omega arith) within ∙ omega arith in
    let is : to_be_bytes w16 (from_be_bytes w16 range) ≡ range = be_bytes_2 range (from_be_bytes w16 range) two (IsBytes-range n (n + 2) bytes fits) refl in
    drop_split bytes n (n + 2) (omega arith) ∙ ap (λ (l : List ℕ). l ++ drop (n + 2) bytes) (sym is)

three_bytes_at : (n : ℕ) (bytes : List ℕ) → IsBytes bytes → n + 3 ≤ length bytes → drop n bytes ≡ three_bytes (from_be_bytes w32 (0 ∷ slice_range bytes n (n + 3))) ++ drop (n + 3) bytes
three_bytes_at n bytes fits within =
    let range : List ℕ = slice_range bytes n (n + 3) in
    let three : length range ≡ 3 = length-range n (n + 3) bytes (omega arith) within ∙ omega arith in
    let four : length (0 ∷ range) ≡ 4 = omega arith in
    let is : to_be_bytes w32 (from_be_bytes w32 (0 ∷ range)) ≡ 0 ∷ range =
    be_bytes_4 (0 ∷ range) (from_be_bytes w32 (0 ∷ range)) four (IsBytes-zero range (IsBytes-range n (n + 3) bytes fits)) refl in
    drop_split bytes n (n + 3) (omega arith) ∙ ap (λ (l : List ℕ). l ++ drop (n + 3) bytes) (sym (ap (drop 1) is))

pub number_16 : (range : List ℕ) → IsBytes range → from_be_bytes w16 range < 2 ^ 16
number_16 range fits = omega (arith, fits 0, fits 1)

-- the code and the addresses by whether there are any
code_when : Bool → List ℕ → Option Rs
code_when b bytes = if b then Some (record { k = get_or bytes 12 0; z = get_or bytes 13 0 }) else None

place_when : Bool → ℕ
place_when b = if b then 14 else 12

addresses_when : Bool → List ℕ → ℕ → Option Addr
addresses_when b bytes n = if b then Some (addresses_at bytes n) else None

size_when : Bool → ℕ → ℕ
size_when b n = if b then n + 4 else n

code_spelled : (b : Bool) (bytes : List ℕ) → 14 ≤ length bytes → drop 12 bytes ≡ rs_bytes (code_when b bytes) ++ drop (place_when b) bytes
unfolding code_when place_when
code_spelled false bytes within = refl
code_spelled true bytes within =
    drop_more bytes 12 0 (omega arith) ∙ ap (λ (l : List ℕ). get_or bytes 12 0 ∷ l) (drop_more bytes 13 0 (omega arith))

addresses_spelled : (b : Bool) (n : ℕ) (bytes : List ℕ) → IsBytes bytes → size_when b n ≤ length bytes → drop n bytes ≡ addr_bytes (addresses_when b bytes n) ++ drop (size_when b n) bytes
unfolding addresses_when size_when
addresses_spelled false n bytes fits within = refl
addresses_spelled true n bytes fits within =
    let more : n + 2 + 2 ≡ n + 4 = omega arith in
    let source : List ℕ = to_be_bytes w16 (from_be_bytes w16 (slice_range bytes n (n + 2))) in
    let P : ℕ → Type 0 = λ m. drop (n + 2) bytes ≡ to_be_bytes w16 (from_be_bytes w16 (slice_range bytes (n + 2) m)) ++ drop m bytes in
    two_bytes_at n bytes fits (omega arith) ∙ ap (λ (l : List ℕ). source ++ l) (subst P more (two_bytes_at (n + 2) bytes fits (omega arith)))

marks_when : (b c : Bool) (m n : ℕ) (bytes : List ℕ) → has_code m ≡ b → has_addresses m ≡ c → m < 2 ^ 16 → m ≡ 32768 * flag (code_when b bytes) + 16384 * flag (addresses_when c bytes n) + m % 16384
unfolding code_when addresses_when
marks_when false false m n bytes h k fits = omega (arith, leb-false 32768 m h, leb-false 16384 (m % 32768) k)
marks_when false true m n bytes h k fits = omega (arith, leb-false 32768 m h, leb-true 16384 (m % 32768) k)
marks_when true false m n bytes h k fits = omega (arith, leb-true 32768 m h, leb-false 16384 (m % 32768) k)
marks_when true true m n bytes h k fits = omega (arith, leb-true 32768 m h, leb-true 16384 (m % 32768) k)

least_size : (b c : Bool) → 14 ≤ size_when c (place_when b) + 2
unfolding place_when size_when
least_size false false = omega arith
least_size false true = omega arith
least_size true false = omega arith
least_size true true = omega arith

pub least_head : (bytes : List ℕ) → 14 ≤ head_size bytes
unfolding place_when size_when
least_head bytes = least_size (has_code (marks bytes)) (has_addresses (marks bytes))

-- the fragment whose fields stand at their places
abbrev pub fragment_at : List ℕ → PftFragment
fragment_at bytes = record { seq = sequence_number bytes; index = fragment_index bytes; count = fragment_count bytes; rs = code bytes; addr = addresses bytes; payload = payload bytes }

joined : (front rs addr check payload : List ℕ) → front ++ (rs ++ (addr ++ (check ++ payload))) ≡ front ++ rs ++ addr ++ check ++ payload
joined front rs addr check payload = sym (simp append_assoc)

-- the marks are those of the code, the addresses and the payload
marks_at : (bytes : List ℕ) → IsBytes bytes → described bytes ≡ length (payload bytes) → marks bytes ≡ 32768 * flag (code bytes) + 16384 * flag (addresses bytes) + length (payload bytes)
unfolding code_when place_when addresses_when
marks_at bytes fits size =
    let m : ℕ = marks bytes in
    marks_when (has_code m) (has_addresses m) m (addresses_place bytes) bytes refl refl (number_16 (slice_range bytes 10 12) (IsBytes-range 10 12 bytes fits))
    ∙ ap (λ (n : ℕ). 32768 * flag (code bytes) + 16384 * flag (addresses bytes) + n) size

pub spelled_at : (bytes : List ℕ) → IsBytes bytes → take 2 bytes ≡ sync → head_size bytes ≤ length bytes → described bytes ≡ length (payload bytes) → bytes ≡ head (fragment_at bytes) ++ to_be_bytes w16 (check_value bytes) ++ payload bytes
unfolding code_when place_when addresses_when size_when
spelled_at bytes fits is_sync whole size =
    let least : 14 ≤ length bytes = omega (arith, least_head bytes) in
    let check = two_bytes_at (checked_size bytes) bytes fits whole in
    let addr = addresses_spelled (has_addresses (marks bytes)) (addresses_place bytes) bytes fits (omega arith) in
    let rs = code_spelled (has_code (marks bytes)) bytes least in
    let front = λ (m : ℕ). sync ++ to_be_bytes w16 (sequence_number bytes) ++ three_bytes (fragment_index bytes) ++ three_bytes (fragment_count bytes) ++ to_be_bytes w16 m in
    let begin : bytes ≡ front (marks bytes) ++ drop 12 bytes =
    sym (take-append-drop 2 bytes)
    ∙ (ap (λ (l : List ℕ). l ++ drop 2 bytes) is_sync
    ∙ (ap (λ (l : List ℕ). sync ++ l) (two_bytes_at 2 bytes fits (omega arith))
    ∙ (ap (λ (l : List ℕ). sync ++ to_be_bytes w16 (sequence_number bytes) ++ l) (three_bytes_at 4 bytes fits (omega arith))
    ∙ (ap (λ (l : List ℕ). sync ++ to_be_bytes w16 (sequence_number bytes) ++ three_bytes (fragment_index bytes) ++ l) (three_bytes_at 7 bytes fits (omega arith))
    ∙ ap (λ (l : List ℕ). sync ++ to_be_bytes w16 (sequence_number bytes) ++ three_bytes (fragment_index bytes) ++ three_bytes (fragment_count bytes) ++ l) (two_bytes_at 10 bytes fits (omega arith)))))) in
    let rest : drop 12 bytes ≡ rs_bytes (code bytes) ++ (addr_bytes (addresses bytes) ++ (to_be_bytes w16 (check_value bytes) ++ payload bytes)) =
    rs ∙ ap (λ (l : List ℕ). rs_bytes (code bytes) ++ l) (addr ∙ ap (λ (l : List ℕ). addr_bytes (addresses bytes) ++ l) check) in
    begin
    ∙ (ap (λ (l : List ℕ). front (marks bytes) ++ l) rest
    ∙ (joined (front (marks bytes)) (rs_bytes (code bytes)) (addr_bytes (addresses bytes)) (to_be_bytes w16 (check_value bytes)) (payload bytes)
    ∙ ap (λ (m : ℕ). front m ++ rs_bytes (code bytes) ++ addr_bytes (addresses bytes) ++ to_be_bytes w16 (check_value bytes) ++ payload bytes) (marks_at bytes fits size)))
