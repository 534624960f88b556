-- A packet's spelling, and the fields at their places.
use Rattle.std.proofs.Common.{◌≡◌, ℕ, ◌+◌, ◌-◌, ◌*◌, ◌==◌, ◌/◌, ◌%◌, ◌^◌, ◌<◌, ◌≤◌, Bool, true, false, nat_le, get_or, inl, inr, List, ◌∷◌, ◌++◌, length, take, drop, refl, sym, ap, ◌∙◌, arith, length-append, length-drop}
use Rattle.std.specs.Int.{from_bool, w16, w32, to_be_bytes, from_be_bytes}
use Rattle.std.proofs.lemmas.Bool.{cases_lt}
use Rattle.std.proofs.lemmas.Bool.Decides.{nat_tests}
use Rattle.std.proofs.lemmas.List.{take_at, drop_at, drop_more, drop-drop, take-append-drop, length-take-le, length-take, get_or-take, get_or-drop, get_or_past}
use Rattle.std.proofs.lemmas.Nat.{be_bytes_2, be_bytes_4, from_be_bytes-to_be_bytes_2, from_be_bytes-to_be_bytes_4}
use Rattle.drm_bits.specs.Bits.{value, bit, digits}
use Rattle.drm_bits.proofs.DigitsLemmas.{bit_again, value-mod}
use Rattle.dcp_af.specs.Packet.{AfPacket, sync, tag_kind, revision, head, EndsWith}
use Rattle.dcp_af.specs.Faults.{described, sequence_number, is_checked, major, minor, kind, checked_bytes, payload, check_value, HasKind}

abbrev pub IsBytes : List ℕ → Type 0
IsBytes bytes = (i : ℕ) → get_or bytes i 0 < 256

IsBytes-drop : (n : ℕ) (bytes : List ℕ) → IsBytes bytes → IsBytes (drop n bytes)
IsBytes-drop n bytes h i = rw get_or-drop (h (n + i))

IsBytes-take : (n : ℕ) (bytes : List ℕ) → IsBytes bytes → IsBytes (take n bytes)
IsBytes-take n bytes h i =
    elim (cases_lt i n) [
      | inl lt ↦ rw (get_or-take n bytes i 0 lt) (h i)
      | inr le ↦ rw (get_or_past (take n bytes) i 0 (omega (arith, length-take n bytes))) (omega arith)
    ]

-- the revision by the bits of its byte
pub major_by_bits : (r : ℕ) → value (take 3 (drop 1 (digits 8 r))) ≡ r / 16 % 8
unfolding digits
major_by_bits r =
    omega (arith, bit_again (r / 64 % 2) (omega arith), bit_again (r / 32 % 2) (omega arith), bit_again (r / 16 % 2) (omega arith))

pub minor_by_bits : (r : ℕ) → value (drop 4 (digits 8 r)) ≡ r % 16
unfolding digits
minor_by_bits r = value-mod 4 r

pub checked_by_bits : (r : ℕ) → r < 256 → bit (digits 8 r) ≡ nat_le 128 r
unfolding digits
checked_by_bits r small =
    elim (cases_lt r 128) [
      | inl lt ↦ let test : nat_le 128 r ≡ false = grind (arith, nat_tests) in rw test (high false (omega (arith, lt)))
      | inr ge ↦ let test : nat_le 128 r ≡ true = grind (arith, nat_tests) in rw test (high true (omega (arith, ge)))
    ]
  where
    high : (b : Bool) → r / 128 % 2 ≡ from_bool b → bit (digits 8 r) ≡ b
    high true is = ap (λ n. (from_bool (n == 1) * 1 + 0) == 1) is
    high false is = ap (λ n. (from_bool (n == 1) * 1 + 0) == 1) is

-- the byte of the revision
revision_major : (checked : Bool) (m : ℕ) → m < 16 → value (take 3 (drop 1 (digits 8 (revision checked 1 m)))) ≡ 1
revision_major true m small = omega (arith, major_by_bits (revision true 1 m))
revision_major false m small = omega (arith, major_by_bits (revision false 1 m))

revision_minor : (checked : Bool) (m : ℕ) → m < 16 → value (drop 4 (digits 8 (revision checked 1 m))) ≡ m
revision_minor true m small = omega (arith, minor_by_bits (revision true 1 m))
revision_minor false m small = omega (arith, minor_by_bits (revision false 1 m))

least_of : (checked : Bool) (m : ℕ) → m < 16 → nat_le 128 (revision checked 1 m) ≡ checked
least_of true m small = grind (arith, nat_tests)
least_of false m small = grind (arith, nat_tests)

small_revision : (checked : Bool) (m : ℕ) → m < 16 → revision checked 1 m < 256
small_revision true m small = omega arith
small_revision false m small = omega arith

revision_checked : (checked : Bool) (m : ℕ) → m < 16 → bit (digits 8 (revision checked 1 m)) ≡ checked
revision_checked checked m small = checked_by_bits (revision checked 1 m) (small_revision checked m small) ∙ least_of checked m small

revision_of : (r : ℕ) → r < 256 → r / 16 % 8 ≡ 1 → r ≡ revision (nat_le 128 r) 1 (r % 16)
revision_of r small is =
    elim (cases_lt r 128) [
      | inl lt ↦ let test : nat_le 128 r ≡ false = grind (arith, nat_tests) in rw test (omega (arith, is))
      | inr ge ↦ let test : nat_le 128 r ≡ true = grind (arith, nat_tests) in rw test (omega (arith, is))
    ]

revision_is : (r : ℕ) → r < 256 → value (take 3 (drop 1 (digits 8 r))) ≡ 1 → r ≡ revision (bit (digits 8 r)) 1 (value (drop 4 (digits 8 r)))
revision_is r small is =
    revision_of r small (sym (major_by_bits r) ∙ is)
    ∙ (ap (λ (b : Bool). revision b 1 (r % 16)) (sym (checked_by_bits r small)) ∙ ap (λ (m : ℕ). revision (bit (digits 8 r)) 1 m) (sym (minor_by_bits r)))

-- where the fields stand in a packet's spelling
pub record IsPlaced (p : AfPacket) (check : ℕ) (bytes : List ℕ) : Type 0 where
  pub kind : HasKind bytes
  pub seq : sequence_number bytes ≡ p.seq
  pub checked : is_checked bytes ≡ p.checked
  pub minor : minor bytes ≡ p.minor
  pub payload : payload bytes ≡ p.payload
  pub last : check_value bytes ≡ check
  pub front : checked_bytes bytes ≡ head p ++ p.payload

pub placed : (p : AfPacket) (check : ℕ) (bytes : List ℕ) → EndsWith p check bytes → IsPlaced p check bytes
placed p check bytes e =
    let last : List ℕ = to_be_bytes w16 check in
    let front_size : length (head p ++ p.payload) ≡ 10 + length p.payload = omega (arith, length-append (head p) p.payload) in
    let size : length bytes ≡ 12 + length p.payload = omega (arith, ap length e.spelled, length-append (head p ++ p.payload) last, front_size) in
    let front_is : length (head p ++ p.payload) ≡ length bytes - 2 = omega (arith, size, front_size) in
    let len : from_be_bytes w32 (to_be_bytes w32 (length p.payload)) ≡ length p.payload = from_be_bytes-to_be_bytes_4 (length p.payload) e.fits.payload in
    let due : described bytes ≡ length p.payload + 12 = ap described e.spelled ∙ ap (λ (n : ℕ). n + 12) len in
    let inner : drop 10 bytes ≡ p.payload ++ last = ap (drop 10) e.spelled in
    record {
      kind = ((((ap (take 2) e.spelled, omega (arith, size)), omega (arith, size, due)), ap major e.spelled ∙ revision_major p.checked p.minor e.fits.minor), ap kind e.spelled);
      seq = ap sequence_number e.spelled ∙ from_be_bytes-to_be_bytes_2 p.seq e.fits.seq;
      checked = ap is_checked e.spelled ∙ revision_checked p.checked p.minor e.fits.minor;
      minor = ap minor e.spelled ∙ revision_minor p.checked p.minor e.fits.minor;
      payload = ap (take (length bytes - 2 - 10)) inner ∙ take_at p.payload last (length bytes - 2 - 10) (omega (arith, size));
      last = ap (λ (l : List ℕ). from_be_bytes w16 (drop (length bytes - 2) l)) e.spelled
          ∙ (ap (from_be_bytes w16) (drop_at (head p ++ p.payload) last (length bytes - 2) front_is) ∙ from_be_bytes-to_be_bytes_2 check e.narrow);
      front = ap (take (length bytes - 2)) e.spelled ∙ take_at (head p ++ p.payload) last (length bytes - 2) front_is;
    }

-- the packet whose fields stand at their places
abbrev pub packet_at : List ℕ → AfPacket
packet_at bytes = record { seq = sequence_number bytes; checked = is_checked bytes; minor = minor bytes; payload = payload bytes }

number_2 : (bytes : List ℕ) → IsBytes bytes → from_be_bytes w16 bytes < 2 ^ 16
number_2 bytes fits = omega (arith, fits 0, fits 1)

number_4 : (bytes : List ℕ) → IsBytes bytes → from_be_bytes w32 bytes < 2 ^ 32
number_4 bytes fits = omega (arith, fits 0, fits 1, fits 2, fits 3)

-- two more bytes
two_bytes : (bytes : List ℕ) (n : ℕ) → n + 2 ≤ length bytes → drop n bytes ≡ get_or bytes n 0 ∷ get_or bytes (n + 1) 0 ∷ drop (n + 1 + 1) bytes
two_bytes bytes n enough =
    drop_more bytes n 0 (omega arith) ∙ ap (λ (l : List ℕ). get_or bytes n 0 ∷ l) (drop_more bytes (n + 1) 0 (omega arith))

pub spelled_at : (bytes : List ℕ) → IsBytes bytes → HasKind bytes → EndsWith (packet_at bytes) (check_value bytes) bytes
spelled_at bytes fits is =
    let enough : 12 ≤ length bytes = is.0.0.0.1 in
    let len : List ℕ = take 4 (drop 2 bytes) in
    let seq : List ℕ = take 2 (drop 6 bytes) in
    let last : List ℕ = drop (length bytes - 2) bytes in
    let len_fits : IsBytes len = IsBytes-take 4 (drop 2 bytes) (IsBytes-drop 2 bytes fits) in
    let seq_fits : IsBytes seq = IsBytes-take 2 (drop 6 bytes) (IsBytes-drop 6 bytes fits) in
    let last_fits : IsBytes last = IsBytes-drop (length bytes - 2) bytes fits in
    let inside : ℕ = length bytes - 2 - 10 in
    let within : inside ≤ length (drop 10 bytes) = omega (arith, length-drop 10 bytes) in
    let size : length (payload bytes) ≡ from_be_bytes w32 len = omega (arith, length-take-le inside (drop 10 bytes) within, is.0.0.1) in
    let is_len : to_be_bytes w32 (length (payload bytes)) ≡ len = be_bytes_4 len (length (payload bytes)) (length-take-le 4 (drop 2 bytes) (omega (arith, length-drop 2 bytes))) len_fits size in
    let is_seq : to_be_bytes w16 (sequence_number bytes) ≡ seq = be_bytes_2 seq (sequence_number bytes) (length-take-le 2 (drop 6 bytes) (omega (arith, length-drop 6 bytes))) seq_fits refl in
    let is_last : to_be_bytes w16 (check_value bytes) ≡ last = be_bytes_2 last (check_value bytes) (omega (arith, length-drop (length bytes - 2) bytes)) last_fits refl in
    let place : 10 + inside ≡ length bytes - 2 = omega arith in
    let behind : payload bytes ++ to_be_bytes w16 (check_value bytes) ≡ drop 10 bytes =
    ap (λ (l : List ℕ). payload bytes ++ l) (is_last ∙ (ap (λ (n : ℕ). drop n bytes) (sym place) ∙ sym (drop-drop inside 10 bytes))) ∙ take-append-drop inside (drop 10 bytes) in
    let rest : List ℕ = payload bytes ++ to_be_bytes w16 (check_value bytes) in
    let tail : revision (is_checked bytes) 1 (minor bytes) ∷ tag_kind ∷ rest ≡ drop 8 bytes =
    ap (λ (r : ℕ). r ∷ tag_kind ∷ rest) (sym (revision_is (get_or bytes 8 0) (fits 8) is.0.1))
    ∙ (ap (λ (k : ℕ). get_or bytes 8 0 ∷ k ∷ rest) (sym is.1)
    ∙ (ap (λ (l : List ℕ). get_or bytes 8 0 ∷ get_or bytes 9 0 ∷ l) behind ∙ sym (two_bytes bytes 8 (omega arith)))) in
    let from_six : to_be_bytes w16 (sequence_number bytes) ++ (revision (is_checked bytes) 1 (minor bytes) ∷ tag_kind ∷ rest) ≡ drop 6 bytes =
    ap (λ (l : List ℕ). l ++ (revision (is_checked bytes) 1 (minor bytes) ∷ tag_kind ∷ rest)) is_seq
    ∙ (ap (λ (l : List ℕ). seq ++ l) (tail ∙ sym (drop-drop 2 6 bytes)) ∙ take-append-drop 2 (drop 6 bytes)) in
    let from_two : to_be_bytes w32 (length (payload bytes)) ++ (to_be_bytes w16 (sequence_number bytes) ++ (revision (is_checked bytes) 1 (minor bytes) ∷ tag_kind ∷ rest)) ≡ drop 2 bytes =
    ap (λ (l : List ℕ). l ++ (to_be_bytes w16 (sequence_number bytes) ++ (revision (is_checked bytes) 1 (minor bytes) ∷ tag_kind ∷ rest))) is_len
    ∙ (ap (λ (l : List ℕ). len ++ l) (from_six ∙ sym (drop-drop 4 2 bytes)) ∙ take-append-drop 4 (drop 2 bytes)) in
    let whole : sync ++ (to_be_bytes w32 (length (payload bytes)) ++ (to_be_bytes w16 (sequence_number bytes) ++ (revision (is_checked bytes) 1 (minor bytes) ∷ tag_kind ∷ rest))) ≡ bytes =
    ap (λ (l : List ℕ). sync ++ l) from_two ∙ (ap (λ (l : List ℕ). l ++ drop 2 bytes) (sym is.0.0.0.0) ∙ take-append-drop 2 bytes) in
    record {
      fits = record { seq = number_2 seq seq_fits; minor = omega (arith, minor_by_bits (get_or bytes 8 0)); payload = omega (arith, size, number_4 len len_fits) };
      narrow = number_2 last last_fits;
      spelled = sym whole;
    }
