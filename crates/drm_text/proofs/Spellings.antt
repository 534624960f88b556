-- A segment's spelling, and its parts at their places.
use Rattle.std.proofs.Common.{◌≡◌, ℕ, suc, ◌+◌, ◌-◌, ◌*◌, ◌/◌, ◌%◌, ◌==◌, ◌<◌, ◌≤◌, Bool, true, false, List, ◌∷◌, ◌++◌, length, take, drop, replicate, get_or, inl, inr, refl, sym, ap, subst, ◌∙◌, append_assoc, arith, length-append, length-drop}
use Rattle.std.specs.Int.{w16, to_be_bytes, from_be_bytes, from_bool}
use Rattle.std.specs.Prelude.{EachIndex}
use Rattle.std.proofs.lemmas.Bool.{cases_lt}
use Rattle.std.proofs.lemmas.List.{take_at, drop_at, take-append-drop, length-take, length-take-le, length-replicate, ext_get_or, get_or-drop, get_or-take, get_or-replicate, get_or_past, drop_more, drop-drop}
use Rattle.std.proofs.lemmas.Nat.{be_bytes_2, from_be_bytes-to_be_bytes_2}
use Rattle.drm_bits.specs.Crc.{IsCheckOf}
use Rattle.drm_bits.proofs.DigitsLemmas.{bit_again}
use Rattle.drm_text.specs.Segment.{Segment, round_up, head, front, IsSegment}
use Rattle.drm_text.specs.Reading.{body_length, BeginsWell, EndsWithCheck}

abbrev pub IsBytes : List ℕ → Type 0
IsBytes bytes = (i : ℕ) → get_or bytes i 0 < 256

-- the segment whose parts stand at their places
abbrev pub segment_in : List ℕ → Segment
segment_in bytes =
    record {
      toggle = get_or bytes 0 0 / 128 % 2 == 1;
      first = get_or bytes 0 0 / 64 % 2 == 1;
      last = get_or bytes 0 0 / 32 % 2 == 1;
      number = get_or bytes 1 0 / 16;
      body = take (body_length bytes) (drop 2 bytes);
    }

flag_lt : (b : Bool) → from_bool b < 2
flag_lt true = omega arith
flag_lt false = omega arith

is_flag : (n : ℕ) (b : Bool) → n ≡ from_bool b → (n == 1) ≡ b
is_flag n true is = ap (λ k. k == 1) is
is_flag n false is = ap (λ k. k == 1) is

parts : (t f l b : ℕ) → t < 2 → f < 2 → l < 2 → 1 ≤ b → b ≤ 16
    → let n = 128 * t + 64 * f + 32 * l + (b - 1) in (n / 128 % 2 ≡ t) × (n / 64 % 2 ≡ f) × (n / 32 % 2 ≡ l) × (n % 16 + 1 ≡ b) × (n / 16 % 2 ≡ 0)
parts t f l b ht hf hl hb few = (omega arith, omega arith, omega arith, omega arith, omega arith)

-- what a segment's bytes are like
pub record IsPlaced (s : Segment) (bytes : List ℕ) : Type 0 where
  pub begins : BeginsWell bytes
  pub long : body_length bytes ≡ length s.body
  pub ends : EndsWithCheck bytes (length s.body + 2)
  pub is_it : segment_in bytes ≡ s

abbrev nothing : ℕ
nothing = 0

zeros_each : (n : ℕ) → EachIndex (replicate n nothing) (λ k. get_or (replicate n nothing) k nothing ≡ nothing)
zeros_each n = λ k lt.
    let none : ℕ = 0 in
    get_or-replicate n k none none (omega (arith, lt, length-replicate n none))

pub placed : (s : Segment) (bytes : List ℕ) → IsSegment s bytes → IsPlaced s bytes
placed s bytes is =
    let e = is.1 in
    let none : ℕ = 0 in
    let check : List ℕ = to_be_bytes w16 is.0 in
    let b : ℕ = length s.body in
    let zeros : List ℕ = replicate (round_up b - b) none in
    let tail : List ℕ = check ++ zeros in
    let spelled : bytes ≡ front s ++ tail = e.spelled ∙ append_assoc (front s) check zeros in
    let size : length bytes ≡ round_up b + 4 = omega (arith, ap length e.spelled, length-append (front s ++ check) zeros, length-append (front s) check, length-replicate (round_up b - b) none) in
    let byte : get_or bytes 0 0 ≡ head s = ap (λ l. get_or l 0 0) e.spelled in
    let second : get_or bytes 1 0 ≡ 16 * s.number = ap (λ l. get_or l 1 0) e.spelled in
    let p = parts (from_bool s.toggle) (from_bool s.first) (from_bool s.last) b (flag_lt s.toggle) (flag_lt s.first) (flag_lt s.last) e.some e.few in
    let long : body_length bytes ≡ b = ap (λ n. n % 16 + 1) byte ∙ p.3 in
    let inner : drop 2 bytes ≡ s.body ++ tail = ap (drop 2) spelled in
    let body : take (body_length bytes) (drop 2 bytes) ≡ s.body =
    ap (λ n. take n (drop 2 bytes)) long ∙ (ap (take b) inner ∙ take_at s.body tail b refl) in
    let front_size : length (front s) ≡ b + 2 = omega arith in
    let front_is : take (b + 2) bytes ≡ front s = ap (take (b + 2)) spelled ∙ take_at (front s) tail (b + 2) front_size in
    let behind : drop (b + 2) bytes ≡ tail = ap (drop (b + 2)) spelled ∙ drop_at (front s) tail (b + 2) front_size in
    let value : from_be_bytes w16 (take 2 (drop (b + 2) bytes)) ≡ is.0 =
    ap (λ l. from_be_bytes w16 (take 2 l)) behind ∙ (ap (from_be_bytes w16) (take_at check zeros 2 refl) ∙ from_be_bytes-to_be_bytes_2 is.0 e.checked.narrow) in
    let last : drop (b + 2 + 2) bytes ≡ zeros = sym (drop-drop 2 (b + 2) bytes) ∙ (ap (drop 2) behind ∙ drop_at check zeros 2 refl) in
    let P : List ℕ → Type 0 = λ l. IsCheckOf l is.0 in
    let Q : ℕ → Type 0 = λ n. IsCheckOf (take (b + 2) bytes) n in
    let R : List ℕ → Type 0 = λ l. EachIndex l (λ k. get_or l k 0 ≡ 0) in
    record {
      begins = record {
        least = omega (arith, size, e.some);
        size = size ∙ ap (λ n. round_up n + 4) (sym long);
        command = ap (λ n. n / 16 % 2) byte ∙ p.4;
        spare = omega (arith, second);
      };
      long = long;
      ends = record { checked = subst Q (sym value) (subst P (sym front_is) e.checked); zeros = subst R (sym last) (zeros_each (round_up b - b)) };
      is_it = ap (λ f. record { toggle = f; first = (segment_in bytes).first; last = (segment_in bytes).last; number = (segment_in bytes).number; body = (segment_in bytes).body }) (is_flag _ s.toggle (ap (λ n. n / 128 % 2) byte ∙ p.0))
          ∙ (ap (λ f. record { toggle = s.toggle; first = f; last = (segment_in bytes).last; number = (segment_in bytes).number; body = (segment_in bytes).body }) (is_flag _ s.first (ap (λ n. n / 64 % 2) byte ∙ p.1))
          ∙ (ap (λ f. record { toggle = s.toggle; first = s.first; last = f; number = (segment_in bytes).number; body = (segment_in bytes).body }) (is_flag _ s.last (ap (λ n. n / 32 % 2) byte ∙ p.2))
          ∙ (ap (λ n. record { toggle = s.toggle; first = s.first; last = s.last; number = n; body = (segment_in bytes).body }) (omega (arith, second))
          ∙ ap (λ l. record { toggle = s.toggle; first = s.first; last = s.last; number = s.number; body = l }) body)));
    }

zeros_are : (l : List ℕ) → EachIndex l (λ k. get_or l k 0 ≡ 0) → l ≡ replicate (length l) 0
zeros_are l each =
    let none : ℕ = 0 in
    ext_get_or none l (replicate (length l) none) (sym (length-replicate (length l) none)) (λ i lt. each i lt ∙ sym (get_or-replicate (length l) i none none lt))

-- a first byte is made of its fields
head_of_fields : (byte b : ℕ) → byte < 256 → byte / 16 % 2 ≡ 0 → b ≡ byte % 16 + 1
    → 128 * from_bool (byte / 128 % 2 == 1) + 64 * from_bool (byte / 64 % 2 == 1) + 32 * from_bool (byte / 32 % 2 == 1) + (b - 1) ≡ byte
head_of_fields byte b small command is =
    omega (arith, bit_again (byte / 128 % 2) (omega arith), bit_again (byte / 64 % 2) (omega arith), bit_again (byte / 32 % 2) (omega arith), command, is)

two : (l : List ℕ) → 2 ≤ length l → l ≡ get_or l 0 0 ∷ get_or l 1 0 ∷ drop 2 l
two l some = drop_more l 0 0 (omega arith) ∙ ap (λ r. get_or l 0 0 ∷ r) (drop_more l 1 0 (omega arith))

two_more : (l : List ℕ) (n : ℕ) → 2 ≤ length l → take (n + 2) l ≡ get_or l 0 0 ∷ get_or l 1 0 ∷ take n (drop 2 l)
two_more l n some =
    let more : n + 2 ≡ suc (suc n) = omega arith in
    ap (λ k. take k l) more ∙ ap (take (suc (suc n))) (two l some)

bytes_in : (l : List ℕ) → IsBytes l → (a n i : ℕ) → get_or (take n (drop a l)) i 0 < 256
bytes_in l fits a n i =
    elim (cases_lt i n) [
      | inl lt ↦ rw (get_or-take n (drop a l) i 0 lt, get_or-drop a l i 0) (fits (a + i))
      | inr ge ↦ rw (get_or_past (take n (drop a l)) i 0 (omega (arith, ge, length-take n (drop a l)))) (omega arith)
    ]

-- bytes that begin and end well are the segment at its places
pub found_at : (bytes : List ℕ) → IsBytes bytes → BeginsWell bytes → EndsWithCheck bytes (body_length bytes + 2) → IsSegment (segment_in bytes) bytes
found_at bytes fits begins ends =
    let none : ℕ = 0 in
    let n : ℕ = body_length bytes in
    let s : Segment = segment_in bytes in
    let long : length s.body ≡ n = length-take-le n (drop 2 bytes) (omega (arith, length-drop 2 bytes, begins.size)) in
    let first : head s ≡ get_or bytes 0 0 = head_of_fields (get_or bytes 0 0) (length s.body) (fits 0) begins.command long in
    let second : 16 * s.number ≡ get_or bytes 1 0 = omega (arith, begins.spare) in
    let check_bytes : List ℕ = take 2 (drop (n + 2) bytes) in
    let check : ℕ = from_be_bytes w16 check_bytes in
    let last : List ℕ = drop (n + 2 + 2) bytes in
    let all : front s ≡ take (n + 2) bytes =
    ap (λ k. k ∷ 16 * s.number ∷ s.body) first
    ∙ (ap (λ k. get_or bytes 0 0 ∷ k ∷ s.body) second ∙ sym (two_more bytes n (omega (arith, begins.least)))) in
    let check_is : to_be_bytes w16 check ≡ check_bytes =
    be_bytes_2 check_bytes check (length-take-le 2 (drop (n + 2) bytes) (omega (arith, length-drop (n + 2) bytes, begins.size)))
    (λ i. bytes_in bytes fits (n + 2) 2 i) refl in
    let rest : length last ≡ round_up (length s.body) - length s.body = omega (arith, length-drop (n + 2 + 2) bytes, begins.size, long) in
    let zeros : replicate (round_up (length s.body) - length s.body) none ≡ last = ap (λ k. replicate k none) (sym rest) ∙ sym (zeros_are last ends.zeros) in
    let P : List ℕ → Type 0 = λ l. IsCheckOf l check in (
      check,
      record {
        some = omega (arith, long);
        few = omega (arith, long);
        number = omega (arith, fits 1);
        spelled = sym (ap (λ l. front s ++ to_be_bytes w16 check ++ l) zeros
            ∙ (ap (λ l. front s ++ l ++ last) check_is
            ∙ (ap (λ l. l ++ check_bytes ++ last) all
            ∙ (append_assoc (take (n + 2) bytes) check_bytes last
            ∙ (ap (λ l. take (n + 2) bytes ++ (check_bytes ++ l)) (sym (drop-drop 2 (n + 2) bytes))
            ∙ (ap (λ l. take (n + 2) bytes ++ l) (take-append-drop 2 (drop (n + 2) bytes)) ∙ take-append-drop (n + 2) bytes))))));
        checked = subst P (sym all) ends.checked;
      },
    )

-- bytes are one segment
pub one_segment : (s t : Segment) (bytes : List ℕ) → IsSegment s bytes → IsSegment t bytes → s ≡ t
one_segment s t bytes h k = sym (placed s bytes h).is_it ∙ (placed t bytes k).is_it

-- the segment that is given
pub found_by : (bytes : List ℕ) (n : ℕ) → IsBytes bytes → BeginsWell bytes → EndsWithCheck bytes (n + 1 + 2) → n ≡ get_or bytes 0 0 % 16
    → IsSegment
    (record {
      toggle = get_or bytes 0 0 / 128 % 2 == 1;
      first = get_or bytes 0 0 / 64 % 2 == 1;
      last = get_or bytes 0 0 / 32 % 2 == 1;
      number = get_or bytes 1 0 / 16;
      body = take (n + 1 + 2 - 2) (drop 2 bytes);
    })
    bytes
found_by bytes n fits begins ends is =
    let place : n + 1 + 2 ≡ body_length bytes + 2 = omega (arith, is) in
    let size : body_length bytes ≡ n + 1 + 2 - 2 = omega (arith, is) in
    let P : ℕ → Type 0 = λ k. EndsWithCheck bytes k in
    let Q : ℕ → Type 0 = λ k.
    IsSegment
    (record {
      toggle = get_or bytes 0 0 / 128 % 2 == 1;
      first = get_or bytes 0 0 / 64 % 2 == 1;
      last = get_or bytes 0 0 / 32 % 2 == 1;
      number = get_or bytes 1 0 / 16;
      body = take k (drop 2 bytes);
    })
    bytes in
    subst Q size (found_at bytes fits begins (subst P place ends))
