-- A packet's spelling, and its parts at their places.
use Rattle.std.proofs.Common.{◌≡◌, ℕ, ◌+◌, ◌-◌, ◌/◌, ◌%◌, ◌<◌, ◌≤◌, nat_lt, Bool, true, false, if◌then◌else◌, List, ◌∷◌, ◌++◌, length, take, drop, get_or, inl, inr, refl, sym, ap, subst, ◌∙◌, arith, length-append, length-drop}
use Rattle.std.specs.Int.{w16, to_be_bytes, from_be_bytes}
use Rattle.std.proofs.lemmas.Bool.{lt-ltb, le-ltb, cases_lt}
use Rattle.std.proofs.lemmas.List.{take_at, drop_at, take-append-drop, length-take-le, get_or-drop, get_or-take, drop_more}
use Rattle.std.proofs.lemmas.Nat.{be_bytes_2, from_be_bytes-to_be_bytes_2}
use Rattle.drm_bits.specs.Crc.{IsCheckOf}
use Rattle.drm_data.specs.PacketFields.{PacketFields, is_padded, head, data_field, front, SpellsDataPacket, IsPacket}
use Rattle.drm_data.specs.Faults.{checked_bytes, check_value, says_padded, said_count, HasLength, HasCheck}
use Rattle.drm_data.specs.Reading.{flag_at, useful_in}
use Rattle.drm_data.proofs.Heads.{AreFields, fields_of_head, head_of_fields, head_byte}

abbrev pub IsBytes : List ℕ → Type 0
IsBytes bytes = (i : ℕ) → get_or bytes i 0 < 256

-- the packet whose fields stand at their places
abbrev pub packet_at : List ℕ → PacketFields
packet_at bytes =
    let byte : ℕ = get_or bytes 0 0 in
    record { first = flag_at 128 byte; last = flag_at 64 byte; id = byte / 16 % 4; continuity = byte % 8; useful = useful_in (says_padded bytes) (checked_bytes bytes) }

-- a data field has no more useful bytes than there is room for
pub useful_fit : (d : ℕ) (useful rest : List ℕ) → length (data_field d useful rest) ≡ d → length useful ≤ d
useful_fit d useful rest size =
    elim (cases_lt (length useful) d) [
      | inl lt ↦ omega (arith, lt)
      | inr ge ↦
          let is : data_field d useful rest ≡ useful = ap (λ b. if b then length useful ∷ useful ++ rest else useful) (le-ltb (length useful) d ge) in
          omega (arith, ap length is, size)
    ]

-- where the parts of a spelling stand
pub record IsPlaced (d : ℕ) (p : PacketFields) (rest : List ℕ) (check : ℕ) (bytes : List ℕ) : Type 0 where
  pub size : HasLength d bytes
  pub front_is : checked_bytes bytes ≡ front d p rest
  pub check_is : check_value bytes ≡ check
  pub first_is : get_or bytes 0 0 ≡ head d p
  pub count_is : is_padded d p ≡ true → said_count bytes ≡ length p.useful
  pub useful_is : useful_in (is_padded d p) (front d p rest) ≡ p.useful

useful_there : (d : ℕ) (p : PacketFields) (rest : List ℕ) (b : Bool) → nat_lt (length p.useful) d ≡ b
    → useful_in b (front d p rest) ≡ p.useful
useful_there d p rest true is =
    let field : data_field d p.useful rest ≡ length p.useful ∷ p.useful ++ rest = ap (λ b. if b then length p.useful ∷ p.useful ++ rest else p.useful) is in
    ap (λ l. take (get_or l 0 0) (drop 1 l)) field ∙ take_at p.useful rest (length p.useful) refl
useful_there d p rest false is =
    ap (λ b. if b then length p.useful ∷ p.useful ++ rest else p.useful) is

count_there : (d : ℕ) (p : PacketFields) (rest : List ℕ) (check : ℕ) (bytes : List ℕ) → SpellsDataPacket d p rest check bytes → is_padded d p ≡ true → said_count bytes ≡ length p.useful
count_there d p rest check bytes s is =
    let field : data_field d p.useful rest ≡ length p.useful ∷ p.useful ++ rest = ap (λ b. if b then length p.useful ∷ p.useful ++ rest else p.useful) is in
    ap said_count s.spelled ∙ ap (λ l. get_or (l ++ to_be_bytes w16 check) 0 0) field

pub placed : (d : ℕ) (p : PacketFields) (rest : List ℕ) (check : ℕ) (bytes : List ℕ) → SpellsDataPacket d p rest check bytes → IsPlaced d p rest check bytes
placed d p rest check bytes s =
    let last : List ℕ = to_be_bytes w16 check in
    let size : length bytes ≡ d + 3 = omega (arith, ap length s.spelled, length-append (front d p rest) last, s.size) in
    let front_size : length (front d p rest) ≡ length bytes - 2 = omega (arith, size, s.size) in
    record {
      size = size;
      front_is = ap (take (length bytes - 2)) s.spelled ∙ take_at (front d p rest) last (length bytes - 2) front_size;
      check_is = ap (λ l. from_be_bytes w16 (drop (length bytes - 2) l)) s.spelled
          ∙ (ap (from_be_bytes w16) (drop_at (front d p rest) last (length bytes - 2) front_size) ∙ from_be_bytes-to_be_bytes_2 check s.checked.narrow);
      first_is = ap (λ l. get_or l 0 0) s.spelled;
      count_is = count_there d p rest check bytes s;
      useful_is = useful_there d p rest (is_padded d p) refl;
    }

pub head_fields : (d : ℕ) (p : PacketFields) (rest : List ℕ) (check : ℕ) (bytes : List ℕ) → SpellsDataPacket d p rest check bytes → AreFields (get_or bytes 0 0) p.first p.last p.id (is_padded d p) p.continuity
head_fields d p rest check bytes s =
    let P : ℕ → Type 0 = λ n. AreFields n p.first p.last p.id (is_padded d p) p.continuity in
    subst P (sym (placed d p rest check bytes s).first_is) (fields_of_head p.first p.last p.id (is_padded d p) p.continuity s.id s.continuity)

-- a packet's fields stand at their places
pub is_packet_at : (d : ℕ) (p : PacketFields) (bytes : List ℕ) → IsPacket d p bytes → packet_at bytes ≡ p
is_packet_at d p bytes is =
    let at = placed d p is.0 is.1 bytes is.2 in
    let fields = head_fields d p is.0 is.1 bytes is.2 in
    let useful : useful_in (says_padded bytes) (checked_bytes bytes) ≡ p.useful =
    ap (λ b. useful_in b (checked_bytes bytes)) fields.padded_is ∙ (ap (useful_in (is_padded d p)) at.front_is ∙ at.useful_is) in
    ap (λ b. record { first = b; last = (packet_at bytes).last; id = (packet_at bytes).id; continuity = (packet_at bytes).continuity; useful = (packet_at bytes).useful }) fields.first_is
    ∙ (ap (λ b. record { first = p.first; last = b; id = (packet_at bytes).id; continuity = (packet_at bytes).continuity; useful = (packet_at bytes).useful }) fields.last_is
    ∙ (ap (λ n. record { first = p.first; last = p.last; id = n; continuity = (packet_at bytes).continuity; useful = (packet_at bytes).useful }) fields.id_is
    ∙ (ap (λ n. record { first = p.first; last = p.last; id = p.id; continuity = n; useful = (packet_at bytes).useful }) fields.continuity_is
    ∙ ap (λ l. record { first = p.first; last = p.last; id = p.id; continuity = p.continuity; useful = l }) useful)))

-- the rest of the data field behind these useful bytes
abbrev rest_in : Bool → List ℕ → List ℕ
rest_in padded front = if padded then drop (get_or front 1 0) (drop 2 front) else drop 1 front

-- the useful bytes and the rest make up the data field
pub record Fills (d : ℕ) (padded : Bool) (front : List ℕ) : Type 0 where
  pub test : nat_lt (length (useful_in padded front)) d ≡ padded
  pub field : data_field d (useful_in padded front) (rest_in padded front) ≡ drop 1 front

fills : (d : ℕ) (padded : Bool) (front : List ℕ) → 1 ≤ d → length front ≡ d + 1 → (padded ≡ true → get_or front 1 0 < d) → Fills d padded front
fills d true front some size fits =
    let count : ℕ = get_or front 1 0 in
    let small : count < d = fits refl in
    let long : length (take count (drop 2 front)) ≡ count = length-take-le count (drop 2 front) (omega (arith, length-drop 2 front, size)) in
    let test : nat_lt (length (take count (drop 2 front))) d ≡ true = ap (λ n. nat_lt n d) long ∙ lt-ltb count d small in
    record {
      test = test;
      field = ap (λ b. if b then length (take count (drop 2 front)) ∷ take count (drop 2 front) ++ drop count (drop 2 front) else take count (drop 2 front)) test
          ∙ (ap (λ n. n ∷ take count (drop 2 front) ++ drop count (drop 2 front)) long
          ∙ (ap (λ l. count ∷ l) (take-append-drop count (drop 2 front)) ∙ sym (drop_more front 1 0 (omega (arith, size)))));
    }
fills d false front some size fits =
    let long : length (drop 1 front) ≡ d = omega (arith, length-drop 1 front, size) in
    let test : nat_lt (length (drop 1 front)) d ≡ false = le-ltb (length (drop 1 front)) d (omega (arith, long)) in
    record {
      test = test;
      field = ap (λ b. if b then length (drop 1 front) ∷ drop 1 front ++ drop 1 front else drop 1 front) test;
    }

-- bytes of which nothing is refused are the packet at their places
pub found_at : (d : ℕ) (bytes : List ℕ) → 1 ≤ d → IsBytes bytes → HasCheck d bytes → (says_padded bytes ≡ true → said_count bytes < d) → IsPacket d (packet_at bytes) bytes
found_at d bytes some fits is few =
    let byte : ℕ = get_or bytes 0 0 in
    let padded : Bool = says_padded bytes in
    let front_bytes : List ℕ = checked_bytes bytes in
    let last : List ℕ = drop (length bytes - 2) bytes in
    let size : length front_bytes ≡ d + 1 = length-take-le (length bytes - 2) bytes (omega arith) ∙ omega (arith, is.0) in
    let first : get_or front_bytes 0 0 ≡ byte = get_or-take (length bytes - 2) bytes 0 0 (omega (arith, is.0)) in
    let second : get_or front_bytes 1 0 ≡ said_count bytes = get_or-take (length bytes - 2) bytes 1 0 (omega (arith, is.0, some)) in
    let fill = fills d padded front_bytes some size (λ h. omega (arith, second, few h)) in
    let byte_is : head d (packet_at bytes) ≡ byte =
    ap (λ b. head_byte (flag_at 128 byte) (flag_at 64 byte) (byte / 16 % 4) b (byte % 8)) fill.test ∙ sym (head_of_fields byte (fits 0)) in
    let all : front d (packet_at bytes) (rest_in padded front_bytes) ≡ front_bytes =
    ap (λ n. n ∷ data_field d (useful_in padded front_bytes) (rest_in padded front_bytes)) byte_is
    ∙ (ap (λ l. byte ∷ l) fill.field ∙ (ap (λ n. n ∷ drop 1 front_bytes) (sym first) ∙ sym (drop_more front_bytes 0 0 (omega (arith, size))))) in
    let last_is : to_be_bytes w16 (check_value bytes) ≡ last =
    be_bytes_2 last (check_value bytes) (omega (arith, length-drop (length bytes - 2) bytes, is.0)) (λ i. rw get_or-drop (fits (length bytes - 2 + i))) refl in
    let P : List ℕ → Type 0 = λ l. IsCheckOf l (check_value bytes) in (
      rest_in padded front_bytes,
      check_value bytes,
      record {
        id = omega arith;
        continuity = omega arith;
        size = ap length fill.field ∙ omega (arith, length-drop 1 front_bytes, size);
        spelled = sym (ap (λ l. l ++ to_be_bytes w16 (check_value bytes)) all ∙ (ap (λ l. front_bytes ++ l) last_is ∙ take-append-drop (length bytes - 2) bytes));
        checked = subst P (sym all) is.1;
      },
    )
