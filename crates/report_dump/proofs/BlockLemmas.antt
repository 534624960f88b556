-- The entities of a data field, as their bits are taken one after another.
use Rattle.std.proofs.Common.{◌≡◌, ◌⊎◌, inl, inr, ℕ, ◌+◌, ◌-◌, ◌*◌, ◌%◌, ◌==◌, ◌<◌, ◌≤◌, get_or, Bool, true, false, if◌then◌else◌, List, [], ◌∷◌, ◌++◌, length, take, drop, refl, sym, ap, subst, ◌∙◌, append_assoc, arith, length-append, length-drop}
use Rattle.std.specs.Prelude.{slice_index, codes}
use Rattle.std.specs.Int.{from_bool}
use Rattle.std.proofs.lemmas.List.{take-append-drop, take_at, drop_at, drop-drop, length-take-le, take-append-le, drop-append-le}
use Rattle.std.specs.List.{flat_map}
use Rattle.std.proofs.lemmas.Bool.{cases_lt}
use Rattle.std.proofs.lemmas.Bool.Decides.{nat_tests}
use Rattle.hex.specs.Hex.{lower_digits}
use Rattle.drm_bits.specs.Bits.{value, digits, bits_of, front, IsBytes}
use Rattle.drm_bits.specs.Crc.{zeros}
use Rattle.drm_bits.specs.Fields.{spelled}
use Rattle.drm_bits.proofs.BitsLemmas.{length-bits_of, length-digits}
use Rattle.drm_bits.proofs.DigitsLemmas.{value-digits}
use Rattle.drm_bits.proofs.Checks.{bits_of-append}
use Rattle.drm_bits.proofs.FieldLemmas.{spelled_fields}
use Rattle.drm_sdc.specs.declared.entity.Entity.{Entity}
use Rattle.drm_sdc.specs.declared.block.Block.{Block}
use Rattle.drm_sdc.specs.declared.block.BlockInfo.{BlockInfo}
use Rattle.dcp_tag.specs.Tag.{bytes_for}
use Rattle.mdi_items.specs.declared.view.SdcSpan.{SdcSpan}
use Rattle.drm_sdc.specs.Bodies.{body_fields, body_length, kind_of}
use Rattle.drm_sdc.specs.Block.{first_form, IsBlock}
use Rattle.drm_sdc.specs.Entity.{IsEntity, entity_size}
use Rattle.drm_sdc.specs.Field.{IsTail, IsField}
use Rattle.drm_sdc.proofs.EntityLaws.{length-entity, no_tail, small_rest, size_within}
use Rattle.drm_sdc.proofs.BlockLaws.{framed_length, one_info}
use Rattle.report_text.specs.HexBits.{hex_of_bits}
use Rattle.report_text.specs.FrameLine.{front_bits}
use Rattle.report_dump.specs.declared.block.EntityHead.{EntityHead}
use Rattle.report_dump.specs.Block.{IsSpanOfBlock, HoldsBlock, IsEntityHead, IsZero, head_text}
use Rattle.report_dump.specs.PacketContent.{bits_at}
use Rattle.report_dump.specs.Lines.{kind_text, entity_line, tail_line, tail_text}
use Rattle.report_dump.specs.Text.{field_text}

-- ---- bits at the front of others

front_of : (w : ℕ) (front_bits behind : List Bool) → w ≤ length front_bits → front w (front_bits ++ behind) ≡ front w front_bits
front_of w xs ys within = ap value (take-append-le w xs ys within)

drop_of : (k : ℕ) (xs ys : List Bool) → k ≤ length xs → drop k (xs ++ ys) ≡ drop k xs ++ ys
drop_of k xs ys within = drop-append-le k xs ys within

-- ---- the tail

-- a byte whose bits are 0 is 0
seven_and_one : (a b c d e f g h : Bool) → value (a ∷ b ∷ c ∷ d ∷ e ∷ f ∷ g ∷ []) ≡ 0 → value (h ∷ []) ≡ 0 → value (a ∷ b ∷ c ∷ d ∷ e ∷ f ∷ g ∷ h ∷ []) ≡ 0
seven_and_one a b c d e f g h front last = omega (arith, front, last)

four_and_four : (a b c d e f g h : Bool) → value (a ∷ b ∷ c ∷ d ∷ []) ≡ 0 → value (e ∷ f ∷ g ∷ h ∷ []) ≡ 0 → value (a ∷ b ∷ c ∷ d ∷ e ∷ f ∷ g ∷ h ∷ []) ≡ 0
four_and_four a b c d e f g h front last = omega (arith, front, last)

zero_first : (x y : ℕ) (bits : List Bool) → value (take 7 (digits 8 x ++ (digits 8 y ++ bits))) ≡ 0 → value (take 1 (drop 7 (digits 8 x ++ (digits 8 y ++ bits)))) ≡ 0 → value (digits 8 x) ≡ 0
unfolding digits
zero_first x y bits front last = seven_and_one _ _ _ _ _ _ _ _ front last

zero_second : (x y : ℕ) (bits : List Bool) → value (take 4 (drop 1 (drop 7 (digits 8 x ++ (digits 8 y ++ bits))))) ≡ 0 → value (take 4 (drop 4 (drop 1 (drop 7 (digits 8 x ++ (digits 8 y ++ bits)))))) ≡ 0
    → value (digits 8 y) ≡ 0
unfolding digits
zero_second x y bits front last = four_and_four _ _ _ _ _ _ _ _ front last

bool_zero : (b : Bool) → b ≡ false → from_bool b ≡ 0
bool_zero b is = ap from_bool is

-- a head of zeros stands where the first two bytes are 0
zero_bytes : (field : List ℕ) (behind : List Bool) (h : EntityHead) → 2 ≤ length field → IsBytes field → IsEntityHead h (bits_of field ++ behind) → IsZero h → (get_or field 0 0 ≡ 0) × (get_or field 1 0 ≡ 0)
zero_bytes [] behind h long small is none = absurd (omega (arith, long))
zero_bytes (x ∷ []) behind h long small is none = absurd (omega (arith, long))
zero_bytes (x ∷ y ∷ field) behind h long small is none =
    let rest : List Bool = bits_of field ++ behind in
    let parts : bits_of (x ∷ y ∷ field) ++ behind ≡ digits 8 x ++ (digits 8 y ++ rest) =
    append_assoc (digits 8 x) (digits 8 y ++ bits_of field) behind ∙ ap (λ l. digits 8 x ++ l) (append_assoc (digits 8 y) (bits_of field) behind) in
    let a : front 7 (bits_of (x ∷ y ∷ field) ++ behind) ≡ 0 = sym is.len ∙ none.len in
    let b : front 1 (drop 7 (bits_of (x ∷ y ∷ field) ++ behind)) ≡ 0 = is.version ∙ bool_zero h.version none.version in
    let c : front 4 (drop 1 (drop 7 (bits_of (x ∷ y ∷ field) ++ behind))) ≡ 0 = sym is.kind ∙ none.kind in
    let d : front 4 (drop 4 (drop 1 (drop 7 (bits_of (x ∷ y ∷ field) ++ behind)))) ≡ 0 = sym is.nibble ∙ none.nibble in
    let first : value (digits 8 x) ≡ 0 = zero_first x y rest (rw parts at a) (rw parts at b) in
    let second : value (digits 8 y) ≡ 0 = zero_second x y rest (rw parts at c) (rw parts at d) in
    (sym (value-digits 8 x (small 0)) ∙ first, sym (value-digits 8 y (small 1)) ∙ second)

-- a tail begins there
is_tail : (field : List ℕ) (behind bits : List Bool) (room : ℕ) → length field ≡ room → IsBytes field → bits ≡ bits_of field ++ behind → (room < 2) ⊎ ((h : EntityHead) × IsEntityHead h bits × IsZero h) → IsTail field
is_tail field behind bits room size small begins (inl few) = inl (omega (arith, size, few))
is_tail field behind bits room size small begins (inr (h, is, none)) =
    elim (cases_lt (length field) 2) [
      | inl few ↦ inl few
      | inr many ↦ inr (zero_bytes field behind h many small (subst (IsEntityHead h) begins is) none)
    ]

only_tail : (entities : List Entity) (tail field : List ℕ) → IsBytes field → IsField entities tail field → IsTail field → (entities ≡ []) × (length tail ≡ length field)
only_tail [] tail field small is ends = (refl, ap length (sym is.0))
only_tail (e ∷ entities) tail field small is ends = absurd (no_tail e field small is.0 ends)

-- nothing but the tail is left
pub at_tail : (entities : List Entity) (tail : List ℕ) (room : ℕ) (bits : List Bool) → HoldsBlock entities tail room bits → (room < 2) ⊎ ((h : EntityHead) × IsEntityHead h bits × IsZero h)
    → (entities ≡ []) × (length tail ≡ room)
at_tail entities tail room bits holds ends =
    let only = only_tail entities tail holds.field holds.octets holds.is (is_tail holds.field holds.behind bits room holds.size holds.octets holds.begins ends) in
    (only.0, only.1 ∙ holds.size)

-- ---- the next entity

-- The first entity has this head, and the others stand behind its body.
pub record HasNext (entities : List Entity) (tail : List ℕ) (room : ℕ) (h : EntityHead) (bits : List Bool) : Type 0 where
  pub e : Entity
  pub rest : List Entity
  pub are : entities ≡ e ∷ rest
  pub within : 2 + h.len ≤ room
  pub others : HoldsBlock rest tail (room - (2 + h.len)) (drop (8 * h.len) (drop 16 bits))
  pub line : entity_line e ≡ head_text h (take (8 * h.len) (drop 16 bits))

same_flag : (a b : Bool) → from_bool a ≡ from_bool b → a ≡ b
same_flag true true same = refl
same_flag true false same = absurd (omega (arith, same))
same_flag false true same = absurd (omega (arith, same))
same_flag false false same = refl

no_flag : (b : Bool) → from_bool b ≡ 0 → b ≡ false
no_flag false is = refl
no_flag true is = absurd (omega (arith, is))

zero_front : (bits : List Bool) → value (take 7 (digits 8 0 ++ (digits 8 0 ++ bits))) ≡ 0
unfolding digits
zero_front bits = refl

zero_version : (bits : List Bool) → value (take 1 (drop 7 (digits 8 0 ++ (digits 8 0 ++ bits)))) ≡ 0
unfolding digits
zero_version bits = refl

zero_kind : (bits : List Bool) → value (take 4 (drop 1 (drop 7 (digits 8 0 ++ (digits 8 0 ++ bits))))) ≡ 0
unfolding digits
zero_kind bits = refl

zero_nibble : (bits : List Bool) → value (take 4 (drop 4 (drop 1 (drop 7 (digits 8 0 ++ (digits 8 0 ++ bits)))))) ≡ 0
unfolding digits
zero_nibble bits = refl

-- two bytes that are 0 are a head of zeros
zero_head : (field : List ℕ) (behind : List Bool) (h : EntityHead) → 2 ≤ length field → get_or field 0 0 ≡ 0 → get_or field 1 0 ≡ 0 → IsEntityHead h (bits_of field ++ behind) → IsZero h
zero_head [] behind h long first second is = absurd (omega (arith, long))
zero_head (x ∷ []) behind h long first second is = absurd (omega (arith, long))
zero_head (x ∷ y ∷ field) behind h long first second is =
    let rest : List Bool = bits_of field ++ behind in
    let parts : bits_of (x ∷ y ∷ field) ++ behind ≡ digits 8 0 ++ (digits 8 0 ++ rest) =
    append_assoc (digits 8 x) (digits 8 y ++ bits_of field) behind
    ∙ (ap (λ l. digits 8 x ++ l) (append_assoc (digits 8 y) (bits_of field) behind)
    ∙ (ap (λ n. digits 8 n ++ (digits 8 y ++ rest)) first ∙ ap (λ n. digits 8 0 ++ (digits 8 n ++ rest)) second)) in
    let zeroed : IsEntityHead h (digits 8 0 ++ (digits 8 0 ++ rest)) = subst (IsEntityHead h) parts is in
    record {
      len = zeroed.len ∙ zero_front rest;
      version = no_flag h.version (sym zeroed.version ∙ zero_version rest);
      kind = zeroed.kind ∙ zero_kind rest;
      nibble = zeroed.nibble ∙ zero_nibble rest;
    }

no_entity : (tail field : List ℕ) (behind : List Bool) (h : EntityHead) → 2 ≤ length field → IsField [] tail field → IsEntityHead h (bits_of field ++ behind) → IsZero h
no_entity tail field behind h long (is, inl few) head = absurd (omega (arith, long, ap length is, few))
no_entity tail field behind h long (is, inr zeros) head =
    zero_head field behind h long (ap (λ l. get_or l 0 0) is ∙ zeros.0) (ap (λ l. get_or l 1 0) is ∙ zeros.1) head

-- the bits of the first entity, and those behind it
first_bits : (n : ℕ) (field : List ℕ) (behind : List Bool) → bits_of field ++ behind ≡ bits_of (take n field) ++ (bits_of (drop n field) ++ behind)
first_bits n field behind =
    ap (λ l. bits_of l ++ behind) (sym (take-append-drop n field))
    ∙ (ap (λ l. l ++ behind) (bits_of-append (take n field) (drop n field)) ∙ append_assoc (bits_of (take n field)) (bits_of (drop n field)) behind)

-- the digit of the first four bits, and those of the rest
next_digit : (bits : List Bool) → 4 ≤ length bits → hex_of_bits bits ≡ slice_index lower_digits (value (take 4 bits)) ∷ hex_of_bits (drop 4 bits)
next_digit (a ∷ b ∷ c ∷ d ∷ bits) enough = refl
next_digit (a ∷ b ∷ c ∷ []) enough = absurd (omega (arith, enough))
next_digit (a ∷ b ∷ []) enough = absurd (omega (arith, enough))
next_digit (a ∷ []) enough = absurd (omega (arith, enough))
next_digit [] enough = absurd (omega (arith, enough))

-- what the head of an entity says, by its own bits
pub record Agrees (e : Entity) (h : EntityHead) (own : List Bool) : Type 0 where
  pub len : h.len ≡ body_length e.body
  pub version : h.version ≡ e.version
  pub kind : h.kind ≡ kind_of e.body
  pub hex : hex_of_bits (spelled (body_fields e.body)) ≡ (slice_index lower_digits h.nibble ∷ []) ++ hex_of_bits (drop 16 own)

agrees : (e : Entity) (h : EntityHead) (bytes : List ℕ) (rest : List Bool) → IsEntity e bytes → IsEntityHead h (bits_of bytes ++ rest) → Agrees e h (bits_of bytes)
agrees e h bytes rest is head =
    let own : List Bool = bits_of bytes in
    let long : length own ≡ 8 * (2 + body_length e.body) = omega (arith, length-bits_of bytes, length-entity e bytes is) in
    let seven : drop 7 (own ++ rest) ≡ drop 7 own ++ rest = drop_of 7 own rest (omega (arith, long)) in
    let eight : drop 1 (drop 7 (own ++ rest)) ≡ drop 1 (drop 7 own) ++ rest = ap (drop 1) seven ∙ drop_of 1 (drop 7 own) rest (omega (arith, long, length-drop 7 own)) in
    let size_eight : length (drop 1 (drop 7 own)) + 8 ≡ length own = omega (arith, long, length-drop 7 own, length-drop 1 (drop 7 own)) in
    let body : List Bool = drop 4 (drop 1 (drop 7 own)) in
    let size_body : length body + 12 ≡ length own = omega (arith, long, size_eight, length-drop 4 (drop 1 (drop 7 own))) in
    let twelve : drop 4 (drop 1 (drop 7 (own ++ rest))) ≡ body ++ rest = ap (drop 4) eight ∙ drop_of 4 (drop 1 (drop 7 own)) rest (omega (arith, long, size_eight)) in
    let nibble : h.nibble ≡ front 4 body = head.nibble ∙ (ap (front 4) twelve ∙ front_of 4 body rest (omega (arith, long, size_body))) in
    let behind : drop 4 body ≡ drop 16 own = ap (λ l. drop 4 (drop 4 l)) (drop-drop 1 7 own) ∙ (ap (drop 4) (drop-drop 4 8 own) ∙ drop-drop 4 12 own) in
    record {
      len = head.len ∙ (front_of 7 own rest (omega (arith, long)) ∙ is.fields.1);
      version = same_flag h.version e.version (sym head.version ∙ (ap (front 1) seven ∙ (front_of 1 (drop 7 own) rest (omega (arith, long, length-drop 7 own)) ∙ is.fields.2.1)));
      kind = head.kind ∙ (ap (front 4) eight ∙ (front_of 4 (drop 1 (drop 7 own)) rest (omega (arith, long, size_eight)) ∙ is.fields.2.2.1));
      hex =
          ap hex_of_bits (sym (spelled_fields (body_fields e.body) body is.fields.2.2.2))
          ∙ (next_digit body (omega (arith, long, size_body))
          ∙ (ap (λ n. slice_index lower_digits n ∷ hex_of_bits (drop 4 body)) (sym nibble) ∙ ap (λ l. slice_index lower_digits h.nibble ∷ hex_of_bits l) behind));
    }

-- its line is that of the head and the bits behind it
line_is : (e : Entity) (h : EntityHead) (own bits : List Bool) → Agrees e h own → bits ≡ drop 16 own → entity_line e ≡ head_text h bits
line_is e h own bits a is =
    ap (λ l. kind_text (kind_of e.body) e.version ++ (l ++ codes "\n")) a.hex
    ∙ (ap (λ k. kind_text k e.version ++ (((slice_index lower_digits h.nibble ∷ []) ++ hex_of_bits (drop 16 own)) ++ codes "\n")) (sym a.kind)
    ∙ (ap (λ v. kind_text h.kind v ++ (((slice_index lower_digits h.nibble ∷ []) ++ hex_of_bits (drop 16 own)) ++ codes "\n")) (sym a.version)
    ∙ ap (λ l. kind_text h.kind h.version ++ (((slice_index lower_digits h.nibble ∷ []) ++ hex_of_bits l) ++ codes "\n")) (sym is)))

next_of : (entities : List Entity) (tail field : List ℕ) (behind : List Bool) (h : EntityHead) → IsBytes field → IsField entities tail field → 2 ≤ length field → IsEntityHead h (bits_of field ++ behind) → ¬ IsZero h
    → HasNext entities tail (length field) h (bits_of field ++ behind)
next_of [] tail field behind h small is long head some = absurd (some (no_entity tail field behind h long is head))
next_of (e ∷ entities) tail field behind h small is long head some =
    let n : ℕ = entity_size e in
    let own : List Bool = bits_of (take n field) in
    let rest : List Bool = bits_of (drop n field) ++ behind in
    let parts : bits_of field ++ behind ≡ own ++ rest = first_bits n field behind in
    let a : Agrees e h own = agrees e h (take n field) rest is.0 (subst (IsEntityHead h) parts head) in
    let within : n ≤ length field = size_within e field is.0 in
    let size : length own ≡ 8 * n = omega (arith, length-bits_of (take n field), length-take-le n field within) in
    let len : 2 + h.len ≡ n = omega (arith, a.len) in
    let behind_head : drop 16 (bits_of field ++ behind) ≡ drop 16 own ++ rest = ap (drop 16) parts ∙ drop_of 16 own rest (omega (arith, size)) in
    let size_body : length (drop 16 own) ≡ 8 * h.len = omega (arith, size, len, length-drop 16 own) in
    let body : take (8 * h.len) (drop 16 (bits_of field ++ behind)) ≡ drop 16 own = ap (take (8 * h.len)) behind_head ∙ take_at (drop 16 own) rest (8 * h.len) size_body in
    let after : drop (8 * h.len) (drop 16 (bits_of field ++ behind)) ≡ rest = ap (drop (8 * h.len)) behind_head ∙ drop_at (drop 16 own) rest (8 * h.len) size_body in
    record {
      e = e;
      rest = entities;
      are = refl;
      within = omega (arith, within, len);
      others = record {
        field = drop n field;
        behind = behind;
        begins = after;
        size = omega (arith, length-drop n field, len);
        octets = small_rest field n small;
        is = is.1;
      };
      line = line_is e h own (take (8 * h.len) (drop 16 (bits_of field ++ behind))) a body;
    }

pub next_entity : (entities : List Entity) (tail : List ℕ) (room : ℕ) (h : EntityHead) (bits : List Bool) → HoldsBlock entities tail room bits → 2 ≤ room → IsEntityHead h bits → ¬ IsZero h → HasNext entities tail room h bits
next_entity entities tail room h bits holds long head some =
    subst (λ n. HasNext entities tail n h bits) holds.size
    (subst (λ l. HasNext entities tail (length holds.field) h l) (sym holds.begins)
    (next_of entities tail holds.field holds.behind h holds.octets holds.is (omega (arith, long, holds.size)) (subst (IsEntityHead h) holds.begins head) some))

-- the bits are at least those of the bytes
pub enough_bits : (entities : List Entity) (tail : List ℕ) (room : ℕ) (bits : List Bool) → HoldsBlock entities tail room bits → 8 * room ≤ length bits
enough_bits entities tail room bits holds = omega (arith, ap length holds.begins, length-append (bits_of holds.field) holds.behind, length-bits_of holds.field, holds.size)

-- ---- their lines

pub text_next : (entities rest : List Entity) (tail : List ℕ) (e : Entity) (line : List ℕ) → entities ≡ e ∷ rest → entity_line e ≡ line → field_text entities tail ≡ line ++ field_text rest tail
unfolding field_text
text_next entities rest tail e line are is =
    ap (λ l. field_text l tail) are ∙ (append_assoc (entity_line e) (flat_map entity_line rest) (tail_line tail) ∙ ap (λ l. l ++ (flat_map entity_line rest ++ tail_line tail)) is)

pub text_last : (entities : List Entity) (tail : List ℕ) (room : ℕ) → entities ≡ [] → length tail ≡ room → field_text entities tail ≡ tail_text room
unfolding field_text
text_last entities tail room none size = ap (λ l. field_text l tail) none ∙ ap tail_text size

-- ---- the block's data field

first_front : (n room : ℕ) → n ≡ 8 * room + 20 → front_bits n ≡ 0
first_front n room is = by (n % 8 == 0) refl
  where
    by : (b : Bool) → (n % 8 == 0) ≡ b → ◌≡◌ {A = ℕ} (if b then 4 else 0) 0
    by true whole = absurd (grind (arith, nat_tests))
    by false other = refl

second_front : (n room : ℕ) → n ≡ 8 * room + 24 → front_bits n ≡ 4
second_front n room is = by (n % 8 == 0) refl
  where
    by : (b : Bool) → (n % 8 == 0) ≡ b → ◌≡◌ {A = ℕ} (if b then 4 else 0) 4
    by true whole = refl
    by false other = absurd (grind (arith, nat_tests))

length-form : (afs : ℕ) (field : List ℕ) (check : List Bool) → length (first_form afs field check) ≡ 4 + (8 * length field + length check)
length-form afs field check = omega (arith, length-append (digits 4 afs) (bits_of field ++ check), length-append (bits_of field) check, length-digits 4 afs, length-bits_of field)

behind_index : (afs : ℕ) (field : List ℕ) (check : List Bool) → drop 4 (first_form afs field check) ≡ bits_of field ++ check
behind_index afs field check = drop_at (digits 4 afs) (bits_of field ++ check) 4 (length-digits 4 afs)

field_bits : (n afs : ℕ) (field : List ℕ) (check bits : List Bool) → n ≡ length bits → length check ≡ 16 → (bits ≡ first_form afs field check) ⊎ (bits ≡ zeros 4 ++ first_form afs field check)
    → drop 4 (drop (front_bits n) bits) ≡ bits_of field ++ check
field_bits n afs field check bits is_n width (inl is) =
    let none : front_bits n ≡ 0 = first_front n (length field) (omega (arith, is_n, ap length is, length-form afs field check, width)) in
    ap (λ k. drop 4 (drop k bits)) none ∙ (ap (drop 4) is ∙ behind_index afs field check)
field_bits n afs field check bits is_n width (inr is) =
    let four : front_bits n ≡ 4 = second_front n (length field) (omega (arith, is_n, ap length is, length-append (zeros 4) (first_form afs field check), length-form afs field check, width)) in
    ap (λ k. drop 4 (drop k bits)) four ∙ (ap (λ l. drop 4 (drop 4 l)) is ∙ behind_index afs field check)

-- the data field stands behind what is in front of the block, and the index
pub block_holds : (block : Block) (bits : List Bool) (is : IsBlock block bits) (n : ℕ) → n ≡ length bits → HoldsBlock block.entities block.tail (length is.field) (drop 4 (drop (front_bits n) bits))
block_holds block bits is n is_n =
    record {
      field = is.field;
      behind = is.check;
      begins = field_bits n block.afs is.field is.check bits is_n is.framed.width is.framed.form;
      size = refl;
      octets = is.framed.octets;
      is = is.entities;
    }

-- four bits of index are there
pub index_there : (block : Block) (bits : List Bool) (is : IsBlock block bits) (n : ℕ) → n ≡ length bits → 4 ≤ length (drop (front_bits n) bits)
index_there block bits is n is_n =
    elim (framed_length block.afs is.field is.check bits is.framed) [
      | inl first ↦ omega (arith, first, length-drop (front_bits n) bits, first_front n (length is.field) (is_n ∙ first))
      | inr second ↦ omega (arith, second, length-drop (front_bits n) bits, second_front n (length is.field) (is_n ∙ second))
    ]

-- So the block that stands in a payload has its entities and its tail in the bits that are taken, as many as is told.
pub span_holds : (payload : List ℕ) (span : SdcSpan) (block : Block) (room : ℕ) (bits : List Bool) → span.at + bytes_for span.bits ≤ length payload → IsSpanOfBlock payload span → IsBlock block (bits_at payload span)
    → room ≡ span.info.room → bits ≡ drop 4 (drop (front_bits span.bits) (bits_at payload span)) → HoldsBlock block.entities block.tail room bits
span_holds payload span block room bits inside (other, is_block, info) is is_room is_bits =
    let all : List Bool = bits_at payload span in
    let size : length all ≡ span.bits = length-take-le span.bits (bits_of (drop span.at payload)) (omega (arith, inside, length-bits_of (drop span.at payload), length-drop span.at payload)) in
    let same : length is.field ≡ room =
    ap (λ (i : BlockInfo). i.room) (one_info block other all all refl is is_block) ∙ (ap (λ (i : BlockInfo). i.room) (sym info) ∙ sym is_room) in
    subst (λ n. HoldsBlock block.entities block.tail n bits) same
    (subst (HoldsBlock block.entities block.tail (length is.field)) (sym is_bits) (block_holds block all is span.bits (sym size)))
