-- Bytes are one entity at most, and an entity when they are sound.
use Rattle.std.proofs.Common.{◌≡◌, ◌≢◌, ℕ, zero, suc, ◌+◌, ◌-◌, ◌*◌, ◌%◌, ◌<◌, ◌≤◌, ◌^◌, nat_eq, Bool, true, false, List, [], ◌∷◌, ◌++◌, length, take, drop, get_or, Option, None, Some, is_some, refl, sym, ◌∙◌, ap, subst, arith, length-drop, inl, inr}
use Rattle.std.proofs.lemmas.List.{drop-drop, take-take, length-take-le, length-take, get_or-drop}
use Rattle.std.proofs.Math.Seq.{take-nil}
use Rattle.std.proofs.lemmas.Bool.{eq-eqb, le-leb, and_from}
use Rattle.std.specs.Int.{from_bool}
use Rattle.std.specs.Prelude.{◌&&◌, ◌||◌, nat_le}
use Rattle.drm_bits.specs.Bits.{value, digits, bits_of}
use Rattle.drm_bits.specs.Fields.{AreFields, field, flag, spelled}
use Rattle.drm_bits.specs.Description.{described, part_fields}
use Rattle.drm_bits.specs.declared.description.Part.{Part}
use Rattle.drm_bits.proofs.BitsLemmas.{length-bits_of, value-below}
use Rattle.drm_bits.proofs.ByteBits.{bits_of-drop, bits_of-take, same_bytes}
use Rattle.drm_bits.proofs.FieldLemmas.{spelled_fields}
use Rattle.drm_sdc.specs.declared.channels.Channel15.{Channel15}
use Rattle.drm_sdc.specs.declared.entity.Entity.{Entity}
use Rattle.drm_sdc.specs.declared.body.AppMode.{AppMode}
use Rattle.drm_sdc.specs.declared.body.AppMode.TheVariants.{Sync, Packet}
use Rattle.drm_sdc.specs.declared.body.Body.{Body}
use Rattle.drm_sdc.specs.declared.body.Body.TheVariants.{Mux, Label, Freq, When, App, Time, Audio, Next, Language, Raw}
use Rattle.drm_sdc.specs.Bodies.{octets, optional, channel_fields, mode_fields, mode_length, body_fields, kind_of, count, mode_size, body_length, is_typed, IsBody}
use Rattle.drm_sdc.specs.Entity.{entity_fields, entity_size, empty_entity, IsEntity}
use Rattle.drm_bits.specs.Bits.{front, bit}
use Rattle.drm_sdc.specs.Reading.{has_restriction, has_region, optional_count, in_packets, body_from, has_body_length, described_length, described_kind, body_bits, entity_from, IsWellFormedEntity}
use Rattle.drm_sdc.specs.Field.{IsTail, first_entity}
use Rattle.drm_sdc.proofs.FieldLaws.{AreBytes, widths, length-fields, widths-append, widths-octets, flag_again, front-bit, fields_fit}
use Rattle.drm_sdc.proofs.Again.{AreBehind, body_again}
use Rattle.drm_sdc.proofs.Made.{IsMade, body_made}

widths-parts : (parts : List Part) → widths (part_fields parts) ≡ 24 * length parts
widths-parts [] = refl
widths-parts (p ∷ parts) = omega (arith, widths-parts parts)

widths-channels : (list : List Channel15) → widths (channel_fields list) ≡ 16 * length list
widths-channels [] = refl
widths-channels (c ∷ list) = omega (arith, widths-channels list)

widths-optional : (o : Option ℕ) → widths (optional o) ≡ 8 * count o
widths-optional None = refl
widths-optional (Some n) = refl

widths-mode : (m : AppMode) → widths (mode_fields m) + widths (mode_length m) + 4 ≡ 8 * mode_size m
widths-mode (Sync spare) = refl
widths-mode (Packet unit pid len) = refl

-- a body's bits
pub widths-body : (b : Body) → IsBody b → widths (body_fields b) ≡ 4 + 8 * body_length b
widths-body (Mux d) is = omega (arith, widths-parts (described d), length-take-le d.count d.parts (omega (arith, is.size, is.count)))
widths-body (Label short spare text) is = omega (arith, widths-octets text)
widths-body (Freq sync layer r g list) is =
    omega (arith, widths-append (optional r) (optional g ++ channel_fields list), widths-append (optional g) (channel_fields list), widths-optional r, widths-optional g, widths-channels list)
widths-body (When id day start duration) is = refl
widths-body (App short stream mode enhancement domain bytes) is =
    omega (arith, widths-append (mode_fields mode) (flag enhancement ∷ field 3 domain ∷ mode_length mode ++ octets bytes), widths-append (mode_length mode) (octets bytes), widths-octets bytes, widths-mode mode)
widths-body (Time mjd hours minutes extra) is = omega (arith, widths-optional extra)
widths-body (Audio short stream coding sbr mode rate text enhancement coder spare config) is = omega (arith, widths-octets config)
widths-body (Next enhancement mode occupancy short_depth msc qam4 services last) is = refl
widths-body (Language short spare language country) is = refl
widths-body (Raw kind nibble bytes) is = omega (arith, widths-octets bytes)

pub widths-entity : (e : Entity) → IsBody e.body → widths (entity_fields e) ≡ 8 * entity_size e
widths-entity e is = omega (arith, widths-body e.body is)

pub length-entity : (e : Entity) (bytes : List ℕ) → IsEntity e bytes → length bytes ≡ entity_size e
length-entity e bytes is =
    omega (arith, length-bits_of bytes, length-fields (entity_fields e) (bits_of bytes) is.fields, widths-entity e is.fits.body)

pub front-below : (w : ℕ) (bits : List Bool) → w ≤ length bits → front w bits < 2 ^ w
front-below w bits within =
    let size : length (take w bits) ≡ w = length-take-le w bits within in
    let below : value (take w bits) < 2 ^ length (take w bits) = value-below (take w bits) in
    rw size at below

behind_header : (bytes : List ℕ) → AreBehind (drop 2 bytes) (body_bits bytes)
behind_header bytes = simp drop-drop (sym (bits_of-drop 2 bytes))

pub small_rest : (bytes : List ℕ) (k : ℕ) → AreBytes bytes → AreBytes (drop k bytes)
small_rest bytes k small i = rw (get_or-drop k bytes i 0) (small (k + i))

-- the bytes are no other entity
pub entity_again : (e : Entity) (bytes : List ℕ) → AreBytes bytes → IsEntity e bytes → e ≡ entity_from bytes
entity_again e bytes small is =
    let size : body_length e.body ≡ length (drop 2 bytes) = omega (arith, length-entity e bytes is, length-drop 2 bytes) in
    let body : e.body ≡ body_from (kind_of e.body) (body_bits bytes) (drop 2 bytes) =
    body_again e.body (body_bits bytes) (drop 2 bytes) (small_rest bytes 2 small) (behind_header bytes) is.fits.body size is.fields.2.2.2 in
    let version : e.version ≡ bit (drop 7 (bits_of bytes)) = flag_again e.version (drop 7 (bits_of bytes)) is.fields.2.1 in
    ap (λ (b : Body). record { version = e.version; body = b }) (body ∙ ap (λ k. body_from k (body_bits bytes) (drop 2 bytes)) (sym is.fields.2.2.1))
    ∙ ap (λ (v : Bool). record { version = v; body = body_from (described_kind bytes) (body_bits bytes) (drop 2 bytes) }) version

-- the two zero bytes
empty_bits : spelled (entity_fields empty_entity) ≡ bits_of (0 ∷ 0 ∷ [])
unfolding digits
empty_bits = refl

zero_bytes : AreBytes (0 ∷ 0 ∷ [])
zero_bytes zero = omega arith
zero_bytes (suc zero) = omega arith
zero_bytes (suc (suc i)) = omega arith

pub empty_bytes : (bytes : List ℕ) → AreBytes bytes → AreFields (entity_fields empty_entity) (bits_of bytes) → bytes ≡ 0 ∷ 0 ∷ []
empty_bytes bytes small are =
    same_bytes bytes (0 ∷ 0 ∷ []) small zero_bytes (spelled_fields (entity_fields empty_entity) (bits_of bytes) are ∙ empty_bits)

empty_from : entity_from (0 ∷ 0 ∷ []) ≡ empty_entity
unfolding digits
empty_from = refl

-- Sound bytes that don't begin with two zeros are an entity.
pub entity_made : (bytes : List ℕ) → AreBytes bytes → IsWellFormedEntity bytes → bytes ≢ 0 ∷ 0 ∷ [] → IsEntity (entity_from bytes) bytes
entity_made bytes small sound not_zero =
    let e : Entity = entity_from bytes in
    let size : length (drop 2 bytes) ≡ described_length bytes = omega (arith, length-drop 2 bytes, sound.whole) in
    let bits : length (body_bits bytes) ≡ 4 + 8 * length (drop 2 bytes) = simp length-drop (omega (arith, length-bits_of bytes, sound.whole)) in
    let many : 16 ≤ length (bits_of bytes) = omega (arith, length-bits_of bytes, sound.whole) in
    let below : described_kind bytes < 16 = front-below 4 (drop 1 (drop 7 (bits_of bytes))) (simp length-drop (omega arith)) in
    let right : has_body_length (described_kind bytes) (body_bits bytes) (length (drop 2 bytes)) ≡ true = ap (has_body_length (described_kind bytes) (body_bits bytes)) size ∙ sound.body in
    let made : IsMade (described_kind bytes) (body_bits bytes) (length (drop 2 bytes)) e.body =
    body_made (described_kind bytes) below (body_bits bytes) (drop 2 bytes) (small_rest bytes 2 small) (behind_header bytes) bits right sound.label in
    let fields : AreFields (entity_fields e) (bits_of bytes) = (
      omega arith,
      sym (made.size ∙ size),
      (
        simp length-drop (omega arith),
        front-bit (drop 7 (bits_of bytes)) (simp length-drop (omega arith)),
        (simp length-drop (omega arith), sym made.kind_is, made.fields),
      ),
    ) in
    record {
      fits = record {
        fields = fields_fit (entity_fields e) (bits_of bytes) fields;
        body = made.body;
        not_empty = λ is. not_zero (empty_bytes bytes small (subst (λ (x : Entity). AreFields (entity_fields x) (bits_of bytes)) is fields));
      };
      fields = fields;
    }

-- No entity has a length that its type can't have.
triple : (n : ℕ) → n ≤ 4 → (nat_eq (3 * n % 3) 0 && nat_le (3 * n) 12) ≡ true
triple n few = and_from (nat_eq (3 * n % 3) 0) (nat_le (3 * n) 12) (eq-eqb (3 * n % 3) 0 (omega arith)) (le-leb (3 * n) 12 (omega arith))

app_length : (size n : ℕ) (b : Bool) → 1 + from_bool b ≡ size → (nat_le 1 (size + n) && nat_le (1 + from_bool b) (size + n)) ≡ true
app_length size n b is = and_from (nat_le 1 (size + n)) (nat_le (1 + from_bool b) (size + n)) (le-leb 1 (size + n) (omega arith)) (le-leb (1 + from_bool b) (size + n) (omega arith))

count-some : (o : Option ℕ) → count o ≡ from_bool (is_some o)
count-some None = refl
count-some (Some n) = refl

time_length : (o : Option ℕ) → (nat_eq (3 + count o) 3 || nat_eq (3 + count o) 4) ≡ true
time_length None = refl
time_length (Some n) = refl

raw_length : (k : ℕ) (bits : List Bool) (len : ℕ) → k < 16 → is_typed k ≡ false → has_body_length k bits len ≡ true
raw_length zero bits len below raw = cc
raw_length (suc zero) bits len below raw = cc
raw_length (suc (suc zero)) bits len below raw = refl
raw_length (suc (suc (suc zero))) bits len below raw = cc
raw_length (suc (suc (suc (suc zero)))) bits len below raw = cc
raw_length (suc (suc (suc (suc (suc zero))))) bits len below raw = cc
raw_length (suc (suc (suc (suc (suc (suc zero)))))) bits len below raw = refl
raw_length (suc (suc (suc (suc (suc (suc (suc zero))))))) bits len below raw = refl
raw_length (suc (suc (suc (suc (suc (suc (suc (suc zero)))))))) bits len below raw = cc
raw_length (suc (suc (suc (suc (suc (suc (suc (suc (suc zero))))))))) bits len below raw = cc
raw_length (suc (suc (suc (suc (suc (suc (suc (suc (suc (suc zero)))))))))) bits len below raw = cc
raw_length (suc (suc (suc (suc (suc (suc (suc (suc (suc (suc (suc zero))))))))))) bits len below raw = refl
raw_length (suc (suc (suc (suc (suc (suc (suc (suc (suc (suc (suc (suc zero)))))))))))) bits len below raw = cc
raw_length (suc (suc (suc (suc (suc (suc (suc (suc (suc (suc (suc (suc (suc zero))))))))))))) bits len below raw = refl
raw_length (suc (suc (suc (suc (suc (suc (suc (suc (suc (suc (suc (suc (suc (suc zero)))))))))))))) bits len below raw = refl
raw_length (suc (suc (suc (suc (suc (suc (suc (suc (suc (suc (suc (suc (suc (suc (suc zero))))))))))))))) bits len below raw = refl
raw_length (suc (suc (suc (suc (suc (suc (suc (suc (suc (suc (suc (suc (suc (suc (suc (suc k)))))))))))))))) bits len below raw = absurd (omega (arith, below))

pub right_length : (b : Body) (bits : List Bool) → IsBody b → kind_of b < 16 → AreFields (body_fields b) bits → has_body_length (kind_of b) bits (body_length b) ≡ true
right_length (Mux d) bits is below are = triple d.count is.count
right_length (Label short spare text) bits is below are = refl
right_length (Freq sync layer r g list) bits is below are =
    let is_r : is_some r ≡ has_restriction bits = flag_again (is_some r) (drop 1 (drop 1 bits)) are.2.2.1 in
    let is_g : is_some g ≡ has_region bits = flag_again (is_some g) (drop 1 (drop 1 (drop 1 bits))) are.2.2.2.1 in
    let n : count r + count g ≡ optional_count bits = omega (arith, count-some r, count-some g, ap from_bool is_r, ap from_bool is_g) in
    let len : ℕ = count r + count g + 2 * length list in
    let o : ℕ = optional_count bits in
    and_from (nat_le o len) (nat_eq ((len - o) % 2) 0) (le-leb o len (omega (arith, n))) (eq-eqb ((len - o) % 2) 0 (omega (arith, n)))
right_length (When id day start duration) bits is below are = refl
right_length (App short stream (Sync spare) enhancement domain bytes) bits is below are =
    let mode : in_packets bits ≡ false = sym (flag_again false (drop 2 (drop 2 bits)) are.2.2.1) in
    app_length 1 (length bytes) (in_packets bits) (ap (λ (b : Bool). 1 + from_bool b) mode)
right_length (App short stream (Packet unit pid len) enhancement domain bytes) bits is below are =
    let mode : in_packets bits ≡ true = sym (flag_again true (drop 2 (drop 2 bits)) are.2.2.1) in
    app_length 2 (length bytes) (in_packets bits) (ap (λ (b : Bool). 1 + from_bool b) mode)
right_length (Time mjd hours minutes extra) bits is below are = time_length extra
right_length (Audio short stream coding sbr mode rate text enhancement coder spare config) bits is below are = le-leb 2 (2 + length config) (omega arith)
right_length (Next enhancement mode occupancy short_depth msc qam4 services last) bits is below are = refl
right_length (Language short spare language country) bits is below are = refl
right_length (Raw kind nibble bytes) bits is below are = raw_length kind bits (length bytes) below is

-- an entity's bytes are sound
pub entity_sound : (e : Entity) (bytes : List ℕ) → AreBytes bytes → IsEntity e bytes → IsWellFormedEntity bytes
entity_sound e bytes small is =
    let kind : described_kind bytes ≡ kind_of e.body = is.fields.2.2.1 in
    let len : described_length bytes ≡ body_length e.body = is.fields.1 in
    let many : 16 ≤ length (bits_of bytes) = omega (arith, length-bits_of bytes, length-entity e bytes is) in
    let below : described_kind bytes < 16 = front-below 4 (drop 1 (drop 7 (bits_of bytes))) (simp length-drop (omega arith)) in
    let right = right_length e.body (body_bits bytes) is.fits.body (omega (arith, kind, below)) is.fields.2.2.2 in
    let body : e.body ≡ body_from (described_kind bytes) (body_bits bytes) (drop 2 bytes) = ap (λ (x : Entity). x.body) (entity_again e bytes small is) in
    record {
      whole = omega (arith, length-entity e bytes is, len);
      body =
          ap (λ k. has_body_length k (body_bits bytes) (described_length bytes)) kind
          ∙ (ap (λ n. has_body_length (kind_of e.body) (body_bits bytes) n) len ∙ right);
      label = λ one. subst (λ k. IsBody (body_from k (body_bits bytes) (drop 2 bytes))) one (subst IsBody body is.fits.body);
    }

-- the header, in a front of the bytes
pub described-take : (n : ℕ) (bytes : List ℕ) → 1 ≤ n → described_length (take n bytes) ≡ described_length bytes
described-take n bytes some = ap value (ap (take 7) (bits_of-take n bytes) ∙ take-take 7 (8 * n) (bits_of bytes) (omega arith))

-- an entity at the front is as long as the header says
pub size_described : (e : Entity) (bytes : List ℕ) → IsEntity e (take (entity_size e) bytes) → entity_size e ≡ 2 + described_length bytes
size_described e bytes is = omega (arith, is.fields.1, described-take (entity_size e) bytes (omega arith))

pub size_within : (e : Entity) (bytes : List ℕ) → IsEntity e (take (entity_size e) bytes) → entity_size e ≤ length bytes
size_within e bytes is = omega (arith, length-entity e (take (entity_size e) bytes) is, length-take (entity_size e) bytes)

pub small_front : (bytes : List ℕ) (k : ℕ) → AreBytes bytes → AreBytes (take k bytes)
small_front [] k small i = rw (take-nil {A = ℕ} k) (omega arith)
small_front (b ∷ bytes) zero small i = omega arith
small_front (b ∷ bytes) (suc k) small zero = small zero
small_front (b ∷ bytes) (suc k) small (suc i) = small_front bytes k (λ j. small (suc j)) i

pub first_is : (e : Entity) (bytes : List ℕ) → IsEntity e (take (entity_size e) bytes) → take (entity_size e) bytes ≡ first_entity bytes
first_is e bytes is = ap (λ n. take n bytes) (size_described e bytes is)

pub one_entity : (e : Entity) (bytes : List ℕ) → AreBytes bytes → IsEntity e (take (entity_size e) bytes) → e ≡ entity_from (first_entity bytes)
one_entity e bytes small is =
    entity_again e (take (entity_size e) bytes) (small_front bytes (entity_size e) small) is ∙ ap entity_from (first_is e bytes is)

two_bytes : (bytes : List ℕ) → 2 ≤ length bytes → get_or bytes 0 0 ≡ 0 → get_or bytes 1 0 ≡ 0 → take 2 bytes ≡ 0 ∷ 0 ∷ []
two_bytes [] many a b = absurd (omega (arith, many))
two_bytes (x ∷ []) many a b = absurd (omega (arith, many))
two_bytes (x ∷ y ∷ bytes) many a b = cc

zero_length : described_length (0 ∷ 0 ∷ []) ≡ 0
unfolding digits
zero_length = refl

two_zeros : (e : Entity) (bytes : List ℕ) → AreBytes bytes → IsEntity e (take (entity_size e) bytes) → 2 ≤ length bytes → get_or bytes 0 0 ≡ 0 → get_or bytes 1 0 ≡ 0 → ⊥
two_zeros e bytes small is many a b =
    let first : take 2 bytes ≡ 0 ∷ 0 ∷ [] = two_bytes bytes many a b in
    let none : described_length bytes ≡ 0 = sym (described-take 2 bytes (omega arith)) ∙ (ap described_length first ∙ zero_length) in
    let all : first_entity bytes ≡ 0 ∷ 0 ∷ [] = ap (λ n. take (2 + n) bytes) none ∙ first in
    is.fits.not_empty (one_entity e bytes small is ∙ (ap entity_from all ∙ empty_from))

-- where an entity stands there is no tail
pub no_tail : (e : Entity) (bytes : List ℕ) → AreBytes bytes → IsEntity e (take (entity_size e) bytes) → IsTail bytes → ⊥
no_tail e bytes small is (inl short) = absurd (omega (arith, short, size_within e bytes is))
no_tail e bytes small is (inr zeros) = two_zeros e bytes small is (omega (arith, size_within e bytes is)) zeros.0 zeros.1
