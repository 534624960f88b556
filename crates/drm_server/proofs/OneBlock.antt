-- A block has one spelling of each length.
use Rattle.std.proofs.Common.{◌≡◌, ◌+◌, ◌*◌, ℕ, inl, inr, List, [], ◌∷◌, ◌++◌, Bool, length, take, drop, Some, sym, ap, subst, ◌∙◌, arith, length-append}
use Rattle.std.proofs.lemmas.List.{take-append-drop, length-take-le}
use Rattle.drm_bits.specs.Bits.{bits_of, IsBytes}
use Rattle.drm_bits.specs.Crc.{zeros}
use Rattle.drm_bits.proofs.BitsLemmas.{length-bits_of}
use Rattle.drm_bits.proofs.ByteBits.{same_bytes}
use Rattle.drm_bits.proofs.FieldLemmas.{spelled_fields}
use Rattle.drm_sdc.specs.declared.block.Block.{Block}
use Rattle.drm_sdc.specs.declared.entity.Entity.{Entity}
use Rattle.drm_sdc.specs.Entity.{entity_fields, entity_size}
use Rattle.drm_sdc.specs.Field.{IsField}
use Rattle.drm_sdc.specs.Block.{first_form, IsFramed, IsBlockChecked, IsBlock}
use Rattle.drm_sdc.proofs.BlockLaws.{length-form, one_check}
use Rattle.drm_schedule.specs.declared.plan.Plan.{Plan}
use Rattle.mdi_items.specs.RoundTrip.{BlockBytes}
use Rattle.drm_server.specs.Frames.{IsBlockAt}
use Rattle.drm_server.proofs.ByteLemmas.{bytes_take, bytes_drop}

one_field : (es : List Entity) (tail f g : List ℕ) → IsBytes f → IsBytes g → IsField es tail f → IsField es tail g → f ≡ g
one_field [] tail f g small_f small_g a b = a.0 ∙ sym b.0
one_field (e ∷ es) tail f g small_f small_g a b =
    let n : ℕ = entity_size e in
    let front : take n f ≡ take n g =
    same_bytes (take n f) (take n g) (bytes_take n f small_f) (bytes_take n g small_g)
    (spelled_fields (entity_fields e) (bits_of (take n f)) a.0.fields ∙ sym (spelled_fields (entity_fields e) (bits_of (take n g)) b.0.fields)) in
    let rest : drop n f ≡ drop n g = one_field es tail (drop n f) (drop n g) (bytes_drop n f small_f) (bytes_drop n g small_g) a.1 b.1 in
    sym (take-append-drop n f) ∙ (ap (λ l. l ++ drop n f) front ∙ (ap (λ l. take n g ++ l) rest ∙ take-append-drop n g))

-- bits of the shorter length are in the first form
shorter : (afs room : ℕ) (field : List ℕ) (check bits : List Bool) → IsFramed afs field check bits → length bits ≡ 8 * room + 20 → bits ≡ first_form afs field check
shorter afs room field check bits framed size =
    elim framed.form [
      | inl e ↦ e
      | inr e ↦ absurd (omega (arith, ap length e, length-append (zeros 4) (first_form afs field check), length-form afs field check, framed.width, size))
    ]

pub one_spelling : (b : Block) (room : ℕ) (x y : List Bool) → IsBlock b x → IsBlock b y → length x ≡ 8 * room + 20 → length y ≡ 8 * room + 20 → x ≡ y
one_spelling b room x y is_x is_y size_x size_y =
    let field : is_x.field ≡ is_y.field = one_field b.entities b.tail is_x.field is_y.field is_x.framed.octets is_y.framed.octets is_x.entities is_y.entities in
    let check : is_x.check ≡ is_y.check =
    one_check (bits_of (b.afs ∷ is_x.field)) is_x.check is_y.check is_x.framed.width is_y.framed.width is_x.checked
    (subst (λ (l : List ℕ). IsBlockChecked b.afs l is_y.check) (sym field) is_y.checked) in
    shorter b.afs room is_x.field is_x.check x is_x.framed size_x
    ∙ (ap (λ (l : List ℕ). first_form b.afs l is_x.check) field
    ∙ (ap (λ (l : List Bool). first_form b.afs is_y.field l) check ∙ sym (shorter b.afs room is_y.field is_y.check y is_y.framed size_y)))

some_is : (a b : Block) → Some a ≡ Some b → a ≡ b
some_is a b same = cc

-- the block of a super frame has so many bits
bits_size : (plan : Plan) (sf room : ℕ) (b : BlockBytes) → IsBlockAt plan sf room b → length (take b.bits (bits_of b.value)) ≡ 8 * room + 20
bits_size plan sf room b at = length-take-le b.bits (bits_of b.value) (omega (arith, length-bits_of b.value, at.bits, at.size)) ∙ at.bits

pub same_bits : (plan : Plan) (sf room : ℕ) (b c : BlockBytes) → IsBlockAt plan sf room b → IsBlockAt plan sf room c → take b.bits (bits_of b.value) ≡ take c.bits (bits_of c.value)
same_bits plan sf room b c x y =
    let block : y.block ≡ x.block = some_is y.block x.block (sym y.is ∙ x.is) in
    one_spelling x.block room (take b.bits (bits_of b.value)) (take c.bits (bits_of c.value)) x.spelled (subst (λ (k : Block). IsBlock k (take c.bits (bits_of c.value))) block y.spelled)
    (bits_size plan sf room b x) (bits_size plan sf room c y)

pub one_block : (plan : Plan) (sf room : ℕ) (b c : BlockBytes) → IsBlockAt plan sf room b → IsBlockAt plan sf room c → b ≡ c
one_block plan sf room b c x y =
    let bits : b.bits ≡ c.bits = x.bits ∙ sym y.bits in
    let front : take b.bits (bits_of b.value) ≡ take c.bits (bits_of c.value) = same_bits plan sf room b c x y in
    let all : bits_of b.value ≡ bits_of c.value =
    sym (take-append-drop b.bits (bits_of b.value))
    ∙ (ap (λ l. l ++ drop b.bits (bits_of b.value)) front
    ∙ (ap (λ l. take c.bits (bits_of c.value) ++ l) (x.padding ∙ sym y.padding) ∙ take-append-drop c.bits (bits_of c.value))) in
    let value : b.value ≡ c.value = same_bytes b.value c.value x.octets y.octets all in
    ap (λ (n : ℕ). record { bits = n; value = b.value }) bits ∙ ap (λ (l : List ℕ). record { bits = c.bits; value = l }) value
