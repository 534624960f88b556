-- Bits are one block at most, or have one first fault.
use Rattle.std.proofs.Common.{◌≡◌, ◌≢◌, ◌⊎◌, inl, inr, ℕ, ◌+◌, ◌-◌, ◌*◌, ◌/◌, ◌%◌, ◌<◌, ◌^◌, Bool, List, [], ◌∷◌, ◌++◌, length, take, drop, get_or, refl, sym, ◌∙◌, ap, subst, arith, length-append, Result, Ok, Err, IfOk, IfErr}
use Rattle.std.proofs.lemmas.List.{take_at, drop_at}
use Rattle.drm_bits.specs.Bits.{value, digits, bits_of}
use Rattle.drm_bits.specs.Crc.{IsCheck, crc16_polynomial, zeros}
use Rattle.drm_bits.proofs.BitsLemmas.{length-digits, length-bits_of, value-below}
use Rattle.drm_bits.proofs.DigitsLemmas.{value-digits, digits-value}
use Rattle.drm_bits.proofs.ByteBits.{same_bytes}
use Rattle.drm_bits.proofs.Checks.{IsCheck-unique, crc16_low}
use Rattle.drm_sdc.specs.declared.block.Block.{Block}
use Rattle.drm_sdc.specs.declared.block.BlockInfo.{BlockInfo}
use Rattle.drm_sdc.specs.declared.entity.Entity.{Entity}
use Rattle.drm_sdc.specs.declared.fault.SdcFault.{SdcFault}
use Rattle.drm_sdc.specs.declared.fault.SdcFault.TheVariants.{BlockLength, Front, Crc, EntityCut, BodyLength, LabelText, NoMemory}
use Rattle.drm_sdc.specs.Entity.{entity_size}
use Rattle.drm_sdc.specs.Field.{IsField, IsFieldFault, IsFirstFault}
use Rattle.drm_sdc.specs.Block.{first_form, IsFramed, IsBlockChecked, IsBlock, info_of, IsBlockLength, IsCrcFault, IsFaultInField, IsBlockFault}
use Rattle.drm_sdc.proofs.Determined.{one_field, field_or_fault, one_fault}

pub length-form : (afs : ℕ) (field : List ℕ) (check : List Bool) → length (first_form afs field check) ≡ 4 + (8 * length field + length check)
length-form afs field check =
    omega (arith, length-append (digits 4 afs) (bits_of field ++ check), length-append (bits_of field) check, length-digits 4 afs, length-bits_of field)

pub framed_length : (afs : ℕ) (field : List ℕ) (check bits : List Bool) → IsFramed afs field check bits → (length bits ≡ 8 * length field + 20) ⊎ (length bits ≡ 8 * length field + 24)
framed_length afs field check bits framed =
    elim framed.form [
      | inl e ↦ inl (omega (arith, ap length e, length-form afs field check, framed.width))
      | inr e ↦ inr (omega (arith, ap length e, length-append (zeros 4) (first_form afs field check), length-form afs field check, framed.width))
    ]

pub is_length : (afs : ℕ) (field : List ℕ) (check bits : List Bool) → IsFramed afs field check bits → IsBlockLength (length bits)
is_length afs field check bits framed = (length field, framed.room, framed_length afs field check bits framed)

one_form : (a b : ℕ) (f g : List ℕ) (c d : List Bool) → a < 2 ^ 4 → b < 2 ^ 4 → ((i : ℕ) → get_or f i 0 < 2 ^ 8) → ((i : ℕ) → get_or g i 0 < 2 ^ 8) → length c ≡ 16 → length d ≡ 16 → first_form a f c ≡ first_form b g d → (a ≡ b) × (f ≡ g) × (c ≡ d)
one_form a b f g c d small_a small_b small_f small_g size_c size_d same =
    let lengths : length f ≡ length g = omega (arith, ap length same, length-form a f c, length-form b g d) in
    let index : digits 4 a ≡ digits 4 b = sym (take_at (digits 4 a) (bits_of f ++ c) 4 (length-digits 4 a)) ∙ (ap (take 4) same ∙ take_at (digits 4 b) (bits_of g ++ d) 4 (length-digits 4 b)) in
    let rest : bits_of f ++ c ≡ bits_of g ++ d = sym (drop_at (digits 4 a) (bits_of f ++ c) 4 (length-digits 4 a)) ∙ (ap (drop 4) same ∙ drop_at (digits 4 b) (bits_of g ++ d) 4 (length-digits 4 b)) in
    let n : ℕ = 8 * length f in
    let size : length (bits_of g) ≡ n = length-bits_of g ∙ ap (λ m. 8 * m) (sym lengths) in
    let bytes : bits_of f ≡ bits_of g = sym (take_at (bits_of f) c n (length-bits_of f)) ∙ (ap (take n) rest ∙ take_at (bits_of g) d n size) in
    let checks : c ≡ d = sym (drop_at (bits_of f) c n (length-bits_of f)) ∙ (ap (drop n) rest ∙ drop_at (bits_of g) d n size) in
    (sym (value-digits 4 a small_a) ∙ (ap value index ∙ value-digits 4 b small_b), same_bytes f g small_f small_g bytes, checks)

pub one_frame : (a b : ℕ) (f g : List ℕ) (c d bits : List Bool) → IsFramed a f c bits → IsFramed b g d bits → (a ≡ b) × (f ≡ g) × (c ≡ d)
one_frame a b f g c d bits x y =
    let same : first_form a f c ≡ first_form b g d =
    elim x.form [
      | inl e ↦ elim y.form [
        | inl h ↦ sym e ∙ h
        | inr h ↦ absurd (omega (arith, ap length e, ap length h, length-form a f c, length-form b g d, length-append (zeros 4) (first_form b g d), x.width, y.width))
      ]
      | inr e ↦ elim y.form [
        | inl h ↦ absurd (omega (arith, ap length e, ap length h, length-form a f c, length-form b g d, length-append (zeros 4) (first_form a f c), x.width, y.width))
        | inr h ↦ ap (drop 4) (sym e ∙ h)
      ]
    ] in
    one_form a b f g c d x.index y.index x.octets y.octets x.width y.width same

-- a number with these sixteen digits
sixteen : (c : List Bool) → length c ≡ 16 → c ≡ digits 16 (value c)
sixteen c size = sym (digits-value 16 c size)

below_16 : (c : List Bool) → length c ≡ 16 → value c < 2 ^ 16
below_16 c size = let below : value c < 2 ^ length c = value-below c in rw size at below

pub one_check : (bits c d : List Bool) → length c ≡ 16 → length d ≡ 16 → IsCheck crc16_polynomial bits c → IsCheck crc16_polynomial bits d → c ≡ d
one_check bits c d size_c size_d is_c is_d =
    let n : value c ≡ value d = IsCheck-unique 16 4129 crc16_polynomial bits (value c) (value d) crc16_low (below_16 c size_c) (below_16 d size_d) (subst (IsCheck crc16_polynomial bits) (sixteen c size_c) is_c) (subst (IsCheck crc16_polynomial bits) (sixteen d size_d) is_d) in
    sixteen c size_c ∙ (ap (digits 16) n ∙ sym (sixteen d size_d))

-- the same frame has one check
frame_check : (a b : ℕ) (f g : List ℕ) (c d : List Bool) → a ≡ b → f ≡ g → length c ≡ 16 → length d ≡ 16 → IsBlockChecked a f c → IsBlockChecked b g d → c ≡ d
frame_check a b f g c d same_a same_f size_c size_d x y =
    one_check (bits_of (a ∷ f)) c d size_c size_d x (subst (λ k. IsBlockChecked k f d) (sym same_a) (subst (λ (l : List ℕ). IsBlockChecked b l d) (sym same_f) y))

pub one_block : (b k : Block) (bits : List Bool) → IsBlock b bits → IsBlock k bits → b ≡ k
one_block b k bits x y =
    let frame = one_frame b.afs k.afs x.field y.field x.check y.check bits x.framed y.framed in
    let same = one_field b.entities k.entities b.tail k.tail y.field y.framed.octets (subst (IsField b.entities b.tail) frame.1 x.entities) y.entities in
    ap (λ n. record { afs = n; entities = b.entities; tail = b.tail }) frame.0
    ∙ (ap (λ (l : List Entity). record { afs = k.afs; entities = l; tail = b.tail }) same.0
    ∙ ap (λ (t : List ℕ). record { afs = k.afs; entities = k.entities; tail = t }) same.1)

bad_front : (afs : ℕ) (field : List ℕ) (check bits : List Bool) (b : ℕ) → IsFramed afs field check bits → length bits % 8 ≡ 0 → b ≡ value (take 4 bits) → b ≢ 0 → ⊥
bad_front afs field check bits b framed second is other =
    elim framed.form [
      | inl e ↦ absurd (omega (arith, ap length e, length-form afs field check, framed.width, second))
      | inr e ↦ other (is ∙ ap (λ l. value (take 4 l)) e)
    ]

wrong_check : (stands computed : ℕ) (afs : ℕ) (field : List ℕ) (check bits : List Bool) → IsCrcFault stands computed bits → IsFramed afs field check bits → IsBlockChecked afs field check → ⊥
wrong_check stands computed afs field check bits fault framed checked =
    let frame = one_frame fault.afs afs fault.field field (digits 16 stands) check bits fault.framed framed in
    let same : digits 16 computed ≡ check = frame_check fault.afs afs fault.field field (digits 16 computed) check frame.0 frame.1 (length-digits 16 computed) framed.width fault.checked checked in
    let value_is : stands ≡ computed = sym (value-digits 16 stands fault.stands_fits) ∙ (ap value (frame.2 ∙ sym same) ∙ value-digits 16 computed fault.computed_fits) in
    fault.differ value_is

in_field : (b : Block) (f : SdcFault) (bits : List Bool) → IsBlock b bits → IsFaultInField f bits → ⊥
in_field b f bits x y =
    let frame = one_frame b.afs y.afs x.field y.field x.check y.check bits x.framed y.framed in
    field_or_fault b.entities y.first.0 0 b.tail y.field f y.framed.octets (subst (IsField b.entities b.tail) frame.1 x.entities) y.first.1

pub block_or_fault : (b : Block) (f : SdcFault) (bits : List Bool) → IsBlock b bits → IsBlockFault bits f → ⊥
block_or_fault b (BlockLength n) bits is fault = fault.1 (subst IsBlockLength (sym fault.0) (is_length b.afs is.field is.check bits is.framed))
block_or_fault b (Front n) bits is fault = bad_front b.afs is.field is.check bits n is.framed fault.1 fault.2 fault.3
block_or_fault b (Crc stands computed) bits is fault = wrong_check stands computed b.afs is.field is.check bits fault is.framed is.checked
block_or_fault b (EntityCut at) bits is fault = in_field b (EntityCut at) bits is fault
block_or_fault b (BodyLength at kind len) bits is fault = in_field b (BodyLength at kind len) bits is fault
block_or_fault b (LabelText at) bits is fault = in_field b (LabelText at) bits is fault
block_or_fault b NoMemory bits is fault = fault

-- The stages of a fault: the length, the front, the check value, the entities.
record AtLength (f : SdcFault) (bits : List Bool) : Type 0 where
  is : f ≡ BlockLength (length bits)
  wrong : ¬ IsBlockLength (length bits)

record AtFront (f : SdcFault) (bits : List Bool) : Type 0 where
  is : f ≡ Front (value (take 4 bits))
  right : IsBlockLength (length bits)
  second : length bits % 8 ≡ 0
  other : value (take 4 bits) ≢ 0

record AtCheck (f : SdcFault) (bits : List Bool) : Type 0 where
  stands : ℕ
  computed : ℕ
  is : f ≡ Crc stands computed
  fault : IsCrcFault stands computed bits

stage : (f : SdcFault) (bits : List Bool) → IsBlockFault bits f → AtLength f bits ⊎ (AtFront f bits ⊎ (AtCheck f bits ⊎ IsFaultInField f bits))
stage (BlockLength n) bits fault = inl (record { is = ap BlockLength fault.0; wrong = subst (λ m. ¬ IsBlockLength m) fault.0 fault.1 })
stage (Front n) bits fault = inr (inl (record { is = ap Front fault.2; right = fault.0; second = fault.1; other = subst (λ m. m ≢ 0) fault.2 fault.3 }))
stage (Crc stands computed) bits fault = inr (inr (inl (record { stands = stands; computed = computed; is = refl; fault = fault })))
stage (EntityCut at) bits fault = inr (inr (inr fault))
stage (BodyLength at kind len) bits fault = inr (inr (inr fault))
stage (LabelText at) bits fault = inr (inr (inr fault))
stage NoMemory bits fault = absurd fault

crc_crc : (s t : ℕ) (c d : ℕ) (bits : List Bool) → IsCrcFault s c bits → IsCrcFault t d bits → Crc s c ≡ Crc t d
crc_crc s t c d bits x y =
    let frame = one_frame x.afs y.afs x.field y.field (digits 16 s) (digits 16 t) bits x.framed y.framed in
    let stands : s ≡ t = sym (value-digits 16 s x.stands_fits) ∙ (ap value frame.2 ∙ value-digits 16 t y.stands_fits) in
    let same = frame_check x.afs y.afs x.field y.field (digits 16 c) (digits 16 d) frame.0 frame.1 (length-digits 16 c) (length-digits 16 d) x.checked y.checked in
    let computed : c ≡ d = sym (value-digits 16 c x.computed_fits) ∙ (ap value same ∙ value-digits 16 d y.computed_fits) in
    ap (λ n. Crc n c) stands ∙ ap (λ n. Crc t n) computed

field_field : (f g : SdcFault) (bits : List Bool) → IsFaultInField f bits → IsFaultInField g bits → f ≡ g
field_field f g bits x y =
    let frame = one_frame x.afs y.afs x.field y.field x.check y.check bits x.framed y.framed in
    let first : IsFirstFault y.field f = subst (λ (l : List ℕ). IsFirstFault l f) frame.1 x.first in
    one_fault first.0 y.first.0 0 y.field f g y.framed.octets first.1 y.first.1

-- an earlier stage excludes a later one
length_later : (f g : SdcFault) (bits : List Bool) → AtLength f bits → AtFront g bits ⊎ (AtCheck g bits ⊎ IsFaultInField g bits) → ⊥
length_later f g bits x (inl y) = x.wrong y.right
length_later f g bits x (inr (inl y)) = x.wrong (is_length y.fault.afs y.fault.field (digits 16 y.stands) bits y.fault.framed)
length_later f g bits x (inr (inr y)) = x.wrong (is_length y.afs y.field y.check bits y.framed)

front_later : (f g : SdcFault) (bits : List Bool) → AtFront f bits → AtCheck g bits ⊎ IsFaultInField g bits → ⊥
front_later f g bits x (inl y) = bad_front y.fault.afs y.fault.field (digits 16 y.stands) bits (value (take 4 bits)) y.fault.framed x.second refl x.other
front_later f g bits x (inr y) = bad_front y.afs y.field y.check bits (value (take 4 bits)) y.framed x.second refl x.other

one_stage : (f g : SdcFault) (bits : List Bool) → AtLength f bits ⊎ (AtFront f bits ⊎ (AtCheck f bits ⊎ IsFaultInField f bits)) → AtLength g bits ⊎ (AtFront g bits ⊎ (AtCheck g bits ⊎ IsFaultInField g bits)) → f ≡ g
one_stage f g bits (inl x) (inl y) = x.is ∙ sym y.is
one_stage f g bits (inl x) (inr y) = absurd (length_later f g bits x y)
one_stage f g bits (inr x) (inl y) = absurd (length_later g f bits y x)
one_stage f g bits (inr (inl x)) (inr (inl y)) = x.is ∙ sym y.is
one_stage f g bits (inr (inl x)) (inr (inr y)) = absurd (front_later f g bits x y)
one_stage f g bits (inr (inr x)) (inr (inl y)) = absurd (front_later g f bits y x)
one_stage f g bits (inr (inr (inl x))) (inr (inr (inl y))) = x.is ∙ (crc_crc x.stands y.stands x.computed y.computed bits x.fault y.fault ∙ sym y.is)
one_stage f g bits (inr (inr (inl x))) (inr (inr (inr y))) = absurd (wrong_check x.stands x.computed y.afs y.field y.check bits x.fault y.framed y.checked)
one_stage f g bits (inr (inr (inr x))) (inr (inr (inl y))) = absurd (wrong_check y.stands y.computed x.afs x.field x.check bits y.fault x.framed x.checked)
one_stage f g bits (inr (inr (inr x))) (inr (inr (inr y))) = field_field f g bits x y

pub one_block_fault : (f g : SdcFault) (bits : List Bool) → IsBlockFault bits f → IsBlockFault bits g → f ≡ g
one_block_fault f g bits x y = one_stage f g bits (stage f bits x) (stage g bits y)

-- An answer that is right is the only one.
pub only_block : (r : Result Block SdcFault) (bits : List Bool) → IfOk r (λ b. IsBlock b bits) → IfErr r (λ f. (f ≡ NoMemory) ⊎ IsBlockFault bits f) → (b : Block) → IsBlock b bits → (r ≡ Ok b) ⊎ (r ≡ Err NoMemory)
only_block (Ok k) bits read fault b is = inl (ap Ok (one_block k b bits read is))
only_block (Err f) bits read (inl none) b is = inr (ap Err none)
only_block (Err f) bits read (inr wrong) b is = absurd (block_or_fault b f bits is wrong)

pub only_fault : (r : Result Block SdcFault) (bits : List Bool) → IfOk r (λ b. IsBlock b bits) → IfErr r (λ f. (f ≡ NoMemory) ⊎ IsBlockFault bits f) → (f : SdcFault) → IsBlockFault bits f → (r ≡ Err f) ⊎ (r ≡ Err NoMemory)
only_fault (Ok k) bits read fault f is = absurd (block_or_fault k f bits read is)
only_fault (Err g) bits read (inl none) f is = inr (ap Err none)
only_fault (Err g) bits read (inr wrong) f is = inl (ap Err (one_block_fault g f bits wrong is))

abbrev IsBlockInfo : List Bool → BlockInfo → Type 0
IsBlockInfo bits i = (block : Block) × (is : IsBlock block bits) × (i ≡ info_of block bits is)

-- a block has one length of its field
one_room : (bits : List Bool) (afs : ℕ) (field : List ℕ) (check : List Bool) → IsFramed afs field check bits → length field ≡ (length bits - 20) / 8
one_room bits afs field check framed =
    elim (framed_length afs field check bits framed) [ inl e ↦ omega (arith, e) | inr e ↦ omega (arith, e) ]

-- one thing is told of a block
pub one_info : (a b : Block) (bits others : List Bool) → bits ≡ others → (x : IsBlock a bits) (y : IsBlock b others) → info_of a bits x ≡ info_of b others y
one_info a b bits others same x y =
    let blocks : a ≡ b = one_block a b others (subst (IsBlock a) same x) y in
    let rooms : length x.field ≡ length y.field =
    one_room bits a.afs x.field x.check x.framed ∙ (ap (λ (l : List Bool). (length l - 20) / 8) same ∙ sym (one_room others b.afs y.field y.check y.framed)) in
    ap (λ (k : Block). record { afs = k.afs; room = length x.field }) blocks ∙ ap (λ n. record { afs = b.afs; room = n }) rooms

pub only_info : (r : Result BlockInfo SdcFault) (bits : List Bool) → IfOk r (IsBlockInfo bits) → IfErr r (IsBlockFault bits) → (b : Block) (is : IsBlock b bits) → r ≡ Ok (info_of b bits is)
only_info (Ok i) bits is_info fault b is = ap Ok (is_info.2 ∙ one_info is_info.0 b bits bits refl is_info.1 is)
only_info (Err f) bits is_info wrong b is = absurd (block_or_fault b f bits is wrong)

pub only_info_fault : (r : Result BlockInfo SdcFault) (bits : List Bool) → IfOk r (IsBlockInfo bits) → IfErr r (IsBlockFault bits) → (f : SdcFault) → IsBlockFault bits f → r ≡ Err f
only_info_fault (Ok i) bits is_info fault f is = absurd (block_or_fault is_info.0 f bits is_info.1 is)
only_info_fault (Err g) bits is_info wrong f is = ap Err (one_block_fault g f bits wrong is)

-- a fault of a field is none of those before it
not_before : (at : ℕ) (es : List Entity) (bytes : List ℕ) (f : SdcFault) → IsFieldFault at es bytes f → (bits : List Bool) → (IsFaultInField f bits → IsBlockFault bits f)
not_before at [] bytes (EntityCut a) is bits = λ x. x
not_before at [] bytes (BodyLength a kind len) is bits = λ x. x
not_before at [] bytes (LabelText a) is bits = λ x. x
not_before at [] bytes (BlockLength n) is bits = absurd is.1
not_before at [] bytes (Front n) is bits = absurd is.1
not_before at [] bytes (Crc stands computed) is bits = absurd is.1
not_before at [] bytes NoMemory is bits = absurd is.1
not_before at (e ∷ es) bytes f is bits = not_before (at + entity_size e) es (drop (entity_size e) bytes) f is.1 bits

pub field_fault : (f : SdcFault) (afs : ℕ) (field : List ℕ) (check bits : List Bool) → IsFramed afs field check bits → IsBlockChecked afs field check → IsFirstFault field f → IsBlockFault bits f
field_fault f afs field check bits framed checked first =
    not_before 0 first.0 field f first.1 bits (record { afs = afs; field = field; check = check; framed = framed; checked = checked; first = first })
