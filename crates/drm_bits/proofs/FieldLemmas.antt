-- Fields one after another.
use Rattle.std.proofs.Common.{◌≡◌, ℕ, ◌<◌, ◌^◌, List, [], ◌∷◌, ◌++◌, take, drop, Bool, refl, sym, ◌∙◌, ap, subst, map, arith, length, length-append, append_assoc}
use Rattle.drm_bits.specs.Bits.{value, digits}
use Rattle.std.proofs.lemmas.List.{take_at, drop_at, length-take-le, take-append-drop}
use Rattle.drm_bits.proofs.BitsLemmas.{length-digits, value-below}
use Rattle.drm_bits.proofs.DigitsLemmas.{value-digits, digits-value}
use Rattle.drm_bits.specs.Fields.{BitField, field, AreFields, BeginsWith, AllFit, spelled}

-- fields that were read, and those of the rest
pub fields_then : (fields others : List BitField) (old new : List Bool) → BeginsWith fields old new → AreFields others new → AreFields (fields ++ others) old
fields_then [] others old new begins rest = subst (AreFields others) begins rest
fields_then (f ∷ fields) others old new begins rest = (begins.0, begins.1, fields_then fields others (drop f.width old) new begins.2 rest)

-- fields that were read to the end
pub fields_whole : (fields : List BitField) (old new : List Bool) → BeginsWith fields old new → new ≡ [] → AreFields fields old
fields_whole [] old new begins end = sym begins ∙ end
fields_whole (f ∷ fields) old new begins end = (begins.0, begins.1, fields_whole fields (drop f.width old) new begins.2 end)

-- bits have one number in each field
pub same_fields : (fs gs : List BitField) (bits : List Bool) → map (λ (f : BitField). f.width) fs ≡ map (λ (f : BitField). f.width) gs → AreFields fs bits → AreFields gs bits → fs ≡ gs
same_fields [] [] bits widths a b = refl
same_fields [] (g ∷ gs) bits widths a b = cc
same_fields (f ∷ fs) [] bits widths a b = cc
same_fields (f ∷ fs) (g ∷ gs) bits widths a b =
    let width : f.width ≡ g.width = cc in
    let number : f.number ≡ g.number = sym a.1 ∙ (ap (λ w. value (take w bits)) width ∙ b.1) in
    let Rest : ℕ → Type 0 = λ w. AreFields gs (drop w bits) in
    let others : map (λ (f : BitField). f.width) fs ≡ map (λ (f : BitField). f.width) gs = cc in
    let rest : fs ≡ gs = same_fields fs gs (drop f.width bits) others a.2 (subst Rest (sym width) b.2) in
    let first : f ≡ g = ap (λ w. field w f.number) width ∙ ap (λ n. field g.width n) number in
    cc

-- more fields were read
pub begins_then : (fields others : List BitField) (old between new : List Bool) → BeginsWith fields old between → BeginsWith others between new → BeginsWith (fields ++ others) old new
begins_then [] others old between new begins more = subst (λ (bits : List Bool). BeginsWith others bits new) begins more
begins_then (f ∷ fields) others old between new begins more = (begins.0, begins.1, begins_then fields others (drop f.width old) between new begins.2 more)

-- what is spelled for numbers that fit
pub fields_spelled : (fields : List BitField) → AllFit fields → AreFields fields (spelled fields)
fields_spelled [] fit = refl
fields_spelled (f ∷ fields) fit =
    let bits : List Bool = digits f.width f.number in
    let size : length bits ≡ f.width = length-digits f.width f.number in (
      omega (arith, length-append bits (spelled fields), size),
      ap value (take_at bits (spelled fields) f.width size) ∙ value-digits f.width f.number fit.0,
      subst (AreFields fields) (sym (drop_at bits (spelled fields) f.width size)) (fields_spelled fields fit.1),
    )

-- fields are spelled in one way
pub spelled_fields : (fields : List BitField) (bits : List Bool) → AreFields fields bits → bits ≡ spelled fields
spelled_fields [] bits are = are
spelled_fields (f ∷ fields) bits are =
    let size : length (take f.width bits) ≡ f.width = length-take-le f.width bits are.0 in
    let first : take f.width bits ≡ digits f.width f.number = sym (digits-value f.width (take f.width bits) size) ∙ ap (digits f.width) are.1 in
    sym (take-append-drop f.width bits)
    ∙ (ap (λ l. l ++ drop f.width bits) first ∙ ap (λ l. digits f.width f.number ++ l) (spelled_fields fields (drop f.width bits) are.2))

pub spelled-append : (fields others : List BitField) → spelled (fields ++ others) ≡ spelled fields ++ spelled others
spelled-append [] others = refl
spelled-append (f ∷ fields) others = ap (λ l. digits f.width f.number ++ l) (spelled-append fields others) ∙ sym (append_assoc (digits f.width f.number) (spelled fields) (spelled others))

-- the numbers that bits have in fields fit
pub fields_fit : (fields : List BitField) (bits : List Bool) → AreFields fields bits → AllFit fields
fields_fit [] bits are = tt
fields_fit (f ∷ fields) bits are =
    let size : length (take f.width bits) ≡ f.width = length-take-le f.width bits are.0 in
    let P : ℕ → Type 0 = λ w. value (take f.width bits) < 2 ^ w in
    let below : value (take f.width bits) < 2 ^ f.width = subst P size (value-below (take f.width bits)) in
    let Q : ℕ → Type 0 = λ n. n < 2 ^ f.width in
    (subst Q are.1 below, fields_fit fields (drop f.width bits) are.2)
