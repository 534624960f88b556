-- The parts of a description: in their bits, and whether they fit.
use Rattle.std.proofs.Common.{◌≡◌, ℕ, zero, suc, ◌+◌, ◌-◌, ◌*◌, ◌<◌, ◌≤◌, ◌^◌, Bool, List, [], ◌∷◌, ◌++◌, length, take, drop, replicate, get_or, refl, sym, ◌∙◌, ap, subst, arith, append_assoc, length-append, length-drop}
use Rattle.std.proofs.lemmas.List.{get_or-take, length-take-le, length-replicate, take_at, drop_at, take-append-drop}
use Rattle.drm_bits.specs.Bits.{digits, front}
use Rattle.drm_bits.specs.Fields.{AreFields, AllFit, spelled}
use Rattle.drm_bits.specs.Description.{IsDescription, FitsWidths, described, description_fields, part_fields, parts_from, description_from}
use Rattle.drm_bits.specs.declared.description.Part.{Part}
use Rattle.drm_bits.specs.declared.description.MuxDesc.{MuxDesc}
use Rattle.drm_bits.proofs.BitsLemmas.{length-digits}
use Rattle.drm_bits.proofs.WroteLemmas.{each}

abbrev pub no_part : Part
no_part = record { a = 0; b = 0 }

pub parts_fit : (ps : List Part) → ((k : ℕ) → k < length ps → ((get_or ps k (record { a = 0; b = 0 })).a < 2 ^ 12) × ((get_or ps k (record { a = 0; b = 0 })).b < 2 ^ 12)) → AllFit (part_fields ps)
parts_fit [] each = tt
parts_fit (p ∷ ps) each =
    let here = each 0 (omega arith) in
    (here.0, (here.1, parts_fit ps (λ k within. each (suc k) (omega arith))))

pub part_fits : (ps : List Part) (k : ℕ) (d : Part) → k < length ps → AllFit (part_fields ps) → ((get_or ps k d).a < 2 ^ 12) × ((get_or ps k d).b < 2 ^ 12)
part_fits [] k d within fit = absurd (omega (arith, within))
part_fits (p ∷ ps) zero d within fit = (fit.0, fit.1.0)
part_fits (p ∷ ps) (suc k) d within fit = part_fits ps k d (omega (arith, within)) fit.1.1

pub all_zero : (ps : List Part) → ((k : ℕ) → k < length ps → ((get_or ps k (record { a = 0; b = 0 })).a ≡ 0) × ((get_or ps k (record { a = 0; b = 0 })).b ≡ 0)) → ps ≡ replicate (length ps) (record { a = 0; b = 0 })
all_zero [] each = refl
all_zero (p ∷ ps) each =
    let here = each 0 (omega arith) in
    let rest = all_zero ps (λ k within. each (suc k) (omega arith)) in
    ap (λ n. record { a = n; b = p.b } ∷ ps) here.0
    ∙ (ap (λ n. record { a = 0; b = n } ∷ ps) here.1 ∙ ap (λ (l : List Part). record { a = 0; b = 0 } ∷ l) rest)

pub one_zero : (ps : List Part) (k : ℕ) (d : Part) → k < length ps → ps ≡ replicate (length ps) (record { a = 0; b = 0 }) → ((get_or ps k d).a ≡ 0) × ((get_or ps k d).b ≡ 0)
one_zero [] k d within is = absurd (omega (arith, within))
one_zero (p ∷ ps) zero d within is = (cc, cc)
one_zero (p ∷ ps) (suc k) d within is = one_zero ps k d (omega (arith, within)) cc

abbrev pub part_bits : Part → List Bool
part_bits p = digits 12 p.a ++ digits 12 p.b

pub parts_each : (ps : List Part) → each part_bits ps ≡ spelled (part_fields ps)
parts_each [] = refl
parts_each (p ∷ ps) =
    append_assoc (digits 12 p.a) (digits 12 p.b) (each part_bits ps) ∙ ap (λ l. digits 12 p.a ++ (digits 12 p.b ++ l)) (parts_each ps)

-- the parts that are described, where there are four
pub length-described : (parts : List Part) (count : ℕ) → length parts ≡ 4 → count ≤ 4 → length (take count parts) ≡ count
length-described parts count size few = length-take-le count parts (omega (arith, size, few))

pub length-part_fields : (parts : List Part) → length (spelled (part_fields parts)) ≡ 24 * length parts
length-part_fields [] = refl
length-part_fields (p ∷ parts) =
    omega (arith, length-append (digits 12 p.a) (digits 12 p.b ++ spelled (part_fields parts)), length-append (digits 12 p.b) (spelled (part_fields parts)), length-digits 12 p.a, length-digits 12 p.b, length-part_fields parts)

pub parts_again : (parts : List Part) (bits : List Bool) → AreFields (part_fields parts) bits → parts ≡ parts_from (length parts) bits
parts_again [] bits are = refl
parts_again (p ∷ parts) bits are =
    let a : p.a ≡ front 12 bits = sym are.1 in
    let b : p.b ≡ front 12 (drop 12 bits) = sym are.2.1 in
    let rest = parts_again parts (drop 12 (drop 12 bits)) are.2.2 in
    ap (λ (l : List Part). p ∷ l) rest
    ∙ (ap (λ n. record { a = n; b = p.b } ∷ parts_from (length parts) (drop 12 (drop 12 bits))) a
    ∙ ap (λ n. record { a = front 12 bits; b = n } ∷ parts_from (length parts) (drop 12 (drop 12 bits))) b)

nothing_left : (rest : List Bool) → length rest ≡ 0 → rest ≡ []
nothing_left [] none = refl
nothing_left (b ∷ rest) none = absurd (omega (arith, none))

pub length-parts : (n : ℕ) (bits : List Bool) → length (parts_from n bits) ≡ n
length-parts zero bits = refl
length-parts (suc n) bits = ap suc (length-parts n (drop 12 (drop 12 bits)))

pub parts_made : (n : ℕ) (bits : List Bool) → length bits ≡ 24 * n → AreFields (part_fields (parts_from n bits)) bits
parts_made zero bits size = nothing_left bits size
parts_made (suc n) bits size =
    let rest : length (drop 12 (drop 12 bits)) ≡ 24 * n = simp length-drop (omega (arith, size)) in
    ((omega (arith, size)), refl, (((simp length-drop (omega (arith, size))), refl, (parts_made n (drop 12 (drop 12 bits)) rest))))

-- what stands in as many bits as a description has is one
pub description_made : (n : ℕ) (bits : List Bool) → n ≤ 4 → length bits ≡ 4 + 24 * n → AreFields (description_fields (description_from n bits)) bits
description_made n bits few size =
    let rest : List Bool = drop 2 (drop 2 bits) in
    let none : List Part = replicate (4 - n) (record { a = 0; b = 0 }) in
    let all : length rest ≡ 24 * n = simp length-drop (omega (arith, size)) in
    let front_is : take n (parts_from n rest ++ none) ≡ parts_from n rest = take_at (parts_from n rest) none n (length-parts n rest) in
    (omega (arith, size), refl, (simp length-drop (omega (arith, size)), refl, subst (λ (l : List Part). AreFields (part_fields l) rest) (sym front_is) (parts_made n rest all)))

-- and a description, whatever the bits are
pub is_description_from : (n : ℕ) (bits : List Bool) → n ≤ 4 → IsDescription (description_from n bits)
is_description_from n bits few =
    let rest : List Bool = drop 2 (drop 2 bits) in
    let none : List Part = replicate (4 - n) (record { a = 0; b = 0 }) in
    let long : length (parts_from n rest) ≡ n = length-parts n rest in
    record {
      size = omega (arith, length-append (parts_from n rest) none, long, length-replicate (4 - n) (let p : Part = record { a = 0; b = 0 } in p));
      count = few;
      rest = drop_at (parts_from n rest) none n long;
    }

-- a description is what stands in its bits
pub description_again : (d : MuxDesc) (bits : List Bool) → IsDescription d → AreFields (description_fields d) bits → d ≡ description_from d.count bits
description_again d bits is are =
    let rest : List Bool = drop 2 (drop 2 bits) in
    let long : length (described d) ≡ d.count = length-described d.parts d.count is.size is.count in
    let read : described d ≡ parts_from d.count rest = parts_again (described d) rest are.2.2 ∙ ap (λ m. parts_from m rest) long in
    let parts : d.parts ≡ parts_from d.count rest ++ replicate (4 - d.count) (record { a = 0; b = 0 }) =
    sym (take-append-drop d.count d.parts)
    ∙ (ap (λ l. l ++ drop d.count d.parts) read ∙ ap (λ l. parts_from d.count rest ++ l) is.rest) in
    ap (λ (l : List Part). record { prot_a = d.prot_a; prot_b = d.prot_b; count = d.count; parts = l }) parts
    ∙ (ap (λ m. record { prot_a = m; prot_b = d.prot_b; count = d.count; parts = parts_from d.count rest ++ replicate (4 - d.count) (record { a = 0; b = 0 }) }) (sym are.1)
    ∙ ap (λ m. record { prot_a = front 2 bits; prot_b = m; count = d.count; parts = parts_from d.count rest ++ replicate (4 - d.count) (record { a = 0; b = 0 }) }) (sym are.2.1))

-- numbers that fit their widths in a description fit those of its fields
pub description_fit : (d : MuxDesc) → IsDescription d → FitsWidths d → AllFit (description_fields d)
description_fit d is fits =
    let each_fits : (k : ℕ) → k < length (described d)
    → ((get_or (described d) k (record { a = 0; b = 0 })).a < 2 ^ 12) × ((get_or (described d) k (record { a = 0; b = 0 })).b < 2 ^ 12) = λ k within.
    let size : length (described d) ≡ d.count = length-described d.parts d.count is.size is.count in
    let below : k < d.count = omega (arith, within, size) in
    rw (get_or-take d.count d.parts k (let p : Part = record { a = 0; b = 0 } in p) below) (fits.parts k (record { a = 0; b = 0 }) (omega (arith, below, is.size, is.count))) in
    (fits.prot_a, (fits.prot_b, parts_fit (described d) each_fits))

-- the length of its bits
pub length-description : (d : MuxDesc) → IsDescription d → length (spelled (description_fields d)) ≡ 4 + 24 * d.count
length-description d is =
    let parts : List Bool = spelled (part_fields (described d)) in
    omega (arith, length-append (digits 2 d.prot_a) (digits 2 d.prot_b ++ parts), length-append (digits 2 d.prot_b) parts, length-digits 2 d.prot_a, length-digits 2 d.prot_b, length-part_fields (described d), length-described d.parts d.count is.size is.count)
