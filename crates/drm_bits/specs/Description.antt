-- The multiplex description (ES 201 980, TS 102 820): protections, and the lengths of each stream's parts.
use Rattle.std.specs.Prelude.{ℕ, zero, suc, Bool, ◌≡◌, ◌++◌, ◌-◌, ◌≤◌, List, [], ◌∷◌, take, drop, replicate, ◌<◌, ◌^◌, length, All}
use Rattle.drm_bits.specs.Bits.{front}
use Rattle.drm_bits.specs.Fields.{BitField, field}
use Rattle.drm_bits.specs.declared.description.Part.{Part}
use Rattle.drm_bits.specs.declared.description.MuxDesc.{MuxDesc}

-- the parts of the streams that are described
abbrev pub described : MuxDesc → List Part
described d = take d.count d.parts

-- At most four streams are described, and the parts past them are 0.
pub record IsDescription (d : MuxDesc) : Type 0 where
  pub size : length d.parts ≡ 4
  pub count : d.count ≤ 4
  pub rest : drop d.count d.parts ≡ replicate (4 - d.count) (record { a = 0; b = 0 })

-- Each number fits the width that it has in a description.
pub record FitsWidths (d : MuxDesc) : Type 0 where
  pub prot_a : d.prot_a < 2 ^ 2
  pub prot_b : d.prot_b < 2 ^ 2
  pub parts : All (λ (p : Part). (p.a < 2 ^ 12) × (p.b < 2 ^ 12)) d.parts

-- A description that can be written: it describes at most four streams, and each number fits its width.
pub record IsWritable (d : MuxDesc) : Type 0 where
  pub description : IsDescription d
  pub fits : FitsWidths d

-- part A and part B of each stream, in 12 bits each
abbrev pub part_fields : List Part → List BitField
part_fields [] = []
part_fields (p ∷ parts) = field 12 p.a ∷ field 12 p.b ∷ part_fields parts

-- both protections in 2 bits each, then the parts
abbrev pub description_fields : MuxDesc → List BitField
description_fields d = field 2 d.prot_a ∷ field 2 d.prot_b ∷ part_fields (described d)

-- what stands in the bits, whatever they are: so many parts, and the description of so many streams
abbrev pub parts_from : ℕ → List Bool → List Part
parts_from zero bits = []
parts_from (suc n) bits = record { a = front 12 bits; b = front 12 (drop 12 bits) } ∷ parts_from n (drop 12 (drop 12 bits))

abbrev pub description_from : ℕ → List Bool → MuxDesc
description_from n bits =
    record {
      prot_a = front 2 bits;
      prot_b = front 2 (drop 2 bits);
      count = n;
      parts = parts_from n (drop 2 (drop 2 bits)) ++ replicate (4 - n) (record { a = 0; b = 0 });
    }
