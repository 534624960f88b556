-- What a packet of the id makes of a joiner: one of six cases.
use Rattle.std.proofs.Common.{◌≡◌, ℕ, ◌+◌, ◌<◌, ◌≤◌, ◌==◌, nat_le, ◌⊎◌, inl, inr, Bool, true, false, ◌&&◌, if◌then◌else◌, List, ◌++◌, length, Option, Some, None, is_some, refl, ap}
use Rattle.std.proofs.lemmas.Bool.{and_parts, and_cases, eqb-true, eqb-false, leb-true, leb-false}
use Rattle.drm_data.specs.PacketFields.{PacketFields}
use Rattle.drm_data.specs.Units.{most_unit, next_continuity}
use Rattle.drm_data.specs.Joining.{OpenUnit, Silent, Whole, CutOff, begun_after, answer_after}
use Rattle.law_data.specs.Runs.{unit_in, tells_cut}

-- the packet is the next one of the unit
pub record GoesOn (u : OpenUnit) (p : PacketFields) : Type 0 where
  pub not_first : p.first ≡ false
  pub due : p.continuity ≡ next_continuity u.continuity
  pub few : length u.bytes + length p.useful ≤ most_unit

-- A unit or none is open, a packet of the id comes, and then this one or none is open, this one or none is given, and a cut is told or not.
pub data Case (b : Option OpenUnit) (p : PacketFields) (c : Option OpenUnit) (unit : Option (List ℕ)) (cut : Bool) : Type 0 where
  Alone : p.first ≡ true → p.last ≡ true → c ≡ None → unit ≡ Some p.useful → cut ≡ is_some b → Case b p c unit cut
  Begins : p.first ≡ true → p.last ≡ false → c ≡ Some (record { bytes = p.useful; continuity = p.continuity }) → unit ≡ None → cut ≡ is_some b → Case b p c unit cut
  Goes : (u : OpenUnit) → b ≡ Some u → GoesOn u p → p.last ≡ false → c ≡ Some (record { bytes = u.bytes ++ p.useful; continuity = p.continuity }) → unit ≡ None → cut ≡ false → Case b p c unit cut
  Finishes : (u : OpenUnit) → b ≡ Some u → GoesOn u p → p.last ≡ true → c ≡ None → unit ≡ Some (u.bytes ++ p.useful) → cut ≡ false → Case b p c unit cut
  Breaks : (u : OpenUnit) → b ≡ Some u → p.first ≡ false → (p.continuity ≡ next_continuity u.continuity → ⊥) ⊎ (most_unit < length u.bytes + length p.useful) → c ≡ None → unit ≡ None → cut ≡ true → Case b p c unit cut
  Strays : b ≡ None → p.first ≡ false → c ≡ None → unit ≡ None → cut ≡ false → Case b p c unit cut

abbrev pub CaseOf : Option OpenUnit → PacketFields → Type 0
CaseOf b p = Case b p (begun_after b p) (unit_in (answer_after b p)) (tells_cut (answer_after b p))

-- the packet of these fields
abbrev packet : Bool → Bool → ℕ → ℕ → List ℕ → PacketFields
packet first last id continuity useful = record { first = first; last = last; id = id; continuity = continuity; useful = useful }

-- a packet that isn't the next one has another continuity, or brings too much
odd : (continuity : ℕ) (useful : List ℕ) (u : OpenUnit) → ((continuity == next_continuity u.continuity) && nat_le (length u.bytes + length useful) most_unit) ≡ false
    → (continuity ≡ next_continuity u.continuity → ⊥) ⊎ (most_unit < length u.bytes + length useful)
odd continuity useful u is =
    elim (and_cases (continuity == next_continuity u.continuity) (nat_le (length u.bytes + length useful) most_unit) is) [
      | inl h ↦ inl (eqb-false _ _ h)
      | inr h ↦ inr (leb-false _ _ h)
    ]

-- a packet without first, where a unit is open
goes_case : (last : Bool) (id continuity : ℕ) (useful : List ℕ) (u : OpenUnit) (g : Bool) → ((continuity == next_continuity u.continuity) && nat_le (length u.bytes + length useful) most_unit) ≡ g
    → CaseOf (Some u) (packet false last id continuity useful)
goes_case true id continuity useful u true is =
    let p = and_parts (continuity == next_continuity u.continuity) (nat_le (length u.bytes + length useful) most_unit) is in
    Finishes u refl (record { not_first = refl; due = eqb-true _ _ p.0; few = leb-true _ _ p.1 }) refl (ap (λ g. if g then None else None) is)
    (ap (λ g. unit_in (if g then Whole (u.bytes ++ useful) else CutOff)) is) (ap (λ g. tells_cut (if g then Whole (u.bytes ++ useful) else CutOff)) is)
goes_case false id continuity useful u true is =
    let p = and_parts (continuity == next_continuity u.continuity) (nat_le (length u.bytes + length useful) most_unit) is in
    Goes u refl (record { not_first = refl; due = eqb-true _ _ p.0; few = leb-true _ _ p.1 }) refl
    (ap (λ g. if g then Some (record { bytes = u.bytes ++ useful; continuity = continuity }) else None) is)
    (ap (λ g. unit_in (if g then Silent else CutOff)) is) (ap (λ g. tells_cut (if g then Silent else CutOff)) is)
goes_case true id continuity useful u false is =
    Breaks u refl refl (odd continuity useful u is) (ap (λ g. if g then None else None) is)
    (ap (λ g. unit_in (if g then Whole (u.bytes ++ useful) else CutOff)) is) (ap (λ g. tells_cut (if g then Whole (u.bytes ++ useful) else CutOff)) is)
goes_case false id continuity useful u false is =
    Breaks u refl refl (odd continuity useful u is) (ap (λ g. if g then Some (record { bytes = u.bytes ++ useful; continuity = continuity }) else None) is)
    (ap (λ g. unit_in (if g then Silent else CutOff)) is) (ap (λ g. tells_cut (if g then Silent else CutOff)) is)

case_of_fields : (first last : Bool) (id continuity : ℕ) (useful : List ℕ) (b : Option OpenUnit) → CaseOf b (packet first last id continuity useful)
case_of_fields true true id continuity useful None = Alone refl refl refl refl refl
case_of_fields true true id continuity useful (Some u) = Alone refl refl refl refl refl
case_of_fields true false id continuity useful None = Begins refl refl refl refl refl
case_of_fields true false id continuity useful (Some u) = Begins refl refl refl refl refl
case_of_fields false true id continuity useful None = Strays refl refl refl refl refl
case_of_fields false false id continuity useful None = Strays refl refl refl refl refl
case_of_fields false last id continuity useful (Some u) =
    goes_case last id continuity useful u ((continuity == next_continuity u.continuity) && nat_le (length u.bytes + length useful) most_unit) refl

pub case_of : (b : Option OpenUnit) (p : PacketFields) → CaseOf b p
case_of b p = case_of_fields p.first p.last p.id p.continuity p.useful b
