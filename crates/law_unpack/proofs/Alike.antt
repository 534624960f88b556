-- Events of which a joiner makes the same, up to the end of all packets.
use Rattle.std.proofs.Common.{◌≡◌, ℕ, zero, suc, ◌+◌, ◌==◌, nat_le, Bool, true, false, ◌&&◌, not, if◌then◌else◌, List, [], ◌∷◌, ◌++◌, length, map, replicate, Option, None, Some, is_some, refl, sym, ap, ap₂, subst, ◌∙◌, arith, eq-eqb}
use Rattle.std.specs.List.{AllByRecursion}
use Rattle.std.specs.Int.{from_bool}
use Rattle.drm_data.specs.PacketFields.{PacketFields}
use Rattle.drm_data.specs.Units.{most_unit, next_continuity}
use Rattle.drm_data.specs.Joining.{JoinerEvent, Received, Gap, JoinerState, OpenUnit, Silent, Whole, CutOff, CutWhole, goes_on, is_unit, begun_by, begun_after, answer_after, cut_answer, answer, after}
use Rattle.law_data.specs.Runs.{answers, after_all, unit_in, tells_cut, with_unit, units_in, cuts_in}

abbrev open_in : JoinerState → ℕ
open_in s = from_bool (is_some s.begun)

-- The same units are given, and as many cuts are told, where a unit that is still open counts as one; and if nothing is open behind the
-- second, nothing is behind the first.
pub record Alike (s : JoinerState) (xs ys : List JoinerEvent) : Type 0 where
  pub units : units_in (answers s xs) ≡ units_in (answers s ys)
  pub cuts : cuts_in (answers s xs) + open_in (after_all s xs) ≡ cuts_in (answers s ys) + open_in (after_all s ys)
  pub none : (after_all s ys).begun ≡ None → (after_all s xs).begun ≡ None

-- where nothing is open, as many cuts are told
pub same_cuts : (s : JoinerState) (xs ys : List JoinerEvent) → Alike s xs ys → (after_all s ys).begun ≡ None → cuts_in (answers s xs) ≡ cuts_in (answers s ys)
same_cuts s xs ys h none =
    omega (arith, h.cuts, ap (λ (o : Option OpenUnit). from_bool (is_some o)) none, ap (λ (o : Option OpenUnit). from_bool (is_some o)) (h.none none))

one_more : (s : JoinerState) (e : JoinerEvent) (xs ys : List JoinerEvent) → Alike (after s e) xs ys → Alike s (e ∷ xs) (e ∷ ys)
one_more s e xs ys h = record { units = ap (with_unit (unit_in (answer s e))) h.units; cuts = omega (arith, h.cuts); none = h.none }

-- ---- a packet that isn't the first of a unit, where none is open; and one that is

silent_by : (p : PacketFields) → p.first ≡ false → answer_after None p ≡ Silent
silent_by p is = ap (λ b. if b && p.last then Whole p.useful else Silent) is

none_by : (p : PacketFields) → p.first ≡ false → begun_after None p ≡ None
none_by p is = ap (λ b. if b && not p.last then Some (record { bytes = p.useful; continuity = p.continuity }) else None) is

not_on : (u : OpenUnit) (p : PacketFields) → p.first ≡ true → goes_on u p ≡ false
not_on u p is = ap (λ b. not b && ((p.continuity == next_continuity u.continuity) && nat_le (length u.bytes + length p.useful) most_unit)) is

begins_anew : (begun : Option OpenUnit) (p : PacketFields) → p.first ≡ true → begun_after begun p ≡ begun_by p
begins_anew None p is = refl
begins_anew (Some u) p is =
    ap (λ b. if b then (if p.last then None else Some (record { bytes = u.bytes ++ p.useful; continuity = p.continuity })) else begun_by p) (not_on u p is)

cuts_anew : (u : OpenUnit) (p : PacketFields) → p.first ≡ true → answer_after (Some u) p ≡ (if is_unit p then CutWhole p.useful else CutOff)
cuts_anew u p is =
    ap (λ b. if b then (if p.last then Whole (u.bytes ++ p.useful) else Silent) else (if is_unit p then CutWhole p.useful else CutOff)) (not_on u p is)

unit_either : (b : Bool) (unit : List ℕ) → unit_in (if b then Whole unit else Silent) ≡ unit_in (if b then CutWhole unit else CutOff)
unit_either true unit = refl
unit_either false unit = refl

cut_either : (b : Bool) (unit : List ℕ) → 1 + from_bool (tells_cut (if b then Whole unit else Silent)) ≡ from_bool (tells_cut (if b then CutWhole unit else CutOff))
cut_either true unit = refl
cut_either false unit = refl

-- A gap and the first packet of a unit give and tell the same as that packet alone.
same_unit : (begun : Option OpenUnit) (p : PacketFields) (units : List (List ℕ)) → p.first ≡ true
    → with_unit (unit_in (cut_answer begun)) (with_unit (unit_in (answer_after None p)) units) ≡ with_unit (unit_in (answer_after begun p)) units
same_unit None p units is = refl
same_unit (Some u) p units is = ap (λ o. with_unit o units) (unit_either (is_unit p) p.useful ∙ sym (ap unit_in (cuts_anew u p is)))

same_cut : (begun : Option OpenUnit) (p : PacketFields) → p.first ≡ true
    → from_bool (tells_cut (cut_answer begun)) + from_bool (tells_cut (answer_after None p)) ≡ from_bool (tells_cut (answer_after begun p))
same_cut None p is = omega arith
same_cut (Some u) p is = cut_either (is_unit p) p.useful ∙ sym (ap (λ a. from_bool (tells_cut a)) (cuts_anew u p is))

-- ---- whatever is open

module _ (id d : ℕ) where
  abbrev at : Option OpenUnit → JoinerState
  at begun = record { id = id; length = d; room = most_unit; begun = begun }

  -- they are alike whatever unit is open
  abbrev pub Always : List JoinerEvent → List JoinerEvent → Type 0
  Always xs ys = (begun : Option OpenUnit) → Alike (at begun) xs ys

  abbrev pub IsMine : PacketFields → Type 0
  IsMine p = p.id ≡ id

  after_is : (begun : Option OpenUnit) (p : PacketFields) → IsMine p → after (at begun) (Received p) ≡ at (begun_after begun p)
  after_is begun p mine = ap (λ b. if b then at (begun_after begun p) else at begun) (eq-eqb p.id id mine)

  answer_is : (begun : Option OpenUnit) (p : PacketFields) → IsMine p → answer (at begun) (Received p) ≡ answer_after begun p
  answer_is begun p mine = ap (λ b. if b then answer_after begun p else Silent) (eq-eqb p.id id mine)

  pub nothing : Always [] []
  nothing begun = record { units = refl; cuts = refl; none = λ is. is }

  -- a unit that is cut behind all packets
  pub gap_behind : Always (Gap ∷ []) []
  gap_behind None = record { units = refl; cuts = refl; none = λ is. refl }
  gap_behind (Some u) = record { units = refl; cuts = refl; none = λ is. refl }

  pub received_more : (p : PacketFields) (xs ys : List JoinerEvent) → IsMine p → Always xs ys → Always (Received p ∷ xs) (Received p ∷ ys)
  received_more p xs ys mine h begun = one_more (at begun) (Received p) xs ys (subst (λ s. Alike s xs ys) (sym (after_is begun p mine)) (h (begun_after begun p)))

  pub received_all : (ps : List PacketFields) (xs ys : List JoinerEvent) → AllByRecursion IsMine ps → Always xs ys → Always (map Received ps ++ xs) (map Received ps ++ ys)
  received_all [] xs ys mine h = h
  received_all (p ∷ ps) xs ys mine h = received_more p (map Received ps ++ xs) (map Received ps ++ ys) mine.0 (received_all ps xs ys mine.1 h)

  pub two_gaps : (xs ys : List JoinerEvent) → Always (Gap ∷ xs) ys → Always (Gap ∷ Gap ∷ xs) ys
  two_gaps xs ys h begun = let one = h begun in record { units = one.units; cuts = omega (arith, one.cuts); none = one.none }

  -- one gap in place of several
  none_open : (n : ℕ) (xs ys : List JoinerEvent) → Alike (at None) xs ys → Alike (at None) xs (replicate n Gap ++ ys)
  none_open zero xs ys h = h
  none_open (suc n) xs ys h = let more = none_open n xs ys h in record { units = more.units; cuts = omega (arith, more.cuts); none = more.none }

  pub one_gap : (n : ℕ) (xs ys : List JoinerEvent) → Always (Gap ∷ xs) ys → Always (Gap ∷ xs) (replicate n Gap ++ ys)
  one_gap zero xs ys h begun = h begun
  one_gap (suc n) xs ys h begun =
      let closed = h None in
      let past : Alike (at None) xs ys = record { units = closed.units; cuts = omega (arith, closed.cuts); none = closed.none } in
      one_more (at begun) Gap xs (replicate n Gap ++ ys) (none_open n xs ys past)

  -- behind a gap a packet that begins no unit is as a gap, too
  pub gap_before_other : (p : PacketFields) (xs ys : List JoinerEvent) → IsMine p → p.first ≡ false → Always xs ys → Always (Gap ∷ Received p ∷ xs) (Gap ∷ ys)
  gap_before_other p xs ys mine is h begun =
      let said : answer (at None) (Received p) ≡ Silent = answer_is None p mine ∙ silent_by p is in
      let left : after (at None) (Received p) ≡ at None = after_is None p mine ∙ ap at (none_by p is) in
      let closed = h None in
      one_more (at begun) Gap (Received p ∷ xs) ys (record {
        units = ap₂ (λ a s. with_unit (unit_in a) (units_in (answers s xs))) said left ∙ closed.units;
        cuts = ap₂ (λ a s. from_bool (tells_cut a) + cuts_in (answers s xs) + open_in (after_all s xs)) said left ∙ omega (arith, closed.cuts);
        none = λ none. ap (λ s. (after_all s xs).begun) left ∙ closed.none none;
      })

  -- and one that begins a unit is as it is without the gap
  pub gap_before_first : (p : PacketFields) (xs ys : List JoinerEvent) → IsMine p → p.first ≡ true → Always xs ys → Always (Gap ∷ Received p ∷ xs) (Received p ∷ ys)
  gap_before_first p xs ys mine is h begun =
      let said : answer (at None) (Received p) ≡ answer_after None p = answer_is None p mine in
      let said_here : answer (at begun) (Received p) ≡ answer_after begun p = answer_is begun p mine in
      let left : after (at None) (Received p) ≡ at (begun_by p) = after_is None p mine in
      let left_here : after (at begun) (Received p) ≡ at (begun_by p) = after_is begun p mine ∙ ap at (begins_anew begun p is) in
      let now = h (begun_by p) in
      let cut : ℕ = from_bool (tells_cut (cut_answer begun)) in
      record {
        units = ap₂ (λ a s. with_unit (unit_in (cut_answer begun)) (with_unit (unit_in a) (units_in (answers s xs)))) said left
            ∙ (ap (λ l. with_unit (unit_in (cut_answer begun)) (with_unit (unit_in (answer_after None p)) l)) now.units
            ∙ (same_unit begun p (units_in (answers (at (begun_by p)) ys)) is
            ∙ sym (ap₂ (λ a s. with_unit (unit_in a) (units_in (answers s ys))) said_here left_here)));
        cuts = ap₂ (λ a s. cut + (from_bool (tells_cut a) + cuts_in (answers s xs)) + open_in (after_all s xs)) said left
            ∙ ((omega (arith, now.cuts, same_cut begun p is))
            ∙ sym (ap₂ (λ a s. from_bool (tells_cut a) + cuts_in (answers s ys) + open_in (after_all s ys)) said_here left_here));
        none = λ none. ap (λ s. (after_all s xs).begun) left ∙ now.none (sym (ap (λ s. (after_all s ys).begun) left_here) ∙ none);
      }
