-- The whole run of a joiner, against the units of the reading.
use Rattle.std.proofs.Common.{◌≡◌, ℕ, ◌+◌, ◌<◌, ◌≤◌, ◌==◌, ◌⊎◌, inl, inr, Bool, true, false, if◌then◌else◌, List, [], ◌∷◌, ◌++◌, length, Option, Some, None, is_some, refl, sym, ap, subst, ◌∙◌, append_assoc, append-nil, arith, length-append, eq-eqb}
use Rattle.std.specs.Prelude.{◌↔◌}
use Rattle.std.specs.List.{AllByRecursion}
use Rattle.std.proofs.lemmas.Bool.{cases_eq, ne_eqb}
use Rattle.std.proofs.lemmas.List.{nil_from_length}
use Rattle.drm_data.specs.PacketFields.{PacketFields}
use Rattle.drm_data.specs.Units.{most_unit}
use Rattle.drm_data.specs.Joining.{JoinerEvent, Received, Broken, Gap, ReadsDataPacket, OpenUnit, JoinerState, Silent, made, begun_after, answer_after, cut_answer, answer, after}
use Rattle.drm_data.proofs.Spellings.{useful_fit}
use Rattle.law_data.specs.Readings.{AreEvents, of_id, AreChained, IsUnitOpen, EventEndsUnit, AreUnits}
use Rattle.law_data.specs.Runs.{answers, after_all, unit_in, tells_cut, with_unit, units_in}
use Rattle.law_data.specs.Laws.{AnswersRight, JoinsUnits, AnswersEach, KnowsOpen}
use Rattle.law_data.proofs.Cases.{case_of}
use Rattle.law_data.proofs.Steps.{Knows, clash_some, knows_past, knows_break, open_some, some_open, knows_mine, ends_given, given_ends, cut_of_answer, answer_of_cut}

-- a packet brings no more than a unit may have
abbrev pub IsSmall : JoinerEvent → Type 0
IsSmall (Received p) = length p.useful ≤ most_unit
IsSmall (Broken fault) = Unit {0}
IsSmall Gap = Unit {0}

small_read : (d : ℕ) (bytes : List ℕ) (e : JoinerEvent) → d < 256 → ReadsDataPacket d bytes e → IsSmall e
small_read d bytes (Received p) few is = omega (arith, few, useful_fit d p.useful is.0 is.2.size)
small_read d bytes (Broken fault) few is = tt
small_read d bytes Gap few is = tt

pub small_events : (d : ℕ) (reading : List (Option (List ℕ))) (events : List JoinerEvent) → d < 256 → AreEvents d reading events → AllByRecursion IsSmall events
small_events d [] events few is = let P : List JoinerEvent → Type 0 = λ l. AllByRecursion IsSmall l in subst P (sym is) tt
small_events d (x ∷ reading) [] few is = tt
small_events d (Some bytes ∷ reading) (e ∷ events) few is = (small_read d bytes e few is.0, small_events d reading events few is.1)
small_events d (None ∷ reading) (e ∷ events) few is =
    let P : JoinerEvent → Type 0 = λ x. IsSmall x in (subst P (sym is.0) tt, small_events d reading events few is.1)

pub after_id : (s : JoinerState) (e : JoinerEvent) → (after s e).id ≡ s.id
after_id s (Received p) = by_test (p.id == s.id)
  where
    by_test : (b : Bool) → (if b then record s { begun = begun_after s.begun p } else s).id ≡ s.id
    by_test true = refl
    by_test false = refl
after_id s (Broken fault) = refl
after_id s Gap = refl

-- a packet of the id, and another one
pub begun_mine : (s : JoinerState) (p : PacketFields) → p.id ≡ s.id → (after s (Received p)).begun ≡ begun_after s.begun p
begun_mine s p is = ap (λ b. (if b then record s { begun = begun_after s.begun p } else s).begun) (eq-eqb p.id s.id is)

pub begun_other : (s : JoinerState) (p : PacketFields) → (p.id ≡ s.id → ⊥) → (after s (Received p)).begun ≡ s.begun
begun_other s p other = ap (λ b. (if b then record s { begun = begun_after s.begun p } else s).begun) (ne_eqb p.id s.id other)

pub answer_mine : (s : JoinerState) (p : PacketFields) → p.id ≡ s.id → answer s (Received p) ≡ answer_after s.begun p
answer_mine s p is = ap (λ b. if b then answer_after s.begun p else Silent) (eq-eqb p.id s.id is)

pub answer_other : (s : JoinerState) (p : PacketFields) → (p.id ≡ s.id → ⊥) → answer s (Received p) ≡ Silent
answer_other s p other = ap (λ b. if b then answer_after s.begun p else Silent) (ne_eqb p.id s.id other)

-- an event more is known
pub knows_more : (before : List JoinerEvent) (s : JoinerState) (e : JoinerEvent) → IsSmall e → Knows s.id before s.begun → Knows s.id (before ++ e ∷ []) (after s e).begun
knows_more before s (Received p) few k =
    let P : Option OpenUnit → Type 0 = λ b. Knows s.id (before ++ Received p ∷ []) b in
    elim (cases_eq p.id s.id) [
      | inl mine ↦ subst P (sym (begun_mine s p mine)) (knows_mine s.id before p s.begun _ _ _ mine few k (case_of s.begun p))
      | inr other ↦ subst P (sym (begun_other s p other)) (knows_past s.id before p s.begun other k)
    ]
knows_more before s (Broken fault) few k = knows_break s.id before (Broken fault) (λ h. h)
knows_more before s Gap few k = knows_break s.id before Gap (λ h. h)

-- what is said of an event that cuts whatever is open
abbrev RightCut : ℕ → List JoinerEvent → Option OpenUnit → Bool → Type 0
RightCut id before b cut = (cut ≡ true) ↔ ((ps : List PacketFields) × IsUnitOpen id before ps × Unit {0})

right_cut : (id : ℕ) (before : List JoinerEvent) (b : Option OpenUnit) → Knows id before b → RightCut id before b (is_some b)
right_cut id before b k = ((λ is. let w = some_open id before b k is in (w.2.packets, w.2.is_open, tt)), (λ h. open_some id before b h.0 k h.1))

gap_cut : (b : Option OpenUnit) → tells_cut (cut_answer b) ≡ is_some b
gap_cut None = refl
gap_cut (Some u) = refl

gap_gives : (b : Option OpenUnit) → unit_in (cut_answer b) ≡ None
gap_gives None = refl
gap_gives (Some u) = refl

-- what is said of each event is right
pub right : (before : List JoinerEvent) (s : JoinerState) (e : JoinerEvent) → IsSmall e → Knows s.id before s.begun → AnswersRight s.id before s e
right before s (Received p) few k =
    elim (cases_eq p.id s.id) [
      | inl mine ↦
          let is = answer_mine s p mine in
          record {
            unit = λ unit. (
              (λ h. given_ends s.id before p s.begun _ _ _ mine few k (case_of s.begun p) unit (sym (ap unit_in is) ∙ h)),
              (λ h. ap unit_in is ∙ ends_given s.id before p s.begun _ _ _ k (case_of s.begun p) unit h),
            );
            cut = (
              (λ h. cut_of_answer s.id before p s.begun _ _ _ mine k (case_of s.begun p) (sym (ap tells_cut is) ∙ h)),
              (λ h. ap tells_cut is ∙ answer_of_cut s.id before p s.begun _ _ _ k (case_of s.begun p) h),
            );
          }
      | inr other ↦
          let is = answer_other s p other in
          record {
            unit = λ unit. ((λ h. clash_some (unit_in (answer s (Received p))) unit (ap unit_in is) h), (λ h. absurd (other h.mine)));
            cut = ((λ h. let never : false ≡ true = sym (ap tells_cut is) ∙ h in absurd cc), (λ h. absurd (other h.2.0)));
          }
    ]
right before s (Broken fault) few k = record {
  unit = λ unit. ((λ h. clash_some None unit refl h), (λ h. absurd h));
  cut = right_cut s.id before s.begun k;
}
right before s Gap few k = record {
  unit = λ unit. ((λ h. clash_some (unit_in (cut_answer s.begun)) unit (gap_gives s.begun) h), (λ h. absurd h));
  cut =
      let P : Bool → Type 0 = λ cut. RightCut s.id before s.begun cut in
      subst P (sym (gap_cut s.begun)) (right_cut s.id before s.begun k);
}

some_or_none : {X : Type 0} (o : Option X) → (o ≡ None) ⊎ ((x : X) × (o ≡ Some x))
some_or_none None = inl refl
some_or_none (Some x) = inr (x, refl)

-- knowledge under another name of the id
moved : (id other : ℕ) (before : List JoinerEvent) (b : Option OpenUnit) → id ≡ other → Knows id before b → Knows other before b
moved id other before b is k = let P : ℕ → Type 0 = λ n. Knows n before b in subst P is k

-- the units of what is left are those that are given
units_given : (id : ℕ) (before events : List JoinerEvent) (s : JoinerState) (units : List (List ℕ)) → s.id ≡ id → AllByRecursion IsSmall events → Knows s.id before s.begun → AreUnits id before events units
    → units ≡ units_in (answers s events)
units_given id before [] s units same few k h = h
units_given id before (e ∷ events) s units same few k (inl (unit, more, ends, is, rest)) =
    let P : ℕ → Type 0 = λ n. EventEndsUnit n before e unit in
    let gives : unit_in (answer s e) ≡ Some unit = ((right before s e few.0 k).unit unit).1 (subst P (sym same) ends) in
    let tail = units_given id (before ++ e ∷ []) events (after s e) more (after_id s e ∙ same) few.1
    (moved s.id (after s e).id (before ++ e ∷ []) (after s e).begun (sym (after_id s e)) (knows_more before s e few.0 k)) rest in
    is ∙ (ap (λ l. unit ∷ l) tail ∙ ap (λ o. with_unit o (units_in (answers (after s e) events))) (sym gives))
units_given id before (e ∷ events) s units same few k (inr (none, rest)) =
    let P : ℕ → (List ℕ) → Type 0 = λ n unit. EventEndsUnit n before e unit in
    let gives : unit_in (answer s e) ≡ None =
    elim (some_or_none (unit_in (answer s e))) [
      | inl is ↦ is
      | inr w ↦ absurd (none w.0 (subst (λ n. P n w.0) same (((right before s e few.0 k).unit w.0).0 w.1)))
    ] in
    units_given id (before ++ e ∷ []) events (after s e) units (after_id s e ∙ same) few.1
    (moved s.id (after s e).id (before ++ e ∷ []) (after s e).begun (sym (after_id s e)) (knows_more before s e few.0 k)) rest
    ∙ ap (λ o. with_unit o (units_in (answers (after s e) events))) (sym gives)

-- what is given are the units of what is left
given_units : (id : ℕ) (before events : List JoinerEvent) (s : JoinerState) → s.id ≡ id → AllByRecursion IsSmall events → Knows s.id before s.begun → AreUnits id before events (units_in (answers s events))
given_units id before [] s same few k = refl
given_units id before (e ∷ events) s same few k =
    let rest = given_units id (before ++ e ∷ []) events (after s e) (after_id s e ∙ same) few.1
    (moved s.id (after s e).id (before ++ e ∷ []) (after s e).begun (sym (after_id s e)) (knows_more before s e few.0 k)) in
    elim (some_or_none (unit_in (answer s e))) [
      | inl is ↦
          let units_are : units_in (answers (after s e) events) ≡ with_unit (unit_in (answer s e)) (units_in (answers (after s e) events)) =
          ap (λ o. with_unit o (units_in (answers (after s e) events))) (sym is) in
          let P : List (List ℕ) → Type 0 = λ l. AreUnits id (before ++ e ∷ []) events l in
          inr (
            (λ unit h.
                let Q : ℕ → Type 0 = λ n. EventEndsUnit n before e unit in
                clash_some (unit_in (answer s e)) unit is (((right before s e few.0 k).unit unit).1 (subst Q (sym same) h))),
            subst P units_are rest,
          )
      | inr w ↦
          let Q : ℕ → Type 0 = λ n. EventEndsUnit n before e w.0 in
          inl (
            w.0,
            units_in (answers (after s e) events),
            subst Q same (((right before s e few.0 k).unit w.0).0 w.1),
            ap (λ o. with_unit o (units_in (answers (after s e) events))) w.1,
            rest,
          )
    ]

-- of nothing it is known that none is open
pub knows_none : (id : ℕ) → Knows id [] None
knows_none id = λ ps h.
    let size : 0 ≡ length h.ends.front + length h.ends.stretch = ap length h.ends.all ∙ length-append h.ends.front h.ends.stretch in
    let empty : h.ends.stretch ≡ [] = nil_from_length h.ends.stretch (omega (arith, size)) in
    let P : List PacketFields → Type 0 = λ l. AreChained l in
    let none : ps ≡ [] = sym h.ends.mine ∙ ap (of_id id) empty in
    absurd (subst P none h.chained)

pub joins_units : JoinsUnits
joins_units id d reading events units few are =
    let small = small_events d reading events few are in
    let P : List (List ℕ) → Type 0 = λ l. AreUnits id [] events l in
    ((λ h. units_given id [] events (made id d) units refl small (knows_none id) h), (λ is. subst P (sym is) (given_units id [] events (made id d) refl small (knows_none id))))

all_parts : {X : Type 0} (P : X → Type 0) (xs ys : List X) → AllByRecursion P (xs ++ ys) → AllByRecursion P xs × AllByRecursion P ys
all_parts P [] ys h = (tt, h)
all_parts P (x ∷ xs) ys h = let r = all_parts P xs ys h.1 in ((h.0, r.0), r.1)

pub after_all_id : (s : JoinerState) (events : List JoinerEvent) → (after_all s events).id ≡ s.id
after_all_id s [] = refl
after_all_id s (e ∷ events) = after_all_id (after s e) events ∙ after_id s e

-- after a whole run all of it is known
pub knows_all : (before events : List JoinerEvent) (s : JoinerState) → AllByRecursion IsSmall events → Knows s.id before s.begun → Knows s.id (before ++ events) (after_all s events).begun
knows_all before [] s few k = let P : List JoinerEvent → Type 0 = λ l. Knows s.id l s.begun in subst P (sym (append-nil before)) k
knows_all before (e ∷ events) s few k =
    let P : List JoinerEvent → Type 0 = λ l. Knows s.id l (after_all (after s e) events).begun in
    let next = knows_all (before ++ e ∷ []) events (after s e) few.1
    (moved s.id (after s e).id (before ++ e ∷ []) (after s e).begun (sym (after_id s e)) (knows_more before s e few.0 k)) in
    subst P (append_assoc before (e ∷ []) events) (moved (after s e).id s.id ((before ++ e ∷ []) ++ events) (after_all (after s e) events).begun (after_id s e) next)

pub answers_each : AnswersEach
answers_each id d reading before more e few are =
    let small = all_parts IsSmall before (e ∷ more) (small_events d reading (before ++ e ∷ more) few are) in
    let s : JoinerState = after_all (made id d) before in
    let same : s.id ≡ id = after_all_id (made id d) before in
    let P : ℕ → Type 0 = λ n. AnswersRight n before s e in
    subst P same (right before s e small.1.0 (moved id s.id before s.begun (sym same) (knows_all [] before (made id d) small.0 (knows_none id))))

pub knows_open : KnowsOpen
knows_open id d reading events few are =
    let k = knows_all [] events (made id d) (small_events d reading events few are) (knows_none id) in
    let b : Option OpenUnit = (after_all (made id d) events).begun in
    ((λ is. let w = some_open id events b k is in (w.2.packets, w.2.is_open)), (λ h. open_some id events b h.0 k h.1))
