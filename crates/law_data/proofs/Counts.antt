-- Each unit that is begun is given or cut, once.
use Rattle.std.proofs.Common.{◌≡◌, ℕ, ◌+◌, inl, inr, Bool, false, ◌&&◌, List, [], ◌∷◌, length, Option, Some, None, is_some, refl, ap, arith, eq-eqb}
use Rattle.std.specs.Int.{from_bool}
use Rattle.std.proofs.lemmas.Bool.{cases_eq, ne_eqb}
use Rattle.drm_data.specs.PacketFields.{PacketFields}
use Rattle.drm_data.specs.Joining.{JoinerEvent, Received, Broken, Gap, OpenUnit, JoinerState, made, cut_answer, answer, after}
use Rattle.law_data.specs.Runs.{answers, after_all, unit_in, tells_cut, with_unit, units_in, cuts_in, begins, begun_count}
use Rattle.law_data.specs.Laws.{TellsEachOnce}
use Rattle.law_data.proofs.Cases.{Case, Alone, Begins, Goes, Finishes, Breaks, Strays, case_of}
use Rattle.law_data.proofs.WholeRuns.{after_id, begun_mine, begun_other, answer_mine, answer_other}

-- what was open and what is begun, against what is given, cut and open
abbrev Balanced : Bool → Option OpenUnit → Option (List ℕ) → Bool → Option OpenUnit → Type 0
Balanced first b gives cut c =
    from_bool first + from_bool (is_some b) ≡ from_bool (is_some gives) + from_bool cut + from_bool (is_some c)

some_is : {X : Type 0} (o : Option X) (x : X) → o ≡ Some x → from_bool (is_some o) ≡ 1
some_is o x is = ap (λ v. from_bool (is_some v)) is

none_is : {X : Type 0} (o : Option X) → o ≡ None → from_bool (is_some o) ≡ 0
none_is o is = ap (λ v. from_bool (is_some v)) is

balanced : (p : PacketFields) (b c : Option OpenUnit) (gives : Option (List ℕ)) (cut : Bool) → Case b p c gives cut → Balanced p.first b gives cut c
balanced p b c gives cut (Alone first last is given cut_is) = omega (arith, ap from_bool first, some_is gives _ given, ap from_bool cut_is, none_is c is)
balanced p b c gives cut (Begins first last is given cut_is) = omega (arith, ap from_bool first, none_is gives given, ap from_bool cut_is, some_is c _ is)
balanced p b c gives cut (Goes u was go last is given cut_is) = omega (arith, ap from_bool go.not_first, some_is b _ was, none_is gives given, ap from_bool cut_is, some_is c _ is)
balanced p b c gives cut (Finishes u was go last is given cut_is) = omega (arith, ap from_bool go.not_first, some_is b _ was, some_is gives _ given, ap from_bool cut_is, none_is c is)
balanced p b c gives cut (Breaks u was first odd is given cut_is) = omega (arith, ap from_bool first, some_is b _ was, none_is gives given, ap from_bool cut_is, none_is c is)
balanced p b c gives cut (Strays was first is given cut_is) = omega (arith, ap from_bool first, none_is b was, none_is gives given, ap from_bool cut_is, none_is c is)

gap_balanced : (b : Option OpenUnit) → Balanced false b (unit_in (cut_answer b)) (tells_cut (cut_answer b)) None
gap_balanced None = refl
gap_balanced (Some u) = refl

step : (s : JoinerState) (e : JoinerEvent) → Balanced (begins s.id e) s.begun (unit_in (answer s e)) (tells_cut (answer s e)) (after s e).begun
step s (Received p) =
    elim (cases_eq p.id s.id) [
      | inl mine ↦
          let test : begins s.id (Received p) ≡ p.first = ap (λ b. b && p.first) (eq-eqb p.id s.id mine) in
          omega (
            arith,
            ap from_bool test,
            balanced p s.begun _ _ _ (case_of s.begun p),
            ap (λ a. from_bool (is_some (unit_in a))) (answer_mine s p mine),
            ap (λ a. from_bool (tells_cut a)) (answer_mine s p mine),
            ap (λ b. from_bool (is_some b)) (begun_mine s p mine),
          )
      | inr other ↦
          let test : begins s.id (Received p) ≡ false = ap (λ b. b && p.first) (ne_eqb p.id s.id other) in
          omega (
            arith,
            ap from_bool test,
            ap (λ a. from_bool (is_some (unit_in a))) (answer_other s p other),
            ap (λ a. from_bool (tells_cut a)) (answer_other s p other),
            ap (λ b. from_bool (is_some b)) (begun_other s p other),
          )
    ]
step s (Broken fault) = omega arith
step s Gap = gap_balanced s.begun

with_unit-size : (o : Option (List ℕ)) (units : List (List ℕ)) → length (with_unit o units) ≡ from_bool (is_some o) + length units
with_unit-size None units = omega arith
with_unit-size (Some unit) units = omega arith

whole : (s : JoinerState) (events : List JoinerEvent)
    → begun_count s.id events + from_bool (is_some s.begun)
    ≡ length (units_in (answers s events)) + cuts_in (answers s events) + from_bool (is_some (after_all s events).begun)
whole s [] = omega arith
whole s (e ∷ events) =
    omega (arith, step s e, whole (after s e) events, ap (λ n. begun_count n events) (after_id s e), with_unit-size (unit_in (answer s e)) (units_in (answers (after s e) events)))

pub tells_each_once : TellsEachOnce
tells_each_once id d events = omega (arith, whole (made id d) events)
