-- The end of a text.
use Rattle.std.proofs.Common.{◌≡◌, ℕ, List, Bool, true, false, Option, Some, None, Result, Ok, Err, length, subst, sym, refl}
use Rattle.std.specs.Prelude.{if◌then◌else◌, [], ◌∷◌}
use Rattle.drm_schedule.specs.declared.invalid.Reason.TheVariants.{Missing}
use Rattle.plan_rules.specs.declared.fault.PlanFault.{PlanFault}
use Rattle.plan_rules.specs.declared.fault.PlanFault.TheVariants as plan
use Rattle.plan_rules.specs.declared.said.ConfigLines.{ConfigLines}
use Rattle.plan_rules.specs.declared.said.ParsedText.{ParsedText}
use Rattle.std.proofs.lemmas.Bool.{or_parts}
use Rattle.plan_grammar.specs.declared.version.Version.{Version}
use Rattle.plan_rules.specs.ParsedLine.{nothing}
use Rattle.text_lines.specs.Faults.{fault, first_fault, ok_unless}
use Rattle.plan_rules.specs.Rules.{version_in, is_incomplete, end_rows, ended, said_from, said}
use Rattle.plan_rules.specs.Steps.{FailsAs, end_check}
use Rattle.plan_rules.specs.InLines.{EndsComplete}
use Rattle.plan_rules.proofs.StepLemmas.{Matches}

-- a fault before the end
pub fails_early : (p : PlanFault) (lines : List (List ℕ)) → FailsAs p (said_from nothing 1 lines) → FailsAs p (said lines)
unfolding said
fails_early plan.NoMemory lines e = tt
fails_early (plan.Line l r) lines e = rw e refl

end_matches : (version : Option Version) (block : Option ConfigLines) (n : ℕ) (read : ParsedText) → Matches (end_check version block n) (ok_unless (first_fault (end_rows version block n)) read) read
unfolding end_check
end_matches version None n read = refl
end_matches version (Some b) n read = by (is_incomplete version b.lines)
  where
    by : (x : Bool) → Matches (if x then Err (plan.Line b.line Missing) else Ok tt) (ok_unless (first_fault ((x, fault b.line Missing) ∷ [])) read) read
    by true = refl
    by false = refl

whole : (lines : List (List ℕ)) (read : ParsedText) → said_from nothing 1 lines ≡ Ok read → said lines ≡ ok_unless (first_fault (end_rows (version_in read.front) read.current (length lines))) read
unfolding said ended
whole lines read e = rw e refl

-- what the check at the end answers
end_is : (lines : List (List ℕ)) (read : ParsedText) (n : ℕ) (r : Result (Unit {0}) PlanFault) → said_from nothing 1 lines ≡ Ok read → n ≡ length lines → r ≡ end_check (version_in read.front) read.current n → Matches r (said lines) read
end_is lines read n r e count checked = rw (checked, count, whole lines read e) (end_matches (version_in read.front) read.current (length lines) read)

pub end_fails : (p : PlanFault) (lines : List (List ℕ)) (read : ParsedText) (n : ℕ) (r : Result (Unit {0}) PlanFault) → said_from nothing 1 lines ≡ Ok read → n ≡ length lines → r ≡ end_check (version_in read.front) read.current n → r ≡ Err p → FailsAs p (said lines)
end_fails p lines read n r e count checked found = subst (λ (x : Result (Unit {0}) PlanFault). Matches x (said lines) read) found (end_is lines read n r e count checked)

pub end_done : (lines : List (List ℕ)) (read : ParsedText) (n : ℕ) (r : Result (Unit {0}) PlanFault) → said_from nothing 1 lines ≡ Ok read → n ≡ length lines → r ≡ end_check (version_in read.front) read.current n → r ≡ Ok tt → said lines ≡ Ok read
end_done lines read n r e count checked found = subst (λ (x : Result (Unit {0}) PlanFault). Matches x (said lines) read) found (end_is lines read n r e count checked)

abbrev fine : Result (Unit {0}) PlanFault
fine = Ok tt

abbrev lacking : Bool → ℕ → Result (Unit {0}) PlanFault
lacking x line = if x then Err (plan.Line line Missing) else fine

not_lacking : (version : Option Version) (read : ParsedText) (b : ConfigLines) → read.current ≡ Some b → (x : Bool) → x ≡ is_incomplete version b.lines → lacking x b.line ≡ fine → EndsComplete read
not_lacking version read b is true e found = absurd cc
not_lacking version read b is false e found = record { block = b; last = is; complete = (or_parts _ _ (sym e)).0 }

complete_by : (version : Option Version) (read : ParsedText) (current : Option ConfigLines) (n : ℕ) → read.current ≡ current → end_check version current n ≡ fine → EndsComplete read
unfolding end_check
complete_by version read None n is found = absurd cc
complete_by version read (Some b) n is found = not_lacking version read b is (is_incomplete version b.lines) refl found

-- a check at the end that finds no fault
pub end_complete : (read : ParsedText) (n : ℕ) → end_check (version_in read.front) read.current n ≡ fine → EndsComplete read
end_complete read n found = complete_by (version_in read.front) read read.current n refl found
