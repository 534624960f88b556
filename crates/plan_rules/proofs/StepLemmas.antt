-- A line that is read after others.
use Rattle.std.proofs.Common.{◌≡◌, ℕ, Bool, true, false, List, [], ◌∷◌, Result, Ok, Err, refl, sym, ap, subst, ◌∙◌}
use Rattle.std.specs.Prelude.{◌||◌, IfOk, if◌then◌else◌}
use Rattle.drm_schedule.specs.declared.invalid.Reason.{Reason}
use Rattle.drm_schedule.specs.declared.invalid.Reason.TheVariants as reasons
use Rattle.plan_grammar.specs.declared.fault.LineFault.{LineFault}
use Rattle.plan_grammar.specs.declared.fault.LineFault.TheVariants as line_faults
use Rattle.plan_grammar.specs.declared.line.Line.{Line}
use Rattle.plan_rows.specs.declared.keyword.Keyword.{Keyword}
use Rattle.plan_grammar.specs.Gives.{ReaderGives}
use Rattle.plan_grammar.specs.Says.{line_said}
use Rattle.plan_grammar.specs.declared.version.Version.{Version}
use Rattle.plan_grammar.specs.Said.{keyword_said, LineInLines}
use Rattle.plan_grammar.proofs.SaysFits.{line_fits, keyword_read}
use Rattle.plan_rows.specs.Fits.{IsCleanLine}
use Rattle.plan_rules.specs.declared.said.ParsedText.{ParsedText}
use Rattle.plan_rules.specs.declared.fault.PlanFault.{PlanFault}
use Rattle.plan_rules.specs.declared.fault.PlanFault.TheVariants as plan
use Rattle.plan_rules.specs.ParsedLine.{add}
use Rattle.text_lines.specs.Faults.{fault, first_fault, ok_unless}
use Rattle.plan_rules.specs.Rules.{ScheduleTextFault, is_misplaced, is_second, is_too_many, is_17th, in_current, current_line, ends_incomplete, said_after}
use Rattle.plan_rules.specs.Steps.{FailsAs, check_rows, check_of, refused_of}

abbrev pub Matches : Result (Unit {0}) PlanFault → Result ParsedText ScheduleTextFault → ParsedText → Type 0
Matches (Ok done) said read = said ≡ Ok read
Matches (Err p) said read = FailsAs p said

-- the rows of a line that has no fault by itself
rows_left : (m t f : Bool) (n b : ℕ) (x : ScheduleTextFault) (read : ParsedText)
    → Matches (check_rows m t f n) (ok_unless (first_fault ((false, fault b reasons.Missing) ∷ (false, fault n reasons.Word) ∷ (m, fault n reasons.Order) ∷ (false, x) ∷ (t, fault n reasons.Twice) ∷ (f, fault n reasons.TooLong) ∷ [])) read) read
rows_left true t f n b x read = refl
rows_left false true f n b x read = refl
rows_left false false true n b x read = refl
rows_left false false false n b x read = refl

abbrev good : Line → Result Line Reason
good l = Ok l

line_is : (a b : Line) → good a ≡ good b → a ≡ b
line_is a b e = cc

-- a line that has no fault by itself
matches : (read : ParsedText) (n : ℕ) (k : Keyword) (s : Result Line Reason) (l : Line) → ends_incomplete read k ≡ false → s ≡ Ok l → Matches (check_of read n k) (said_after read n k s) (add n l read)
unfolding said_after check_of
matches read n k (Err reason) l whole e = absurd cc
matches read n k (Ok line) l whole e =
    rw (whole, line_is line l e) (rows_left (is_misplaced read k) (in_current (is_second k) read.current) (in_current (is_too_many k) read.current || is_17th read k) n (current_line read.current) (fault n reasons.Word) (add n l read))

-- a check that finds a fault
pub fails : (read : ParsedText) (n : ℕ) (k : Keyword) (s : Result Line Reason) (l : Line) (r : Result (Unit {0}) PlanFault) (p : PlanFault)
    → ends_incomplete read k ≡ false → s ≡ Ok l → r ≡ check_of read n k → r ≡ Err p → FailsAs p (said_after read n k s)
fails read n k s l r p whole e checked found =
    subst (λ (x : Result (Unit {0}) PlanFault). Matches x (said_after read n k s) (add n l read)) (sym checked ∙ found) (matches read n k s l whole e)

-- a check that finds none, and the line put behind the others
pub goes_on : (read new : ParsedText) (n : ℕ) (k : Keyword) (s : Result Line Reason) (l : Line) (r : Result (Unit {0}) PlanFault)
    → ends_incomplete read k ≡ false → s ≡ Ok l → r ≡ check_of read n k → r ≡ Ok tt → new ≡ add n l read → said_after read n k s ≡ Ok new
goes_on read new n k s l r whole e checked fine put =
    rw put (subst (λ (x : Result (Unit {0}) PlanFault). Matches x (said_after read n k s) (add n l read)) (sym checked ∙ fine) (matches read n k s l whole e))

-- a line of the right words that has a fault by itself
own_row : (m t f : Bool) (n b : ℕ) (reason : Reason) (read : ParsedText)
    → FailsAs (if m then plan.Line n reasons.Order else plan.Line n reason) (ok_unless (first_fault ((false, fault b reasons.Missing) ∷ (false, fault n reasons.Word) ∷ (m, fault n reasons.Order) ∷ (true, fault n reason) ∷ (t, fault n reasons.Twice) ∷ (f, fault n reasons.TooLong) ∷ [])) read)
own_row true t f n b reason read = refl
own_row false t f n b reason read = refl

fault_row : (read : ParsedText) (n : ℕ) (k : Keyword) (reason : Reason) → ends_incomplete read k ≡ false → FailsAs (refused_of read n k reason) (said_after read n k (Err reason))
unfolding said_after refused_of
fault_row read n k reasons.Word whole = rw whole refl
fault_row read n k _ whole =
    rw whole (own_row (is_misplaced read k) (in_current (is_second k) read.current) (in_current (is_too_many k) read.current || is_17th read k) n (current_line read.current) _ read)

-- a line that has a fault by itself
pub refuses : (read : ParsedText) (n : ℕ) (k : Keyword) (s : Result Line Reason) (reason : Reason) (p : PlanFault) → ends_incomplete read k ≡ false → s ≡ Err reason → p ≡ refused_of read n k reason → FailsAs p (said_after read n k s)
refuses read n k s reason p whole e made = rw (made, e) (fault_row read n k reason whole)

abbrev err_line : LineFault → Result Line LineFault
err_line x = Err x

pub gives_broken : (line : Result Line LineFault) (f : LineFault) (reason : Reason) (said : Result Line Reason) → line ≡ Err f → f ≡ line_faults.Broken reason → ReaderGives line said → said ≡ Err reason
gives_broken line f reason said is broken_is gives =
    let whole : line ≡ Err (line_faults.Broken reason) = is ∙ ap (λ (x : LineFault). err_line x) broken_is in
    subst (λ (x : Result Line LineFault). ReaderGives x said) whole gives

-- a config line that ends a configuration before its time
pub ends_early : (read : ParsedText) (n : ℕ) (k : Keyword) (s : Result Line Reason) → ends_incomplete read k ≡ true → said_after read n k s ≡ Err (fault (current_line read.current) reasons.Missing)
unfolding said_after
ends_early read n k s early = rw early refl

-- what is read is a line of its keyword
pub gives_keyword : (version : Version) (k : Keyword) (line : List ℕ) (words : List (List ℕ)) (r : Result Line LineFault) → ReaderGives r (line_said version k line words) → IfOk r (λ l. keyword_said l ≡ k)
gives_keyword version k line words (Ok l) gives = keyword_read version k line words l gives
gives_keyword version k line words (Err f) gives = tt

-- what is read of a clean line is what a line can give
pub gives_fits : (version : Version) (k : Keyword) (line : List ℕ) (words : List (List ℕ)) (r : Result Line LineFault) → IsCleanLine line words → ReaderGives r (line_said version k line words) → IfOk r LineInLines
gives_fits version k line words (Ok l) clean gives = line_fits version k line words l clean gives
gives_fits version k line words (Err f) clean gives = tt
