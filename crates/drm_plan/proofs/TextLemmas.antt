-- What a text gives, by what its lines say.
use Rattle.std.proofs.Common.{◌≡◌, ℕ, ◌<◌, ◌≤◌, Bool, true, false, List, length, Ok, Err, IsUtf8, refl, subst}
use Rattle.std.specs.Str.{is_utf8}
use Rattle.std.proofs.lemmas.Bool.{lt-ltb, le-ltb}
use Rattle.std.proofs.lemmas.Str.{IsUtf8-from_is_utf8, is_utf8-from_IsUtf8}
use Rattle.text_lines.specs.Faults.{fault}
use Rattle.text_lines.specs.Lines.{lines_of, bad_line_of}
use Rattle.text_lines.specs.declared.text.NoText.{NoText}
use Rattle.text_lines.specs.declared.text.NoText.TheVariants as no_text
use Rattle.text_lines.specs.Texts.{longest_text, IsNoText}
use Rattle.drm_schedule.specs.declared.invalid.Reason.TheVariants.{TooLong, Utf8}
use Rattle.plan_rules.specs.declared.fault.PlanFault.{PlanFault}
use Rattle.plan_rules.specs.declared.fault.PlanFault.TheVariants as plan
use Rattle.plan_rules.specs.declared.said.ParsedText.{ParsedText}
use Rattle.plan_rules.specs.Rules.{said}
use Rattle.plan_rules.specs.Steps.{FailsAs}
use Rattle.drm_plan.specs.Projection.{drafted}
use Rattle.drm_plan.specs.Text.{lines_give, draft_of}

-- a fault of the lines
pub text_fails : (p : PlanFault) (lines : List (List ℕ)) → FailsAs p (said lines) → FailsAs p (lines_give lines)
unfolding lines_give
text_fails plan.NoMemory lines e = tt
text_fails (plan.Line l r) lines e = rw e refl

pub text_gives : (lines : List (List ℕ)) (read : ParsedText) → said lines ≡ Ok read → lines_give lines ≡ Ok (drafted read)
unfolding lines_give
text_gives lines read e = rw e refl

-- ---- the whole text

long_text : (text : List ℕ) → longest_text < length text → draft_of text ≡ Err (fault 0 TooLong)
unfolding draft_of
long_text text long = rw (lt-ltb longest_text (length text) long) refl

not_utf8 : (text : List ℕ) → (IsUtf8 text → ⊥) → is_utf8 text ≡ false
not_utf8 text wrong = by (is_utf8 text) refl
  where
    by : (b : Bool) → is_utf8 text ≡ b → b ≡ false
    by true is = absurd (wrong (IsUtf8-from_is_utf8 text is))
    by false is = refl

wrong_text : (text : List ℕ) → length text ≤ longest_text → (IsUtf8 text → ⊥) → draft_of text ≡ Err (fault (bad_line_of text) Utf8)
unfolding draft_of
wrong_text text short wrong = rw (le-ltb longest_text (length text) short, not_utf8 text wrong) refl

pub right_text : (text : List ℕ) → length text ≤ longest_text → IsUtf8 text → draft_of text ≡ lines_give (lines_of text)
unfolding draft_of
right_text text short utf8 = rw (le-ltb longest_text (length text) short, is_utf8-from_IsUtf8 text utf8) refl

pub too_long : (why : NoText) (text : List ℕ) → why ≡ no_text.TooLong → IsNoText why text → draft_of text ≡ Err (fault 0 TooLong)
too_long why text is none = long_text text (subst (λ (f : NoText). IsNoText f text) is none)

pub no_utf8 : (why : NoText) (line : ℕ) (text : List ℕ) → why ≡ no_text.Utf8 line → IsNoText why text → draft_of text ≡ Err (fault line Utf8)
no_utf8 why line text is none =
    let all = subst (λ (f : NoText). IsNoText f text) is none in
    rw all.2 (wrong_text text all.0 all.1)
