-- What a text gives, by why it is none.
use Rattle.std.proofs.Common.{◌≡◌, ℕ, ◌<◌, ◌≤◌, Bool, true, false, List, length, Err, IsUtf8, refl, subst}
use Rattle.std.specs.Str.{is_utf8}
use Rattle.std.proofs.lemmas.Bool.{lt-ltb, le-ltb}
use Rattle.std.proofs.lemmas.Str.{IsUtf8-from_is_utf8, is_utf8-from_IsUtf8}
use Rattle.text_lines.specs.declared.text.NoText.{NoText}
use Rattle.text_lines.specs.declared.text.NoText.TheVariants as no_text
use Rattle.text_lines.specs.Faults.{fault}
use Rattle.text_lines.specs.Lines.{lines_of, bad_line_of}
use Rattle.text_lines.specs.Texts.{longest_text, IsNoText}
use Rattle.drm_schedule.specs.declared.invalid.Reason.TheVariants.{TooLong, Utf8}
use Rattle.drm_schedule.specs.declared.plan.Plan.{Plan}
use Rattle.plan_script.specs.Script.{script_of, script_of_text}

long_text : (plan : Plan) (text : List ℕ) → longest_text < length text → script_of_text plan text ≡ Err (fault 0 TooLong)
unfolding script_of_text
long_text plan text long = rw (lt-ltb longest_text (length text) long) refl

not_utf8 : (text : List ℕ) → (IsUtf8 text → ⊥) → is_utf8 text ≡ false
not_utf8 text wrong = by (is_utf8 text) refl
  where
    by : (b : Bool) → is_utf8 text ≡ b → b ≡ false
    by true is = absurd (wrong (IsUtf8-from_is_utf8 text is))
    by false is = refl

wrong_text : (plan : Plan) (text : List ℕ) → length text ≤ longest_text → (IsUtf8 text → ⊥) → script_of_text plan text ≡ Err (fault (bad_line_of text) Utf8)
unfolding script_of_text
wrong_text plan text short wrong = rw (le-ltb longest_text (length text) short, not_utf8 text wrong) refl

pub right_text : (plan : Plan) (text : List ℕ) → length text ≤ longest_text → IsUtf8 text → script_of_text plan text ≡ script_of plan (lines_of text)
unfolding script_of_text
right_text plan text short utf8 = rw (le-ltb longest_text (length text) short, is_utf8-from_IsUtf8 text utf8) refl

pub too_long : (plan : Plan) (why : NoText) (text : List ℕ) → why ≡ no_text.TooLong → IsNoText why text → script_of_text plan text ≡ Err (fault 0 TooLong)
too_long plan why text is none = long_text plan text (subst (λ (f : NoText). IsNoText f text) is none)

pub no_utf8 : (plan : Plan) (why : NoText) (line : ℕ) (text : List ℕ) → why ≡ no_text.Utf8 line → IsNoText why text → script_of_text plan text ≡ Err (fault line Utf8)
no_utf8 plan why line text is none =
    let all = subst (λ (f : NoText). IsNoText f text) is none in
    rw all.2 (wrong_text plan text all.0 all.1)
