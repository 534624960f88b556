-- What the lines of a text in UTF-8 give is what a text can give.
use Rattle.std.proofs.Common.{◌≡◌, ℕ, ◌+◌, Bool, true, false, List, [], ◌∷◌, length, Option, Some, None, Result, Ok, Err, refl, sym, ap, subst, ◌∙◌, arith}
use Rattle.std.specs.Prelude.{All, IsUtf8, ◌==◌, ◌||◌, slice_index, if◌then◌else◌}
use Rattle.std.specs.List.{slice_split, join_with_byte}
use Rattle.std.proofs.lemmas.Bool.{or_parts}
use Rattle.std.proofs.lemmas.List.Elements.{All-nil, All-cons, All-head, All-tail}
use Rattle.std.proofs.lemmas.List.Splits.{join_with_byte-slice_split}
use Rattle.drm_schedule.specs.declared.invalid.Reason.{Reason}
use Rattle.drm_schedule.specs.declared.invalid.Reason.TheVariants.{Word, Order, Missing}
use Rattle.drm_schedule.specs.Ranges.{InLines}
use Rattle.text_lines.specs.Lines.{words_of, lines_of, without_last_empty}
use Rattle.plan_rows.specs.declared.keyword.Keyword.{Keyword}
use Rattle.plan_grammar.specs.declared.version.Version.{Version}
use Rattle.plan_grammar.specs.declared.line.Line.{Line}
use Rattle.plan_grammar.specs.Said.{keyword_said, LineInLines}
use Rattle.plan_grammar.specs.Says.{line_said}
use Rattle.plan_grammar.proofs.SaysFits.{line_fits, keyword_read}
use Rattle.plan_lines.proofs.CleanLemmas.{clean, lines_are_single, utf8_cut}
use Rattle.plan_rules.specs.declared.said.ConfigLines.{ConfigLines}
use Rattle.plan_rules.specs.declared.said.ParsedText.{ParsedText}
use Rattle.plan_rules.specs.ParsedLine.{nothing, add}
use Rattle.drm_plan.specs.Files.{config_files}
use Rattle.plan_rules.specs.InLines.{IsSingle, EndedInLines, ReadInLines, EndsComplete}
use Rattle.drm_plan.specs.Projection.{DraftContents, drafted}
use Rattle.text_lines.specs.Faults.{fault, first_fault, ok_unless, ◌>>=◌, lines_say}
use Rattle.plan_rules.specs.Rules.{ScheduleTextFault, version_in, reads_as, keyword_in, is_misplaced, is_second, is_too_many, is_17th, in_current, is_incomplete, current_line, end_rows, ended, is_wordless, ends_incomplete, said_after, said_keyword, said_words, said_line, said_from, said}
use Rattle.plan_rules.specs.Steps.{check_of}
use Rattle.drm_plan.specs.Text.{lines_give}
use Rattle.plan_rules.proofs.KeptLemmas.{add_fits}
use Rattle.drm_plan.proofs.PlanLemmas.{plan_fits}

-- ---- the lines of a text in UTF-8

parts_utf8 : (parts : List (List ℕ)) → IsUtf8 (join_with_byte 10 parts) → All IsUtf8 parts
parts_utf8 [] is = All-nil IsUtf8
parts_utf8 (a ∷ []) is = All-cons IsUtf8 a [] is (All-nil IsUtf8)
parts_utf8 (a ∷ b ∷ parts) is =
    let both = utf8_cut 10 (omega arith) a (join_with_byte 10 (b ∷ parts)) is in
    All-cons IsUtf8 a (b ∷ parts) both.0 (parts_utf8 (b ∷ parts) both.1)

without_empty : (parts : List (List ℕ)) → All IsUtf8 parts → All IsUtf8 (without_last_empty parts)
without_empty [] all = All-nil IsUtf8
without_empty ([] ∷ []) all = All-nil IsUtf8
without_empty ((b ∷ line) ∷ []) all = all
without_empty (line ∷ next ∷ more) all = All-cons IsUtf8 line (without_last_empty (next ∷ more)) (All-head IsUtf8 line (next ∷ more) all) (without_empty (next ∷ more) (All-tail IsUtf8 line (next ∷ more) all))

lines_utf8 : (text : List ℕ) → IsUtf8 text → All IsUtf8 (lines_of text)
lines_utf8 text is =
    let parts : List (List ℕ) = slice_split (λ b. b == 10) text in
    without_empty parts (parts_utf8 parts (subst IsUtf8 (sym (join_with_byte-slice_split 10 text)) is))

-- ---- one line more

-- what rows of which none holds leave
record Clear (ends misplaced second full : Bool) (x new : ParsedText) : Type 0 where
  no_end : ends ≡ false
  placed : misplaced ≡ false
  single : second ≡ false
  room : full ≡ false
  same : x ≡ new

clear : (ends misplaced second full : Bool) (f0 f1 f2 f3 : ScheduleTextFault) (x new : ParsedText)
    → ok_unless (first_fault ((ends, f0) ∷ (misplaced, f1) ∷ (second, f2) ∷ (full, f3) ∷ [])) x ≡ Ok new → Clear ends misplaced second full x new
clear true b c d f0 f1 f2 f3 x new is = absurd cc
clear false true c d f0 f1 f2 f3 x new is = absurd cc
clear false false true d f0 f1 f2 f3 x new is = absurd cc
clear false false false true f0 f1 f2 f3 x new is = absurd cc
clear false false false false f0 f1 f2 f3 x new is = record { no_end = refl; placed = refl; single = refl; room = refl; same = cc }

-- a line that has a fault by itself
faulty : (ends wordless misplaced : Bool) (f0 f1 f2 f3 : ScheduleTextFault) (x new : ParsedText)
    → ok_unless (if ends then Some f0 else if wordless then Some f1 else if misplaced then Some f2 else Some f3) x ≡ Ok new → ⊥
faulty true b c f0 f1 f2 f3 x new is = cc
faulty false true c f0 f1 f2 f3 x new is = cc
faulty false false true f0 f1 f2 f3 x new is = cc
faulty false false false f0 f1 f2 f3 x new is = cc

after_kept : (read new : ParsedText) (n : ℕ) (k : Keyword) (s : Result Line Reason) → ((l : Line) → s ≡ Ok l → LineInLines l) → ((l : Line) → s ≡ Ok l → keyword_said l ≡ k) → ReadInLines read → said_after read n k s ≡ Ok new → ReadInLines new
unfolding said_after check_of
after_kept read new n k (Err reason) fits says kept is =
    absurd (faulty (ends_incomplete read k) (is_wordless (Err reason)) (is_misplaced read k) (fault (current_line read.current) Missing) (fault n Word) (fault n Order) (fault n reason) read new is)
after_kept read new n k (Ok l) fits says kept is =
    let c = clear (ends_incomplete read k) (is_misplaced read k) (in_current (is_second k) read.current) (in_current (is_too_many k) read.current || is_17th read k) _ _ _ _ (add n l read) new is in
    let found : check_of read n k ≡ Ok tt = rw (c.placed, c.single, c.room) refl in
    subst ReadInLines c.same
    (add_fits read n l (fits l refl) kept (subst (λ (x : Keyword). ends_incomplete read x ≡ false) (sym (says l refl)) c.no_end) (subst (λ (x : Keyword). check_of read n x ≡ Ok tt) (sym (says l refl)) found))

abbrev ok_of : {X : Type 0} (F : Type 0) → X → Result X F
ok_of F x = Ok x

pub ok_is : {X F : Type 0} (a b : X) → ok_of F a ≡ ok_of F b → a ≡ b
ok_is a b e = cc

words_kept : (read new : ParsedText) (n : ℕ) (line : List ℕ) (words : List (List ℕ)) → IsUtf8 line → IsSingle line → words_of line ≡ words → ReadInLines read → said_words read n line words ≡ Ok new → ReadInLines new
words_kept read new n line [] utf8 single cut kept is = subst ReadInLines (ok_is read new is) kept
words_kept read new n line (first ∷ words) utf8 single cut kept is = by (slice_index first 0 == 35) is
  where
    known : (k : Option Keyword) → said_keyword read n k line words ≡ Ok new → ReadInLines new
    known None is = absurd cc
    known (Some k) is = let version = reads_as (version_in read.front) in after_kept read new n k (line_said version k line words) (λ l reads. line_fits version k line words l (clean line first words utf8 single cut) reads) (λ l reads. keyword_read version k line words l reads) kept is

    by : (comment : Bool) → (if comment then Ok read else said_keyword read n (keyword_in (version_in read.front) first) line words) ≡ Ok new → ReadInLines new
    by true is = subst ReadInLines (ok_is read new is) kept
    by false is = known (keyword_in (version_in read.front) first) is

line_kept : (read new : ParsedText) (n : ℕ) (line : List ℕ) → IsUtf8 line → IsSingle line → ReadInLines read → said_line read n line ≡ Ok new → ReadInLines new
unfolding said_line
line_kept read new n line utf8 single kept is = words_kept read new n line (words_of line) utf8 single refl kept is

-- ---- all lines

lines_kept : (read new : ParsedText) (n : ℕ) (lines : List (List ℕ)) → All IsUtf8 lines → All IsSingle lines → ReadInLines read → said_from read n lines ≡ Ok new → ReadInLines new
unfolding lines_say
lines_kept read new n [] utf8 single kept is = subst ReadInLines (ok_is read new is) kept
lines_kept read new n (line ∷ lines) utf8 single kept is =
    by (said_line read n line) refl is (λ more. lines_kept more new (n + 1) lines (All-tail IsUtf8 line lines utf8) (All-tail IsSingle line lines single))
  where
    by : (step : Result ParsedText ScheduleTextFault) → said_line read n line ≡ step → (step >>= λ more. said_from more (n + 1) lines) ≡ Ok new → ((more : ParsedText) → ReadInLines more → said_from more (n + 1) lines ≡ Ok new → ReadInLines new) → ReadInLines new
    by (Ok more) now is rest = rest more (line_kept read more n line (All-head IsUtf8 line lines utf8) (All-head IsSingle line lines single) kept now) is
    by (Err e) now is rest = absurd cc

none_kept : ReadInLines nothing
none_kept = record { front = All-nil _; few_closed = omega arith; closed = All-nil EndedInLines; current = tt }

-- what the end of a text leaves
ended_by : (n : ℕ) (read new : ParsedText) (version : Option Version) (current : Option ConfigLines) → read.current ≡ current → ok_unless (first_fault (end_rows version current n)) read ≡ Ok new → EndsComplete new × (read ≡ new)
ended_by n read new version None last is = absurd cc
ended_by n read new version (Some b) last is = by (is_incomplete version b.lines) refl is
  where
    by : (lacking : Bool) → is_incomplete version b.lines ≡ lacking → ok_unless (first_fault ((lacking, fault b.line Missing) ∷ [])) read ≡ Ok new → EndsComplete new × (read ≡ new)
    by true found is = absurd cc
    by false found is =
        let same = ok_is read new is in
        (record { block = b; last = sym (ap (λ (r : ParsedText). r.current) same) ∙ last; complete = (or_parts _ _ found).0 }, same)

end_kept : (n : ℕ) (read new : ParsedText) → ended n read ≡ Ok new → EndsComplete new × (read ≡ new)
unfolding ended
end_kept n read new is = ended_by n read new (version_in read.front) read.current refl is

-- all that a text says
said_kept : (lines : List (List ℕ)) (read : ParsedText) → All IsUtf8 lines → All IsSingle lines → said lines ≡ Ok read → ReadInLines read × EndsComplete read
unfolding said
said_kept lines read utf8 single is = by (said_from nothing 1 lines) refl is
  where
    by : (all : Result ParsedText ScheduleTextFault) → said_from nothing 1 lines ≡ all → (all >>= λ r. ended (length lines) r) ≡ Ok read → ReadInLines read × EndsComplete read
    by (Ok r) from is =
        let end = end_kept (length lines) r read is in
        (subst ReadInLines end.1 (lines_kept nothing r 1 lines utf8 single none_kept from), end.0)
    by (Err e) from is = absurd cc

-- What lines gave: a plan that a text can give, and its files.
pub record IsGiven (draft : DraftContents) : Type 0 where
  pub in_lines : InLines draft.plan
  pub files : draft.files ≡ config_files 0 draft.plan.configs

pub lines_given : (text : List ℕ) (draft : DraftContents) → IsUtf8 text → lines_give (lines_of text) ≡ Ok draft → IsGiven draft
unfolding lines_give
lines_given text draft utf8 is = by (said (lines_of text)) refl is
  where
    by : (all : Result ParsedText ScheduleTextFault) → said (lines_of text) ≡ all → (all >>= λ read. Ok (drafted read)) ≡ Ok draft → IsGiven draft
    by (Ok read) said_is is =
        let kept = said_kept (lines_of text) read (lines_utf8 text utf8) (lines_are_single text) said_is in
        let fits = plan_fits read kept.1.block kept.0 kept.1.last kept.1.complete in
        subst IsGiven (ok_is (drafted read) draft is) (record { in_lines = fits; files = refl })
    by (Err e) said_is is = absurd cc
