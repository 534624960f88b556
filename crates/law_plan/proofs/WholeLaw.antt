-- A text and files make a schedule exactly where they are those of the schedule.
use Rattle.std.proofs.Common.{◌≡◌, ℕ, ◌+◌, ◌≤◌, Bool, true, false, List, [], ◌∷◌, ◌++◌, Option, Some, None, Ok, Err, IsUtf8, length, map, if◌then◌else◌, refl, sym, ap, subst, ◌∙◌, append_assoc, arith}
use Rattle.std.specs.Prelude.{All, nat_lt}
use Rattle.std.specs.Str.{is_utf8}
use Rattle.std.proofs.lemmas.Bool.{ltb-false}
use Rattle.std.proofs.lemmas.List.{length-append}
use Rattle.std.proofs.lemmas.List.Elements.{All-nil, All-cons}
use Rattle.std.proofs.lemmas.Str.{IsUtf8-from_is_utf8}
use Rattle.text_lines.specs.Faults.{fault}
use Rattle.text_lines.specs.Lines.{lines_of, bad_line_of}
use Rattle.text_lines.specs.Texts.{longest_text}
use Rattle.drm_schedule.specs.declared.invalid.Invalid.{Invalid}
use Rattle.drm_schedule.specs.declared.invalid.Reason.TheVariants.{TooLong, Utf8}
use Rattle.drm_schedule.specs.declared.config.Config.{Config}
use Rattle.drm_schedule.specs.declared.stream.Content.{Content}
use Rattle.drm_schedule.specs.declared.stream.Content.TheVariants.{Fill, File}
use Rattle.drm_schedule.specs.declared.stream.Stream.{Stream}
use Rattle.drm_schedule.specs.declared.plan.Plan.{Plan}
use Rattle.drm_schedule.specs.Valid.{IsSchedule, first_invalid}
use Rattle.plan_writer.specs.Canonical.{canonical}
use Rattle.drm_plan.specs.declared.files.FileRef.{FileRef}
use Rattle.drm_plan.specs.Draft.{with_bytes, valid_of, valid_unless}
use Rattle.drm_plan.specs.Files.{with_file, without_bytes, config_without_bytes, without_files}
use Rattle.drm_plan.specs.Lookup.{at}
use Rattle.drm_plan.specs.Projection.{DraftContents}
use Rattle.drm_plan.specs.Text.{lines_give, draft_of, IsText}
use Rattle.drm_plan.proofs.TextLemmas.{right_text}
use Rattle.law_plan.specs.Texts.{OfFile, EachFile}
use Rattle.law_plan.specs.Whole.{files_in, with_all, TextMakes}
use Rattle.law_plan.proofs.AttachLaw.{Fills, FillsWith, at_seam, fills_some, fills_count, plan_fills, plan_filled, fills_fit, fills_same}
use Rattle.law_plan.proofs.GivenLaw.{IsGiven, lines_given, ok_is}
use Rattle.law_plan.proofs.PlanLaw.{read_again, canonical_utf8}

-- ---- files one after another

abbrev with_plan : DraftContents → Plan → DraftContents
with_plan draft plan = record draft { plan = plan }

-- whatever bytes
abbrev Any : List ℕ → List ℕ → Type 0
Any name bytes = Unit {0}

any_file : (plan : Plan) → EachFile Any plan
any_file plan = all_of (λ c. all_of (λ s. any s.content) c.streams) plan.configs
  where
    any : (content : Content) → OfFile Any content
    any (Fill byte) = tt
    any (File name bytes) = tt

    all_of : {X : Type 0} {P : X → Type 0} → ((x : X) → P x) → (xs : List X) → All P xs
    all_of {P = P} has [] = All-nil P
    all_of {P = P} has (x ∷ xs) = All-cons P x xs (has x) (all_of has xs)

filled_by : (files : List FileRef) (all : List (List ℕ)) (plan : Plan) → length all ≡ length files → (whole : Plan) × FillsWith Any files all plan whole
filled_by [] [] plan count = (plan, refl)
filled_by [] (bytes ∷ all) plan count = absurd (omega (arith, count))
filled_by (file ∷ files) [] plan count = absurd (omega (arith, count))
filled_by (file ∷ files) (bytes ∷ all) plan count =
    let r = filled_by files all (with_file file bytes plan) (omega (arith, count)) in
    (r.0, (tt, r.1))

in_turn : (before files : List FileRef) (all : List (List ℕ)) (draft : DraftContents) (whole : Plan) → draft.files ≡ before ++ files → FillsWith Any files all draft.plan whole → with_all (length before) all draft ≡ with_plan draft whole
in_turn before [] [] draft whole is fills = ap (with_plan draft) fills
in_turn before [] (bytes ∷ all) draft whole is fills = absurd fills
in_turn before (file ∷ files) [] draft whole is fills = absurd fills
in_turn before (file ∷ files) (bytes ∷ all) draft whole is fills =
    let found : at (length before) draft.files ≡ Some file = ap (λ (fs : List FileRef). at (length before) fs) is ∙ at_seam before file files in
    let longer : length before + 1 ≡ length (before ++ file ∷ []) = sym (length-append before (file ∷ [])) in
    ap (λ (o : Option FileRef). with_all (length before + 1) all (with_plan draft (with_bytes o bytes draft.plan))) found
    ∙ ap (λ (k : ℕ). with_all k all (with_plan draft (with_file file bytes draft.plan))) longer
    ∙ in_turn (before ++ file ∷ []) files all (with_plan draft (with_file file bytes draft.plan)) whole (is ∙ sym (append_assoc before (file ∷ []) files)) fills.1

-- ---- what a draft came of

pub record IsTextOfDraft (text : List ℕ) (draft : DraftContents) : Type 0 where
  pub short : length text ≤ longest_text
  pub utf8 : IsUtf8 text
  pub lines : lines_give (lines_of text) ≡ Ok draft

pub text_of_draft : (text : List ℕ) (draft : DraftContents) → draft_of text ≡ Ok draft → IsTextOfDraft text draft
unfolding draft_of
text_of_draft text draft is = by (nat_lt longest_text (length text)) (is_utf8 text) refl refl is
  where
    by : (long utf8 : Bool) → nat_lt longest_text (length text) ≡ long → is_utf8 text ≡ utf8
        → (if long then Err (fault 0 TooLong) else if utf8 then lines_give (lines_of text) else Err (fault (bad_line_of text) Utf8)) ≡ Ok draft → IsTextOfDraft text draft
    by true utf8 size found is = absurd cc
    by false false size found is = absurd cc
    by false true size found is = record { short = ltb-false longest_text (length text) size; utf8 = IsUtf8-from_is_utf8 text found; lines = is }

pub given_by : (text : List ℕ) (draft : DraftContents) → draft_of text ≡ Ok draft → IsGiven draft
given_by text draft is =
    let read = text_of_draft text draft is in
    lines_given text draft read.utf8 read.lines

is_valid : (draft : DraftContents) (schedule : Plan) → valid_of draft ≡ Ok schedule → (first_invalid draft.plan ≡ None) × (draft.plan ≡ schedule)
is_valid draft schedule is = by (first_invalid draft.plan) refl is
  where
    by : (o : Option Invalid) → first_invalid draft.plan ≡ o → valid_unless o draft ≡ Ok schedule → (first_invalid draft.plan ≡ None) × (draft.plan ≡ schedule)
    by None found is = (found, ok_is draft.plan schedule is)
    by (Some fault) found is = absurd cc

-- ---- the law

pub made : (text : List ℕ) (files : List (List ℕ)) (schedule : Plan) → TextMakes text files schedule → IsText schedule text × IsSchedule schedule × (files ≡ files_in schedule)
made text files schedule makes =
    let draft = makes.draft in
    let given = given_by text draft makes.gives in
    let valid = is_valid (with_all 0 files draft) schedule makes.valid in
    let w = filled_by draft.files files draft.plan makes.one_each in
    let whole : w.0 ≡ schedule = sym (ap (λ (d : DraftContents). d.plan) (in_turn [] draft.files files draft w.0 refl w.1)) ∙ valid.1 in
    let fills : FillsWith Any draft.files files draft.plan schedule = subst (λ (p : Plan). FillsWith Any draft.files files draft.plan p) whole w.1 in
    let came : Fills Any draft.files draft.plan schedule = fills_some Any draft.files files draft.plan schedule fills in (
      record { draft = draft; gives = makes.gives; same = fills_same Any draft.files draft.plan schedule came },
      record { in_lines = fills_fit Any draft.files draft.plan schedule came given.in_lines; valid = ap first_invalid (sym valid.1) ∙ valid.0 },
      sym (plan_filled Any draft.plan schedule files (subst (λ (fs : List FileRef). FillsWith Any fs files draft.plan schedule) given.files fills)).1,
    )

pub makes : (text : List ℕ) (files : List (List ℕ)) (schedule : Plan) → IsText schedule text × IsSchedule schedule × (files ≡ files_in schedule) → TextMakes text files schedule
makes text files schedule is =
    let draft = is.0.draft in
    let given = given_by text draft is.0.gives in
    let fills : FillsWith Any draft.files files draft.plan schedule = rw (given.files, is.2) (plan_fills Any draft.plan schedule is.0.same (any_file schedule)) in
    let filled : with_all 0 files draft ≡ with_plan draft schedule = in_turn [] draft.files files draft schedule refl fills in
    record {
      draft = draft;
      gives = is.0.gives;
      one_each = fills_count Any draft.files files draft.plan schedule fills;
      valid = ap valid_of filled ∙ ap (λ (o : Option Invalid). valid_unless o (with_plan draft schedule)) is.1.valid;
    }

-- ---- canonical texts

without_again : (s : Stream) → without_bytes (without_bytes s) ≡ without_bytes s
without_again s = by s.a s.b s.content
  where
    by : (a b : ℕ) (content : Content) → without_bytes (without_bytes (record { a = a; b = b; content = content })) ≡ without_bytes (record { a = a; b = b; content = content })
    by a b (Fill byte) = refl
    by a b (File name bytes) = refl

map_again : {X : Type 0} (f : X → X) → ((x : X) → f (f x) ≡ f x) → (xs : List X) → map f (map f xs) ≡ map f xs
map_again f again [] = refl
map_again f again (x ∷ xs) = ap (λ y. y ∷ map f (map f xs)) (again x) ∙ ap (λ ys. f x ∷ ys) (map_again f again xs)

config_again : (c : Config) → config_without_bytes (config_without_bytes c) ≡ config_without_bytes c
config_again c = ap (λ (ss : List Stream). record c { streams = ss }) (map_again without_bytes without_again c.streams)

files_again : (plan : Plan) → without_files (without_files plan) ≡ without_files plan
files_again plan = ap (λ (cs : List Config). record plan { configs = cs }) (map_again config_without_bytes config_again plan.configs)

pub canonical_is_text : (schedule : Plan) → IsSchedule schedule → length (canonical schedule) ≤ longest_text → IsText schedule (canonical schedule)
canonical_is_text schedule is short =
    let again = read_again schedule is.in_lines in
    record {
      draft = again.draft;
      gives = right_text (canonical schedule) short (canonical_utf8 schedule is.in_lines) ∙ again.lines;
      same = ap without_files again.same ∙ files_again schedule;
    }
