-- What `check` printed is checked again as itself.
use Rattle.std.proofs.Common.{◌≡◌, ℕ, ◌+◌, ◌≤◌, Bool, true, false, List, [], ◌∷◌, ◌++◌, length, nat_lt, nat_eq, Option, None, Some, Result, Ok, Err, if◌then◌else◌, refl, sym, ap, subst, ◌∙◌, append_assoc, arith}
use Rattle.std.specs.List.{list_any}
use Rattle.std.proofs.lemmas.Bool.Decides.{nat_tests}
use Rattle.std.proofs.lemmas.List.{length-append}
use Rattle.std.proofs.lemmas.Map.Views.{Contains-from_any}
use Rattle.drm_links.specs.declared.shelf.Loaded.{Loaded}
use Rattle.drm_links.specs.declared.shelf.Loaded.TheVariants as loads
use Rattle.drm_links.specs.Shelf.{Files, file_at, within, load_of, after_loads}
use Rattle.drm_schedule.specs.declared.invalid.Invalid.{Invalid}
use Rattle.drm_schedule.specs.declared.plan.Plan.{Plan}
use Rattle.drm_schedule.specs.Valid.{IsSchedule, first_invalid}
use Rattle.drm_plan.specs.declared.files.FileRef.{FileRef}
use Rattle.plan_writer.specs.Canonical.{canonical}
use Rattle.drm_plan.specs.Draft.{line_of_file, name_of_file, with_bytes, valid_of, valid_unless}
use Rattle.drm_plan.specs.Files.{config_files, name_of, with_file}
use Rattle.drm_plan.specs.Lookup.{at}
use Rattle.drm_plan.specs.Projection.{DraftContents}
use Rattle.plan_rules.specs.Rules.{ScheduleTextFault}
use Rattle.drm_plan.specs.Text.{draft_of, IsText}
use Rattle.law_plan.proofs.AttachLaw.{Fills, at_seam, files_come, files_are_filled, fills_fit, fills_same, each_weaker}
use Rattle.law_plan.proofs.WholeLaw.{text_of_draft, given_by, canonical_is_text}
use Rattle.cmd_load.specs.declared.loading.ScheduleFault.{ScheduleFault}
use Rattle.law_load.specs.Again.{HasFiles, HasText, HasAll, NoLoadFails}
use Rattle.cmd_load.specs.Loading.{ShelfStep, ShelfReading, given, after, ◌>>=◌, bytes_or_fault, load_for}
use Rattle.cmd_load.specs.Schedule.{longest_text, longest_file, by_lines, by_validity, with_files, schedule_named, checked}
use Rattle.cmd_load.proofs.ScheduleLemmas.{from_draft, from_text}

-- ---- one load

same_number : (x y : ℕ) → nat_eq x y ≡ true → x ≡ y
same_number x y is = grind (arith, nat_tests)

unlisted : (contents : Files) → NoLoadFails contents → list_any (nat_eq contents.loads) contents.failing ≡ false
unlisted contents none = by (list_any (nat_eq contents.loads) contents.failing) refl
  where
    by : (b : Bool) → list_any (nat_eq contents.loads) contents.failing ≡ b → b ≡ false
    by true is = absurd (none contents.loads (omega arith) (Contains-from_any same_number contents.loads contents.failing is))
    by false is = refl

none_later : (names : List (List ℕ)) (contents : Files) → NoLoadFails contents → NoLoadFails (after_loads names contents)
none_later names contents none load later = none load (omega (arith, later))

short_enough : (limit : ℕ) (bytes : List ℕ) → length bytes ≤ limit → nat_lt limit (length bytes) ≡ false
short_enough limit bytes small = by (nat_lt limit (length bytes)) refl
  where
    by : (b : Bool) → nat_lt limit (length bytes) ≡ b → b ≡ false
    by true is = absurd (grind (arith, nat_tests))
    by false is = refl

-- a file that is there is loaded
loads_file : (contents : Files) (line : ℕ) (name bytes : List ℕ) (limit : ℕ) → NoLoadFails contents → file_at contents name ≡ Some bytes → length bytes ≤ limit
    → load_for line name limit contents ≡ record { outcome = Ok bytes; contents = after_loads (name ∷ []) contents }
loads_file contents line name bytes limit none is small = rw (unlisted contents none, is, short_enough limit bytes small) refl

-- what a shelf has of this name, within a limit
abbrev Has : ℕ → Files → List ℕ → List ℕ → Type 0
Has limit contents name bytes = (file_at contents name ≡ Some bytes) × (length bytes ≤ limit)

given_bytes : (line : ℕ) (loaded : Loaded) (bytes : List ℕ) → bytes_or_fault line loaded ≡ Ok bytes → loaded ≡ loads.Bytes bytes
given_bytes line (loads.Bytes octets) bytes is = let same : octets ≡ bytes = cc in ap loads.Bytes same
given_bytes line loads.TooLong bytes is = absurd cc
given_bytes line loads.Failed bytes is = absurd cc
given_bytes line loads.NoMemory bytes is = absurd cc

in_limit : (limit : ℕ) (file bytes : List ℕ) (b : Bool) → nat_lt limit (length file) ≡ b → (if b then loads.TooLong else loads.Bytes file) ≡ loads.Bytes bytes → (file ≡ bytes) × (length file ≤ limit)
in_limit limit file bytes true test is = absurd cc
in_limit limit file bytes false test is = (cc, grind (arith, nat_tests))

is_within : (limit : ℕ) (file : Option (List ℕ)) (bytes : List ℕ) → within limit file ≡ loads.Bytes bytes → (file ≡ Some bytes) × (length bytes ≤ limit)
is_within limit None bytes is = absurd cc
is_within limit (Some file) bytes is =
    let found = in_limit limit file bytes (nat_lt limit (length file)) refl is in
    (ap (λ (f : List ℕ). Some f) found.0, subst (λ (f : List ℕ). length f ≤ limit) found.0 found.1)

-- what a load gave is there
load_has : (contents : Files) (line : ℕ) (name bytes : List ℕ) (limit : ℕ) → (load_for line name limit contents).outcome ≡ Ok bytes → Has limit contents name bytes
load_has contents line name bytes limit is = by (list_any (nat_eq contents.loads) contents.failing) (given_bytes line (load_of contents name limit) bytes is)
  where
    by : (b : Bool) → (if b then loads.Failed else within limit (file_at contents name)) ≡ loads.Bytes bytes → Has limit contents name bytes
    by true is = absurd cc
    by false is = is_within limit (file_at contents name) bytes is

-- ---- one reading after another

record ReadsBoth {A B : Type 0} (reading : ShelfReading A) (next : A → ShelfReading B) (contents : Files) (y : B) : Type 0 where
  x : A
  first : (reading contents).outcome ≡ Ok x
  second : (next x (reading contents).contents).outcome ≡ Ok y

then_reads : {A B : Type 0} (reading : ShelfReading A) (next : A → ShelfReading B) (contents : Files) (y : B) → ((reading >>= next) contents).outcome ≡ Ok y → ReadsBoth reading next contents y
then_reads {A} {B} reading next contents y is = by (reading contents).outcome refl is
  where
    by : (outcome : Result A ScheduleFault) → (reading contents).outcome ≡ outcome → (after outcome next (reading contents).contents).outcome ≡ Ok y → ReadsBoth reading next contents y
    by (Ok x) first is = record { x = x; first = first; second = is }
    by (Err fault) first is = absurd cc

comes_then : {A B : Type 0} (reading : ShelfReading A) (next : A → ShelfReading B) (contents : Files) (x : A) (outcome : Result B ScheduleFault) → (reading contents).outcome ≡ Ok x → (next x (reading contents).contents).outcome ≡ outcome → ((reading >>= next) contents).outcome ≡ outcome
comes_then {A} {B} reading next contents x outcome first second = ap (λ (r : Result A ScheduleFault). (after r next (reading contents).contents).outcome) first ∙ second

-- ---- the files of a draft, one after another

abbrev with_plan : DraftContents → Plan → DraftContents
with_plan draft plan = record draft { plan = plan }

abbrev from_files : List FileRef → DraftContents → ShelfReading DraftContents
from_files [] draft = given (Ok draft)
from_files (file ∷ files) draft = load_for (line_of_file draft.places (Some file)) (name_of file draft.plan) longest_file >>= λ bytes. from_files files (with_plan draft (with_file file bytes draft.plan))

after_same : {A B : Type 0} (outcome : Result A ScheduleFault) (f g : A → ShelfReading B) (contents : Files) → ((x : A) → f x contents ≡ g x contents) → after outcome f contents ≡ after outcome g contents
after_same (Ok x) f g contents same = same x
after_same (Err fault) f g contents same = refl

-- the draft of which the next file is this one, if there is one
abbrev next_file : ℕ → ℕ → DraftContents → Option FileRef → ShelfReading DraftContents
next_file n k draft file =
    load_for (line_of_file draft.places file) (name_of_file draft.plan file) longest_file
    >>= λ bytes. with_files n (k + 1) (with_plan draft (with_bytes file bytes draft.plan))

in_turn : (before files : List FileRef) (draft : DraftContents) → draft.files ≡ before ++ files → (contents : Files) → with_files (length files) (length before) draft contents ≡ from_files files draft contents
in_turn before [] draft is contents = refl
in_turn before (file ∷ files) draft is contents =
    let found : at (length before) draft.files ≡ Some file = ap (λ (fs : List FileRef). at (length before) fs) is ∙ at_seam before file files in
    let later = after_loads (name_of file draft.plan ∷ []) contents in
    let longer : length before + 1 ≡ length (before ++ file ∷ []) = sym (length-append before (file ∷ [])) in
    ap (λ (o : Option FileRef). next_file (length files) (length before) draft o contents) found
    ∙ after_same (load_for (line_of_file draft.places (Some file)) (name_of file draft.plan) longest_file contents).outcome
    (λ bytes. with_files (length files) (length before + 1) (with_plan draft (with_file file bytes draft.plan)))
    (λ bytes. from_files files (with_plan draft (with_file file bytes draft.plan)))
    later
    (λ bytes. ap (λ k. with_files (length files) k (with_plan draft (with_file file bytes draft.plan)) later) longer
    ∙ in_turn (before ++ file ∷ []) files (with_plan draft (with_file file bytes draft.plan)) (is ∙ sym (append_assoc before (file ∷ []) files)) later)

all_in_turn : (draft : DraftContents) (contents : Files) → with_files (length draft.files) 0 draft contents ≡ from_files draft.files draft contents
all_in_turn draft contents = in_turn [] draft.files draft refl contents

abbrev draft_ok : DraftContents → Result DraftContents ScheduleFault
draft_ok draft = Ok draft

draft_is : (a b : DraftContents) → draft_ok a ≡ draft_ok b → a ≡ b
draft_is a b e = cc

-- files that are there are loaded
files_load : (files : List FileRef) (draft : DraftContents) (whole : Plan) (contents : Files) → NoLoadFails contents → Fills (Has longest_file contents) files draft.plan whole → (from_files files draft contents).outcome ≡ Ok (with_plan draft whole)
files_load [] draft whole contents none fills = ap (λ (p : Plan). draft_ok (with_plan draft p)) fills
files_load (file ∷ files) draft whole contents none fills =
    let loaded = loads_file contents (line_of_file draft.places (Some file)) (name_of file draft.plan) fills.0 longest_file none fills.1.0 fills.1.1 in
    ap (λ (s : ShelfStep (List ℕ)). (after s.outcome (λ bytes. from_files files (with_plan draft (with_file file bytes draft.plan))) s.contents).outcome) loaded
    ∙ files_load files (with_plan draft (with_file file fills.0 draft.plan)) whole (after_loads (name_of file draft.plan ∷ []) contents) (none_later (name_of file draft.plan ∷ []) contents none) fills.2

-- files that were loaded are there
files_loaded : (files : List FileRef) (draft whole : DraftContents) (contents : Files) → (from_files files draft contents).outcome ≡ Ok whole → Fills (Has longest_file contents) files draft.plan whole.plan
files_loaded [] draft whole contents is = ap (λ (d : DraftContents). d.plan) (draft_is draft whole is)
files_loaded (file ∷ files) draft whole contents is =
    let outcome = then_reads (load_for (line_of_file draft.places (Some file)) (name_of file draft.plan) longest_file) (λ bytes. from_files files (with_plan draft (with_file file bytes draft.plan))) contents whole is in (
      outcome.x,
      load_has contents (line_of_file draft.places (Some file)) (name_of file draft.plan) outcome.x longest_file outcome.first,
      files_loaded files (with_plan draft (with_file file outcome.x draft.plan)) whole (after_loads (name_of file draft.plan ∷ []) contents) outcome.second,
    )

-- ---- a schedule that came

abbrev plan_ok : Plan → Result Plan ScheduleFault
plan_ok plan = Ok plan

plan_is : (a b : Plan) → plan_ok a ≡ plan_ok b → a ≡ b
plan_is a b e = cc

record IsValid (draft : DraftContents) (schedule : Plan) : Type 0 where
  valid : first_invalid draft.plan ≡ None
  same : draft.plan ≡ schedule

is_valid : (draft : DraftContents) (schedule : Plan) → by_validity (valid_of draft) ≡ Ok schedule → IsValid draft schedule
is_valid draft schedule is = by (first_invalid draft.plan) refl is
  where
    by : (o : Option Invalid) → first_invalid draft.plan ≡ o → by_validity (valid_unless o draft) ≡ Ok schedule → IsValid draft schedule
    by None found is = record { valid = found; same = plan_is draft.plan schedule is }
    by (Some fault) found is = absurd cc

by_lines_is : (said : Result DraftContents ScheduleTextFault) (draft : DraftContents) → by_lines said ≡ Ok draft → said ≡ Ok draft
by_lines_is (Ok d) draft is = ap (λ (x : DraftContents). Ok x) (draft_is d draft is)
by_lines_is (Err fault) draft is = absurd cc

pub schedule_has : (name : List ℕ) (contents : Files) (schedule : Plan) → (schedule_named name contents).outcome ≡ Ok schedule → IsSchedule schedule × HasFiles contents schedule × HasText contents name schedule
schedule_has name contents schedule is =
    let text = then_reads (load_for 0 name longest_text) from_text contents schedule is in
    let draft = then_reads (given (by_lines (draft_of text.x))) from_draft (after_loads (name ∷ []) contents) schedule text.second in
    let whole = then_reads (with_files (length draft.x.files) 0 draft.x) (λ d. given (by_validity (valid_of d))) (after_loads (name ∷ []) contents) schedule draft.second in
    let valid = is_valid whole.x schedule whole.second in
    let gives = by_lines_is (draft_of text.x) draft.x draft.first in
    let said = given_by text.x draft.x gives in
    let loaded : (from_files draft.x.files draft.x (after_loads (name ∷ []) contents)).outcome ≡ Ok whole.x = sym (ap (λ (s : ShelfStep DraftContents). s.outcome) (all_in_turn draft.x (after_loads (name ∷ []) contents))) ∙ whole.first in
    let fills = files_loaded draft.x.files draft.x whole.x (after_loads (name ∷ []) contents) loaded in
    let fits = fills_fit (Has longest_file contents) draft.x.files draft.x.plan whole.x.plan fills said.in_lines in
    let each = files_are_filled (Has longest_file contents) draft.x.plan whole.x.plan (subst (λ (fs : List FileRef). Fills (Has longest_file contents) fs draft.x.plan whole.x.plan) said.files fills) in
    let there = load_has contents 0 name text.x longest_text text.first in
    let is_text : IsText whole.x.plan text.x = record { draft = draft.x; gives = gives; same = fills_same (Has longest_file contents) draft.x.files draft.x.plan whole.x.plan fills } in
    subst (λ (p : Plan). IsSchedule p × HasFiles contents p × HasText contents name p) valid.same (
      record { in_lines = fits; valid = valid.valid },
      each,
      record { text = text.x; there = there.0; is = is_text },
    )

-- ---- a schedule that comes again

pub schedule_comes : (schedule : Plan) (name : List ℕ) (contents : Files) → IsSchedule schedule → HasFiles contents schedule → HasText contents name schedule → NoLoadFails contents
    → (schedule_named name contents).outcome ≡ Ok schedule
schedule_comes schedule name contents is files has none =
    let draft = has.is.draft in
    let said = given_by has.text draft has.is.gives in
    let small = (text_of_draft has.text draft has.is.gives).short in
    let bare : Fills (Has longest_file contents) (config_files 0 draft.plan.configs) draft.plan schedule = files_come (Has longest_file contents) draft.plan schedule has.is.same files in
    let fills : Fills (Has longest_file contents) draft.files draft.plan schedule = subst (λ (fs : List FileRef). Fills (Has longest_file contents) fs draft.plan schedule) (sym said.files) bare in
    let later = none_later (name ∷ []) contents none in
    let loaded : (with_files (length draft.files) 0 draft (after_loads (name ∷ []) contents)).outcome ≡ Ok (with_plan draft schedule) =
    ap (λ (s : ShelfStep DraftContents). s.outcome) (all_in_turn draft (after_loads (name ∷ []) contents)) ∙ files_load draft.files draft schedule (after_loads (name ∷ []) contents) later fills in
    let valid : by_validity (valid_of (with_plan draft schedule)) ≡ Ok schedule = ap (λ (o : Option Invalid). by_validity (valid_unless o (with_plan draft schedule))) is.valid in
    let text : (load_for 0 name longest_text contents).outcome ≡ Ok has.text = ap (λ (s : ShelfStep (List ℕ)). s.outcome) (loads_file contents 0 name has.text longest_text none has.there small) in
    let from_there : (from_draft draft (after_loads (name ∷ []) contents)).outcome ≡ Ok schedule =
    comes_then (with_files (length draft.files) 0 draft) (λ d. given (by_validity (valid_of d))) (after_loads (name ∷ []) contents) (with_plan draft schedule) (Ok schedule) loaded valid in
    comes_then (load_for 0 name longest_text) from_text contents has.text (Ok schedule) text
    (comes_then (given (by_lines (draft_of has.text))) from_draft (after_loads (name ∷ []) contents) draft (Ok schedule) (ap by_lines has.is.gives) from_there)

pub canonical_checked : (schedule : Plan) (name : List ℕ) (contents : Files) → IsSchedule schedule → length (canonical schedule) ≤ longest_text → file_at contents name ≡ Some (canonical schedule) → HasFiles contents schedule → NoLoadFails contents
    → (checked name contents).outcome ≡ Ok (canonical schedule)
canonical_checked schedule name contents is small there files none =
    comes_then (schedule_named name) (λ s. given (Ok (canonical s))) contents schedule (Ok (canonical schedule)) (schedule_comes schedule name contents is files (record { text = canonical schedule; there = there; is = canonical_is_text schedule is small }) none) refl

abbrev text_ok : List ℕ → Result (List ℕ) ScheduleFault
text_ok text = Ok text

text_is : (a b : List ℕ) → text_ok a ≡ text_ok b → a ≡ b
text_is a b e = cc

pub printed_checked : (name again text : List ℕ) (first second : Files) → (checked name first).outcome ≡ Ok text → length text ≤ longest_text → file_at second again ≡ Some text → HasAll first second → NoLoadFails second
    → (checked again second).outcome ≡ Ok text
printed_checked name again text first second printed small there all none =
    let outcome = then_reads (schedule_named name) (λ s. given (Ok (canonical s))) first text printed in
    let same : canonical outcome.x ≡ text = text_is (canonical outcome.x) text outcome.second in
    let found = schedule_has name first outcome.x outcome.first in
    let files = each_weaker (Has longest_file first) (Has longest_file second) (λ n bytes has. (all n bytes has.0, has.1)) outcome.x found.1 in
    canonical_checked outcome.x again second found.0 (subst (λ (t : List ℕ). length t ≤ longest_text) (sym same) small) (there ∙ ap (λ (t : List ℕ). Some t) (sym same)) files none
    ∙ ap text_ok same
