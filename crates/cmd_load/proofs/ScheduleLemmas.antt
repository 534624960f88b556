-- A schedule from a shelf, load by load.
use Rattle.std.proofs.Common.{◌≡◌, ℕ, ◌+◌, ◌-◌, ◌<◌, ◌≤◌, zero, suc, inl, inr, List, length, Result, Ok, Err, refl, sym, ◌∙◌, ap, arith}
use Rattle.drm_schedule.specs.declared.plan.Plan.{Plan}
use Rattle.plan_rules.specs.declared.fault.PlanFault.{PlanFault}
use Rattle.plan_rules.specs.declared.fault.PlanFault.TheVariants as plan
use Rattle.plan_rules.specs.Rules.{ScheduleTextFault}
use Rattle.plan_rules.specs.Steps.{ReadsLines}
use Rattle.drm_plan.specs.Projection.{DraftContents}
use Rattle.drm_plan.specs.Text.{draft_of}
use Rattle.plan_writer.specs.Canonical.{canonical}
use Rattle.drm_plan.specs.Draft.{name_at, line_at, attached, valid_of}
use Rattle.drm_links.specs.Known.{Known}
use Rattle.drm_links.specs.Shelf.{Files, ShelfSupplies}
use Rattle.drm_links.proofs.KnownLemmas.{Tells-weaker}
use Rattle.cmd_load.specs.declared.loading.ScheduleFault.{ScheduleFault}
use Rattle.cmd_load.specs.declared.loading.ScheduleFault.TheVariants.{NoMemory}
use Rattle.cmd_load.specs.Loading.{ShelfReading, given, ◌>>=◌, load_for, ReadBy, GivesUnlessMemory}
use Rattle.cmd_load.specs.PlanFaults.{schedule_fault_of}
use Rattle.cmd_load.specs.Schedule.{longest_text, longest_file, by_lines, by_validity, with_files, schedule_named, checked}
use Rattle.cmd_load.proofs.LoadingLemmas.{LoadsOnly, given_only, load_only, then_only, Reached, ReadBy-then, ReadBy-stops, ReadBy-rest, rest_after, nothing_left, ReadBy-gives, ReadBy-given, ran_out}

-- ---- what a text gives

abbrev pub lifted : {T : Type 0} → Result T PlanFault → Result T ScheduleFault
lifted (Ok x) = Ok x
lifted (Err fault) = Err (schedule_fault_of fault)

pub draft_given : (outcome : Result DraftContents PlanFault) (said : Result DraftContents ScheduleTextFault) → ReadsLines outcome said → GivesUnlessMemory (lifted outcome) (by_lines said)
draft_given (Ok draft) said reads = inr (ap by_lines (sym reads))
draft_given (Err plan.NoMemory) said reads = inl refl
draft_given (Err (plan.Line line reason)) said reads = inr (ap by_lines (sym reads))

-- ---- the files of a draft

pub files_only : (n k : ℕ) (draft : DraftContents) → LoadsOnly (with_files n k draft)
files_only zero k draft = given_only (Ok draft)
files_only (suc n) k draft =
    then_only (load_for (line_at draft k) (name_at draft k) longest_file) (λ bytes. with_files n (k + 1) (attached draft k bytes))
    (load_only (line_at draft k) (name_at draft k) longest_file) (λ bytes. files_only n (k + 1) (attached draft k bytes))

-- what follows the k-th file of so many
abbrev pub behind : ℕ → ℕ → DraftContents → List ℕ → ShelfReading DraftContents
behind files k draft bytes = with_files (files - (k + 1)) (k + 1) (attached draft k bytes)

one_more : (files k : ℕ) (draft : DraftContents) (line : ℕ) (name : List ℕ) → k < files → line ≡ line_at draft k → name ≡ name_at draft k → with_files (files - k) k draft ≡ (load_for line name longest_file >>= behind files k draft)
one_more files k draft line name more line_is name_is =
    let left : files - k ≡ suc (files - (k + 1)) = omega arith in
    ap (λ n. with_files n k draft) left ∙ (λ i. load_for (sym line_is i) (sym name_is i) longest_file >>= behind files k draft)

reached_more : (whole : ShelfReading DraftContents) (files k : ℕ) (draft : DraftContents) (line : ℕ) (name : List ℕ) (a b : Known Files) → k < files → line ≡ line_at draft k → name ≡ name_at draft k
    → ShelfSupplies a b (Reached whole (with_files (files - k) k draft)) → ShelfSupplies a b (Reached whole (load_for line name longest_file >>= behind files k draft))
reached_more whole files k draft line name a b more line_is name_is so_far =
    let step = one_more files k draft line name more line_is name_is in
    Tells-weaker _ _ a b so_far (λ x y reached. (reached.0 ∙ (λ i. step i y), reached.1))

pub files_next : (whole : ShelfReading DraftContents) (files k : ℕ) (draft next : DraftContents) (line : ℕ) (name bytes : List ℕ) (a b c : Known Files) → k < files → line ≡ line_at draft k → name ≡ name_at draft k → next ≡ attached draft k bytes
    → ShelfSupplies a b (Reached whole (with_files (files - k) k draft)) → ReadBy (load_for line name longest_file) (Ok bytes) b c
    → ShelfSupplies a c (Reached whole (with_files (files - (k + 1)) (k + 1) next))
files_next whole files k draft next line name bytes a b c more line_is name_is next_is so_far outcome =
    Tells-weaker _ _ a c
    (rest_after whole (load_for line name longest_file) (behind files k draft) bytes a b c (load_only line name longest_file) (reached_more whole files k draft line name a b more line_is name_is so_far) outcome)
    (λ x y reached. (reached.0 ∙ ap (λ d. with_files (files - (k + 1)) (k + 1) d y) (sym next_is), reached.1))

pub files_fail : (whole : ShelfReading DraftContents) (files k : ℕ) (draft : DraftContents) (line : ℕ) (name : List ℕ) (fault : ScheduleFault) (a b c : Known Files) → k < files → line ≡ line_at draft k → name ≡ name_at draft k
    → ShelfSupplies a b (Reached whole (with_files (files - k) k draft)) → ReadBy (load_for line name longest_file) (Err fault) b c → ReadBy whole (Err fault) a c
files_fail whole files k draft line name fault a b c more line_is name_is so_far outcome =
    ReadBy-rest whole (load_for line name longest_file >>= behind files k draft) (Err fault) a b c (reached_more whole files k draft line name a b more line_is name_is so_far)
    (ReadBy-stops (load_for line name longest_file) (behind files k draft) fault b c (λ bytes. files_only (files - (k + 1)) (k + 1) (attached draft k bytes)) outcome)

pub files_done : (whole : ShelfReading DraftContents) (files k : ℕ) (draft : DraftContents) (a b : Known Files) → files ≤ k → ShelfSupplies a b (Reached whole (with_files (files - k) k draft)) → ReadBy whole (Ok draft) a b
files_done whole files k draft a b last so_far =
    let none : files - k ≡ zero = omega arith in
    Tells-weaker _ _ a b so_far (λ x y reached. inl (reached.0 ∙ ap (λ n. with_files n k draft y) none))

pub files_first : (files : ℕ) (draft : DraftContents) (a : Known Files) → files ≡ length draft.files → ShelfSupplies a a (Reached (with_files (length draft.files) 0 draft) (with_files (files - 0) 0 draft))
files_first files draft a is =
    let all : length draft.files ≡ files - 0 = omega (arith, is) in
    nothing_left (with_files (length draft.files) 0 draft) (with_files (files - 0) 0 draft) a (ap (λ n. with_files n 0 draft) all)

-- ---- the whole schedule

abbrev pub from_whole : DraftContents → ShelfReading Plan
from_whole whole = given (by_validity (valid_of whole))

abbrev pub from_draft : DraftContents → ShelfReading Plan
from_draft draft = with_files (length draft.files) 0 draft >>= from_whole

abbrev pub from_text : List ℕ → ShelfReading Plan
from_text text = given (by_lines (draft_of text)) >>= from_draft

whole_only : (whole : DraftContents) → LoadsOnly (from_whole whole)
whole_only whole = given_only (by_validity (valid_of whole))

draft_only : (draft : DraftContents) → LoadsOnly (from_draft draft)
draft_only draft = then_only (with_files (length draft.files) 0 draft) from_whole (files_only (length draft.files) 0 draft) whole_only

text_only : (text : List ℕ) → LoadsOnly (from_text text)
text_only text = then_only (given (by_lines (draft_of text))) from_draft (given_only (by_lines (draft_of text))) draft_only

pub schedule_only : (name : List ℕ) → LoadsOnly (schedule_named name)
schedule_only name = then_only (load_for 0 name longest_text) from_text (load_only 0 name longest_text) text_only

pub text_fails : (name : List ℕ) (fault : ScheduleFault) (a b : Known Files) → ReadBy (load_for 0 name longest_text) (Err fault) a b → ReadBy (schedule_named name) (Err fault) a b
text_fails name fault a b loaded = ReadBy-stops (load_for 0 name longest_text) from_text fault a b text_only loaded

pub draft_fails : (name text : List ℕ) (fault : ScheduleFault) (a b : Known Files) → ReadBy (load_for 0 name longest_text) (Ok text) a b → GivesUnlessMemory (Err fault) (by_lines (draft_of text)) → ReadBy (schedule_named name) (Err fault) a b
draft_fails name text fault a b loaded gives =
    ReadBy-then (load_for 0 name longest_text) from_text text (Err fault) a b b (load_only 0 name longest_text) loaded
    (ReadBy-stops (given (by_lines (draft_of text))) from_draft fault b b draft_only (ReadBy-gives (Err fault) (by_lines (draft_of text)) b gives))

-- what comes once the text gave a draft
draft_outcome : (name text : List ℕ) (draft : DraftContents) (outcome : Result Plan ScheduleFault) (a b c : Known Files) → ReadBy (load_for 0 name longest_text) (Ok text) a b → GivesUnlessMemory (Ok draft) (by_lines (draft_of text)) → ReadBy (from_draft draft) outcome b c → ReadBy (schedule_named name) outcome a c
draft_outcome name text draft outcome a b c loaded gives comes =
    ReadBy-then (load_for 0 name longest_text) from_text text outcome a b c (load_only 0 name longest_text) loaded
    (ReadBy-then (given (by_lines (draft_of text))) from_draft draft outcome b b c (given_only (by_lines (draft_of text))) (ReadBy-gives (Ok draft) (by_lines (draft_of text)) b gives) comes)

pub files_break : (name text : List ℕ) (draft : DraftContents) (fault : ScheduleFault) (a b c : Known Files) → ReadBy (load_for 0 name longest_text) (Ok text) a b → GivesUnlessMemory (Ok draft) (by_lines (draft_of text)) → ReadBy (with_files (length draft.files) 0 draft) (Err fault) b c → ReadBy (schedule_named name) (Err fault) a c
files_break name text draft fault a b c loaded gives files =
    draft_outcome name text draft (Err fault) a b c loaded gives
    (ReadBy-stops (with_files (length draft.files) 0 draft) from_whole fault b c whole_only files)

pub schedule_comes : (name text : List ℕ) (draft whole : DraftContents) (outcome : Result Plan ScheduleFault) (a b c : Known Files) → ReadBy (load_for 0 name longest_text) (Ok text) a b → GivesUnlessMemory (Ok draft) (by_lines (draft_of text)) → ReadBy (with_files (length draft.files) 0 draft) (Ok whole) b c → outcome ≡ by_validity (valid_of whole) → ReadBy (schedule_named name) outcome a c
schedule_comes name text draft whole outcome a b c loaded gives files is =
    draft_outcome name text draft outcome a b c loaded gives
    (ReadBy-then (with_files (length draft.files) 0 draft) from_whole whole outcome b c c (files_only (length draft.files) 0 draft) files
    (ReadBy-gives outcome (by_validity (valid_of whole)) c (inr is)))

-- ---- its canonical text

abbrev written : Plan → ShelfReading (List ℕ)
written schedule = given (Ok (canonical schedule))

written_only : (schedule : Plan) → LoadsOnly (written schedule)
written_only schedule = given_only (Ok (canonical schedule))

checked_only : (name : List ℕ) → LoadsOnly (checked name)
checked_only name = then_only (schedule_named name) written (schedule_only name) written_only

pub checked_fails : (name : List ℕ) (fault : ScheduleFault) (a b : Known Files) → ReadBy (schedule_named name) (Err fault) a b → ReadBy (checked name) (Err fault) a b
checked_fails name fault a b comes = ReadBy-stops (schedule_named name) written fault a b written_only comes

pub checked_comes : (name : List ℕ) (schedule : Plan) (a b : Known Files) → ReadBy (schedule_named name) (Ok schedule) a b → ReadBy (checked name) (Ok (canonical schedule)) a b
checked_comes name schedule a b comes =
    ReadBy-then (schedule_named name) written schedule (Ok (canonical schedule)) a b b (schedule_only name) comes (ReadBy-given (Ok (canonical schedule)) b)

pub checked_unwritten : (name : List ℕ) (schedule : Plan) (a b : Known Files) → ReadBy (schedule_named name) (Ok schedule) a b → ReadBy (checked name) (Err NoMemory) a b
checked_unwritten name schedule a b comes = ran_out (checked name) (canonical schedule) a b (checked_only name) (checked_comes name schedule a b comes)

-- memory runs out behind a schedule
pub schedule_ran_out : (name : List ℕ) (schedule : Plan) (a b : Known Files) → ReadBy (schedule_named name) (Ok schedule) a b → ReadBy (schedule_named name) (Err NoMemory) a b
schedule_ran_out name schedule a b comes = ran_out (schedule_named name) schedule a b (schedule_only name) comes
