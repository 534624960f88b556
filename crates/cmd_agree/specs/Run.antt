-- The command `agree`: how far two schedules have the same datagrams.
use Rattle.std.specs.Prelude.{ℕ, ◌≡◌, List, ◌++◌, codes, decimal, Result}
use Rattle.drm_links.specs.Known.{Known}
use Rattle.drm_links.specs.Shelf.{Files}
use Rattle.drm_links.specs.Sink.{Output, IsPrefix}
use Rattle.drm_compare.specs.Agreement.{IsAgreement}
use Rattle.cmd_serve.specs.ScheduleRun.{ScheduleRun}
use Rattle.cmd_faults.specs.declared.fault.Fault.{Fault}
use Rattle.cmd_agree.specs.declared.pair.SchedulePair.{SchedulePair}
use Rattle.cmd_agree.specs.Reading.{both_named, AreSchedules}

-- `agree N of M and L`
abbrev pub agree_line : ℕ → ℕ → ℕ → List ℕ
agree_line n length other = codes "agree " ++ decimal n ++ codes " of " ++ decimal length ++ codes " and " ++ decimal other ++ codes "\n"

-- The line of two schedules: how many super frames, from the first one on, have the same datagrams in both, and their lengths in the
-- order of the schedules.
abbrev pub IsAgreeLine : SchedulePair → List ℕ → Type 0
IsAgreeLine pair line = (n : ℕ) × IsAgreement pair.first pair.second n × (line ≡ agree_line n pair.first.length pair.second.length)

-- a front of it
abbrev pub IsAgreeFront : SchedulePair → List ℕ → Type 0
IsAgreeFront pair text = (line : List ℕ) × IsAgreeLine pair line × IsPrefix line text

-- A run of `agree`: it writes the line of the schedules that came.
abbrev pub AgreeRun : {S O : Type 0} → List ℕ → List ℕ → Result (Unit {0}) Fault → (S → Known Files) → S → S → (O → Known Output) → O → O → Type 0
AgreeRun name other ending shelf_known shelf shelf' out_known out out' =
    ScheduleRun (both_named name other) AreSchedules IsAgreeLine IsAgreeFront ending shelf_known shelf shelf' out_known out out'
