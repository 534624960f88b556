-- The totals of a reading: the numbers of its report's last line, and of what was answered to its datagrams.
use Rattle.std.specs.Prelude.{ℕ, ◌+◌, ◌==◌, ◌&&◌, Bool, true, false, List, length}
use Rattle.std.specs.List.{filter}
use Rattle.dcp_collect.specs.declared.taken.Taken.{Taken}
use Rattle.dcp_collect.specs.declared.taken.Taken.TheVariants.{Kept, Repeated, Late}
use Rattle.mod_feed.specs.Feeding.{FeedStep}
use Rattle.report_text.specs.declared.totals.AnswerCounts.{AnswerCounts}
use Rattle.report_text.specs.declared.totals.Totals.{Totals}
use Rattle.report_text.specs.Reports.{refusals, sums_of}

abbrev pub is_kept : Taken → Bool
is_kept Kept = true
is_kept other = false

abbrev pub is_repeated : Taken → Bool
is_repeated Repeated = true
is_repeated other = false

abbrev pub is_late : Taken → Bool
is_late Late = true
is_late other = false

-- how many of the answers are of each kind
abbrev pub answers_of : List Taken → AnswerCounts
answers_of taken = record { kept = length (filter is_kept taken); repeated = length (filter is_repeated taken); late = length (filter is_late taken) }

-- the sums of the report of these steps and answers, and how many of the answers are of each other kind
abbrev pub totals_of : List FeedStep → List Taken → Totals
totals_of steps taken = record { sums = sums_of steps (refusals taken); answers = answers_of taken }

-- how many datagrams were answered
abbrev pub answered : Totals → ℕ
answered t = t.sums.refused + t.answers.kept + t.answers.repeated + t.answers.late

-- no item is missing or bad
abbrev pub are_clean : Totals → Bool
are_clean t = (t.sums.missing == 0) && (t.sums.bad == 0)
