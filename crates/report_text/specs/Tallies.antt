-- What a report has counted so far.
use Rattle.std.specs.Prelude.{ℕ, ◌+◌, if◌then◌else◌, List, [], ◌∷◌, ◌++◌}
use Rattle.circular_buffer.specs.Buffer.{keep_last}
use Rattle.dcp_collect.specs.declared.taken.Taken.{Taken}
use Rattle.dcp_collect.specs.declared.taken.Taken.TheVariants.{Kept, Repeated, Late}
use Rattle.mod_feed.specs.Items.{FrameItem, Frame, Missing, Bad}
use Rattle.report_text.specs.declared.report.Sums.{Sums}
use Rattle.report_text.specs.declared.counts.Refusal.{Refusal}
use Rattle.report_text.specs.declared.totals.AnswerCounts.{AnswerCounts}
use Rattle.report_text.specs.declared.totals.Totals.{Totals}
use Rattle.mod_feed.specs.Feeding.{FeedStep}
use Rattle.report_text.specs.Reports.{is_refused, refusals, sums_of}
use Rattle.report_text.specs.Totals.{answers_of}

-- the sums, how many datagrams were answered otherwise, and the last sixteen refusals
pub record TallyContents : Type 0 where
  pub sums : Sums
  pub answers : AnswerCounts
  pub refused : List Refusal

abbrev pub new_tally : TallyContents
new_tally = record {
  sums = record { given = 0; missing = 0; bad = 0; refused = 0 };
  answers = record { kept = 0; repeated = 0; late = 0 };
  refused = [];
}

abbrev pub totals_in : TallyContents → Totals
totals_in tally = record { sums = tally.sums; answers = tally.answers }

-- the sums with one item more
abbrev pub one_more_item : Sums → FrameItem → Sums
one_more_item sums (Frame index frame payload) = record sums { given = sums.given + 1 }
one_more_item sums (Missing index had total) = record sums { missing = sums.missing + 1 }
one_more_item sums (Bad index fault) = record sums { bad = sums.bad + 1 }

abbrev pub counted : TallyContents → FrameItem → TallyContents
counted tally item = record tally { sums = one_more_item tally.sums item }

-- with what was answered to a datagram, unless it was refused or disagrees
abbrev pub one_more_answer : AnswerCounts → Taken → AnswerCounts
one_more_answer answers Kept = record answers { kept = answers.kept + 1 }
one_more_answer answers Repeated = record answers { repeated = answers.repeated + 1 }
one_more_answer answers Late = record answers { late = answers.late + 1 }
one_more_answer answers other = answers

-- with what was answered to the datagram with this number
abbrev pub noted : TallyContents → ℕ → Taken → TallyContents
noted tally number taken =
    if is_refused taken
    then record {
      sums = record tally.sums { refused = tally.sums.refused + 1 };
      answers = tally.answers;
      refused = keep_last 16 (tally.refused ++ record { number = number; taken = taken } ∷ []);
    }
    else record tally { answers = one_more_answer tally.answers taken }

-- how many items these sums count
abbrev pub items_in : Sums → ℕ
items_in sums = sums.given + sums.missing + sums.bad

-- with these items more
abbrev pub with_steps : TallyContents → List FeedStep → TallyContents
with_steps tally [] = tally
with_steps tally (step ∷ steps) = with_steps (counted tally step.item) steps

-- what is counted of these steps and of what became of these datagrams
abbrev pub tally_of : List FeedStep → List Taken → TallyContents
tally_of steps taken = record { sums = sums_of steps (refusals taken); answers = answers_of taken; refused = keep_last 16 (refusals taken) }
