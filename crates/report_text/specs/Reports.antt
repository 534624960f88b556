-- The text of a report.
use Rattle.std.specs.Prelude.{ℕ, ◌+◌, Bool, true, false, if◌then◌else◌, List, [], ◌∷◌, ◌++◌, length}
use Rattle.std.specs.List.{filter, flat_map, list_all}
use Rattle.circular_buffer.specs.Buffer.{keep_last}
use Rattle.dcp_collect.specs.declared.taken.Taken.{Taken}
use Rattle.dcp_collect.specs.declared.taken.Taken.TheVariants.{Refused, Inconsistent}
use Rattle.mod_feed.specs.Items.{FrameItem, Frame, Missing, Bad}
use Rattle.mod_feed.specs.Feeding.{FeedStep}
use Rattle.recv_reading.specs.declared.reason.EndWord.{EndWord}
use Rattle.report_text.specs.declared.report.Sums.{Sums}
use Rattle.report_text.specs.Report.{feed_line, step_text, refused_line, end_line}
use Rattle.report_text.specs.declared.counts.Refusal.{Refusal}

abbrev pub is_given : FrameItem → Bool
is_given (Frame index frame payload) = true
is_given (Missing index had total) = false
is_given (Bad index fault) = false

abbrev pub is_missing : FrameItem → Bool
is_missing (Frame index frame payload) = false
is_missing (Missing index had total) = true
is_missing (Bad index fault) = false

abbrev pub is_bad : FrameItem → Bool
is_bad (Frame index frame payload) = false
is_bad (Missing index had total) = false
is_bad (Bad index fault) = true

-- the datagram was refused, or disagrees with another one
abbrev pub is_refused : Taken → Bool
is_refused (Refused field) = true
is_refused (Inconsistent kept came) = true
is_refused other = false

-- those of the datagrams, the first of which has number n, that were refused or disagree
abbrev pub refusals_from : ℕ → List Taken → List Refusal
refusals_from n [] = []
refusals_from n (taken ∷ others) =
    if is_refused taken then record { number = n; taken = taken } ∷ refusals_from (n + 1) others else refusals_from (n + 1) others

abbrev pub refusals : List Taken → List Refusal
refusals taken = refusals_from 0 taken

-- the lines of the items, each behind that of the switch before it
abbrev pub steps_text : List FeedStep → List ℕ
steps_text steps = flat_map step_text steps

-- the lines of these refusals
abbrev pub refused_text : List Refusal → List ℕ
refused_text refused = flat_map (λ r. refused_line r.number r.taken) refused

-- how many items of each kind there are, and how many refusals
abbrev pub sums_of : List FeedStep → List Refusal → Sums
sums_of steps refused = record {
  given = length (filter (λ s. is_given s.item) steps);
  missing = length (filter (λ s. is_missing s.item) steps);
  bad = length (filter (λ s. is_bad s.item) steps);
  refused = length refused;
}

-- the whole text: the first line, the items, the last sixteen refusals, and why it ends
abbrev pub report : ℕ → List FeedStep → List Refusal → EndWord → List ℕ
report feed steps refused word =
    feed_line feed ++ (steps_text steps ++ (refused_text (keep_last 16 refused) ++ end_line word (sums_of steps refused)))

-- no item is missing or bad
abbrev pub is_clean : List FeedStep → Bool
is_clean steps = list_all (λ s. is_given s.item) steps

-- a report: its text, and whether no line of it is missing or bad
pub record Report : Type 0 where
  pub text : List ℕ
  pub clean : Bool
