-- The lines of a report.
use Rattle.std.specs.Prelude.{ℕ, List, [], ◌∷◌, ◌++◌, codes, decimal, Option, None, Some}
use Rattle.std.specs.List.{concat}
use Rattle.dcp_collect.specs.declared.taken.Taken.{Taken}
use Rattle.drm_reconfiguration.specs.declared.tracker.Before.{Before}
use Rattle.drm_reconfiguration.specs.declared.tracker.Before.TheVariants.{Switch, Resumed}
use Rattle.mod_feed.specs.declared.item.BadFault.{BadFault}
use Rattle.mod_feed.specs.Items.{FrameItem, Frame, Missing, Bad}
use Rattle.mod_feed.specs.Feeding.{FeedStep}
use Rattle.recv_reading.specs.declared.reason.EndWord.{EndWord}
use Rattle.recv_reading.specs.declared.reason.EndWord.TheVariants.{Frames, Limit, Idle, Input, Paths}
use Rattle.report_text.specs.declared.report.Sums.{Sums}
use Rattle.report_text.specs.FaultWords.{bad_words, taken_words}
use Rattle.report_text.specs.FrameLine.{frame_line}

-- the first line, for feed k
abbrev pub feed_line : ℕ → List ℕ
feed_line k = concat (codes "feed " ∷ decimal k ∷ codes "\n" ∷ [])

-- what stands before an item
abbrev pub before_line : Option Before → List ℕ
before_line None = []
before_line (Some (Switch frame)) = concat (codes "switch " ∷ decimal frame ∷ codes "\n" ∷ [])
before_line (Some (Resumed frame)) = concat (codes "resumed " ∷ decimal frame ∷ codes "\n" ∷ [])

abbrev pub missing_line : ℕ → ℕ → ℕ → List ℕ
missing_line index had total = concat (codes "missing " ∷ decimal index ∷ codes " had " ∷ decimal had ∷ codes " of " ∷ decimal total ∷ codes "\n" ∷ [])

abbrev pub bad_line : ℕ → BadFault → List ℕ
bad_line index fault = concat (codes "bad " ∷ decimal index ∷ codes " " ∷ bad_words fault ∷ codes "\n" ∷ [])

-- the line of an item
abbrev pub item_line : FrameItem → List ℕ
item_line (Frame index frame payload) = frame_line index frame payload
item_line (Missing index had total) = missing_line index had total
item_line (Bad index fault) = bad_line index fault

-- what stands before an item, and then its line
abbrev pub step_text : FeedStep → List ℕ
step_text step = before_line step.before ++ item_line step.item

-- the line of datagram n, which is told of
abbrev pub refused_line : ℕ → Taken → List ℕ
refused_line n taken = concat (codes "refused " ∷ decimal n ∷ codes " " ∷ taken_words taken ∷ codes "\n" ∷ [])

abbrev pub end_word : EndWord → List ℕ
end_word Frames = codes "frames"
end_word Limit = codes "limit"
end_word Idle = codes "idle"
end_word Input = codes "input"
end_word Paths = codes "paths"

-- the last line
abbrev pub end_line : EndWord → Sums → List ℕ
end_line word sums =
    concat (
    codes "end " ∷ end_word word ∷ codes " given " ∷ decimal sums.given ∷ codes " missing " ∷ decimal sums.missing
    ∷ codes " bad " ∷ decimal sums.bad ∷ codes " refused " ∷ decimal sums.refused ∷ codes "\n" ∷ [])
