-- The words for what is wrong with a text.
use Rattle.std.specs.Prelude.{ℕ, List, [], ◌∷◌, codes, decimal}
use Rattle.std.specs.List.{concat}
use Rattle.drm_schedule.specs.declared.invalid.Reason.{Reason}
use Rattle.drm_schedule.specs.declared.invalid.Reason.TheVariants.{Utf8, Word, Number, Range, Missing, Twice, Order, Countdown, Block, Services, Occupancy, Hierarchical, Fit, ContentShort, PacketSize, TooLong}

abbrev pub reason_word : Reason → List ℕ
reason_word Utf8 = codes "utf8"
reason_word Word = codes "word"
reason_word Number = codes "number"
reason_word Range = codes "range"
reason_word Missing = codes "missing"
reason_word Twice = codes "twice"
reason_word Order = codes "order"
reason_word Countdown = codes "countdown"
reason_word Block = codes "block"
reason_word Services = codes "services"
reason_word Occupancy = codes "occupancy"
reason_word Hierarchical = codes "hierarchical"
reason_word Fit = codes "fit"
reason_word ContentShort = codes "content-short"
reason_word PacketSize = codes "packet-size"
reason_word TooLong = codes "too-long"

-- the line of a fault in line n of a text
abbrev pub reason_line : List ℕ → ℕ → List ℕ → List ℕ
reason_line front n reason = concat (front ∷ decimal n ∷ codes ": " ∷ reason ∷ codes "\n" ∷ [])

-- of a schedule's text
abbrev pub schedule_line : ℕ → List ℕ → List ℕ
schedule_line n reason = reason_line (codes "drmcast: schedule line ") n reason

-- of a script's text
abbrev pub script_line : ℕ → List ℕ → List ℕ
script_line n reason = reason_line (codes "drmcast: script line ") n reason
