-- Answers have one report.
use Rattle.std.specs.Prelude.{ℕ, ◌≡◌, Bool, List}
use Rattle.drm_links.specs.Link.{Answer}
use Rattle.recv_reading.specs.declared.options.ReceiveOptions.{ReceiveOptions}
use Rattle.recv_report.specs.Received.{IsReport}

abbrev pub IsOneReport : Type 0
IsOneReport =
    (rules : ReceiveOptions) (feed : ℕ) (answers : List Answer) (text text' : List ℕ) (clean clean' : Bool)
    → IsReport rules feed answers text clean → IsReport rules feed answers text' clean' → (text' ≡ text) × (clean' ≡ clean)
