-- What a report says of a delivery.
use Rattle.std.specs.Prelude.{ℕ, ◌≤◌, Bool, List}
use Rattle.drm_links.specs.Link.{Answer}
use Rattle.drm_links.specs.Hearing.{AreNext}
use Rattle.recv_reading.specs.declared.options.ReceiveOptions.{ReceiveOptions}
use Rattle.recv_report.specs.Received.{IsReport}
use Rattle.recv_report.specs.Headline.{HeadlineOf, CompleteOf}
use Rattle.recv_reading.specs.OneReading.{BreaksOff}
use Rattle.recv_report.specs.Ahead.{IsInTimeAhead}

-- Each report is that of the delivery that was read.
abbrev pub HeadlinesFollow : Type 0
HeadlinesFollow =
    (rules : ReceiveOptions) (feed : ℕ) (answers : List Answer) (text : List ℕ) (clean : Bool)
    → 1 ≤ rules.window → IsReport rules feed answers text clean → HeadlineOf rules feed answers text clean

-- Where each frame of the delivery ahead is in time, it is that of all frames.
abbrev pub CompletesFollow : Type 0
CompletesFollow =
    (rules : ReceiveOptions) (feed : ℕ) (ahead answers rest : List Answer) (text : List ℕ) (clean : Bool)
    → 1 ≤ rules.window → AreNext ahead answers rest → IsReport rules feed answers text clean → CompleteOf rules feed ahead text clean

-- What is ahead of a link and has each frame in time doesn't break off.
abbrev pub NoneBreaksOff : Type 0
NoneBreaksOff = (rules : ReceiveOptions) (ahead : List Answer) → IsInTimeAhead rules ahead → BreaksOff rules ahead → ⊥
