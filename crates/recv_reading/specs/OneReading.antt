-- What is read of a link is one thing.
use Rattle.std.specs.Prelude.{◌≡◌, List, Option, Some, None}
use Rattle.drm_links.specs.Link.{Answer}
use Rattle.drm_links.specs.Hearing.{AreNext}
use Rattle.recv_reading.specs.declared.reason.EndWord.{EndWord}
use Rattle.recv_reading.specs.declared.options.ReceiveOptions.{ReceiveOptions}
use Rattle.recv_reading.specs.Ending.{IsFinished, IsReadingBroken}

-- a reading ends after these answers: it is finished, for this reason, or it ends in `Failed`
abbrev pub ReadingEnds : ReceiveOptions → List Answer → Option EndWord → Type 0
ReadingEnds rules answers (Some word) = IsFinished rules answers word
ReadingEnds rules answers None = (before : List Answer) × IsReadingBroken rules before answers

-- Of the answers ahead these are read.
pub record IsReadingOf (rules : ReceiveOptions) (ahead answers : List Answer) (ending : Option EndWord) : Type 0 where
  pub rest : List Answer
  pub next : AreNext ahead answers rest
  pub ends : ReadingEnds rules answers ending

-- Of the answers ahead of a link one list is read, and it ends in one way.
abbrev pub IsOneReading : Type 0
IsOneReading =
    (rules : ReceiveOptions) (ahead answers others : List Answer) (ending other : Option EndWord)
    → IsReadingOf rules ahead answers ending → IsReadingOf rules ahead others other → (others ≡ answers) × (other ≡ ending)

-- What is ahead of a link breaks off: its reading ends in `Failed`.
pub record BreaksOff (rules : ReceiveOptions) (ahead : List Answer) : Type 0 where
  pub before : List Answer
  pub answers : List Answer
  pub rest : List Answer
  pub next : AreNext ahead answers rest
  pub reading : IsReadingBroken rules before answers
