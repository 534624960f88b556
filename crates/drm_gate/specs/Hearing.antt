-- What becomes of a reading that hears once more.
use Rattle.std.specs.Prelude.{◌⊎◌, Bool, true, false, List, [], ◌∷◌, ◌++◌}
use Rattle.dcp_collect.specs.declared.taken.Taken.{Taken}
use Rattle.dcp_collect.specs.CollectorState.{CollectorState}
use Rattle.dcp_collect.specs.Runs.{CollectorItem}
use Rattle.drm_links.specs.Link.{Answer, Failed}
use Rattle.drm_links.specs.History.{GroupEvent, Received}
use Rattle.recv_reading.specs.declared.options.ReceiveOptions.{ReceiveOptions}
use Rattle.recv_reading.specs.Ending.{CollectorGave, IsReadingBroken}
use Rattle.recv_reading.specs.State.{ReadingState}
use Rattle.recv_reading.specs.ReadingReached.{ReadingReached}

-- An answer was heard, and the reading goes on or ends; or none was, since it ended by the number of datagrams. Or the link failed, and all
-- that came before was given.
abbrev pub HearsOn : Bool → ReceiveOptions → List Answer → List Taken → List CollectorItem → ReadingState → CollectorState → (List GroupEvent → Type 0) → Type 0
HearsOn true rules answers taken items r c Happened =
    (Happened [] × ReadingReached rules answers taken items [] r c)
    ⊎ ((answer : Answer) × (taken' : List Taken) × Happened (Received answer ∷ []) × ReadingReached rules (answers ++ answer ∷ []) taken' items [] r c)
HearsOn false rules answers taken items r c Happened =
    Happened (Received Failed ∷ []) × IsReadingBroken rules answers (answers ++ Failed ∷ []) × CollectorGave rules answers taken items c
