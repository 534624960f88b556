-- What a call that lends a unit leaves.
use Rattle.std.specs.Prelude.{◌≡◌, ℕ, List}
use Rattle.std.specs.Borrow.{MutBor, Fml}
use Rattle.std.specs.Io.BufRead.{Rests}
use Rattle.drm_data.specs.Joining.{JoinerState, JoinerEvent, ReadsDataPacket, after}
use Rattle.drm_data.specs.contracts.joiner.Joiner.{the_row}

-- the joiner after the event that these bytes are
abbrev pub JoinerAfterEvent : List ℕ → MutBor JoinerState → Fml
JoinerAfterEvent bytes joiner =
    Rests the_row joiner (λ left. (event : JoinerEvent) → ReadsDataPacket joiner.now.length bytes event → left ≡ after joiner.now event)
