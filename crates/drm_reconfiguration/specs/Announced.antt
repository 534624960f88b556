-- Switches over the frames of a multiplex that announces its reconfigurations: what holds whatever is missing, and what
-- holds where nothing is.
use Rattle.std.specs.Prelude.{ℕ, ◌≡◌, ◌≢◌, ◌+◌, ◌-◌, ◌*◌, ◌/◌, ◌%◌, ◌<◌, List, Contains, length, Option}
use Rattle.drm_reconfiguration.specs.Switches.{IsFrame, SwitchesAt, ResumesAt}
use Rattle.drm_reconfiguration.specs.declared.seen.Seen.{Seen}
use Rattle.drm_reconfiguration.specs.declared.seen.Signature.{Signature}

-- an index above 0 counts down to a start, it is 1 before each later start, and signatures change only at starts: the
-- index is that of a super frame, and the signature that of a frame
pub record IndexAnnounces (index : ℕ → ℕ) (signature : ℕ → Signature) (starts : List ℕ) : Type 0 where
  pub named : (super_frame : ℕ) → 0 < index super_frame → Contains starts (super_frame + index super_frame)
  pub before : (start : ℕ) → Contains starts start → 0 < start → index (start - 1) ≡ 1
  pub changes : (t : ℕ) → signature t ≢ signature (t + 1) → (start : ℕ) × Contains starts start × (t + 1 ≡ 3 * start)

-- each frame among the items is the one sent, from frame `first_frame` on
abbrev pub AreSent : (ℕ → ℕ) → (ℕ → Signature) → ℕ → List (Option Seen) → Type 0
AreSent index signature first_frame items =
    (q : ℕ) (seen : Seen) → IsFrame items q seen
    → (seen.position ≡ (q + first_frame) % 3) × (seen.index ≡ index ((q + first_frame) / 3)) × (seen.signature ≡ signature (q + first_frame))

abbrev pub NoneMissing : List (Option Seen) → Type 0
NoneMissing items = (q : ℕ) → q < length items → (seen : Seen) × IsFrame items q seen

-- a switch stands only before the first frame of a start, whatever is missing
abbrev pub OnlyAtStarts : Type 0
OnlyAtStarts =
    (index : ℕ → ℕ) (signature : ℕ → Signature) (starts : List ℕ) (first_frame : ℕ) (items : List (Option Seen)) (f : ℕ)
    → IndexAnnounces index signature starts → AreSent index signature first_frame items
    → SwitchesAt items f → (start : ℕ) × Contains starts start × (f + first_frame ≡ 3 * start)

-- where no frame is missing, a switch stands before the first frame of each start behind the first item
abbrev pub AtAllStarts : Type 0
AtAllStarts =
    (index : ℕ → ℕ) (signature : ℕ → Signature) (starts : List ℕ) (first_frame : ℕ) (items : List (Option Seen)) (start : ℕ)
    → IndexAnnounces index signature starts → AreSent index signature first_frame items → NoneMissing items
    → Contains starts start → first_frame < 3 * start → 3 * start < first_frame + length items → SwitchesAt items (3 * start - first_frame)

-- where no frame is missing, none is resumed
abbrev pub NoneResumed : Type 0
NoneResumed =
    (index : ℕ → ℕ) (signature : ℕ → Signature) (starts : List ℕ) (first_frame : ℕ) (items : List (Option Seen)) (p : ℕ)
    → IndexAnnounces index signature starts → AreSent index signature first_frame items → NoneMissing items
    → p < length items → ¬ ResumesAt items p
