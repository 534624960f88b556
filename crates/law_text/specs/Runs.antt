-- The whole run of a joiner of text messages: what it gives at one place of a reading after another.
use Rattle.std.specs.Prelude.{ℕ, ◌≡◌, List, [], ◌∷◌, Option, Some, None}
use Rattle.drm_text.specs.Segment.{Segment}
use Rattle.drm_text.specs.Joining.{TextState, made, gather, ReadsIn, after, whole_with, GivesMessage}

-- From this state on, this is given at each place, and this state is left: of a piece what the joiner tells, and of a gap nothing.
abbrev pub JoinerRuns : TextState → List (Option (List ℕ)) → List (Option (List ℕ)) → TextState → Type 0
JoinerRuns s [] texts left = (texts ≡ []) × (left ≡ s)
JoinerRuns s (x ∷ reading) [] left = ⊥
JoinerRuns s (None ∷ reading) (text ∷ texts) left = (text ≡ None) × JoinerRuns made reading texts left
JoinerRuns s (Some piece ∷ reading) (text ∷ texts) left =
    (read : Option Segment) × ReadsIn (gather s.segment piece) read × GivesMessage (whole_with s.begun read) text × JoinerRuns (after s piece read) reading texts left

abbrev pub with_message : Option (List ℕ) → List (List ℕ) → List (List ℕ)
with_message None messages = messages
with_message (Some message) messages = message ∷ messages

-- the messages that are given, in order
abbrev pub messages_in : List (Option (List ℕ)) → List (List ℕ)
messages_in [] = []
messages_in (text ∷ texts) = with_message text (messages_in texts)
