-- The whole run of a joiner: what it says of one event after another.
use Rattle.std.specs.Prelude.{ℕ, ◌+◌, ◌==◌, Bool, true, false, ◌&&◌, List, [], ◌∷◌, Option, Some, None}
use Rattle.std.specs.Int.{from_bool}
use Rattle.drm_data.specs.Joining.{JoinerEvent, Received, Broken, Gap, JoinerState, JoinerAnswer, Whole, CutOff, CutWhole, Refuses, answer, after}

abbrev pub answers : JoinerState → List JoinerEvent → List JoinerAnswer
answers s [] = []
answers s (e ∷ events) = answer s e ∷ answers (after s e) events

abbrev pub after_all : JoinerState → List JoinerEvent → JoinerState
after_all s [] = s
after_all s (e ∷ events) = after_all (after s e) events

-- the unit that an answer gives
abbrev pub unit_in : JoinerAnswer → Option (List ℕ)
unit_in (Whole unit) = Some unit
unit_in (CutWhole unit) = Some unit
unit_in other = None

-- the answer says that a unit that was open is cut
abbrev pub tells_cut : JoinerAnswer → Bool
tells_cut CutOff = true
tells_cut (CutWhole unit) = true
tells_cut (Refuses fault cut) = cut
tells_cut other = false

abbrev pub with_unit : Option (List ℕ) → List (List ℕ) → List (List ℕ)
with_unit None units = units
with_unit (Some unit) units = unit ∷ units

-- the units that are given, in order, and how many cuts are told
abbrev pub units_in : List JoinerAnswer → List (List ℕ)
units_in [] = []
units_in (a ∷ rest) = with_unit (unit_in a) (units_in rest)

abbrev pub cuts_in : List JoinerAnswer → ℕ
cuts_in [] = 0
cuts_in (a ∷ rest) = from_bool (tells_cut a) + cuts_in rest

-- how many units are begun: by each packet of the id that has first
abbrev pub begins : ℕ → JoinerEvent → Bool
begins id (Received p) = (p.id == id) && p.first
begins id (Broken fault) = false
begins id Gap = false

abbrev pub begun_count : ℕ → List JoinerEvent → ℕ
begun_count id [] = 0
begun_count id (e ∷ events) = from_bool (begins id e) + begun_count id events
