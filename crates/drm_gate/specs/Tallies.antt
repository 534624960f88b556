-- How what a gateway did is counted.
use Rattle.std.specs.Prelude.{ℕ, ◌+◌, ◌*◌, List, [], ◌∷◌, length}
use Rattle.drm_gate.specs.declared.tally.Tally.{Tally}
use Rattle.drm_gate.specs.Passing.{Outcome, Sent, Bad, Large, Missing}

abbrev pub nothing : Tally
nothing = record { given = 0; missing = 0; bad = 0; large = 0; sent = 0 }

abbrev pub plus : Tally → Tally → Tally
plus t u = record {
  given = t.given + u.given;
  missing = t.missing + u.missing;
  bad = t.bad + u.bad;
  large = t.large + u.large;
  sent = t.sent + u.sent;
}

-- A packet that is sent is given, and each of its datagrams is sent.
abbrev pub tally_one : Outcome → Tally
tally_one (Sent datagrams) = record nothing { given = 1; sent = length datagrams }
tally_one Bad = record nothing { bad = 1 }
tally_one Large = record nothing { large = 1 }
tally_one Missing = record nothing { missing = 1 }

abbrev pub tally_of : List Outcome → Tally
tally_of [] = nothing
tally_of (fate ∷ fates) = plus (tally_one fate) (tally_of fates)

-- the datagrams of all links together, where so many links take each
abbrev pub over : ℕ → Tally → Tally
over links t = record t { sent = links * t.sent }

-- how many items it counts
abbrev pub items_in : Tally → ℕ
items_in t = t.given + t.missing + t.bad + t.large
