-- What becomes of what a collector gives.
use Rattle.std.specs.Prelude.{ℕ, ◌≡◌, true, false, List, [], ◌∷◌, length}
use Rattle.std.specs.List.{flat_map}
use Rattle.dcp_pft.specs.declared.carry.Carry.{Carry}
use Rattle.dcp_af.specs.declared.fault.AfFault.{AfFault}
use Rattle.dcp_af.specs.Faults.{IsFault}
use Rattle.dcp_collect.specs.Runs.{CollectorItem, Packet, Lost, Damaged}
use Rattle.drm_links.specs.Calls.{Call}
use Rattle.dcp_sender.specs.CarriesText.{AreOf}
use Rattle.dcp_sender.specs.Packets.{IsAny, sequence_of}
use Rattle.dcp_sender.specs.OverLinks.{is_large, over_each}

-- It is sent, as these datagrams, or it is none that can be sent: bad, or above the limit of the carry, or missing.
pub data Outcome : Type 0 where
  Sent : (datagrams : List (List ℕ)) → Outcome
  Bad : Outcome
  Large : Outcome
  Missing : Outcome

-- the bytes are no AF packet
abbrev pub IsNone : List ℕ → Type 0
IsNone bytes = (fault : AfFault) × IsFault fault bytes

-- An AF packet within the limit of the carry is sent under it.
abbrev pub OutcomeOf : Carry → ℕ → CollectorItem → Outcome → Type 0
OutcomeOf carry first (Packet index bytes) (Sent datagrams) =
    IsAny bytes × (is_large carry (length bytes) ≡ false) × AreOf carry (sequence_of first index) bytes datagrams
OutcomeOf carry first (Packet index bytes) Large = IsAny bytes × (is_large carry (length bytes) ≡ true)
OutcomeOf carry first (Packet index bytes) Bad = IsNone bytes
OutcomeOf carry first (Packet index bytes) Missing = ⊥
OutcomeOf carry first (Lost index had total) Missing = Unit {0}
OutcomeOf carry first (Lost index had total) other = ⊥
OutcomeOf carry first (Damaged index) Bad = Unit {0}
OutcomeOf carry first (Damaged index) other = ⊥

-- each item has its fate
abbrev pub OutcomesOf : Carry → ℕ → List CollectorItem → List Outcome → Type 0
OutcomesOf carry first [] [] = Unit {0}
OutcomesOf carry first (item ∷ items) (fate ∷ fates) = OutcomeOf carry first item fate × OutcomesOf carry first items fates
OutcomesOf carry first items fates = ⊥

-- the datagrams that are sent
abbrev pub datagrams_of : Outcome → List (List ℕ)
datagrams_of (Sent datagrams) = datagrams
datagrams_of Bad = []
datagrams_of Large = []
datagrams_of Missing = []

abbrev pub sent_of : List Outcome → List (List ℕ)
sent_of fates = flat_map datagrams_of fates

-- the calls by which they are passed on: what each becomes goes over each of so many links
abbrev pub passing : ℕ → List Outcome → List Call
passing links fates = flat_map (λ fate. over_each links (datagrams_of fate)) fates
