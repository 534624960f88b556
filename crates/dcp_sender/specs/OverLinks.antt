-- A packet that is sent under a carry, over each of several links.
use Rattle.std.specs.Prelude.{ℕ, ◌≡◌, Bool, nat_lt, List, length}
use Rattle.dcp_pft.specs.declared.carry.Carry.{Carry}
use Rattle.dcp_pft.specs.Limits.{most_packet}
use Rattle.drm_links.specs.History.{GroupEvent}
use Rattle.drm_links.specs.Calls.{Call, each, sends, CallsMake}
use Rattle.dcp_sender.specs.CarriesText.{AreOf}

-- a packet of so many bytes is above the limit of the carry
abbrev pub is_large : Carry → ℕ → Bool
is_large carry len = nat_lt (most_packet carry) len

-- these datagrams over each of so many links, over one after another
abbrev pub over_each : ℕ → List (List ℕ) → List Call
over_each links datagrams = each (λ k. sends k datagrams) links

-- What happened is what comes of a packet's datagrams, which are n, over each link.
abbrev pub SendsPacket : Carry → ℕ → List ℕ → ℕ → List Bool → List Bool → (List GroupEvent → Type 0) → Type 0
SendsPacket carry sequence packet n up up' Happened =
    (datagrams : List (List ℕ)) × AreOf carry sequence packet datagrams × (length datagrams ≡ n)
    × CallsMake (over_each (length up) datagrams) up up' Happened
