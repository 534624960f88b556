-- Datagrams one behind another at the front of a room.
use Rattle.std.specs.Prelude.{ℕ, ◌*◌, ◌≤◌, List, take}
use Rattle.std.specs.Simd.{first_chunks}
use Rattle.dcp_pft.specs.Limits.{longest_packet, most_fragments}
use Rattle.dcp_sender.specs.declared.layout.Layout.{Layout}
use Rattle.dcp_sender.specs.CarriesText.{most_room}

-- those that stand there
abbrev pub laid_out : Layout → List ℕ → List (List ℕ)
laid_out layout room = first_chunks layout.longest layout.count (take layout.len room)

-- the datagrams of a packet can stand so
pub record IsLayout (layout : Layout) : Type 0 where
  pub within : layout.len ≤ most_room
  pub all : layout.len ≤ layout.count * layout.longest
  pub few : layout.count ≤ most_fragments
  pub small : layout.longest ≤ longest_packet
