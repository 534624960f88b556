-- Packets that came as one datagram each.
use Rattle.std.specs.Prelude.{◌≡◌, Bool, true, false, List, [], ◌∷◌, None}
use Rattle.dcp_af.specs.Packet.{AfPacket, IsAf}
use Rattle.dcp_collect.specs.declared.item.Out.{Out}
use Rattle.dcp_collect.specs.declared.item.Out.TheVariants.{Packet, Lost, Damaged}
use Rattle.dcp_collect.specs.Fragments.{NumberedFragment, of_packet}
use Rattle.dcp_collect.specs.CollectorState.{CollectorState}

-- these are the fragments of a packet that came as one datagram
abbrev pub is_whole_packet : List NumberedFragment → Bool
is_whole_packet [] = false
is_whole_packet (f ∷ fs) = f.head.whole

-- a packet is told to be whole exactly where it came so
abbrev pub TellsWhole : CollectorState → Out → Type 0
TellsWhole c (Packet q bytes whole) = whole ≡ is_whole_packet (of_packet q c.kept)
TellsWhole c (Lost q had total) = Unit {0}
TellsWhole c (Damaged q) = Unit {0}

-- what is told to be whole is an AF packet, so its check value is right, unless it says that none counts
abbrev pub IsAfIfWhole : Out → Type 0
IsAfIfWhole (Packet q bytes whole) = whole ≡ true → (af : AfPacket) × IsAf af bytes.now
IsAfIfWhole (Lost q had total) = Unit {0}
IsAfIfWhole (Damaged q) = Unit {0}

-- a fragment that says that it is whole is an AF packet, the one fragment of it
abbrev pub IsAlone : NumberedFragment → Type 0
IsAlone f = f.head.whole ≡ true → (f.head.count ≡ 1) × (f.head.rs ≡ None) × ((af : AfPacket) × IsAf af f.payload)
