-- Packets and their numbers.
use Rattle.std.specs.Prelude.{ℕ, ◌+◌, ◌%◌, ◌^◌, List}
use Rattle.dcp_af.specs.Packet.{AfPacket, IsAf}

-- the bytes are an AF packet
abbrev pub IsAny : List ℕ → Type 0
IsAny bytes = (af : AfPacket) × IsAf af bytes

-- the sequence number of the packet with this number, where number 0 has the first one
abbrev pub sequence_of : ℕ → ℕ → ℕ
sequence_of first index = (first + index) % 2 ^ 16
