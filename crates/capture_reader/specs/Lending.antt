-- What a call that lends a packet leaves.
use Rattle.std.specs.Prelude.{Option, Result}
use Rattle.std.specs.Borrow.{MutBor, Fml}
use Rattle.std.specs.Io.BufRead.{Rests}
use Rattle.capture_reader.specs.declared.fault.CaptureFault.{CaptureFault}
use Rattle.capture_reader.specs.declared.packet.Packet.{Packet}
use Rattle.capture_reader.specs.contracts.walker.Walker as walker
use Rattle.capture_reader.specs.contracts.packets.Packets as packets
use Rattle.capture_reader.specs.Walking.{WalkerState, WalkerLeaves}
use Rattle.capture_reader.specs.Reading.{PacketGiven}

-- the walker after `next_packet`
abbrev pub WalkerAfterNext : Result (Option Packet) CaptureFault → MutBor WalkerState → Fml
WalkerAfterNext result w = Rests walker.the_row w (WalkerLeaves result w.now)

-- the reader after `next`
abbrev pub GivesOne : Packet → MutBor WalkerState → Fml
GivesOne packet reader = Rests packets.the_row reader (PacketGiven packet.bytes.now reader.now)
