use Rattle.std.proofs.Common.{◌≡◌, ◌+◌, ◌-◌, length}
use Rattle.capture_reader.specs.Capture.{most_bytes}
use Rattle.capture_reader.specs.Fetching.{BytesCame}
use Rattle.capture_reader.specs.Reading.{HasNext}
use Rattle.capture_reader.proofs.packets.Packets.seek.Given as goal

-- bytes came behind those that were held, and no call failed; where a packet was whole at the start nothing was read
abbrev pub invariant-loop-size : goal.invariant-loop-size
invariant-loop-size g l = record {
  fetched : BytesCame l.initial.self l.self (g.I.Source.known l.initial.input) (g.I.Source.known l.input);
  same : (g.I.Source.known l.input).faults ≡ (g.I.Source.known l.initial.input).faults;
  still : HasNext l.initial.self → (l.self ≡ l.initial.self) × (l.input ≡ l.initial.input);
}

-- how many bytes a capture may still have
abbrev pub decreases-loop-size : goal.decreases-loop-size
decreases-loop-size g l = most_bytes - (l.self.at + length l.self.held)
