-- By what packets are received, of its numbers.
use Rattle.std.specs.Prelude.{ℕ, Option}
use Rattle.recv_reading.specs.declared.options.ReceiveOptions.{ReceiveOptions}
use Rattle.recv_reading.specs.declared.options.PacketRange.{PacketRange}

-- by what a link or a capture is read
abbrev pub receive_options : ℕ → ℕ → Option ℕ → Option ℕ → ℕ → ℕ → ReceiveOptions
receive_options window reach first frames idle limit = record { window = window; reach = reach; first = first; frames = frames; idle = idle; limit = limit }

-- which packets are received of what ends by itself
abbrev pub packet_range : ℕ → ℕ → Option ℕ → Option ℕ → PacketRange
packet_range window reach first frames = record { window = window; reach = reach; first = first; frame_limit = frames }
