-- The numbers by which packets are received.
use Rattle.std.specs.Prelude.{◌≤◌, ◌<◌, ◌^◌, IfSome}
use Rattle.dcp_collect.specs.CollectorState.{CollectorState}
use Rattle.recv_reading.specs.declared.options.ReceiveOptions.{ReceiveOptions}
use Rattle.recv_reading.specs.declared.options.PacketRange.{PacketRange}
use Rattle.recv_reading.specs.declared.options.Bounds.{Bounds}
use Rattle.recv_reading.specs.Values.{receive_options}

-- each number is in the range that a command line has for it
pub record AreInRange (options : ReceiveOptions) : Type 0 where
  pub some_window : 1 ≤ options.window
  pub few_packets : options.window ≤ 64
  pub some_reach : 1 ≤ options.reach
  pub near_reach : options.reach ≤ 32767
  pub some_frames : IfSome options.frames (λ n. 1 ≤ n)
  pub few_frames : IfSome options.frames (λ n. n ≤ 3000000)
  pub some_idles : 1 ≤ options.idle
  pub few_idles : options.idle ≤ 1000000
  pub some_datagrams : 1 ≤ options.limit
  pub few_datagrams : options.limit < 4294967296

-- A reading can go by them: it waits for something, and no more frames are asked for than a schedule has. The limit is far away.
pub record AreUsable (options : ReceiveOptions) : Type 0 where
  pub window : 1 ≤ options.window
  pub frames : IfSome options.frames (λ n. 1 ≤ n)
  pub most_frames : IfSome options.frames (λ n. n ≤ 3000000)
  pub idle : 1 ≤ options.idle
  pub limit : 1 ≤ options.limit
  pub most_datagrams : options.limit < 2 ^ 62

abbrev pub bounds_of : ReceiveOptions → Bounds
bounds_of options = record { frames = options.frames; idle = options.idle; limit = options.limit }

-- the options of a reading with this new collector
abbrev pub options_of : CollectorState → Bounds → ReceiveOptions
options_of c bounds = receive_options c.window c.reach c.first bounds.frames bounds.idle bounds.limit

-- the window and the number of frames, where it is given, are in the ranges that a command line has for them
abbrev pub IsWithinLimits : PacketRange → Type 0
IsWithinLimits range = (1 ≤ range.window) × (range.window ≤ 64) × IfSome range.frame_limit (λ n. (1 ≤ n) × (n ≤ 3000000))

-- those of a reading that ends with its capture, which has fewer packets than that, or by the number of frames
abbrev pub capture_options : PacketRange → ReceiveOptions
capture_options range = receive_options range.window range.reach range.first range.frame_limit 1 (2 ^ 61)
