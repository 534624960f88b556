-- A gateway as data, and by what it reads.
use Rattle.std.specs.Prelude.{ℕ, ◌≡◌, ◌<◌, ◌≤◌, Bool, true, List, length, IfSome}
use Rattle.dcp_pft.specs.declared.carry.Carry.{Carry}
use Rattle.dcp_collect.specs.CollectorState.{CollectorState, made}
use Rattle.recv_reading.specs.declared.options.ReceiveOptions.{ReceiveOptions}
use Rattle.recv_reading.specs.Values.{receive_options}
use Rattle.drm_links.specs.Calls.{is_up}
use Rattle.drm_gate.specs.declared.gate.GateOptions.{GateOptions}

-- its collector, and the carry under which it sends
pub record Gateway : Type 0 where
  pub collector : CollectorState
  pub carry : Carry

-- nothing was taken yet
pub record IsNewGateway (gate : Gateway) : Type 0 where
  pub some : 1 ≤ gate.collector.window
  pub few : gate.collector.window ≤ 64
  pub is : gate.collector ≡ made gate.collector.window gate.collector.reach gate.collector.first

-- what a call reads by: from its new collector and its options
abbrev pub rules_of : CollectorState → GateOptions → ReceiveOptions
rules_of c options = receive_options c.window c.reach c.first options.frames options.idle options.limit

-- each number of the options is in its range
pub record AreGateOptionsInRange (options : GateOptions) : Type 0 where
  pub idle : 0 < options.idle
  pub limit : 0 < options.limit
  pub some_frames : IfSome options.frames (λ n. 0 < n)
  pub few_frames : IfSome options.frames (λ n. n ≤ 3000000)

-- no link has failed
abbrev pub AllUp : List Bool → Type 0
AllUp up = (k : ℕ) → k < length up → is_up up k ≡ true
