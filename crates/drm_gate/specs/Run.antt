-- A run of a gateway.
use Rattle.std.specs.Prelude.{ℕ, ◌≡◌, ◌≤◌, ◌⊎◌, Bool, true, List, [], length}
use Rattle.dcp_pft.specs.declared.carry.Carry.{Carry}
use Rattle.drm_links.specs.Link.{Answer}
use Rattle.drm_links.specs.History.{GroupEvent}
use Rattle.drm_links.specs.Calls.{is_up, NoneUp}
use Rattle.recv_reading.specs.declared.reason.EndWord.{EndWord}
use Rattle.recv_reading.specs.declared.options.ReceiveOptions.{ReceiveOptions}
use Rattle.recv_reading.specs.Ending.{datagrams, ReadingGoesOn, IsFinished, IsReadingBroken, most_answers}
use Rattle.drm_gate.specs.declared.tally.Tally.{Tally}
use Rattle.drm_gate.specs.declared.gate.GateEnded.{GateEnded}
use Rattle.drm_gate.specs.declared.gate.GateEnded.TheVariants.{Done, SomeFailed, FromFailed, ToFailed}
use Rattle.drm_gate.specs.Gateway.{AllUp}
use Rattle.drm_gate.specs.Passing.{Outcome}
use Rattle.drm_gate.specs.Relaying.{IsOnward, AreReadyOutcomes, SomeBecome, RelaysPackets}
use Rattle.drm_gate.specs.Tallies.{tally_of, over}

-- so many datagrams a gateway takes, at the most
abbrev pub most_taken : ℕ
most_taken = 4294967295

-- What was heard was finished, and this has become of it.
abbrev pub PassesAll : ReceiveOptions → Carry → List Answer → List Outcome → Type 0
PassesAll rules carry answers fates = ((word : EndWord) × IsFinished rules answers word) × IsOnward rules carry (datagrams answers) fates

-- What was heard ended in `Failed`, and this has become of what was ready before.
abbrev pub BreaksOff : ReceiveOptions → Carry → List Answer → List Outcome → Type 0
BreaksOff rules carry answers fates = (before : List Answer) × IsReadingBroken rules before answers × AreReadyOutcomes rules carry (datagrams before) fates

-- some link hasn't failed
abbrev pub SomeUp : List Bool → Type 0
SomeUp up = (k : ℕ) × (is_up up k ≡ true)

-- What each ending says. Where no link failed, what was counted for one of them was counted for all.
abbrev pub GateEndsAs : ReceiveOptions → Carry → List Answer → List Outcome → List Bool → GateEnded → Type 0
GateEndsAs rules carry answers fates up (Done tally) = AllUp up × PassesAll rules carry answers fates × (tally ≡ over (length up) (tally_of fates))
GateEndsAs rules carry answers fates up SomeFailed = (AllUp up → ⊥) × SomeUp up × PassesAll rules carry answers fates
GateEndsAs rules carry answers fates up FromFailed = SomeUp up × BreaksOff rules carry answers fates
GateEndsAs rules carry answers fates up ToFailed = NoneUp up × ReadingGoesOn rules answers × SomeBecome rules carry answers fates

-- A run of a gateway: what was heard, what has become of it, and that just what this calls for happened.
pub record GateRun (rules : ReceiveOptions) (carry : Carry) (up up' : List Bool) (Happened : List GroupEvent → Type 0) (ended : GateEnded) : Type 0 where
  pub answers : List Answer
  pub few : length answers ≤ most_answers rules
  pub fates : List Outcome
  pub events : List GroupEvent
  pub relays : RelaysPackets rules carry (length up) [] [] up answers fates events up'
  pub happened : Happened events
  pub ends : GateEndsAs rules carry answers fates up' ended

-- how a run ends in which all was passed on that was to be
abbrev pub CountsOver : List Bool → Tally → GateEnded → Type 0
CountsOver up tally ended = (AllUp up × (ended ≡ Done (over (length up) tally))) ⊎ ((AllUp up → ⊥) × (ended ≡ SomeFailed))
