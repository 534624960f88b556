-- A gateway over a group of links that is opened in a dock, and closed again.
use Rattle.std.specs.Prelude.{ℕ, ◌≡◌, ◌≤◌, ◌⊎◌, Bool, true, List, length, replicate, Some, Result, Ok, Err, IsErr}
use Rattle.dcp_pft.specs.declared.carry.Carry.{Carry}
use Rattle.drm_links.specs.Link.{Answer}
use Rattle.drm_links.specs.Hearing.{AreNext}
use Rattle.drm_links.specs.Dock.{DockContents}
use Rattle.drm_links.specs.History.{History, GroupTells}
use Rattle.drm_links.specs.Gathering.{GroupStarts, GathersNone, after_gathering, after_disbanding}
use Rattle.drm_links.specs.declared.dock.Address.{Address}
use Rattle.drm_links.specs.declared.link.LinkFault.{LinkFault}
use Rattle.recv_reading.specs.declared.reason.EndWord.{EndWord}
use Rattle.recv_reading.specs.declared.options.ReceiveOptions.{ReceiveOptions}
use Rattle.recv_reading.specs.Options.{AreInRange}
use Rattle.recv_reading.specs.Ending.{datagrams, IsFinished, most_answers}
use Rattle.drm_links.specs.Listed.{AreListed}
use Rattle.drm_gate.specs.Gateway.{Gateway, IsNewGateway}
use Rattle.drm_gate.specs.declared.tally.Tally.{Tally}
use Rattle.drm_gate.specs.declared.gate.GateEnded.{GateEnded}
use Rattle.drm_gate.specs.declared.gate.GateOptions.{GateOptions}
use Rattle.drm_gate.specs.declared.gate.GateEnded.TheVariants as ended
use Rattle.drm_gate.specs.Passing.{Outcome}
use Rattle.drm_gate.specs.Relaying.{IsOnward}
use Rattle.drm_gate.specs.Run.{GateRun}

-- What a run between links stands on: a new gateway that goes by these rules, addresses that are listed, and a buffer for a datagram.
pub record IsSetUp (gateway : Gateway) (rules : ReceiveOptions) (to : List Address) (buffer : ℕ) : Type 0 where
  pub new : IsNewGateway gateway
  pub in_range : AreInRange rules
  pub window : gateway.collector.window ≡ rules.window
  pub reach : gateway.collector.reach ≡ rules.reach
  pub first : gateway.collector.first ≡ rules.first
  pub listed : AreListed to
  pub long : 65536 ≤ buffer

-- ---- what is ahead

-- these are the first of the answers ahead of a link
abbrev pub AreAhead : List Answer → List Answer → Type 0
AreAhead ahead answers = (rest : List Answer) × AreNext ahead answers rest

-- Of what is ahead this is read, which is finished, and this becomes of it.
pub record IsRelayed (rules : ReceiveOptions) (carry : Carry) (ahead : List Answer) (fates : List Outcome) : Type 0 where
  pub answers : List Answer
  pub heard : AreAhead ahead answers
  pub few : length answers ≤ most_answers rules
  pub word : EndWord
  pub reading : IsFinished rules answers word
  pub onward : IsOnward rules carry (datagrams answers) fates

-- ---- what happens

-- A gateway ran over the group that was opened at these addresses: it starts as the links stand, with none of them failed. It was closed
-- again, and all that happened at it is told.
pub record GateRunsAt (rules : ReceiveOptions) (carry : Carry) (from : Address) (to : List Address) (ended : GateEnded) (before after : DockContents) : Type 0 where
  pub start : History
  pub starts : GroupStarts (Some from) to before start
  pub up : List Bool
  pub end : History
  pub faults : ℕ
  pub run : GateRun rules carry (replicate (length to) true) up (λ events. GroupTells events (record { faults = 0; contents = Some start }) (record { faults = faults; contents = Some end })) ended
  pub contents : after ≡ after_disbanding (Some from) to end.events (after_gathering (Some from) to before)

-- by what it reads
abbrev pub options_of : ReceiveOptions → GateOptions
options_of rules = record { frames = rules.frames; idle = rules.idle; limit = rules.limit }

-- what was counted, or that a link failed
abbrev pub passed_of : GateEnded → Result Tally LinkFault
passed_of (ended.Done tally) = Ok tally
passed_of ended.SomeFailed = Err (record {})
passed_of ended.FromFailed = Err (record {})
passed_of ended.ToFailed = Err (record {})

-- What a dock tells: an opening failed, and the links that were opened are closed; or a gateway ran over the group that was opened.
abbrev pub RelaysOverLinks : ReceiveOptions → Carry → Address → List Address → Result Tally LinkFault → DockContents → DockContents → Type 0
RelaysOverLinks rules carry from to passed before after =
    (IsErr passed × GathersNone (Some from) to before after)
    ⊎ ((ended : GateEnded) × (passed ≡ passed_of ended) × GateRunsAt rules carry from to ended before after)
