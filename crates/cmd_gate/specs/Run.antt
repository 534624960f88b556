-- The command `gate`: what comes over one link goes out over others, under another carry.
use Rattle.std.specs.Prelude.{ℕ, ◌≡◌, ◌<◌, ◌⊎◌, ◌↔◌, Bool, List, length, slice_index_or, Option, Some, Result, Ok, Err}
use Rattle.std.specs.FinMap as map
use Rattle.dcp_pft.specs.declared.carry.Carry.{Carry}
use Rattle.drm_links.specs.Known.{HasFailed, Known, HasCause, KnownThrough}
use Rattle.drm_links.specs.Link.{Answer}
use Rattle.drm_links.specs.Sink.{Output, OutputsText, IsPrefix}
use Rattle.drm_links.specs.Dock.{DockContents, LinkStart, address_key, after_opening, OpeningFinds}
use Rattle.drm_links.specs.Transmission.{TakesSends, TakesFewer}
use Rattle.drm_links.specs.declared.dock.Address.{Address}
use Rattle.drm_links.specs.declared.link.LinkFault.{LinkFault}
use Rattle.recv_reading.specs.declared.options.ReceiveOptions.{ReceiveOptions}
use Rattle.recv_reading.specs.OneReading.{BreaksOff}
use Rattle.cmd_faults.specs.Fault.{UnlessMemory}
use Rattle.cmd_faults.specs.Causes.{OpeningFailed}
use Rattle.cmd_faults.specs.declared.fault.Fault.{Fault}
use Rattle.cmd_faults.specs.declared.fault.Fault.TheVariants as faults
use Rattle.drm_gate.specs.declared.tally.Tally.{Tally}
use Rattle.drm_gate.specs.Passing.{Outcome, sent_of}
use Rattle.drm_gate.specs.Tallies.{tally_of, over}
use Rattle.cmd_gate.specs.Line.{gate_line, is_clean}
use Rattle.cmd_gate.specs.Opening.{FailsOpening}
use Rattle.cmd_gate.specs.Between.{IsRelayed, RelaysOverLinks}

-- How the run ends, and what is written: where all was counted the line of it, or after a failed write a front of that; where a link
-- failed nothing.
abbrev pub WritesTally : {O : Type 0} → Result Tally LinkFault → Result Bool Fault → (O → Known Output) → O → O → Type 0
WritesTally (Ok tally) ending known out out' =
    ((ending ≡ Ok (is_clean tally)) × OutputsText (known out) (known out') (λ text. text ≡ gate_line tally))
    ⊎ ((ending ≡ Err faults.Write) × OutputsText (known out) (known out') (IsPrefix (gate_line tally)))
WritesTally (Err fault) ending known out out' = (ending ≡ Err faults.Link) × (out' ≡ out)

-- A run that came to its links.
pub record LinksRun {D O : Type 0} (rules : ReceiveOptions) (carry : Carry) (from : Address) (to : List Address) (ending : Result Bool Fault)
    (dock_known : D → Known DockContents) (dock dock' : D) (out_known : O → Known Output) (out out' : O) : Type 0 where
  -- what was counted, or that a link failed
  pub passed : Result Tally LinkFault
  pub contents : KnownThrough (dock_known dock) (dock_known dock') (RelaysOverLinks rules carry from to passed)
  pub writes : WritesTally passed ending out_known out out'

-- memory was wanting: nothing was opened, nothing written
abbrev pub NoRun : {D O : Type 0} → Result Bool Fault → D → D → O → O → Type 0
NoRun ending dock dock' out out' = (ending ≡ Err faults.NoMemory) × (dock' ≡ dock) × (out' ≡ out)

-- ---- when a link fails

-- A link takes fewer sends than what becomes of the answers ahead of another one has datagrams.
abbrev pub LacksSends : ReceiveOptions → Carry → List Answer → Option ℕ → Type 0
LacksSends rules carry ahead sends = (fates : List Outcome) → IsRelayed rules carry ahead fates → TakesFewer sends (length (sent_of fates))

-- The link that is opened at one of these addresses does.
pub record LacksSome (rules : ReceiveOptions) (carry : Carry) (ahead : List Answer) (contents : DockContents) (to : List Address) : Type 0 where
  pub k : ℕ
  pub within : k < length to
  pub lacks : (at : Address) → (start : LinkStart) × OpeningFinds contents k (slice_index_or to k at) start × LacksSends rules carry ahead start.sends

-- An opening fails; or what is ahead of the link that is read breaks off, or one of the others takes too few sends.
abbrev pub FailsGate : ReceiveOptions → Carry → Address → List Address → DockContents → Type 0
FailsGate rules carry from to contents =
    FailsOpening contents from to
    ⊎ ((source : LinkStart) × OpeningFinds contents 0 from source
    × (BreaksOff rules source.ahead ⊎ LacksSome rules carry source.ahead (after_opening from contents) to))

-- ---- the whole run

-- All that becomes of what was ahead of the link that is read has gone at this address.
abbrev pub HasAll : List Outcome → List Address → ℕ → DockContents → Type 0
HasAll fates to k after = (at : Address) → map.get after.gone (address_key (slice_index_or to k at)) ≡ Some (sent_of fates)

-- It has gone at each address, and the line of it is written.
pub record PassedAll {O : Type 0} (rules : ReceiveOptions) (carry : Carry) (from : Address) (to : List Address) (ending : Result Bool Fault) (before after : DockContents)
    (known : O → Known Output) (out out' : O) : Type 0 where
  pub source : LinkStart
  pub finds : OpeningFinds before 0 from source
  pub fates : List Outcome
  pub passed : IsRelayed rules carry source.ahead fates
  pub gone : (k : ℕ) → k < length to → HasAll fates to k after
  pub line : OutputsText (known out) (known out') (λ text. text ≡ gate_line (over (length to) (tally_of fates)))
  pub clean : ending ≡ Ok (is_clean (tally_of fates))

-- A run of `gate`.
pub record GateCommandRun {D O : Type 0} (rules : ReceiveOptions) (carry : Carry) (from : Address) (to : List Address) (ending : Result Bool Fault)
    (dock_known : D → Known DockContents) (dock dock' : D) (out_known : O → Known Output) (out out' : O) : Type 0 where
  pub run : NoRun ending dock dock' out out' ⊎ LinksRun rules carry from to ending dock_known dock dock' out_known out out'
  -- It ends well, or for want of memory, by a failed link or by a failed write.
  pub kind : (fault : Fault) → ending ≡ Err fault → (fault ≡ faults.NoMemory) ⊎ (fault ≡ faults.Link) ⊎ (fault ≡ faults.Write)
  -- After want of memory nothing was opened or written.
  pub untouched : ending ≡ Err faults.NoMemory → (dock' ≡ dock) × (out' ≡ out)
  -- It fails by a link exactly where an opening fails, what is read of the first link ends in `Failed`, or one of the others takes
  -- fewer sends than what becomes of what is read has datagrams.
  pub exactly : KnownThrough (dock_known dock) (dock_known dock') (λ contents _. UnlessMemory ending ((ending ≡ Err faults.Link) ↔ FailsGate rules carry from to contents))
  -- Where no opening fails, all has gone over each link that takes all, whatever becomes of the others.
  pub each : KnownThrough (dock_known dock) (dock_known dock') (λ before after. (FailsOpening before from to → ⊥)
      → (source : LinkStart) (fates : List Outcome) → OpeningFinds before 0 from source → IsRelayed rules carry source.ahead fates
      → (k : ℕ) (at : Address) (start : LinkStart) → k < length to → OpeningFinds (after_opening from before) k (slice_index_or to k at) start
      → TakesSends start.sends (length (sent_of fates)) → UnlessMemory ending (HasAll fates to k after))
  -- Where no link and no write fails, all has gone over each, and the line of it is written.
  pub complete : (HasFailed (out_known out) (out_known out') → ⊥)
      → KnownThrough (dock_known dock) (dock_known dock') (λ before after. (FailsGate rules carry from to before → ⊥)
      → UnlessMemory ending (PassedAll rules carry from to ending before after out_known out out'))
  -- After a run that ends well the same has gone at each address.
  pub alike : (clean : Bool) → ending ≡ Ok clean → KnownThrough (dock_known dock) (dock_known dock') (λ _ after. (j k : ℕ) (at : Address) → j < length to → k < length to
      → map.get after.gone (address_key (slice_index_or to j at)) ≡ map.get after.gone (address_key (slice_index_or to k at)))
  -- The dock's count of faults rose, by one, only where an opening ended the run, and that of out exactly where a write did.
  pub dock_cause : OpeningFailed (dock_known dock) (dock_known dock') (ending ≡ Err faults.Link)
  pub write_cause : HasCause (out_known out) (out_known out') (ending ≡ Err faults.Write)
