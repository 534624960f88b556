-- Links that are opened, for receivers.
use Rattle.std.specs.Prelude.{ℕ, ◌≡◌, ◌<◌, ◌⊎◌, List, length, map, true, slice_index_or}
use Rattle.drm_links.specs.Known.{Known}
use Rattle.drm_links.specs.Link.{Traffic}
use Rattle.drm_links.specs.Dock.{DockContents, HasLink}
use Rattle.drm_links.specs.declared.dock.Address.{Address}
use Rattle.cmd_faults.specs.declared.fault.Fault.{Fault}
use Rattle.cmd_faults.specs.declared.fault.Fault.TheVariants as faults
use Rattle.recv_report.specs.declared.receiver.Receiver.{Receiver}
use Rattle.drm_links.specs.declared.member.Member.{Member}
use Rattle.drm_links.specs.Binding.{BindsFew, StopsBehind}

-- the receivers have the links of these addresses, in their order
abbrev pub HaveLinks : {L : Type 0} → (L → Known Traffic) → DockContents → List Address → List (Receiver L) → Type 0
HaveLinks {L} known contents addresses receivers =
    (k : ℕ) (at : Address) (none : Receiver L) → k < length addresses
    → HasLink known contents k (slice_index_or addresses k at) (slice_index_or receivers k none).link

-- a receiver's link
abbrev pub member_of : {L : Type 0} → Receiver L → Member L
member_of receiver = record { link = receiver.link; up = true }

abbrev pub members_of : {L : Type 0} → List (Receiver L) → List (Member L)
members_of receivers = map (λ receiver. member_of receiver) receivers

-- Opening ends for want of memory, or by an opening that failed.
abbrev pub EndsOpening : Fault → Type 0
EndsOpening fault = (fault ≡ faults.NoMemory) ⊎ (fault ≡ faults.Link)

-- what the dock tells then
abbrev pub StopsOpening : List Address → Fault → DockContents → DockContents → Type 0
StopsOpening addresses fault before after =
    ((fault ≡ faults.NoMemory) × StopsBehind addresses before after) ⊎ ((fault ≡ faults.Link) × BindsFew addresses before after)
