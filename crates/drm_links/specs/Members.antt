-- The links of a group.
use Rattle.std.specs.Prelude.{ℕ, ◌≡◌, ◌<◌, true, List, length, slice_index_or, All, Some}
use Rattle.drm_links.specs.Known.{Known}
use Rattle.drm_links.specs.Link.{Traffic}
use Rattle.drm_links.specs.Dock.{DockContents, Over, over_of, HasLink, IsNewLink}
use Rattle.drm_links.specs.declared.dock.Address.{Address}
use Rattle.drm_links.specs.declared.member.Member.{Member}

-- the members have the links of these addresses, in their order
abbrev pub HaveLinks : {L : Type 0} → (L → Known Traffic) → DockContents → List Address → List (Member L) → Type 0
HaveLinks {L} known contents addresses members =
    (k : ℕ) (at : Address) (none : Member L) → k < length addresses
    → HasLink known contents k (slice_index_or addresses k at) (slice_index_or members k none).link

-- no link has failed
abbrev pub AreUp : {L : Type 0} → List (Member L) → Type 0
AreUp members = All (λ member. member.up ≡ true) members

-- no call was made on any
abbrev pub AreNew : {L : Type 0} → (L → Known Traffic) → (L → ℕ) → List (Member L) → Type 0
AreNew known idles members = All (λ member. IsNewLink known idles member.link) members

-- this went over a link that tells it
abbrev pub HasGone : {L : Type 0} → (L → Known Traffic) → L → Over → Type 0
HasGone known link over = (traffic : Traffic) × ((known link).contents ≡ Some traffic) × (over_of traffic ≡ over)

-- and over each of several
pub record HaveGone {L : Type 0} (known : L → Known Traffic) (members : List (Member L)) (overs : List Over) : Type 0 where
  pub as_many : length overs ≡ length members
  pub each : (k : ℕ) (d : Member L) (none : Over) → k < length members → HasGone known (slice_index_or members k d).link (slice_index_or overs k none)
