-- Links that are opened, one for each path, and closed again.
use Rattle.std.specs.Prelude.{ℕ, ◌≡◌, ◌<◌, true, List, length, map, slice_index_or}
use Rattle.drm_links.specs.Known.{Known}
use Rattle.drm_links.specs.Link.{Traffic}
use Rattle.drm_links.specs.Dock.{DockContents, Over, HasLink}
use Rattle.drm_links.specs.declared.dock.Address.{Address}
use Rattle.drm_links.specs.Gathering.{after_closes}
use Rattle.drm_links.specs.Members.{HaveGone}
use Rattle.drm_links.specs.declared.member.Member.{Member}

-- the links are those of these addresses, in their order
abbrev pub HaveLinks : {L : Type 0} → (L → Known Traffic) → DockContents → List Address → List L → Type 0
HaveLinks {L} known contents addresses links =
    (k : ℕ) (at : Address) (none : L) → k < length addresses
    → HasLink known contents k (slice_index_or addresses k at) (slice_index_or links k none)

abbrev pub member_of : {L : Type 0} → L → Member L
member_of link = record { link = link; up = true }

-- what a dock tells once these links are closed at these addresses
abbrev pub IsClosed : {L : Type 0} → (L → Known Traffic) → List Address → List L → DockContents → DockContents → Type 0
IsClosed known addresses links before after =
    (overs : List Over) → HaveGone known (map (λ link. member_of link) links) overs → after ≡ after_closes overs addresses before
