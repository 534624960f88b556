-- Links that are opened for paths, as what they are the links of.
use Rattle.std.proofs.Common.{◌≡◌, ℕ, List, [], length, map, drop, ap, ◌∙◌, arith}
use Rattle.std.proofs.lemmas.List.{length-drop, length-map}
use Rattle.drm_links.specs.Known.{Known, KnownThrough}
use Rattle.drm_links.specs.Link.{Traffic}
use Rattle.drm_links.specs.Dock.{DockContents}
use Rattle.drm_links.specs.declared.dock.Address.{Address}
use Rattle.drm_links.proofs.CloseLemmas.{Closing, closed_all}
use Rattle.drm_links.proofs.BindLemmas.{as_members, members_many}
use Rattle.cmd_paths.specs.Opening.{IsClosed}

abbrev pub itself : {L : Type 0} → L → L
itself link = link

-- no job is left, so the links of all were closed
pub closed_over : {X L : Type 0} (link_of : X → L) (known : L → Known Traffic) (addresses : List Address) (receivers : List X) (k : ℕ) (a b : Known DockContents) → [] ≡ drop k receivers
    → KnownThrough a b (Closing known (as_members itself (map link_of receivers)) addresses k) → KnownThrough a b (IsClosed known addresses (map link_of receivers))
closed_over link_of known addresses receivers k a b none closing =
    let size = ap length none ∙ length-drop k receivers in
    let mapped = length-map receivers link_of in
    let sized = members_many itself (map link_of receivers) in
    closed_all known (as_members itself (map link_of receivers)) addresses k a b (omega (arith, size, mapped, sized)) closing
