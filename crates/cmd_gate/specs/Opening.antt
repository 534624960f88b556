-- Links that are opened, one to read and others to send over.
use Rattle.std.specs.Prelude.{◌⊎◌, List}
use Rattle.drm_links.specs.Dock.{DockContents, LinkStart, after_opening, OpeningFinds, FindsNone}
use Rattle.drm_links.specs.Gathering.{ReachesNone}
use Rattle.drm_links.specs.declared.dock.Address.{Address}

-- an opening fails: that of the link that is read, or one of the others behind it
abbrev pub FailsOpening : DockContents → Address → List Address → Type 0
FailsOpening contents from to = FindsNone contents 0 from ⊎ ((source : LinkStart) × OpeningFinds contents 0 from source × ReachesNone (after_opening from contents) to)
