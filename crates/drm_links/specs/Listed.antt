-- What is known of the addresses that a command line names.
use Rattle.std.specs.Prelude.{◌≤◌, List, length}
use Rattle.drm_links.specs.declared.dock.Address.{Address}
use Rattle.drm_links.specs.Dock.{AreDifferent}

-- one to sixteen addresses, all different
pub record AreListed (addresses : List Address) : Type 0 where
  pub some : 1 ≤ length addresses
  pub few : length addresses ≤ 16
  pub different : AreDifferent addresses
