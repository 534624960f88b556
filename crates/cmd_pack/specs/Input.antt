-- An input that is read whole, if it isn't too long.
use Rattle.std.specs.Prelude.{ℕ, List}
use Rattle.drm_links.specs.Known.{Known}
use Rattle.drm_links.specs.Source.{Input}
use Rattle.cmd_input.specs.Input.{ReadsFirstBytes}

-- The whole file is read, and of one that is too long one byte more than it may have.
abbrev pub ReadsFile : List ℕ → Known Input → Known Input → Type 0
ReadsFile bytes before after = ReadsFirstBytes 16777217 bytes before after
