-- Lines that are written to a sink whose failure changes nothing.
use Rattle.std.specs.Prelude.{ℕ, ◌≡◌, Bool, true, false, List}
use Rattle.drm_links.specs.Known.{Known, HasFailed}
use Rattle.drm_links.specs.Sink.{Output, OutputsText, IsPrefix}

-- The lines were written whole, where `err_ok` still holds: then it held before, and no call failed. Else a front of them was
-- written: one call failed, and nothing was written behind it.
pub record NamesItems (err_ok err_ok' : Bool) (before after : Known Output) (lines : List ℕ) : Type 0 where
  pub held : err_ok' ≡ true → err_ok ≡ true
  pub whole : err_ok' ≡ true → OutputsText before after (λ text. text ≡ lines)
  pub front : OutputsText before after (IsPrefix lines)
  pub still : err_ok ≡ false → after ≡ before
  pub same : err_ok' ≡ true → after.faults ≡ before.faults
  pub once : err_ok ≡ true → err_ok' ≡ false → HasFailed before after
