-- Room for lines, as a sink.
use Rattle.std.specs.Prelude.{ℕ, List}
use Rattle.drm_links.specs.Known.{Known, contents_for}
use Rattle.drm_links.specs.Sink.{Output}

-- what lies in it, the calls since it was cleared, and how many calls failed
pub record LinesState : Type 0 where
  pub bytes : List ℕ
  pub calls : ℕ
  pub faults : ℕ

abbrev pub lines_known : LinesState → Known Output
lines_known lines =
    record { faults = lines.faults; contents = contents_for lines.calls (record { written = lines.bytes; calls = lines.calls }) }
