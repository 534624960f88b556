use Rattle.std.proofs.Common.{◌≡◌, ◌++◌, drop}
use Rattle.drm_plan.specs.Files.{stream_files}
use Rattle.drm_plan.proofs.files.put_files.Given as goal

abbrev pub invariant-loop-stream : goal.invariant-loop-stream
invariant-loop-stream l = l.files ++ stream_files l.config l.stream (drop l.stream l.streams) ≡ l.fn.files ++ stream_files l.config 0 l.streams
