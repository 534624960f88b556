use Rattle.std.proofs.Common.{◌≡◌, ℕ, ◌<◌, get_or}
use Rattle.drm_mux.specs.Frame.{stream_length}
use Rattle.drm_mux.proofs.streams.check_streams.Given as goal

-- the streams before this one have their lengths
abbrev pub invariant-loop-stream : goal.invariant-loop-stream
invariant-loop-stream l = (k : ℕ) → k < l.stream → get_or l.spans.len k 0 ≡ stream_length l.desc k
