use Rattle.std.proofs.Common.{◌≡◌, ◌+◌, ◌++◌, length, take, drop}
use Rattle.drm_mux.specs.Frame.{frame_length}
use Rattle.drm_mux.specs.Ranges.{ranges}
use Rattle.drm_mux.proofs.RangeLemmas.{cut, total}
use Rattle.drm_mux.proofs.streams.assemble.Given as goal

-- what stands at the ranges before this one is written, and the others are still to come
abbrev pub invariant-loop-index : goal.invariant-loop-index
invariant-loop-index l =
    record {
      size : length l.into ≡ length l.fn.into;
      room : l.at + total (drop l.index (ranges l.desc l.spans)) ≡ frame_length l.desc;
      done : take l.at l.into ++ cut l.buffer (drop l.index (ranges l.desc l.spans)) ≡ cut l.buffer (ranges l.desc l.spans);
      rest : drop l.at l.into ≡ drop l.at l.fn.into;
    }
