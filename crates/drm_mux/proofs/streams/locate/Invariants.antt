use Rattle.std.proofs.Common.{◌≡◌, ◌<◌, ℕ, List, length, drop, get_or}
use Rattle.drm_mux.specs.Frame.{EndBy}
use Rattle.drm_mux.specs.Ranges.{ranges}
use Rattle.drm_mux.proofs.RangeLemmas.{cut, total}
use Rattle.drm_mux.proofs.streams.locate.Given as goal

-- the byte stands `rest` bytes behind the beginning of this range
abbrev pub invariant-loop-index : goal.invariant-loop-index
invariant-loop-index l =
    record {
      within : l.rest < total (drop l.index (ranges l.desc l.spans));
      byte : (buffer : List ℕ) → EndBy (length buffer) l.spans → get_or (cut buffer (drop l.index (ranges l.desc l.spans))) l.rest 0 ≡ get_or (cut buffer (ranges l.desc l.spans)) l.place 0;
    }
