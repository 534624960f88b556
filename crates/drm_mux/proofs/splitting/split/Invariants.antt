use Rattle.std.proofs.Common.{◌≡◌, ◌+◌, ◌++◌, length, take, drop}
use Rattle.std.specs.List.{sum_by}
use Rattle.drm_bits.specs.declared.description.Part.{Part}
use Rattle.drm_mux.specs.Frame.{part_length}
use Rattle.drm_mux.specs.Streams.{joined, parts_a_length}
use Rattle.drm_mux.proofs.StreamLemmas.{streams_of}
use Rattle.drm_mux.proofs.splitting.split.Given as goal

-- the streams before this one are written, and the others are still to come
abbrev pub invariant-loop-part : goal.invariant-loop-part
invariant-loop-part l =
    record {
      size : length l.into ≡ length l.fn.into;
      left_a : l.from_a + parts_a_length (drop l.part-index l.desc.parts) ≡ parts_a_length l.desc.parts;
      left_b : l.from_b + sum_by (λ (p : Part). p.b) (drop l.part-index l.desc.parts) ≡ length l.frame;
      left : l.at + sum_by part_length (drop l.part-index l.desc.parts) ≡ length l.frame;
      done : take l.at l.into ++ joined (streams_of l.frame (drop l.part-index l.desc.parts) l.from_a l.from_b) ≡ joined (streams_of l.frame l.desc.parts 0 (parts_a_length l.desc.parts));
    }
