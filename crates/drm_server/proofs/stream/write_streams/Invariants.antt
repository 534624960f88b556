use Rattle.std.proofs.Common.{◌≡◌, ◌≤◌, ◌++◌, length, drop, sum_by, ◌+◌}
use Rattle.mdi_items.specs.Names.{sdc_, str}
use Rattle.mdi_items.specs.Written.{written, behind, next, lender}
use Rattle.drm_schedule.specs.Sizes.{stream_size}
use Rattle.live_streams.specs.Live.{size_from}
use Rattle.drm_server.proofs.PieceLemmas.{left_with}
use Rattle.drm_server.proofs.stream.write_streams.Given as goal

-- what is written, and what the streams left will be written as, are the whole; there is room for these, and enough of the piece
abbrev pub invariant-loop-k : goal.invariant-loop-k
invariant-loop-k l =
    (written l.writer ++ left_with l.live l.frame l.k l.left (drop l.k l.streams) ≡ written l.fn.writer ++ left_with l.live l.frame 0 l.piece l.streams)
    × (sum_by (λ s. 8 + stream_size s) (drop l.k l.streams) ≤ length (behind l.writer))
    × (length (behind l.writer) + sum_by (λ s. 8 + stream_size s) l.streams ≡ length (behind l.fn.writer) + sum_by (λ s. 8 + stream_size s) (drop l.k l.streams))
    × (sdc_ ≤ next l.writer)
    × (next l.writer ≤ str l.k)
    × (lender l.writer ≡ lender l.fn.writer)
    × (size_from l.live l.k (drop l.k l.streams) ≤ length l.left)
