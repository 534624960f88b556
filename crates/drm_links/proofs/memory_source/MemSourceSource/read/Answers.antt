use Rattle.drm_links.proofs.MemoryCalls.{read_bytes, read_counts, read_cause}
use Rattle.drm_links.proofs.memory_source.MemSourceSource.read.Goals as goal

pub returns : goal.returns
returns c =
    let exact = c.read_next.ensures.exact in
    record {
      exact = exact;
      moves_bytes = c.read_next.ensures.moves_bytes;
      bytes = read_bytes _ _ _ _ _ exact;
      counts_call = read_counts _ _ _ _ _ exact;
      cause = read_cause _ _ _ _ _ exact;
    }
