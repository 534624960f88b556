use Rattle.drm_links.proofs.MemoryCalls.{write_appends, write_counts, write_cause}
use Rattle.drm_links.proofs.memory_sink.MemSinkSink.write.Goals as goal

pub returns : goal.returns
returns c =
    let exact = c.write_next.ensures.exact in
    record {
      exact = exact;
      moves_bytes = c.write_next.ensures.moves_bytes;
      appended = write_appends _ _ _ _ exact;
      counts_call = write_counts _ _ _ _ exact;
      cause = write_cause _ _ _ _ exact;
    }
