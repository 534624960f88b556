use Rattle.drm_links.proofs.MemoryCalls.{load_within, load_file, load_keeps, load_counts, load_cause}
use Rattle.drm_links.proofs.memory_shelf.MemShelfShelf.load.Goals as goal

pub returns : goal.returns
returns c =
    let loads = c.take_load.ensures.loads in
    let exact = c.take_load.ensures.exact in
    record {
      loads = loads;
      exact = exact;
      within = load_within _ _ _ _ loads;
      file = load_file _ _ _ _ exact _ loads;
      kept = load_keeps _ _ _ _ exact;
      counts_call = load_counts _ _ _ _ exact;
      cause = load_cause _ _ _ _ exact;
    }
