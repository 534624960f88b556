use Rattle.std.proofs.Common.{◌≡◌, ℕ, ◌+◌, ◌*◌, ◌≤◌, ◌<◌, ◌∙◌, ap, arith}
use Rattle.std.specs.Int.{div_ceil}
use Rattle.dcp_pft.specs.Limits.{longest_packet}
use Rattle.dcp_pft.specs.Cutting.{chunk_count, chunk_size, coded_size}
use Rattle.dcp_pft.proofs.Sizes.{fits_is, chunks_are, coded_small, coded_some}
use Rattle.dcp_pft.proofs.shape.coded.Goals as goal
use Rattle.dcp_pft.proofs.shape.coded.Goals.{After-div_ceil-k}

-- so many chunks of so many bytes
record AreChunks (len chunks k : ℕ) : Type 0 where
  pub few : chunks ≤ 159
  pub size : k ≤ 207
  pub holds : len ≤ chunks * k
  pub little : chunks * k < len + chunks
  pub fill : chunks * k < len + k
  pub coded : chunks * (k + 48) ≤ 40558
  pub some : 0 < chunks * (k + 48)

are_chunks : (len chunks k : ℕ) → 1 ≤ len → len ≤ longest_packet → chunks ≡ div_ceil len 207 → k ≡ div_ceil len chunks → AreChunks len chunks k
unfolding chunk_count chunk_size coded_size
are_chunks len chunks k some small is_count is_size =
    let are = chunks_are len some small in
    let same : k ≡ chunk_size len = is_size ∙ ap (div_ceil len) is_count in
    rw (is_count, same) (record { few = are.few; size = are.size_few; holds = are.holds; little = are.little; fill = are.fill; coded = coded_small len some small; some = coded_some len some })

chunks : (c : After-div_ceil-k) → AreChunks c.args.len c.div_ceil-chunks.result c.div_ceil-k.result
chunks c =
    let fits = fits_is c.args.len c.args.m c.args.mtu c.requires.at_least_one c.requires.in_range c.requires.least in
    are_chunks c.args.len c.div_ceil-chunks.result c.div_ceil-k.result fits.some fits.small c.div_ceil-chunks.ensures c.div_ceil-k.ensures

pub overflow_mul-chunks : goal.overflow_mul-chunks
overflow_mul-chunks c = let are = chunks c in omega (arith, are.few)

pub overflow_cast-rs : goal.overflow_cast-rs
overflow_cast-rs c = let are = chunks (goal.at.overflow_cast-rs c).After-div_ceil-k in omega (arith, are.size)

pub overflow_mul-rs : goal.overflow_mul-rs
overflow_mul-rs c = let are = chunks (goal.at.overflow_mul-rs c).After-div_ceil-k in omega (arith, are.little, are.few)

pub overflow_sub-rs : goal.overflow_sub-rs
overflow_sub-rs c = let are = chunks (goal.at.overflow_sub-rs c).After-div_ceil-k in omega (arith, are.holds)

pub overflow_cast-rs-2 : goal.overflow_cast-rs-2
overflow_cast-rs-2 c = let are = chunks (goal.at.overflow_cast-rs-2 c).After-div_ceil-k in omega (arith, are.fill, are.size)

pub overflow_mul-chunks-2 : goal.overflow_mul-chunks-2
overflow_mul-chunks-2 c = let are = chunks (goal.at.overflow_mul-chunks-2 c).After-div_ceil-k in omega (arith, are.coded)

pub equal_pieces-requires-clause-at_least_one : goal.equal_pieces-requires-clause-at_least_one
equal_pieces-requires-clause-at_least_one c = let are = chunks (goal.at.equal_pieces-requires-clause-at_least_one c).After-div_ceil-k in omega (arith, are.some)

pub equal_pieces-requires-clause-in_range : goal.equal_pieces-requires-clause-in_range
equal_pieces-requires-clause-in_range c = let are = chunks (goal.at.equal_pieces-requires-clause-in_range c).After-div_ceil-k in omega (arith, are.coded)
