use Rattle.std.proofs.Common.{ℕ, ◌≡◌, ◌<◌, get_or}
use Rattle.rs_erase.specs.Short.{coded_byte}
use Rattle.rs_erase.specs.declared.first_remainders.TheConstants.{FIRST_REMAINDERS}
use Rattle.rs_erase.proofs.short_chunks.has_bytes.Given as goal

-- the first known bytes are
abbrev pub invariant-loop-i : goal.invariant-loop-i
invariant-loop-i l =
    (n : ℕ) → n < l.i → coded_byte FIRST_REMAINDERS l.chunk l.k (get_or l.known n 0) ≡ get_or l.bytes (get_or l.known n 0) 0
