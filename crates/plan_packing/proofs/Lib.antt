pub mod PackingLemmas
pub mod PlaceLemmas
pub mod PackedLemmas
