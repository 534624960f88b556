pub mod TagLemmas
pub mod PlaceLemmas
pub mod WriteLemmas
pub mod WrittenLemmas
