pub mod PassingLemmas
pub mod ReadingLemmas
pub mod RunLemmas
