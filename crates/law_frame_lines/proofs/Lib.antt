pub mod StreamLemmas
pub mod BlockLemmas
pub mod LineLemmas
