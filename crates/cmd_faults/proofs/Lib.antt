pub mod StatusLemmas
pub mod CauseLemmas
pub mod CaptureLemmas
