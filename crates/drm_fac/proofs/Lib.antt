pub mod FacLemmas
pub mod WriteLemmas
pub mod WrittenFac
pub mod OrderLemmas
pub mod ModeLemmas
