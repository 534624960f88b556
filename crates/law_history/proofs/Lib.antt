pub mod OneLemmas
pub mod AloneLinks
pub mod Together
