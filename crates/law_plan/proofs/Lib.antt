pub mod AgainLemmas
pub mod ConfigLemmas
pub mod ProjectionLemmas
pub mod CanonicalLaw
pub mod PlanLaw
pub mod GivenLaw
pub mod AttachLaw
pub mod WholeLaw
