pub mod ListLemmas
pub mod TextLemmas
pub mod PlanLemmas
pub mod LookupLemmas
pub mod FileLemmas
pub mod CountLemmas
pub mod BlockLemmas
