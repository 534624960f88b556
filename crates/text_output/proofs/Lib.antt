pub mod TextLemmas
pub mod GatheringLemmas
mod LookedUp
mod Pairs
