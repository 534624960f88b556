pub mod ItemLemmas
pub mod PartLemmas
pub mod Exactly
pub mod Reaching
pub mod Endings
pub mod Sound
