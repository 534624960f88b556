pub mod SdciLemmas
pub mod RangeLemmas
pub mod StreamLemmas
