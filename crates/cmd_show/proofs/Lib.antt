pub mod HeadLemmas
pub mod FacLemmas
pub mod ShowLemmas
