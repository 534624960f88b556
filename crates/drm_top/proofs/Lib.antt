pub mod WordsLemmas
pub mod RangeLemmas
pub mod CommandLemmas
pub mod ServeLemmas
pub mod HeadlineLemmas
