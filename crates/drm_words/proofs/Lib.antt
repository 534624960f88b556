pub mod OptionsLemmas
pub mod TableLemmas
pub mod LineLemmas
