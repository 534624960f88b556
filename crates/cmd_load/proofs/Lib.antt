pub mod LoadingLemmas
pub mod ScheduleLemmas
pub mod ScriptLemmas
