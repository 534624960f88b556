pub mod LoadingLemmas
pub mod GoingLemmas
pub mod WritingLemmas
pub mod NothingLemmas
pub mod TurnLemmas
