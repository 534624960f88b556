pub mod HexLemmas
pub mod TakenLemmas
pub mod CountLemmas
pub mod RefusalLemmas
pub mod StreamLemmas
pub mod StepLemmas
