pub mod Exercise
pub mod Run
