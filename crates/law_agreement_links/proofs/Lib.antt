pub mod Behind
pub mod Together
