pub mod Positions
pub mod Marks
pub mod Patterns
pub mod Listed
