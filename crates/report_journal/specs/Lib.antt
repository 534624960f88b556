pub mod Report
pub mod Lines
pub mod Journal
pub mod Sound
pub mod Took
