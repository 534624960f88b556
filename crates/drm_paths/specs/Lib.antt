pub mod State
pub mod Reading
pub mod Closing
