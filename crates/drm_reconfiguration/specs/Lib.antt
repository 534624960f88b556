pub mod Seen
pub mod Switches
pub mod Tracker
pub mod Announced
