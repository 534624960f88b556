pub mod Listed
pub mod FirstNumber
pub mod Packets
pub mod Schedules
pub mod Behind
