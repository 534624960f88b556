pub mod Packet
pub mod Faults
pub mod Reading
