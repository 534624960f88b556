pub mod PacketFields
pub mod Faults
pub mod Reading
pub mod Units
pub mod Writing
pub mod Joining
pub mod Room
pub mod Lending
