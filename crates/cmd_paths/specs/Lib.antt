pub mod Faults
pub mod Ahead
pub mod Receivers
pub mod Opening
pub mod Run
pub mod Links
