pub mod Lines
pub mod Numbers
pub mod Hex
pub mod Faults
pub mod Texts
