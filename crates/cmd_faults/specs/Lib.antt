pub mod CrcLine
pub mod Reasons
pub mod Lines
pub mod FacFaults
pub mod Captures
pub mod Units
pub mod Fault
pub mod Causes
