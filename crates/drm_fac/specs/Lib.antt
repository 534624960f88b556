pub mod Fac
pub mod Fault
pub mod Services
pub mod Pattern
pub mod Mode
