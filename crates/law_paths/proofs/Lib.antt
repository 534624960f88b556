pub mod Reporting
pub mod Mixing
pub mod AnyOrder
