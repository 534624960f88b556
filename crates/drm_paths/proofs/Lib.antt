pub mod Taking
pub mod Walking
pub mod Comparing
