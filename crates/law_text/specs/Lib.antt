pub mod Readings
pub mod Runs
pub mod Losses
pub mod Laws
