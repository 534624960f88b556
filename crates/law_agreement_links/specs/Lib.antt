pub mod Gateways
pub mod Paths
