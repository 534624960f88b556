pub mod Reconfigurations
pub mod Agreement
pub mod Modulators
pub mod Laws
