pub mod Field
pub mod Lanes
pub mod Laws
