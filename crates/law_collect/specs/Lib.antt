pub mod Delivery
pub mod Laws
