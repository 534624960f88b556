pub mod Items
pub mod Feeding
