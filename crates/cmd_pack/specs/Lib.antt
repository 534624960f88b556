pub mod Units
pub mod UnitFront
pub mod Input
pub mod Packed
pub mod Pack
