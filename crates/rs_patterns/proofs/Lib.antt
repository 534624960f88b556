pub mod Positions
pub mod PatternPlaces
pub mod ListedBytes
