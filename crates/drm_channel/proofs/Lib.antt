pub mod Counted
pub mod Multiples
pub mod LeastCells
