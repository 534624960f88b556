pub mod Steps
pub mod Arrivals
pub mod WholeRuns
pub mod Sendings
pub mod LostPieces
