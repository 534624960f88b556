pub mod Cases
pub mod Pushes
pub mod Steps
pub mod WholeRuns
pub mod Counts
pub mod LostPackets
pub mod Totals
