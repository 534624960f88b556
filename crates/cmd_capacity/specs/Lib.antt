pub mod Asked
pub mod Pieces
pub mod Report
pub mod Run
