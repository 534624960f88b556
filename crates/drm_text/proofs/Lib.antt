pub mod Pieces
pub mod Starts
pub mod Spellings
pub mod Gathers
pub mod Endings
pub mod Joinings
