pub mod Joining
pub mod Items
pub mod Pieces
pub mod TakerLemmas
pub mod Printing
pub mod Loop
pub mod Endings
pub mod Sound
