pub mod Heads
pub mod Spellings
pub mod Answered
pub mod UnitPackets
pub mod Joinings
