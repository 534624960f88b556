pub mod Sdci
pub mod Frame
pub mod Faults
pub mod Ranges
pub mod Streams
