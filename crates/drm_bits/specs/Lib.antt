pub mod Bits
pub mod Numbers
pub mod Crc
pub mod Fields
pub mod Sink
pub mod Description
pub mod Compared
