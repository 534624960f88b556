pub mod Streams
pub mod Lines
pub mod Lent
pub mod Printed
pub mod Run
pub mod Taken
