pub mod Bodies
pub mod Entity
pub mod Reading
pub mod Field
pub mod Writing
pub mod Block
