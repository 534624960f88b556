pub mod Receive
pub mod Opening
pub mod Stopping
pub mod Capture
pub mod Counted
