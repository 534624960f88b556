pub mod Feeding
pub mod Loading
pub mod Links
pub mod Capture
pub mod Laws
pub mod Turns
