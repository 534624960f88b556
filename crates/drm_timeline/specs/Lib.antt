pub mod Standing
pub mod Numbers
pub mod FastAccess
pub mod Description
pub mod Announcing
pub mod Blocks
pub mod Telling
pub mod Starts
