pub mod Gives
pub mod Said
pub mod Says
pub mod Law
