pub mod Frames
pub mod Laws
pub mod Delivered
pub mod Texts
