pub mod Tag
pub mod PayloadPlace
pub mod Reading
pub mod Laws
