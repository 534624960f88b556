pub mod Live
pub mod Input
pub mod Laws
