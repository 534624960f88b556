pub mod Input
pub mod Fac
pub mod Show
