pub mod Taken
pub mod Lists
pub mod Layouts
pub mod OverLinks
