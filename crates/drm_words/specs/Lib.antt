pub mod Table
pub mod Line
pub mod Asking
pub mod Whole
