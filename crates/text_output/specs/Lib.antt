pub mod Text
pub mod Lines
pub mod Gathering
pub mod Digits
