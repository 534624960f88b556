pub mod Converting
pub mod Naming
pub mod Steps
pub mod Converted
pub mod Run
pub mod Reading
