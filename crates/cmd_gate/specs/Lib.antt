pub mod Line
pub mod Opening
pub mod Between
pub mod Run
