pub mod ValidPlan
pub mod Ranges
pub mod Delivering
pub mod Counting
pub mod Running
pub mod LineCounts
