pub mod ScheduleRun
pub mod Check
pub mod Send
pub mod Live
pub mod OverGroup
