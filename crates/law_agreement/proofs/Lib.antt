pub mod Countdown
pub mod LaterStarts
pub mod Reconfigurations
pub mod OfSchedule
pub mod Frames
pub mod Unbroken
pub mod Alike
