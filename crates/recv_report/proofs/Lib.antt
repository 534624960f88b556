pub mod Composing
pub mod OneReport
pub mod Reporting
pub mod Coming
pub mod ReceiverLemmas
pub mod Unbroken
pub mod CaptureReading
