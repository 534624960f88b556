pub mod OpeningLemmas
pub mod BreakingOff
pub mod HearingLemmas
pub mod ReceiveLemmas
pub mod ReceiveStatus
pub mod LiveLemmas
pub mod CaptureLemmas
pub mod CaptureStatus
