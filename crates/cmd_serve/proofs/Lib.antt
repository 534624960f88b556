pub mod ScheduleRunLemmas
pub mod ClosedLemmas
pub mod RanLemmas
pub mod SendLemmas
pub mod LiveLemmas
pub mod OverGroupLemmas
pub mod LiveServeLemmas
pub mod LiveSendLemmas
