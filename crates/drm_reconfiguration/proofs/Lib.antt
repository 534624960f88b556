pub mod SignatureLemmas
pub mod SwitchesLemmas
pub mod TrackerLemmas
pub mod AnnouncedLemmas
