pub mod FrontParts
pub mod FrontLaws
pub mod CaptureLaws
pub mod SomeWay
pub mod ReadingLemmas
pub mod FetchingLemmas
pub mod WalkingLemmas
