pub mod ItemLemmas
pub mod FeedingLemmas
pub mod ReadingLemmas
