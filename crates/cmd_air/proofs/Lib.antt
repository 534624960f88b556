pub mod CountLemmas
pub mod FedLemmas
pub mod FeedLemmas
pub mod AirStatus
pub mod AirLemmas
