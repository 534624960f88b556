pub mod Air
pub mod Feeds
