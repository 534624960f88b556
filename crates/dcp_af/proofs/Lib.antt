pub mod Spellings
pub mod Answered
pub mod Made
