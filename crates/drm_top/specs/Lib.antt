pub mod Words
pub mod Outside
pub mod Command
pub mod Headline
