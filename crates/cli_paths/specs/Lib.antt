pub mod Command
pub mod Uses
pub mod CommandTexts
pub mod Said
pub mod Asking
pub mod Table
pub mod Line
