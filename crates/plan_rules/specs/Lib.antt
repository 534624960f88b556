pub mod ParsedLine
pub mod Rules
pub mod Steps
pub mod InLines
