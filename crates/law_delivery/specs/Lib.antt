pub mod OtherCarry
pub mod Sent
pub mod Given
pub mod Laws
pub mod Ways
