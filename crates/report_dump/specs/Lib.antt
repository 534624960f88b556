pub mod PacketContent
pub mod Lines
pub mod Text
pub mod Shown
pub mod Block
pub mod Laws
