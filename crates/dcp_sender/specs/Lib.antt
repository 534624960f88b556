pub mod Layout
pub mod Sending
pub mod Packets
pub mod CarriesText
pub mod OverLinks
