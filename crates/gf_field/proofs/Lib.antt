pub mod EachBelow
pub mod Polynomial
pub mod Horner
pub mod Remainder
pub mod Product
pub mod Times
pub mod Inverse
pub mod Powers
mod FourBits
mod TableEntries
mod TableProducts
mod LaneProducts
