pub mod BitsLemmas
pub mod DigitsLemmas
pub mod ByteBits
pub mod FieldLemmas
pub mod Polynomials
pub mod Registers
pub mod Checks
mod EightBytes
mod EightShifts
pub mod BitWrites
pub mod SinkLemmas
pub mod PutLemmas
pub mod WroteLemmas
pub mod PartLemmas
