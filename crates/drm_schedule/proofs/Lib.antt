pub mod Utf8Bytes
pub mod Fitting
pub mod ValidLemmas
pub mod Faultless
pub mod InForceLemmas
pub mod SameLemmas
