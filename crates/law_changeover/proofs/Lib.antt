pub mod SameFrames
pub mod Changeovers
