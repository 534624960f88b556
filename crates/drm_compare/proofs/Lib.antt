pub mod SomeParity
pub mod SomeFragments
pub mod Fragments
pub mod Cuts
pub mod Same
pub mod Counted
