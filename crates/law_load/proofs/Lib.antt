pub mod AgainLaw
