pub mod SaidAgain
pub mod SaysFits
