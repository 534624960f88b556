-- A place in a payload.
use Rattle.std.specs.Prelude.{ℕ, List, drop}

-- the payload, and the byte at which the next item is looked for
pub record PayloadPlace : Type 0 where
  pub payload : List ℕ
  pub at : ℕ

-- the bytes from there on
abbrev pub left : PayloadPlace → List ℕ
left place = drop place.at place.payload
