-- The numbers of packets: the newest that came, and where they end.
use Rattle.std.specs.Prelude.{ℕ, ◌+◌, max, Option, Some, None}

-- the newest number with one more
abbrev pub newer : Option ℕ → ℕ → Option ℕ
newer None n = Some n
newer (Some newest) n = Some (max newest n)

-- the end of the numbers: the told one, or behind the newest
abbrev pub end_of : Option ℕ → Option ℕ → ℕ
end_of (Some upto) newest = upto
end_of None (Some n) = n + 1
end_of None None = 0
