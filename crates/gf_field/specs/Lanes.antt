-- Elements in lanes.
use Rattle.std.specs.Prelude.{ℕ, ◌/◌, ◌%◌, ◌^◌, ◌==◌, if◌then◌else◌, List, map, bit_xor, slice_index}

-- for each lane, the sum of what one list holds at its four low bits and another at its four high bits
abbrev pub of_nibbles : List ℕ → List ℕ → List ℕ → List ℕ
of_nibbles low high lanes = map (λ x. bit_xor (slice_index low (x % 16)) (slice_index high (x / 16))) lanes

-- b where this bit of a is set
abbrev pub chosen_by : ℕ → ℕ → ℕ → ℕ
chosen_by bit a b = if a / 2 ^ bit % 2 == 0 then 0 else b
