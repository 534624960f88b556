-- Frequencies joined by commas, each with a plus in front where its first bit is 1.
use Rattle.std.specs.Prelude.{ℕ, zero, suc, ◌==◌, ◌&&◌, ◌++◌, nat_le, Bool, true, false, List, [], ◌∷◌, length, map, codes, decimal, if◌then◌else◌}
use Rattle.std.specs.List.{list_all, slice_split, join_with_byte}
use Rattle.text_lines.specs.Numbers.{is_number}
use Rattle.drm_sdc.specs.declared.channels.Channel15.{Channel15}
use Rattle.plan_rows.specs.Words.{WordCheck, value}

-- what stands between the commas
abbrev pub elements : List ℕ → List (List ℕ)
elements word = slice_split (λ b. b == 44) word

abbrev pub has_plus : List ℕ → Bool
has_plus [] = false
has_plus (b ∷ bs) = b == 43

-- an element without its plus
abbrev pub digits : List ℕ → List ℕ
digits [] = []
digits (b ∷ bs) = if b == 43 then bs else b ∷ bs

abbrev pub channel : List ℕ → Channel15
channel element = record { first = has_plus element; number = value (digits element) }

abbrev pub are_spelled : List (List ℕ) → Bool
are_spelled parts = list_all (λ element. is_number (digits element)) parts

-- at most 16 numbers from 0 to 32,767
abbrev pub are_in_range : List (List ℕ) → Bool
are_in_range parts = nat_le (length parts) 16 && list_all (λ element. nat_le (value (digits element)) 32767) parts

abbrev pub frequencies : List ℕ → WordCheck
frequencies word = record { is_spelled = are_spelled (elements word); in_range = are_in_range (elements word) }

abbrev pub channels : List ℕ → List Channel15
channels word = map channel (elements word)

-- a plus where the first bit is 1, and the number
abbrev pub channel_word : Channel15 → List ℕ
channel_word channel = plus channel.first ++ decimal channel.number
  where
    plus : Bool → List ℕ
    plus true = codes "+"
    plus false = []

abbrev pub channels_word : List Channel15 → List ℕ
channels_word channels = join_with_byte 44 (map channel_word channels)

-- what stands before the element with this number, from 0
abbrev pub separator : ℕ → List ℕ
separator zero = []
separator (suc k) = codes ","
