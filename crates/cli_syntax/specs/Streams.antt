-- Lists of stream numbers.
use Rattle.std.specs.Prelude.{ℕ, ◌≡◌, ◌+◌, ◌==◌, List, [], ◌∷◌, map, Option, Some, option_and_then, option_map}
use Rattle.std.specs.List.{slice_split, list_any}
use Rattle.drm_schedule.specs.declared.live.Live.{Live}
use Rattle.cli_syntax.specs.Numbers.{IsNumberWithin}
use Rattle.cli_syntax.specs.Reading.{within}
use Rattle.cli_syntax.specs.Addressing.{parts_of}

-- The texts are numbers of streams, 0 to 3: each is at least this, or above the one before it.
abbrev pub AreRising : ℕ → List (List ℕ) → List ℕ → Type 0
AreRising least [] [] = Unit {0}
AreRising least (text ∷ texts) (n ∷ ns) = IsNumberWithin least 3 text n × AreRising (n + 1) texts ns
AreRising least _ _ = ⊥

-- the streams with these numbers take their bytes from input, and no others
abbrev pub live_with : List ℕ → Live
live_with numbers = record { streams = map (λ k. list_any (λ n. n == k) numbers) (0 ∷ 1 ∷ 2 ∷ 3 ∷ []) }

-- The parts of the text round its commas (44) are the numbers of these streams, rising.
pub record AreStreams (text : List ℕ) (live : Live) : Type 0 where
  pub numbers : List ℕ
  pub rising : AreRising 0 (slice_split (λ b. b == 44) text) numbers
  pub are : live ≡ live_with numbers

-- ---- as functions

abbrev pub rising_from : ℕ → List (List ℕ) → Option (List ℕ)
rising_from least [] = Some []
rising_from least (text ∷ texts) = option_and_then (λ n. option_map (λ ns. n ∷ ns) (rising_from (n + 1) texts)) (within least 3 text)

abbrev pub live_from : ℕ → List (List ℕ) → Option Live
live_from least texts = option_map live_with (rising_from least texts)

unfoldable pub live_of : List ℕ → Option Live
live_of text = live_from 0 (parts_of text)
