-- How a text is cut, and what addresses and what way of carrying are read from it, as functions.
use Rattle.std.specs.Prelude.{ℕ, ◌==◌, ◌&&◌, nat_le, not, Bool, true, List, [], ◌∷◌, length, codes, Option, Some, None, option_and_then, option_map, if◌then◌else◌}
use Rattle.std.specs.List.{slice_split, list_any}
use Rattle.std.specs.Str.{bytes_eq}
use Rattle.drm_links.specs.declared.dock.Address.{Address}
use Rattle.dcp_pft.specs.Limits.{most_losses, least_fragment, most_fragment}
use Rattle.dcp_pft.specs.declared.carry.Carry.{Carry}
use Rattle.dcp_pft.specs.declared.carry.Carry.TheVariants.{Plain, Pft}
use Rattle.cli_syntax.specs.Reading.{within}

infixl 10 ◌>>=◌
abbrev pub ◌>>=◌ : {A B : Type 0} → Option A → (A → Option B) → Option B
o >>= f = option_and_then f o

-- a byte, and then the front of a text that is cut
abbrev pub with_byte : ℕ → List ℕ × List ℕ → List ℕ × List ℕ
with_byte b parts = (b ∷ parts.0, parts.1)

-- what stands before the first such byte, and what stands behind it
unfoldable pub cut : ℕ → List ℕ → Option (List ℕ × List ℕ)
cut mark [] = None
cut mark (b ∷ bs) = if b == mark then Some ([], bs) else option_map (with_byte b) (cut mark bs)

unfoldable pub address_of : List ℕ → Option Address
address_of text = do
  first ← cut 46 text
  second ← cut 46 first.1
  third ← cut 46 second.1
  fourth ← cut 58 third.1
  a ← within 0 255 first.0
  b ← within 0 255 second.0
  c ← within 0 255 third.0
  d ← within 0 255 fourth.0
  port ← within 1 65535 fourth.1
  Some (record { ip = a ∷ b ∷ c ∷ d ∷ []; port = port })

abbrev pub all_addresses : List (List ℕ) → Option (List Address)
all_addresses [] = Some []
all_addresses (text ∷ texts) = option_and_then (λ address. option_map (λ others. address ∷ others) (all_addresses texts)) (address_of text)

abbrev pub is_same : Address → Address → Bool
is_same a b = bytes_eq a.ip b.ip && (a.port == b.port)

abbrev pub are_different : List Address → Bool
are_different [] = true
are_different (address ∷ others) = not (list_any (λ other. is_same other address) others) && are_different others

-- the parts round the commas
abbrev pub parts_of : List ℕ → List (List ℕ)
parts_of text = slice_split (λ b. b == 44) text

abbrev pub if_different : List Address → Option (List Address)
if_different list = if are_different list then Some list else None

unfoldable pub addresses_of : List ℕ → Option (List Address)
addresses_of text = if nat_le (length (parts_of text)) 16 then option_and_then if_different (all_addresses (parts_of text)) else None

unfoldable pub pft_of : List ℕ → Option Carry
pft_of text = do
  m ← cut 58 text
  first ← within 0 most_losses m.0
  second ← within least_fragment most_fragment m.1
  Some (Pft first second)

abbrev pub pft_after : List ℕ × List ℕ → Option Carry
pft_after parts = if bytes_eq parts.0 (codes "pft") then pft_of parts.1 else None

unfoldable pub carry_of : List ℕ → Option Carry
carry_of text = if bytes_eq text (codes "plain") then Some Plain else option_and_then pft_after (cut 58 text)
