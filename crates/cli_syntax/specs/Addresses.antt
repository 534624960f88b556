-- Addresses, and lists of them.
use Rattle.std.specs.Prelude.{ℕ, ◌≡◌, ◌≤◌, List, [], ◌∷◌, ◌++◌, length}
use Rattle.std.specs.List.{slice_split}
use Rattle.std.specs.Prelude.{◌==◌}
use Rattle.drm_links.specs.Dock.{AreDifferent}
use Rattle.drm_links.specs.declared.dock.Address.{Address}
use Rattle.cli_syntax.specs.Numbers.{IsNumberWithin}

-- the texts spell these numbers, each in the range
abbrev pub AreWithin : ℕ → ℕ → List (List ℕ) → List ℕ → Type 0
AreWithin least greatest [] [] = Unit {0}
AreWithin least greatest (text ∷ texts) (n ∷ ns) = IsNumberWithin least greatest text n × AreWithin least greatest texts ns
AreWithin least greatest _ _ = ⊥

-- The text is a.b.c.d:port, with numbers from 0 to 255 and from 1 to 65535. A full stop is 46, a colon 58.
pub record IsAddress (text : List ℕ) (address : Address) : Type 0 where
  pub a : List ℕ
  pub b : List ℕ
  pub c : List ℕ
  pub d : List ℕ
  pub port : List ℕ
  pub spelled : text ≡ a ++ 46 ∷ (b ++ 46 ∷ (c ++ 46 ∷ (d ++ 58 ∷ port)))
  pub bytes : AreWithin 0 255 (a ∷ b ∷ c ∷ d ∷ []) address.ip
  pub number : IsNumberWithin 1 65535 port address.port

-- each text is an address, and these are the addresses
abbrev pub EachIsAddress : List (List ℕ) → List Address → Type 0
EachIsAddress [] [] = Unit {0}
EachIsAddress (text ∷ texts) (address ∷ addresses) = IsAddress text address × EachIsAddress texts addresses
EachIsAddress _ _ = ⊥

-- The parts of the text round its commas (44) are one to sixteen addresses, all different.
pub record AreAddresses (text : List ℕ) (addresses : List Address) : Type 0 where
  pub each : EachIsAddress (slice_split (λ b. b == 44) text) addresses
  pub some : 1 ≤ length addresses
  pub few : length addresses ≤ 16
  pub different : AreDifferent addresses
