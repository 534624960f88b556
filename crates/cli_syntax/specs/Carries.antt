-- How packets are to be carried, in one word.
use Rattle.std.specs.Prelude.{ℕ, ◌≡◌, List, ◌∷◌, ◌++◌, codes}
use Rattle.dcp_pft.specs.Limits.{most_losses, least_fragment, most_fragment}
use Rattle.dcp_pft.specs.declared.carry.Carry.{Carry}
use Rattle.dcp_pft.specs.declared.carry.Carry.TheVariants.{Plain, Pft}
use Rattle.cli_syntax.specs.Numbers.{IsNumberWithin}

-- pft:M:MTU, with M from 0 to 5 and MTU from 128 to 1500. A colon is 58.
pub record IsPftCarry (text : List ℕ) (m mtu : ℕ) : Type 0 where
  pub first : List ℕ
  pub second : List ℕ
  pub spelled : text ≡ codes "pft" ++ 58 ∷ (first ++ 58 ∷ second)
  pub m_is : IsNumberWithin 0 most_losses first m
  pub mtu_is : IsNumberWithin least_fragment most_fragment second mtu

abbrev pub IsCarry : List ℕ → Carry → Type 0
IsCarry text Plain = text ≡ codes "plain"
IsCarry text (Pft m mtu) = IsPftCarry text m mtu
