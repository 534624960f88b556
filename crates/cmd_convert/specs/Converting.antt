-- What becomes of what a collector gives.
use Rattle.std.specs.Prelude.{ℕ, ◌≡◌, ◌⊎◌, true, false, List, [], ◌∷◌, length}
use Rattle.std.specs.List.{flat_map}
use Rattle.dcp_pft.specs.declared.carry.Carry.{Carry}
use Rattle.dcp_af.specs.declared.fault.AfFault.{AfFault}
use Rattle.dcp_af.specs.Faults.{IsFault}
use Rattle.dcp_collect.specs.Runs.{CollectorItem, Packet, Lost, Damaged}
use Rattle.mod_feed.specs.declared.item.BadFault.TheVariants.{Code, Af}
use Rattle.report_text.specs.Report.{missing_line, bad_line}
use Rattle.dcp_sender.specs.Packets.{IsAny, sequence_of}
use Rattle.dcp_sender.specs.CarriesText.{CarriesText, is_too_long}

-- what is written of an item, and the line that names it
pub record ItemOutput : Type 0 where
  pub out : List ℕ
  pub line : List ℕ

-- An AF packet is written under the carry; each other item has a line.
abbrev pub ConvertsItem : Carry → ℕ → CollectorItem → ItemOutput → Type 0
ConvertsItem carry first (Packet index bytes) part =
    (IsAny bytes × (is_too_long carry (length bytes) ≡ false) × CarriesText carry (sequence_of first index) bytes part.out × (part.line ≡ []))
    ⊎ ((fault : AfFault) × IsFault fault bytes × (part.out ≡ []) × (part.line ≡ bad_line index (Af fault)))
ConvertsItem carry first (Lost index had total) part = (part.out ≡ []) × (part.line ≡ missing_line index had total)
ConvertsItem carry first (Damaged index) part = (part.out ≡ []) × (part.line ≡ bad_line index Code)

-- an AF packet with this number is too long for the carry
abbrev pub IsTooLarge : Carry → CollectorItem → ℕ → Type 0
IsTooLarge carry (Packet index bytes) number = (number ≡ index) × IsAny bytes × (is_too_long carry (length bytes) ≡ true)
IsTooLarge carry item number = ⊥

-- each item has its part
abbrev pub ConvertsAll : Carry → ℕ → List CollectorItem → List ItemOutput → Type 0
ConvertsAll carry first [] [] = Unit {0}
ConvertsAll carry first (item ∷ items) (part ∷ parts) = ConvertsItem carry first item part × ConvertsAll carry first items parts
ConvertsAll carry first items parts = ⊥

-- what is written of them, and the lines that name them
abbrev pub text_of : List ItemOutput → List ℕ
text_of parts = flat_map (λ part. part.out) parts

abbrev pub lines_of : List ItemOutput → List ℕ
lines_of parts = flat_map (λ part. part.line) parts
