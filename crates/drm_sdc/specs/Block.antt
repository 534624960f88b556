-- SDC blocks (ES 201 980): the AFS index, the data field and their check value.
use Rattle.std.specs.Prelude.{ℕ, ◌≡◌, ◌≢◌, ◌+◌, ◌*◌, ◌%◌, ◌^◌, ◌<◌, ◌≤◌, ◌⊎◌, Bool, List, ◌∷◌, ◌++◌, length, take, slice_index}
use Rattle.drm_bits.specs.Bits.{value, digits, bits_of}
use Rattle.drm_bits.specs.Crc.{IsCheck, crc16_polynomial, zeros}
use Rattle.drm_sdc.specs.declared.block.Block.{Block}
use Rattle.drm_sdc.specs.declared.block.BlockInfo.{BlockInfo}
use Rattle.drm_sdc.specs.declared.fault.SdcFault.{SdcFault}
use Rattle.drm_sdc.specs.declared.fault.SdcFault.TheVariants.{BlockLength, Front, Crc, EntityCut, BodyLength, LabelText, NoMemory}
use Rattle.drm_sdc.specs.Field.{IsField, IsFirstFault}

-- the index in 4 bits, the field, and 16 bits of check
abbrev pub first_form : ℕ → List ℕ → List Bool → List Bool
first_form afs field check = digits 4 afs ++ (bits_of field ++ check)

-- The bits are these, as they stand or behind four zero bits.
pub record IsFramed (afs : ℕ) (field : List ℕ) (check bits : List Bool) : Type 0 where
  pub index : afs < 2 ^ 4
  pub room : length field ≤ 1023
  pub octets : (i : ℕ) → slice_index field i < 2 ^ 8
  pub width : length check ≡ 16
  pub form : (bits ≡ first_form afs field check) ⊎ (bits ≡ zeros 4 ++ first_form afs field check)

-- the check value is that of the index, as a byte, and of the field
abbrev pub IsBlockChecked : ℕ → List ℕ → List Bool → Type 0
IsBlockChecked afs field check = IsCheck crc16_polynomial (bits_of (afs ∷ field)) check

-- The bits are the block.
pub record IsBlock (block : Block) (bits : List Bool) : Type 0 where
  pub field : List ℕ
  pub check : List Bool
  pub framed : IsFramed block.afs field check bits
  pub checked : IsBlockChecked block.afs field check
  pub entities : IsField block.entities block.tail field

-- what is told of a block: its index, and how many bytes its data field has
abbrev pub info_of : (block : Block) (bits : List Bool) → IsBlock block bits → BlockInfo
info_of block bits is = record { afs = block.afs; room = length is.field }

-- so many bits are a block's, in one of the forms
abbrev pub IsBlockLength : ℕ → Type 0
IsBlockLength n = (d : ℕ) × (d ≤ 1023) × ((n ≡ 8 * d + 20) ⊎ (n ≡ 8 * d + 24))

-- A framed field has another check value than the one that stands there.
pub record IsCrcFault (stands computed : ℕ) (bits : List Bool) : Type 0 where
  pub afs : ℕ
  pub field : List ℕ
  pub framed : IsFramed afs field (digits 16 stands) bits
  pub stands_fits : stands < 2 ^ 16
  pub computed_fits : computed < 2 ^ 16
  pub checked : IsBlockChecked afs field (digits 16 computed)
  pub differ : stands ≢ computed

-- A framed field has its check value, and this is its first fault.
pub record IsFaultInField (fault : SdcFault) (bits : List Bool) : Type 0 where
  pub afs : ℕ
  pub field : List ℕ
  pub check : List Bool
  pub framed : IsFramed afs field check bits
  pub checked : IsBlockChecked afs field check
  pub first : IsFirstFault field fault

-- Why bits are no block, in the order of the faults.
abbrev pub IsBlockFault : List Bool → SdcFault → Type 0
IsBlockFault bits (BlockLength n) = (n ≡ length bits) × (¬ IsBlockLength n)
IsBlockFault bits (Front b) = IsBlockLength (length bits) × (length bits % 8 ≡ 0) × (b ≡ value (take 4 bits)) × (b ≢ 0)
IsBlockFault bits (Crc stands computed) = IsCrcFault stands computed bits
IsBlockFault bits (EntityCut at) = IsFaultInField (EntityCut at) bits
IsBlockFault bits (BodyLength at kind len) = IsFaultInField (BodyLength at kind len) bits
IsBlockFault bits (LabelText at) = IsFaultInField (LabelText at) bits
IsBlockFault bits NoMemory = ⊥

-- The bits have the length of a block with d bytes, and zeros in front where they have a front.
pub record IsBlockOpen (d : ℕ) (bits : List Bool) : Type 0 where
  pub few : d ≤ 1023
  pub form : (length bits ≡ 8 * d + 20) ⊎ ((length bits ≡ 8 * d + 24) × (value (take 4 bits) ≡ 0))
