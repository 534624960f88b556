-- The rows of the table for the streams, by the description alone.
use Rattle.std.specs.Prelude.{ℕ, ◌⊎◌, List, Option}
use Rattle.drm_bits.specs.declared.description.MuxDesc.{MuxDesc}
use Rattle.mdi_items.specs.declared.known.ItemSpan.{ItemSpan}
use Rattle.mdi_items.specs.declared.fault.MdiFault.{MdiFault}
use Rattle.mdi_items.specs.Table.{LacksStream, HasOtherBits, HasOtherLength}

-- No row applies to stream k.
pub record IsStreamWellFormed (known : List (Option ItemSpan)) (d : MuxDesc) (k : ℕ) : Type 0 where
  pub there : (f : MdiFault) → ¬ LacksStream known d k f
  pub whole : (f : MdiFault) → ¬ HasOtherBits known d k f
  pub long : (f : MdiFault) → ¬ HasOtherLength known d k f

-- the first row that applies to stream k
abbrev pub IsStreamFault : List (Option ItemSpan) → MuxDesc → ℕ → MdiFault → Type 0
IsStreamFault known d k f =
    LacksStream known d k f
    ⊎ (((g : MdiFault) → ¬ LacksStream known d k g) × (HasOtherBits known d k f ⊎ (((g : MdiFault) → ¬ HasOtherBits known d k g) × HasOtherLength known d k f)))

-- no row applies to a stream
abbrev pub AreRight : List (Option ItemSpan) → MuxDesc → Type 0
AreRight known d = IsStreamWellFormed known d 0 × IsStreamWellFormed known d 1 × IsStreamWellFormed known d 2 × IsStreamWellFormed known d 3

-- the first row that applies to a stream
abbrev pub IsStreamsFault : List (Option ItemSpan) → MuxDesc → MdiFault → Type 0
IsStreamsFault known d f =
    IsStreamFault known d 0 f
    ⊎ (IsStreamWellFormed known d 0 × (IsStreamFault known d 1 f ⊎ (IsStreamWellFormed known d 1 × (IsStreamFault known d 2 f ⊎ (IsStreamWellFormed known d 2 × IsStreamFault known d 3 f)))))
