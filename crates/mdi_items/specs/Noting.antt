-- What a further item does to the known ones.
use Rattle.std.specs.Prelude.{ℕ, ◌≡◌, ◌<◌, ◌⊎◌, List, Option, None, Some, IsSome, slice_index_or, slice_set}
use Rattle.mdi_items.specs.declared.known.ItemSpan.{ItemSpan}
use Rattle.mdi_items.specs.declared.fault.MdiFault.{MdiFault}
use Rattle.mdi_items.specs.declared.fault.MdiFault.TheVariants as fault
use Rattle.mdi_items.specs.Names.{name_at}
use Rattle.mdi_items.specs.Items.{IsKnown}

-- The item of this name is now found, or its name isn't known.
abbrev pub NotesItem : List ℕ → ItemSpan → List (Option ItemSpan) → List (Option ItemSpan) → Type 0
NotesItem name found old new =
    ((¬ IsKnown name) × (new ≡ old)) ⊎ ((k : ℕ) × (k < 10) × (name_at k ≡ name) × (slice_index_or old k None ≡ None) × (new ≡ slice_set old k (Some found)))

-- There is one of this name already.
abbrev pub IsNoted : List ℕ → List (Option ItemSpan) → MdiFault → Type 0
IsNoted name known f = (k : ℕ) × (k < 10) × (name_at k ≡ name) × IsSome (slice_index_or known k None) × (f ≡ fault.Twice name)
