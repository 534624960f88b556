-- Laws of frames.
use Rattle.std.specs.Prelude.{ℕ, ◌≡◌, List, Some}
use Rattle.dcp_tag.specs.Tag.{TagItem, IsPayload}
use Rattle.mdi_items.specs.declared.known.ItemSpan.{ItemSpan}
use Rattle.mdi_items.specs.declared.fault.MdiFault.{MdiFault}
use Rattle.mdi_items.specs.Items.{find_from, ItemStands}
use Rattle.mdi_items.specs.Frame.{Frame}
use Rattle.mdi_items.specs.Mdi.{IsMdi, IsMdiFault}

-- what is found of a name is the value of an item with that name, as it stands in the payload
abbrev pub FoundStands : Type 0
FoundStands =
    (payload name : List ℕ) (items : List TagItem) (found : ItemSpan) → IsPayload items payload → find_from 0 name items ≡ Some found → ItemStands items name payload 0 found

-- a payload is one frame at most
abbrev pub IsOneFrame : Type 0
IsOneFrame = (payload : List ℕ) (frame other : Frame) → IsMdi frame payload → IsMdi other payload → frame ≡ other

-- a payload that is a frame has no first fault
abbrev pub FrameOrFault : Type 0
FrameOrFault = (payload : List ℕ) (frame : Frame) (f : MdiFault) → IsMdi frame payload → IsMdiFault payload f → ⊥
