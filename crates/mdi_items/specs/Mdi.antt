-- The MDI frame (TS 102 820) that a payload of TAG items is, and why it is none.
use Rattle.std.specs.Prelude.{ℕ, ◌⊎◌, List, []}
use Rattle.dcp_tag.specs.Tag.{TagItem, IsPayload}
use Rattle.mdi_items.specs.declared.fault.MdiFault.{MdiFault}
use Rattle.mdi_items.specs.Items.{AreOnce, AreThenFault, known_of}
use Rattle.mdi_items.specs.Frame.{Frame, FrameSays}
use Rattle.mdi_items.specs.Table.{table, NoneApplies, IsFirstFault}

-- The payload is that of these items, in any order, of which none has a known name a second time.
pub record AreItems (items : List TagItem) (payload : List ℕ) : Type 0 where
  pub stand : IsPayload items payload
  pub once : AreOnce [] items

-- The payload is the frame: no row of the table applies to its items, and the frame says what they say.
pub record IsMdi (frame : Frame) (payload : List ℕ) : Type 0 where
  pub items : List TagItem
  pub are_items : AreItems items payload
  pub faultless : NoneApplies payload (known_of items) table
  pub says : FrameSays payload (known_of items) frame

-- The first fault of a payload: in the order of the items, and then that of the table.
abbrev pub IsMdiFault : List ℕ → MdiFault → Type 0
IsMdiFault payload f =
    ((items : List TagItem) × AreThenFault [] items payload f) ⊎ ((items : List TagItem) × AreItems items payload × IsFirstFault payload (known_of items) table f)
