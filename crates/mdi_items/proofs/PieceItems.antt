-- The TAG items of the pieces of a frame.
use Rattle.std.specs.Prelude.{List, [], ◌∷◌}
use Rattle.dcp_tag.specs.Tag.{TagItem}
use Rattle.dcp_tag.specs.Reading.{item_of}
use Rattle.mdi_items.specs.Names.{name_at}
use Rattle.mdi_items.specs.Written.{WrittenItem}

-- the items of these pieces
abbrev pub items_of : List WrittenItem → List TagItem
items_of [] = []
items_of (p ∷ pieces) = item_of (name_at p.place) p.bits p.value ∷ items_of pieces
