-- Laws of TAG items.
use Rattle.std.specs.Prelude.{ℕ, ◌≡◌, ◌<◌, ◌↔◌, List, [], ◌∷◌, ◌++◌, slice_index}
use Rattle.dcp_tag.specs.declared.items.Item.{Item}
use Rattle.dcp_tag.specs.Tag.{TagItem, IsSpelling, IsWrittenItem, IsPayload, IsItemCut}
use Rattle.dcp_tag.specs.PayloadPlace.{PayloadPlace, left}
use Rattle.dcp_tag.specs.Reading.{tag_of, GivesItem}

-- bytes are a payload of one list of items at most
abbrev pub HasOneList : Type 0
HasOneList = (bytes : List ℕ) (items others : List TagItem) → IsPayload items bytes → IsPayload others bytes → items ≡ others

-- bytes whose first item goes past the end are no payload
abbrev pub CutIsNone : Type 0
CutIsNone = (bytes : List ℕ) (items : List TagItem) → IsItemCut bytes → IsPayload items bytes → ⊥

-- what is written for an item is a spelling of it
abbrev pub WrittenIsSpelling : Type 0
WrittenIsSpelling = (item : TagItem) (bytes : List ℕ) → IsWrittenItem item bytes → IsSpelling item bytes

-- each is a byte
abbrev pub AreBytes : List ℕ → Type 0
AreBytes bytes = (i : ℕ) → slice_index bytes i < 256

-- what is written for an item is determined: no other bytes are
abbrev pub HasOneWriting : Type 0
HasOneWriting = (item : TagItem) (bytes others : List ℕ) → AreBytes bytes → AreBytes others → IsWrittenItem item bytes → IsWrittenItem item others → bytes ≡ others

-- from the old place to the new one these items are given, one after another
abbrev pub GivesAll : PayloadPlace → List TagItem → PayloadPlace → Type 0
GivesAll old [] new = new ≡ old
GivesAll old (tag ∷ tags) new = (item : Item) × (next : PayloadPlace) × GivesItem item old next × (tag_of item ≡ tag) × GivesAll next tags new

-- However many items were given, the items of the bytes from the old place on are these, and then those of what is left.
abbrev pub GivesThePayload : Type 0
GivesThePayload = (old new : PayloadPlace) (given others : List TagItem) → GivesAll old given new → IsPayload (given ++ others) (left old) ↔ IsPayload others (left new)
