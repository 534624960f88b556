-- What is answered at a place in a payload.
use Rattle.std.specs.Prelude.{◌∷◌, ◌↔◌, ℕ, ◌≡◌, ◌+◌, ◌<◌, List, ◌++◌, length, take, drop, Option, Some, None, Result, Ok, Err}
use Rattle.drm_bits.specs.Bits.{bits_of}
use Rattle.dcp_tag.specs.declared.items.Item.{Item}
use Rattle.dcp_tag.specs.declared.items.ValueCut.{ValueCut}
use Rattle.dcp_tag.specs.Tag.{TagItem, bytes_for, head, HasHead, IsSpelling, IsPayload, IsItemCut}
use Rattle.dcp_tag.specs.PayloadPlace.{PayloadPlace, left}

-- the TAG item of a name, the number of its value's bits, and the bytes that have these bits and then the padding
abbrev pub item_of : List ℕ → ℕ → List ℕ → TagItem
item_of name bits value = record { name = name; value = take bits (bits_of value) }

-- the TAG item that is given
abbrev pub tag_of : Item → TagItem
tag_of item = item_of item.name item.bits item.value.now

-- The item stands at the old place, and the new place is the byte behind it.
pub record GivesItem (item : Item) (old new : PayloadPlace) : Type 0 where
  -- where the value begins
  pub at : item.at ≡ old.at + 8
  -- the bytes that are lent are those of the payload from there on
  pub value : item.value.now ≡ take (bytes_for item.bits) (drop item.at old.payload)
  pub size : length item.value.now ≡ bytes_for item.bits
  -- the item's head stands here, then these bytes, then what is left
  pub begins : HasHead (left old) item.name item.bits (item.value.now ++ left new)
  pub shorter : length (left old) ≡ 8 + bytes_for item.bits + length (left new)
  -- the head and these bytes are a spelling of the item
  pub spelling : IsSpelling (tag_of item) (head item.name item.bits ++ item.value.now)
  -- the items from the old place on are this one, and then those of what is left
  pub items : (others : List TagItem) → IsPayload (tag_of item ∷ others) (left old) ↔ IsPayload others (left new)
  pub next : new.at ≡ item.at + bytes_for item.bits
  pub payload : new.payload ≡ old.payload

-- An item that stands here, or none since fewer than eight bytes are left, or the place of an item that goes past the
-- end. Without an item the place stays.
abbrev pub AnswersItem : Result (Option Item) ValueCut → PayloadPlace → PayloadPlace → Type 0
AnswersItem (Ok (Some item)) old new = GivesItem item old new
AnswersItem (Ok None) old new = (length (left old) < 8) × (new ≡ old)
AnswersItem (Err cut) old new = (cut.at ≡ old.at) × IsItemCut (left old) × (new ≡ old)

-- an item is given, and it is this one
abbrev pub IsGiven : TagItem → Result (Option Item) ValueCut → Type 0
IsGiven tag (Ok (Some item)) = tag_of item ≡ tag
IsGiven tag (Ok None) = ⊥
IsGiven tag (Err cut) = ⊥
