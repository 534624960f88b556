-- The items of a payload by their names.
use Rattle.std.specs.Prelude.{ℕ, ◌≡◌, ◌+◌, ◌<◌, ◌≤◌, nat_eq, List, [], ◌∷◌, ◌++◌, length, take, drop, map, Option, None, Some, IsSome, if◌then◌else◌}
use Rattle.std.specs.Cmp.Lexicographic.{pointwise}
use Rattle.drm_bits.specs.Bits.{bits_of}
use Rattle.dcp_tag.specs.Tag.{TagItem, bytes_for, IsSpelling, IsItemCut}
use Rattle.mdi_items.specs.declared.known.ItemSpan.{ItemSpan}
use Rattle.mdi_items.specs.declared.fault.MdiFault.{MdiFault}
use Rattle.mdi_items.specs.declared.fault.MdiFault.TheVariants as fault
use Rattle.mdi_items.specs.Names.{names, name_at}

-- the bytes of an item: eight of its head, and those of its value
abbrev pub size : TagItem → ℕ
size item = 8 + bytes_for (length item.value)

-- the bytes of items that stand one after another
abbrev pub total : List TagItem → ℕ
total [] = 0
total (item ∷ items) = size item + total items

-- where the value of the first item of a name stands, and its bits: the items stand one after another from a byte on
abbrev pub find_from : ℕ → List ℕ → List TagItem → Option ItemSpan
find_from from name [] = None
find_from from name (item ∷ items) =
    if pointwise nat_eq item.name name then Some (record { at = from + 8; bits = length item.value }) else find_from (from + size item) name items

-- One of the items has the name, and its value stands where it is found: these are its bits in the payload.
pub record ItemStands (items : List TagItem) (name payload : List ℕ) (from : ℕ) (found : ItemSpan) : Type 0 where
  pub before : List TagItem
  pub item : TagItem
  pub after : List TagItem
  pub are : items ≡ before ++ item ∷ after
  pub named : item.name ≡ name
  pub at : found.at ≡ from + total before + 8
  pub inside : found.at + bytes_for found.bits ≤ length payload
  pub value : take found.bits (bits_of (take (bytes_for found.bits) (drop found.at payload))) ≡ item.value

-- the known items of a payload, by the order of their names
unfoldable pub known_of : List TagItem → List (Option ItemSpan)
known_of items = map (λ name. find_from 0 name items) names

-- The name is one of those that are read.
abbrev pub IsKnown : List ℕ → Type 0
IsKnown name = (k : ℕ) × (k < 10) × (name_at k ≡ name)

-- The item has a known name that one of those before it has too.
abbrev pub IsRepeat : List TagItem → TagItem → Type 0
IsRepeat before item = IsKnown item.name × IsSome (find_from 0 item.name before)

-- Behind those before them, none of the items has a known name for the second time.
abbrev pub AreOnce : List TagItem → List TagItem → Type 0
AreOnce before [] = Unit {0}
AreOnce before (item ∷ items) = (¬ IsRepeat before item) × AreOnce (before ++ item ∷ []) items

-- An item stands at the front of the bytes, and then the rest.
pub record BeginsWithItem (item : TagItem) (bytes rest : List ℕ) : Type 0 where
  pub spelling : List ℕ
  pub stands : bytes ≡ spelling ++ rest
  pub spelled : IsSpelling item spelling

-- The next item, behind those before it, is cut, or has a known name for the second time.
abbrev pub IsNextFault : List TagItem → List ℕ → MdiFault → Type 0
IsNextFault before bytes (fault.Tag cut) = IsItemCut bytes × (cut.at ≡ total before)
IsNextFault before bytes (fault.Twice name) = (item : TagItem) × (rest : List ℕ) × BeginsWithItem item bytes rest × IsRepeat before item × (name ≡ item.name)
IsNextFault before bytes _ = ⊥

-- The items stand in the bytes one after another, behind those before them, and then there is this fault, the first one.
abbrev pub AreThenFault : List TagItem → List TagItem → List ℕ → MdiFault → Type 0
AreThenFault before [] bytes f = IsNextFault before bytes f
AreThenFault before (item ∷ items) bytes f =
    (rest : List ℕ) × BeginsWithItem item bytes rest × (¬ IsRepeat before item) × AreThenFault (before ++ item ∷ []) items rest f
