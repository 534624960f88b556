-- What is found stands in the payload.
use Rattle.std.proofs.Common.{◌≡◌, ℕ, ◌+◌, ◌≤◌, Bool, true, false, cond, nat_eq, List, [], ◌∷◌, ◌++◌, length, take, drop, get_or, inl, inr, Option, None, Some, refl, sym, ap, subst, ◌∙◌, arith, append_assoc, length-append, length-drop}
use Rattle.std.proofs.lemmas.Bool.{cases_lt}
use Rattle.std.proofs.lemmas.List.{take_at, drop_at, drop-drop, get_or_past}
use Rattle.std.specs.Cmp.Lexicographic.{pointwise, same_text}
use Rattle.drm_bits.specs.Bits.{bits_of}
use Rattle.dcp_tag.specs.Tag.{TagItem, bytes_for, head, IsSpelling, IsPayload}
use Rattle.dcp_tag.proofs.TagLemmas.{length-head, behind_size, item_is}
use Rattle.mdi_items.specs.declared.known.ItemSpan.{ItemSpan}
use Rattle.mdi_items.specs.Names.{name_at}
use Rattle.mdi_items.specs.Items.{size, find_from, known_of, ItemStands}
use Rattle.mdi_items.specs.Frame.{AreInside, block_bits, bytes_at}
use Rattle.mdi_items.proofs.FindLemmas.{known_at, length-known}

spelling_length : (item : TagItem) (spelling : List ℕ) → IsSpelling item spelling → length spelling ≡ size item
spelling_length item spelling (padding, p) =
    omega (arith, ap length p.spelled, length-append (head item.name (length item.value)) p.behind, length-head item.name (length item.value) p.name, behind_size item padding spelling p)

-- the value's bytes and what follows, behind the head
value_stands : (item : TagItem) (spelling rest payload : List ℕ) (from : ℕ) → IsSpelling item spelling → drop from payload ≡ spelling ++ rest
    → block_bits payload (record { at = from + 8; bits = length item.value }) ≡ item.value
value_stands item spelling rest payload from (padding, p) stands =
    let whole : drop from payload ≡ head item.name (length item.value) ++ (p.behind ++ rest) =
    stands ∙ (ap (λ (l : List ℕ). l ++ rest) p.spelled ∙ append_assoc (head item.name (length item.value)) p.behind rest) in
    let behind : drop (from + 8) payload ≡ p.behind ++ rest =
    sym (drop-drop 8 from payload) ∙ (ap (drop 8) whole ∙ drop_at (head item.name (length item.value)) (p.behind ++ rest) 8 (length-head item.name (length item.value) p.name)) in
    let bytes : bytes_at payload (record { at = from + 8; bits = length item.value }) ≡ p.behind =
    ap (take (bytes_for (length item.value))) behind ∙ take_at p.behind rest (bytes_for (length item.value)) (behind_size item padding spelling p) in
    ap (λ (l : List ℕ). take (length item.value) (bits_of l)) bytes ∙ ap (λ (t : TagItem). t.value) (item_is item padding spelling p)

stands_behind : (first : TagItem) (items : List TagItem) (name payload : List ℕ) (from : ℕ) (found : ItemSpan) → ItemStands items name payload (from + size first) found → ItemStands (first ∷ items) name payload from found
stands_behind first items name payload from found s = record {
  before = first ∷ s.before;
  item = s.item;
  after = s.after;
  are = ap (λ (l : List TagItem). first ∷ l) s.are;
  named = s.named;
  at = omega (arith, s.at);
  inside = s.inside;
  value = s.value;
}

-- the item that was found, or one of those behind it
found_or : (b : Bool) (x : ItemSpan) (y : Option ItemSpan) (found : ItemSpan) (P : ItemSpan → Type 0) → cond b (Some x) y ≡ Some found → (b ≡ true → P x) → (y ≡ Some found → P found) → P found
found_or true x y found P is here there = let same : x ≡ found = cc in subst P same (here refl)
found_or false x y found P is here there = there is

pub find_stands : (items : List TagItem) (name payload : List ℕ) (from : ℕ) (found : ItemSpan) → from ≤ length payload → IsPayload items (drop from payload) → find_from from name items ≡ Some found
    → ItemStands items name payload from found
find_stands [] name payload from found within stand is = cc
find_stands (item ∷ items) name payload from found within (spelling, rest, stands, spelled, more) is =
    let long : length spelling ≡ size item = spelling_length item spelling spelled in
    let counted : length payload ≡ from + (size item + length rest) = omega (arith, length-drop from payload, ap length stands, length-append spelling rest, long) in
    let after : drop (from + size item) payload ≡ rest = sym (drop-drop (size item) from payload) ∙ (ap (drop (size item)) stands ∙ drop_at spelling rest (size item) long) in
    found_or (pointwise nat_eq item.name name) (record { at = from + 8; bits = length item.value }) (find_from (from + size item) name items) found (ItemStands (item ∷ items) name payload from) is (λ same.
    record {
      before = [];
      item = item;
      after = items;
      are = refl;
      named = same_text item.name name (sym same);
      at = omega arith;
      inside = omega arith;
      value = value_stands item spelling rest payload from spelled stands;
    })
    (λ there. stands_behind item items name payload from found (find_stands items name payload (from + size item) found (omega arith) (subst (λ (l : List ℕ). IsPayload items l) (sym after) more) there))

pub known_inside : (items : List TagItem) (payload : List ℕ) → IsPayload items payload → AreInside (length payload) (known_of items)
known_inside items payload stand k found is =
    elim (cases_lt k 10) [
      | inl lt ↦ (find_stands items (name_at k) payload 0 found (omega arith) stand (sym (known_at items k lt) ∙ is)).inside
      | inr ge ↦ let none : get_or (known_of items) k None ≡ None = get_or_past (known_of items) k None (omega (arith, length-known items)) in cc
    ]
