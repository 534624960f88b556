-- The walk over the items of a payload.
use Rattle.std.proofs.Common.{◌≡◌, inl, inr, ℕ, ◌+◌, ◌<◌, List, [], ◌∷◌, ◌++◌, length, get_or, Option, None, Some, IsSome, refl, sym, subst, ap, ◌∙◌, arith, append_assoc}
use Rattle.std.proofs.Math.ListN.{set}
use Rattle.std.proofs.lemmas.List.{length-take-le, append-nil}
use Rattle.drm_bits.specs.Bits.{bits_of}
use Rattle.drm_bits.proofs.BitsLemmas.{length-bits_of}
use Rattle.dcp_tag.specs.declared.items.Item.{Item}
use Rattle.dcp_tag.specs.Tag.{TagItem, bytes_for, head, IsPayload, IsItemCut}
use Rattle.dcp_tag.specs.PayloadPlace.{PayloadPlace, left}
use Rattle.dcp_tag.specs.Reading.{tag_of, GivesItem}
use Rattle.mdi_items.specs.declared.known.ItemSpan.{ItemSpan}
use Rattle.mdi_items.specs.declared.fault.MdiFault.{MdiFault}
use Rattle.mdi_items.specs.declared.fault.MdiFault.TheVariants as fault
use Rattle.mdi_items.specs.Names.{name_at}
use Rattle.mdi_items.specs.Items.{total, find_from, known_of, IsRepeat, AreOnce, BeginsWithItem, AreThenFault}
use Rattle.mdi_items.specs.Noting.{NotesItem, IsNoted}
use Rattle.mdi_items.specs.Mdi.{AreItems}
use Rattle.mdi_items.proofs.FindLemmas.{total-push, known-other, known-push, known_at}

-- The walk has come to a place, and the items that it met are these. Whatever stands behind them, what the payload is by
-- it is what it is by these and that.
pub record Walked (payload : List ℕ) (place : PayloadPlace) (known : List (Option ItemSpan)) : Type 0 where
  pub given : List TagItem
  pub at : place.at ≡ total given
  pub known_is : known ≡ known_of given
  pub whole : (others : List TagItem) → IsPayload others (left place) → AreOnce given others → AreItems (given ++ others) payload
  pub faulty : (others : List TagItem) (f : MdiFault) → AreThenFault given others (left place) f → (items : List TagItem) × AreThenFault [] items payload f

pub walk_start : (payload : List ℕ) (place : PayloadPlace) (known : List (Option ItemSpan)) → place ≡ record { payload = payload; at = 0 } → known ≡ known_of [] → Walked payload place known
walk_start payload place known is none =
    let here : left place ≡ payload = ap left is in record {
      given = [];
      at = ap (λ (p : PayloadPlace). p.at) is;
      known_is = none;
      whole = λ others stand once. record { stand = subst (λ (l : List ℕ). IsPayload others l) here stand; once = once };
      faulty = λ others f h. (others, subst (λ (l : List ℕ). AreThenFault [] others l f) here h);
    }

-- the bits of an item that is given
bits_are : (item : Item) (old new : PayloadPlace) → GivesItem item old new → length (tag_of item).value ≡ item.bits
bits_are item old new g = length-take-le item.bits (bits_of item.value.now) (omega (arith, length-bits_of item.value.now, g.size))

begins : (item : Item) (old new : PayloadPlace) → GivesItem item old new → BeginsWithItem (tag_of item) (left old) (left new)
begins item old new g = record {
  spelling = head item.name item.bits ++ item.value.now;
  stands = g.begins.stands ∙ sym (append_assoc (head item.name item.bits) item.value.now (left new));
  spelled = g.spelling;
}

not_some : (o : Option ItemSpan) → o ≡ None → IsSome o → ⊥
not_some None is h = cc
not_some (Some x) is h = cc

not_repeat : (given : List TagItem) (t : TagItem) (found : ItemSpan) (known new : List (Option ItemSpan)) → known ≡ known_of given → NotesItem t.name found known new → IsRepeat given t → ⊥
not_repeat given t found known new is (inl other) repeat = other.0 repeat.0
not_repeat given t found known new is (inr (k, lt, named, none, set)) repeat =
    let here : find_from 0 t.name given ≡ None =
    ap (λ (n : List ℕ). find_from 0 n given) (sym named) ∙ (sym (known_at given k lt) ∙ (ap (λ (l : List (Option ItemSpan)). get_or l k None) (sym is) ∙ none)) in
    not_some _ here repeat.1

known_then : (given : List TagItem) (t : TagItem) (found : ItemSpan) (known new : List (Option ItemSpan)) → known ≡ known_of given → found ≡ record { at = 0 + total given + 8; bits = length t.value }
    → NotesItem t.name found known new → new ≡ known_of (given ++ t ∷ [])
known_then given t found known new is place (inl other) = other.1 ∙ (is ∙ sym (known-other given t other.0))
known_then given t found known new is place (inr (k, lt, named, none, now)) =
    let here : find_from 0 (name_at k) given ≡ None = sym (known_at given k lt) ∙ (ap (λ (l : List (Option ItemSpan)). get_or l k None) (sym is) ∙ none) in
    now ∙ (ap (λ (l : List (Option ItemSpan)). set l k (Some found)) is ∙ (ap (λ (x : ItemSpan). set (known_of given) k (Some x)) place ∙ sym (known-push given t k lt named here)))

pub walk_step : (payload : List ℕ) (old new : PayloadPlace) (known then : List (Option ItemSpan)) (item : Item) → Walked payload old known → GivesItem item old new
    → NotesItem item.name (record { at = item.at; bits = item.bits }) known then → Walked payload new then
walk_step payload old new known then item w g notes =
    let t : TagItem = tag_of item in
    let bits : length t.value ≡ item.bits = bits_are item old new g in
    let fresh : IsRepeat w.given t → ⊥ = not_repeat w.given t (record { at = item.at; bits = item.bits }) known then w.known_is notes in
    let place : item.at ≡ 0 + total w.given + 8 = omega (arith, g.at, w.at) in
    let found : ItemSpan = record { at = item.at; bits = item.bits } in
    let is_found : found ≡ record { at = 0 + total w.given + 8; bits = length t.value } = ap (λ (n : ℕ). record { at = n; bits = item.bits }) place ∙ ap (λ (n : ℕ). record { at = 0 + total w.given + 8; bits = n }) (sym bits) in record {
      given = w.given ++ t ∷ [];
      at = omega (arith, total-push w.given t, ap bytes_for bits, g.next, g.at, w.at);
      known_is = known_then w.given t found known then w.known_is is_found notes;
      whole = λ others stand once. rw append_assoc (w.whole (t ∷ others) ((g.items others).1 stand) (fresh, once));
      faulty = λ others f h. w.faulty (t ∷ others) f (left new, begins item old new g, fresh, h);
    }

pub walk_end : (payload : List ℕ) (place : PayloadPlace) (known : List (Option ItemSpan)) → Walked payload place known → length (left place) < 8 → (items : List TagItem) × AreItems items payload × (known ≡ known_of items)
walk_end payload place known w short = (w.given ++ [], w.whole [] short tt, w.known_is ∙ ap known_of (sym (append-nil w.given)))

pub walk_cut : (payload : List ℕ) (place : PayloadPlace) (known : List (Option ItemSpan)) (at : ℕ) → Walked payload place known → IsItemCut (left place) → at ≡ place.at
    → (items : List TagItem) × AreThenFault [] items payload (fault.Tag (record { at = at }))
walk_cut payload place known at w cut is = w.faulty [] (fault.Tag (record { at = at })) (cut, is ∙ w.at)

pub walk_twice : (payload : List ℕ) (old new : PayloadPlace) (known : List (Option ItemSpan)) (item : Item) (f : MdiFault) → Walked payload old known → GivesItem item old new → IsNoted item.name known f
    → (items : List TagItem) × AreThenFault [] items payload f
walk_twice payload old new known item f w g (k, lt, named, there, is) =
    let here : get_or known k None ≡ find_from 0 item.name w.given =
    ap (λ (l : List (Option ItemSpan)). get_or l k None) w.known_is ∙ (known_at w.given k lt ∙ ap (λ (n : List ℕ). find_from 0 n w.given) named) in
    let repeat : IsRepeat w.given (tag_of item) = ((k, lt, named), subst (λ (o : Option ItemSpan). IsSome o) here there) in
    rw is (w.faulty [] (fault.Twice item.name) (tag_of item, left new, begins item old new g, repeat, refl))
