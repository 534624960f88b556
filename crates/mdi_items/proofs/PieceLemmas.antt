-- Pieces that are written, as the items that are found of them.
use Rattle.std.proofs.Common.{◌≡◌, ◌≢◌, ◌⊎◌, inl, inr, ℕ, zero, suc, ◌+◌, ◌^◌, ◌<◌, ◌≤◌, true, false, nat_eq, List, [], ◌∷◌, ◌++◌, length, take, drop, get_or, Option, None, Some, IsSome, refl, sym, subst, ap, ◌∙◌, append_assoc, arith, length-append}
use Rattle.std.proofs.lemmas.List.{take_at, drop_at, drop-drop, length-take-le}
use Rattle.std.proofs.lemmas.Cmp.{nat_list_eq_equiv}
use Rattle.std.specs.Cmp.Lexicographic.{pointwise}
use Rattle.drm_bits.specs.Bits.{bits_of}
use Rattle.drm_bits.proofs.BitsLemmas.{length-bits_of}
use Rattle.dcp_tag.specs.Tag.{TagItem, bytes_for, head, IsPayload}
use Rattle.dcp_tag.specs.Reading.{item_of}
use Rattle.dcp_tag.proofs.TagLemmas.{length-head, padded}
use Rattle.mdi_items.specs.declared.known.ItemSpan.{ItemSpan}
use Rattle.mdi_items.specs.Names.{name_at, str}
use Rattle.mdi_items.specs.Items.{size, find_from, known_of, AreOnce}
use Rattle.mdi_items.specs.Frame.{bytes_at}
use Rattle.mdi_items.specs.Written.{WrittenItem, whole, spelled, spelling, stream_pieces}
use Rattle.mdi_items.proofs.PieceItems.{items_of}
use Rattle.mdi_items.proofs.NameLemmas.{one_place, other_name}
use Rattle.mdi_items.proofs.FindLemmas.{known_at}

-- A piece that can be written.
pub record IsFine (p : WrittenItem) : Type 0 where
  pub place : p.place < 10
  pub four : length (name_at p.place) ≡ 4
  pub bits : p.bits < 2 ^ 32
  pub long : length p.value ≡ bytes_for p.bits

-- the places of the pieces rise, from a place on
abbrev pub Rise : ℕ → List WrittenItem → Type 0
Rise n [] = Unit {0}
Rise n (p ∷ pieces) = (n ≤ p.place) × IsFine p × Rise (p.place + 1) pieces

-- no piece has this place
abbrev pub Lacks : ℕ → List WrittenItem → Type 0
Lacks k [] = Unit {0}
Lacks k (p ∷ pieces) = (p.place ≢ k) × Lacks k pieces

-- the piece is the first one of its place
abbrev pub Has : WrittenItem → List WrittenItem → Type 0
Has p [] = ⊥
Has p (q ∷ pieces) = (p ≡ q) ⊎ ((q.place ≢ p.place) × Has p pieces)

pub lacks_below : (k n : ℕ) (pieces : List WrittenItem) → k < n → Rise n pieces → Lacks k pieces
lacks_below k n [] below rise = tt
lacks_below k n (p ∷ pieces) below (from, fine, rise) = ((λ same. absurd (omega arith)), lacks_below k (p.place + 1) pieces (omega arith) rise)

pub has_behind : (p : WrittenItem) (front back : List WrittenItem) → Lacks p.place front → Has p back → Has p (front ++ back)
has_behind p [] back lacks has = has
has_behind p (q ∷ front) back lacks has = inr (lacks.0, has_behind p front back lacks.1 has)

pub lacks_both : (k : ℕ) (front back : List WrittenItem) → Lacks k front → Lacks k back → Lacks k (front ++ back)
lacks_both k [] back lacks lacks_too = lacks_too
lacks_both k (q ∷ front) back lacks lacks_too = (lacks.0, lacks_both k front back lacks.1 lacks_too)

bits_are : (p : WrittenItem) → IsFine p → length (item_of (name_at p.place) p.bits p.value).value ≡ p.bits
bits_are p fine = length-take-le p.bits (bits_of p.value) (omega (arith, length-bits_of p.value, fine.long))

length-spelled : (p : WrittenItem) → IsFine p → length (spelled p) ≡ 8 + bytes_for p.bits
length-spelled p fine = omega (arith, length-append (head (name_at p.place) p.bits) p.value, length-head (name_at p.place) p.bits fine.four, fine.long)

size_is : (p : WrittenItem) → IsFine p → size (item_of (name_at p.place) p.bits p.value) ≡ length (spelled p)
size_is p fine = omega (arith, ap bytes_for (bits_are p fine), length-spelled p fine)

-- the pieces are a payload of their items
pub pieces_payload : (n : ℕ) (pieces : List WrittenItem) → Rise n pieces → IsPayload (items_of pieces) (spelling pieces)
pieces_payload n [] rise = omega arith
pieces_payload n (p ∷ pieces) (from, fine, rise) = (
  spelled p,
  spelling pieces,
  refl,
  (drop p.bits (bits_of p.value), padded (name_at p.place) p.bits p.value fine.four fine.bits fine.long),
  pieces_payload (p.place + 1) pieces rise,
)

-- What is found of a piece.
pub record IsFound (payload : List ℕ) (o : Option ItemSpan) (p : WrittenItem) : Type 0 where
  pub found : ItemSpan
  pub there : o ≡ Some found
  pub bits : found.bits ≡ p.bits
  pub bytes : bytes_at payload found ≡ p.value

bytes_are : (pre rest payload : List ℕ) (p : WrittenItem) → IsFine p → payload ≡ pre ++ (spelled p ++ rest) → take (bytes_for p.bits) (drop (length pre + 8) payload) ≡ p.value
bytes_are pre rest payload p fine is =
    let front : List ℕ = head (name_at p.place) p.bits in
    let from : drop (length pre) payload ≡ front ++ (p.value ++ rest) =
    ap (drop (length pre)) is ∙ (drop_at pre (spelled p ++ rest) (length pre) refl ∙ append_assoc front p.value rest) in
    let behind : drop (length pre + 8) payload ≡ p.value ++ rest =
    sym (drop-drop 8 (length pre) payload) ∙ (ap (drop 8) from ∙ drop_at front (p.value ++ rest) 8 (length-head (name_at p.place) p.bits fine.four)) in
    ap (take (bytes_for p.bits)) behind ∙ take_at p.value rest (bytes_for p.bits) fine.long

pub find_piece : (pieces : List WrittenItem) (p : WrittenItem) (pre payload : List ℕ) (n : ℕ) → p.place < 10 → Rise n pieces → payload ≡ pre ++ spelling pieces → Has p pieces
    → IsFound payload (find_from (length pre) (name_at p.place) (items_of pieces)) p
find_piece [] p pre payload n lt rise is has = absurd has
find_piece (q ∷ pieces) p pre payload n lt (from, fine, rise) is (inl same) =
    let bits : length (item_of (name_at q.place) q.bits q.value).value ≡ q.bits = bits_are q fine in
    let here : pointwise nat_eq (name_at q.place) (name_at p.place) ≡ true =
    ap (λ (x : WrittenItem). pointwise nat_eq (name_at q.place) (name_at x.place)) same ∙ nat_list_eq_equiv.refl (name_at q.place) in record {
      found = record { at = length pre + 8; bits = length (item_of (name_at q.place) q.bits q.value).value };
      there = rw here refl;
      bits = bits ∙ ap (λ (x : WrittenItem). x.bits) (sym same);
      bytes = ap (λ (m : ℕ). take (bytes_for m) (drop (length pre + 8) payload)) bits ∙ (bytes_are pre (spelling pieces) payload q fine is ∙ ap (λ (x : WrittenItem). x.value) (sym same));
    }
find_piece (q ∷ pieces) p pre payload n lt (from, fine, rise) is (inr (other, has)) =
    let there : pointwise nat_eq (name_at q.place) (name_at p.place) ≡ false =
    other_name (name_at q.place) (name_at p.place) (λ same. other (one_place q.place p.place fine.place lt same)) in
    let place : length (pre ++ spelled q) ≡ length pre + size (item_of (name_at q.place) q.bits q.value) = omega (arith, length-append pre (spelled q), size_is q fine) in
    let more = find_piece pieces p (pre ++ spelled q) payload (q.place + 1) lt rise (is ∙ sym (append_assoc pre (spelled q) (spelling pieces))) has in
    rw there (subst (λ (m : ℕ). IsFound payload (find_from m (name_at p.place) (items_of pieces)) p) place more)

pub find_none : (pieces : List WrittenItem) (k from n : ℕ) → k < 10 → Rise n pieces → Lacks k pieces → find_from from (name_at k) (items_of pieces) ≡ None
find_none [] k from n lt rise lacks = refl
find_none (q ∷ pieces) k from n lt (least, fine, rise) lacks =
    let there : pointwise nat_eq (name_at q.place) (name_at k) ≡ false = other_name (name_at q.place) (name_at k) (λ same. lacks.0 (one_place q.place k fine.place lt same)) in
    rw there (find_none pieces k (from + size (item_of (name_at q.place) q.bits q.value)) (q.place + 1) lt rise lacks.1)

-- by the places of the order
pub known_piece : (pieces : List WrittenItem) (p : WrittenItem) (payload : List ℕ) (n : ℕ) → p.place < 10 → Rise n pieces → payload ≡ spelling pieces → Has p pieces
    → IsFound payload (get_or (known_of (items_of pieces)) p.place None) p
known_piece pieces p payload n lt rise is has =
    subst (λ (o : Option ItemSpan). IsFound payload o p) (sym (known_at (items_of pieces) p.place lt)) (find_piece pieces p [] payload n lt rise is has)

pub known_none : (pieces : List WrittenItem) (k n : ℕ) → k < 10 → Rise n pieces → Lacks k pieces → get_or (known_of (items_of pieces)) k None ≡ None
known_none pieces k n lt rise lacks = known_at (items_of pieces) k lt ∙ find_none pieces k 0 n lt rise lacks

items-append : (front back : List WrittenItem) → items_of (front ++ back) ≡ items_of front ++ items_of back
items-append [] back = refl
items-append (p ∷ front) back = ap (λ (l : List TagItem). item_of (name_at p.place) p.bits p.value ∷ l) (items-append front back)

not_some : (o : Option ItemSpan) → o ≡ None → IsSome o → ⊥
not_some None is h = cc
not_some (Some x) is h = cc

-- the pieces before a place
abbrev Below : ℕ → List WrittenItem → Type 0
Below n [] = Unit {0}
Below n (p ∷ pieces) = (p.place < n) × IsFine p × Below n pieces

below_push : (m n : ℕ) (seen : List WrittenItem) (p : WrittenItem) → m ≤ n → p.place < n → IsFine p → Below m seen → Below n (seen ++ p ∷ [])
below_push m n [] p le lt fine below = (lt, fine, tt)
below_push m n (q ∷ seen) p le lt fine (first, fine_too, below) = (omega arith, fine_too, below_push m n seen p le lt fine below)

none_below : (seen : List WrittenItem) (k from n : ℕ) → k < 10 → n ≤ k → Below n seen → find_from from (name_at k) (items_of seen) ≡ None
none_below [] k from n lt le below = refl
none_below (q ∷ seen) k from n lt le (first, fine, below) =
    let there : pointwise nat_eq (name_at q.place) (name_at k) ≡ false =
    other_name (name_at q.place) (name_at k) (λ same. let is : q.place ≡ k = one_place q.place k fine.place lt same in absurd (omega arith)) in
    rw there (none_below seen k (from + size (item_of (name_at q.place) q.bits q.value)) n lt le below)

-- none of the items has a name a second time
pub pieces_once : (seen pieces : List WrittenItem) (n : ℕ) → Below n seen → Rise n pieces → AreOnce (items_of seen) (items_of pieces)
pieces_once seen [] n below rise = tt
pieces_once seen (p ∷ pieces) n below (from, fine, rise) =
    let more : AreOnce (items_of (seen ++ p ∷ [])) (items_of pieces) = pieces_once (seen ++ p ∷ []) pieces (p.place + 1) (below_push n (p.place + 1) seen p (omega arith) (omega arith) fine below) rise in (
      (λ repeat. not_some (find_from 0 (name_at p.place) (items_of seen)) (none_below seen p.place 0 n fine.place from below) repeat.1),
      subst (λ (l : List TagItem). AreOnce l (items_of pieces)) (items-append seen (p ∷ [])) more,
    )

-- the streams
pub streams_have : (streams : List (List ℕ)) (j k i : ℕ) → k < length streams → i ≡ j + k → Has (whole (str i) (get_or streams k [])) (stream_pieces j streams)
streams_have [] j k i lt is = absurd (omega arith)
streams_have (s ∷ streams) j zero i lt is = let same : i ≡ j = omega arith in inl (ap (λ (n : ℕ). whole (str n) s) same)
streams_have (s ∷ streams) j (suc k) i lt is = inr ((λ same. absurd (omega arith)), streams_have streams (j + 1) k i (omega arith) (omega arith))

pub streams_lack : (streams : List (List ℕ)) (j i : ℕ) → (i < str j) ⊎ (str j + length streams ≤ i) → Lacks i (stream_pieces j streams)
streams_lack [] j i out = tt
streams_lack (s ∷ streams) j i (inl below) = ((λ same. absurd (omega arith)), streams_lack streams (j + 1) i (inl (omega arith)))
streams_lack (s ∷ streams) j i (inr above) = ((λ same. absurd (omega arith)), streams_lack streams (j + 1) i (inr (omega arith)))
