-- The pieces of a message, by its segments.
use Rattle.std.proofs.Common.{◌≡◌, ℕ, zero, suc, ◌+◌, ◌-◌, ◌*◌, ◌/◌, ◌%◌, ◌<◌, ◌≤◌, inl, inr, Bool, if◌then◌else◌, List, [], ◌∷◌, ◌++◌, length, take, drop, replicate, Option, Some, None, refl, sym, ap, ap₂, subst, ◌∙◌, arith, length-append, length-drop}
use Rattle.std.specs.Int.{w16, to_be_bytes}
use Rattle.std.specs.List.{AllByRecursion}
use Rattle.std.proofs.lemmas.Bool.{cases_lt, lt-ltb, le-ltb}
use Rattle.std.proofs.lemmas.List.{length-take-le, take-append-drop, drop-drop, nil_from_length, length-replicate}
use Rattle.drm_text.specs.Segment.{Segment, round_up, front, IsSegment}
use Rattle.drm_text.specs.Message.{start, segment_at, piece_at, IsPieceOf}
use Rattle.drm_bits.proofs.Checks.{one_check}
use Rattle.law_text.specs.Readings.{bytes_of}
use Rattle.law_text.specs.Losses.{ArePiecesFrom}
use Rattle.law_text.specs.Laws.{OneList}
use Rattle.law_text.proofs.Steps.{same_some}
use Rattle.law_text.proofs.Arrivals.{IsFour}

-- a segment has one spelling
same_bytes : (s : Segment) (xs ys : List ℕ) → IsSegment s xs → IsSegment s ys → xs ≡ ys
same_bytes s xs ys h k =
    let check : h.0 ≡ k.0 = one_check (front s) h.0 k.0 h.1.checked k.1.checked in
    h.1.spelled ∙ (ap (λ c. front s ++ to_be_bytes w16 c ++ replicate (round_up (length s.body) - length s.body) 0) check ∙ sym k.1.spelled)

-- place c of segment j
piece_here : (toggle : Bool) (message : List ℕ) (j c k : ℕ) (piece : Option (List ℕ)) (bytes : List ℕ) → k ≡ j * 6 + c → c < 6 → j * 16 < length message → IsSegment (segment_at toggle message j) bytes
    → IsPieceOf toggle message k piece → piece ≡ piece_at bytes c
piece_here toggle message j c k piece bytes at few within is h =
    let segment : k / 6 ≡ j = omega (arith, at, few) in
    let place : k % 6 ≡ c = omega (arith, at, few) in
    let w = h.there (omega (arith, segment, within)) in
    let P : ℕ → Type 0 = λ n. IsSegment (segment_at toggle message n) w.0 in
    let same : w.0 ≡ bytes = same_bytes (segment_at toggle message j) w.0 bytes (subst P segment w.1) is in
    w.2 ∙ ap₂ piece_at same place

-- the pieces of a segment that are still to come, and those of the segments behind it
pub record Rest (toggle : Bool) (message bytes : List ℕ) (i k : ℕ) (pieces : List (List ℕ)) : Type 0 where
  pub rest : List (List ℕ)
  pub more : List (List ℕ)
  pub all : pieces ≡ rest ++ more
  pub bytes_are : bytes_of rest ≡ drop (i * 4) bytes
  pub fours : AllByRecursion IsFour rest
  pub behind : ArePiecesFrom toggle message k more

four_at : (bytes : List ℕ) (i : ℕ) → i * 4 + 4 ≤ length bytes → piece_at bytes (suc i) ≡ Some (take 4 (drop (i * 4) bytes))
four_at bytes i fits = ap (λ b. if b then Some (take 4 (drop (i * 4) bytes)) else None) (lt-ltb (i * 4) (length bytes) (omega (arith, fits)))

four_long : (bytes piece : List ℕ) (i : ℕ) → i * 4 + 4 ≤ length bytes → piece ≡ take 4 (drop (i * 4) bytes) → length piece ≡ 4
four_long bytes piece i fits is = ap length is ∙ length-take-le 4 (drop (i * 4) bytes) (omega (arith, length-drop (i * 4) bytes, fits))

none_at : (bytes : List ℕ) (i : ℕ) → length bytes ≤ i * 4 → piece_at bytes (suc i) ≡ None
none_at bytes i past = ap (λ b. if b then Some (take 4 (drop (i * 4) bytes)) else None) (le-ltb (i * 4) (length bytes) past)

clash : {A X : Type 0} (x : X) → None ≡ Some x → A
clash x is = absurd cc

clash_other : {A X : Type 0} (x : X) → Some x ≡ None → A
clash_other x is = absurd cc

-- four bytes, and those behind them
four_more : (bytes piece rest : List ℕ) (i : ℕ) → piece ≡ take 4 (drop (i * 4) bytes) → rest ≡ drop (suc i * 4) bytes → piece ++ rest ≡ drop (i * 4) bytes
four_more bytes piece rest i is are =
    let next : suc i * 4 ≡ i * 4 + 4 = omega arith in
    ap₂ (λ p l. p ++ l) is (are ∙ (ap (λ n. drop n bytes) next ∙ sym (drop-drop 4 (i * 4) bytes))) ∙ take-append-drop 4 (drop (i * 4) bytes)

rest_more : (toggle : Bool) (message bytes : List ℕ) (i e : ℕ) (piece : List ℕ) (pieces : List (List ℕ)) → i * 4 + 4 ≤ length bytes → piece ≡ take 4 (drop (i * 4) bytes) → Rest toggle message bytes (suc i) e pieces
    → Rest toggle message bytes i e (piece ∷ pieces)
rest_more toggle message bytes i e piece pieces fits same r = record {
  rest = piece ∷ r.rest;
  more = r.more;
  all = ap (λ l. piece ∷ l) r.all;
  bytes_are = four_more bytes piece (bytes_of r.rest) i same r.bytes_are;
  fours = (four_long bytes piece i fits same, r.fours);
  behind = r.behind;
}

rest_of : (toggle : Bool) (message : List ℕ) (j : ℕ) (bytes : List ℕ) (i d k e : ℕ) (pieces : List (List ℕ)) → j * 16 < length message → IsSegment (segment_at toggle message j) bytes → length bytes ≡ (i + d) * 4
    → i + d ≤ 5 → k ≡ j * 6 + suc i → e ≡ j * 6 + suc (i + d) → ArePiecesFrom toggle message k pieces → Rest toggle message bytes i e pieces
rest_of toggle message j bytes i zero k e pieces within is size few at end h =
    let P : ℕ → Type 0 = λ n. ArePiecesFrom toggle message n pieces in
    let none : drop (i * 4) bytes ≡ [] = nil_from_length (drop (i * 4) bytes) (omega (arith, length-drop (i * 4) bytes, size)) in
    record { rest = []; more = pieces; all = refl; bytes_are = sym none; fours = tt; behind = subst P (omega (arith, at, end)) h }
rest_of toggle message j bytes i (suc d) k e [] within is size few at end h =
    clash (take 4 (drop (i * 4) bytes)) (piece_here toggle message j (suc i) k None bytes at (omega (arith, few)) within is h ∙ four_at bytes i (omega (arith, size)))
rest_of toggle message j bytes i (suc d) k e (piece ∷ pieces) within is size few at end h =
    rest_more toggle message bytes i e piece pieces (omega (arith, size))
    (same_some piece (take 4 (drop (i * 4) bytes))
    (piece_here toggle message j (suc i) k (Some piece) bytes at (omega (arith, few)) within is h.0 ∙ four_at bytes i (omega (arith, size))))
    (rest_of toggle message j bytes (suc i) d (k + 1) e pieces within is (omega (arith, size)) (omega (arith, few)) (omega (arith, at)) (omega (arith, end)) h.1)

-- the pieces of segment j, and those behind it: there are none where it is the last one
pub record Parts (toggle : Bool) (message : List ℕ) (j : ℕ) (pieces : List (List ℕ)) : Type 0 where
  pub rest : List (List ℕ)
  pub more : List (List ℕ)
  pub all : pieces ≡ (start ∷ rest) ++ more
  pub segment : IsSegment (segment_at toggle message j) (bytes_of rest)
  pub fours : AllByRecursion IsFour rest
  pub last : length message ≤ j * 16 + 16 → more ≡ []
  pub going : j * 16 + 16 < length message → ArePiecesFrom toggle message ((j + 1) * 6) more

-- behind the last segment there is nothing
nothing_behind : (toggle : Bool) (message : List ℕ) (j : ℕ) (bytes : List ℕ) (d e : ℕ) (more : List (List ℕ)) → j * 16 < length message → length message ≤ j * 16 + 16
    → IsSegment (segment_at toggle message j) bytes → length bytes ≡ d * 4 → d ≤ 5 → e ≡ j * 6 + suc d → ArePiecesFrom toggle message e more → more ≡ []
nothing_behind toggle message j bytes d e [] within last is size few at h = refl
nothing_behind toggle message j bytes d e (piece ∷ more) within last is size few at h =
    elim (cases_lt d 5) [
      | inl lt ↦
          clash_other piece (piece_here toggle message j (suc d) e (Some piece) bytes at (omega (arith, lt)) within is h.0 ∙ none_at bytes d (omega (arith, size)))
      | inr ge ↦
          let next : e / 6 ≡ suc j = omega (arith, at, ge, few) in
          clash_other piece (h.0.past (omega (arith, next, last)))
    ]

-- how many pieces behind the start a segment has
abbrev count_of : List ℕ → ℕ → ℕ
count_of message j = (length (take 16 (drop (j * 16) message)) + 3) / 4 + 1

size_of : (toggle : Bool) (message : List ℕ) (j : ℕ) (bytes : List ℕ) → IsSegment (segment_at toggle message j) bytes → length bytes ≡ count_of message j * 4
size_of toggle message j bytes is =
    let s : Segment = segment_at toggle message j in
    let none : ℕ = 0 in
    let check : List ℕ = to_be_bytes w16 is.0 in
    let b : ℕ = length s.body in
    omega (arith, ap length is.1.spelled, length-append (front s ++ check) (replicate (round_up b - b) none), length-append (front s) check, length-replicate (round_up b - b) none)

parts_from : (toggle : Bool) (message : List ℕ) (j : ℕ) (bytes piece : List ℕ) (pieces : List (List ℕ)) → j * 16 < length message → IsSegment (segment_at toggle message j) bytes → piece ≡ start
    → Rest toggle message bytes 0 (j * 6 + suc (count_of message j)) pieces → Parts toggle message j (piece ∷ pieces)
parts_from toggle message j bytes piece pieces within is first r =
    let P : List ℕ → Type 0 = λ l. IsSegment (segment_at toggle message j) l in
    let Q : ℕ → Type 0 = λ n. ArePiecesFrom toggle message n r.more in
    record {
      rest = r.rest;
      more = r.more;
      all = ap₂ (λ p l. p ∷ l) first r.all;
      segment = subst P (sym r.bytes_are) is;
      fours = r.fours;
      last = λ last.
          nothing_behind toggle message j bytes (count_of message j) (j * 6 + suc (count_of message j)) r.more within last is (size_of toggle message j bytes is) (omega (arith, is.1.few)) refl r.behind;
      going = λ more.
          let full : length (take 16 (drop (j * 16) message)) ≡ 16 = length-take-le 16 (drop (j * 16) message) (omega (arith, length-drop (j * 16) message, more)) in
          subst Q (omega (arith, full)) r.behind;
    }

pub parts_of : (toggle : Bool) (message : List ℕ) (j k : ℕ) (pieces : List (List ℕ)) → j * 16 < length message → k ≡ j * 6 → ArePiecesFrom toggle message k pieces → Parts toggle message j pieces
parts_of toggle message j k [] within at h =
    let segment : k / 6 ≡ j = omega (arith, at) in
    let place : k % 6 ≡ 0 = omega (arith, at) in
    let w = h.there (omega (arith, segment, within)) in
    clash start (w.2 ∙ ap (piece_at w.0) place)
parts_of toggle message j k (piece ∷ pieces) within at h =
    let segment : k / 6 ≡ j = omega (arith, at) in
    let place : k % 6 ≡ 0 = omega (arith, at) in
    let w = h.0.there (omega (arith, segment, within)) in
    let P : ℕ → Type 0 = λ n. IsSegment (segment_at toggle message n) w.0 in
    let is : IsSegment (segment_at toggle message j) w.0 = subst P segment w.1 in
    parts_from toggle message j w.0 piece pieces within is (same_some piece start (w.2 ∙ ap (piece_at w.0) place))
    (rest_of toggle message j w.0 0 (count_of message j) (k + 1) (j * 6 + suc (count_of message j)) pieces within is (omega (arith, size_of toggle message j w.0 is)) (omega (arith, is.1.few)) (omega (arith, at)) (omega arith)
    h.1)

-- a piece of a message is one
one_piece : (toggle : Bool) (message : List ℕ) (k : ℕ) (p q : Option (List ℕ)) → IsPieceOf toggle message k p → IsPieceOf toggle message k q → p ≡ q
one_piece toggle message k p q h i =
    elim (cases_lt (k / 6 * 16) (length message)) [
      | inl within ↦
          let v = h.there within in
          let w = i.there within in
          v.2 ∙ (ap (λ l. piece_at l (k % 6)) (same_bytes (segment_at toggle message (k / 6)) v.0 w.0 v.1 w.1) ∙ sym w.2)
      | inr past ↦ h.past past ∙ sym (i.past past)
    ]

one_from : (toggle : Bool) (message : List ℕ) (k : ℕ) (xs ys : List (List ℕ)) → ArePiecesFrom toggle message k xs → ArePiecesFrom toggle message k ys → xs ≡ ys
one_from toggle message k [] [] h i = refl
one_from toggle message k [] (y ∷ ys) h i = clash y (one_piece toggle message k None (Some y) h i.0)
one_from toggle message k (x ∷ xs) [] h i = clash_other x (one_piece toggle message k (Some x) None h.0 i)
one_from toggle message k (x ∷ xs) (y ∷ ys) h i =
    ap₂ (λ z l. z ∷ l) (same_some x y (one_piece toggle message k (Some x) (Some y) h.0 i.0)) (one_from toggle message (k + 1) xs ys h.1 i.1)

-- the pieces of a message are one list
pub one_list : OneList
one_list toggle message xs ys h i = one_from toggle message 0 xs ys h i
