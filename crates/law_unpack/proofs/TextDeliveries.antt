-- The items of a delivery make the reading of the frames that are given, but for gaps at its ends.
use Rattle.std.proofs.Common.{◌≡◌, ◌∙◌, ℕ, zero, suc, ◌+◌, ◌-◌, ◌≤◌, ◌/◌, ◌==◌, Bool, true, false, cond, ◌&&◌, List, [], ◌∷◌, ◌++◌, length, drop, Option, None, Some, refl, sym, ap, subst, arith}
use Rattle.std.specs.Prelude.{ℤ, pos, negsuc, ◌+ℤ◌, ◌-ℤ◌, nat_le}
use Rattle.std.specs.List.{AllByRecursion, flat_map, range_with_len}
use Rattle.std.proofs.lemmas.Int.{ints}
use Rattle.std.proofs.lemmas.Bool.Decides.{nat_tests}
use Rattle.std.proofs.lemmas.List.{length-drop}
use Rattle.std.proofs.lemmas.Bool.{leb-true}
use Rattle.drm_schedule.specs.declared.plan.Plan.{Plan}
use Rattle.drm_timeline.specs.Standing.{config_of}
use Rattle.drm_timeline.specs.Numbers.{frame_count}
use Rattle.dcp_pft.specs.Loss.{is_recoverable}
use Rattle.dcp_collect.specs.Numbers.{end_of}
use Rattle.law_collect.specs.Delivery.{newest_of}
use Rattle.drm_text.specs.Joining.{TextState, made}
use Rattle.law_text.specs.Readings.{PieceReading, IsEntry}
use Rattle.law_text.specs.Runs.{messages_in}
use Rattle.law_text.specs.Laws.{JoinsMessages}
use Rattle.law_delivery.specs.Given.{IsServed, IsServedWhere, IsItemBy}
use Rattle.law_delivery.specs.Laws.{Delivering}
use Rattle.law_delivery.specs.Sent.{pairs_in, frame_of_number, shape_at}
use Rattle.law_delivery.proofs.Numbering.{frame_within}
use Rattle.mod_feed.specs.Items.{FrameItem, Frame, Missing, Bad}
use Rattle.cmd_unpack.specs.Streams.{TextsOf, stream_of, pieces_of, entries_of, entries_at, lacking, bad_at, missing_at, reading, bad_in, missing_in}
use Rattle.law_unpack.specs.Delivered.{is_given}
use Rattle.law_unpack.specs.Texts.{bytes_in, entries_where, entries_by, piece_count, TextsOfDeliveries}
use Rattle.law_unpack.proofs.Places.{AreMissing, AreAt, first_at, next_at, kept_at, missing_by, place_next, none_before, all_behind, given_within, lost_past, lost_early, stream_served, placed}
use Rattle.law_unpack.proofs.TextReadings.{piece_count-append, GiveTheSame, AreGaps, same_front, gap_off, gap_on, gaps_off, gaps_on}

-- ---- one item

entries_served : (plan : Plan) (k t q : ℕ) (item : FrameItem) → IsServed plan t q item → entries_at (TextsOf k) item ≡ entries_where true plan k t
entries_served plan k t q item served =
    let bytes = stream_served plan k t q item served ∙ sym (ap (bytes_in k t) served.is_frame.holds) in
    ap (entries_at (TextsOf k)) served.item_is ∙ ap (λ o. entries_of (pieces_of (TextsOf k) o)) bytes

entries_there : (b : Bool) (plan : Plan) (k t q : ℕ) (kept : ℕ → Bool) (item : FrameItem) → IsServedWhere b plan t q kept item → entries_at (TextsOf k) item ≡ entries_where b plan k t
entries_there true plan k t q kept item is = entries_served plan k t q item is
entries_there false plan k t q kept item is = ap (entries_at (TextsOf k)) is

-- n frames from t on
abbrev entries_from : Plan → ℕ → ℤ → List (ℕ × ℕ) → (end k t n : ℕ) → PieceReading
entries_from plan window first_frame pairs end k t n = flat_map (λ t. entries_where (is_given plan window first_frame pairs end t) plan k t) (range_with_len t n)

-- ---- items and frames that are only gaps

missing_gaps : (k : ℕ) (items : List FrameItem) → AreMissing items → AreGaps (reading (TextsOf k) items)
missing_gaps k [] are = tt
missing_gaps k (item ∷ items) are =
    subst (λ l. AreGaps (l ++ reading (TextsOf k) items)) (sym (ap (entries_at (TextsOf k)) are.0.1)) (refl, missing_gaps k items are.1)

-- ---- place by place

module _ (plan : Plan) (window : ℕ) (first_frame : ℤ) (pairs : List (ℕ × ℕ)) (end k : ℕ) where
  abbrev entries : ℕ → ℕ → PieceReading
  entries t n = entries_from plan window first_frame pairs end k t n

  abbrev are_at : ℕ → List FrameItem → Type 0
  are_at q items = AreAt plan window first_frame pairs q items

  -- a frame that isn't given, and those behind it
  lost_frame : (t n : ℕ) → is_given plan window first_frame pairs end t ≡ false → entries t (suc n) ≡ None ∷ entries (t + 1) n
  lost_frame t n lost = ap (λ b. entries_where b plan k t ++ entries (t + 1) n) lost

  past_gaps : (t q n : ℕ) → (first_frame +ℤ pos q) ≡ pos t → end ≤ q → AreGaps (entries t n)
  past_gaps t q zero place past = tt
  past_gaps t q (suc n) place past =
      subst AreGaps (sym (lost_frame t n (lost_past plan window first_frame pairs end t q place past))) (refl, past_gaps (t + 1) (q + 1) n (place_next first_frame t q place) (omega (arith, past)))

  behind_gaps : (t q : ℕ) (items : List FrameItem) → (first_frame +ℤ pos q) ≡ pos t → frame_count plan ≤ t → are_at q items → AreGaps (reading (TextsOf k) items)
  behind_gaps t q items place past are = missing_gaps k items (all_behind plan window first_frame pairs t q items place past are)

  -- where item q is of frame t
  aligned : (t q n : ℕ) (items : List FrameItem) → (first_frame +ℤ pos q) ≡ pos t → q + length items ≡ end → t + n ≡ frame_count plan → are_at q items
      → (s : TextState) → GiveTheSame s (reading (TextsOf k) items) (entries t n)
  aligned t q n [] place many all are s = gaps_on s (entries t n) (past_gaps t q n place (omega (arith, many)))
  aligned t q zero (item ∷ items) place many all are s =
      gaps_off s (reading (TextsOf k) (item ∷ items)) (behind_gaps t q (item ∷ items) place (omega (arith, all)) are)
  aligned t q (suc n) (item ∷ items) place many all are s =
      let more = aligned (t + 1) (q + 1) n items (place_next first_frame t q place) (omega (arith, many)) (omega (arith, all)) (next_at plan window first_frame pairs q item items are) in
      let kept : ℕ → Bool = kept_at plan window first_frame pairs q in
      let b : Bool = is_recoverable (shape_at plan t) kept in
      let there : frame_of_number plan first_frame q ≡ Some t = frame_within plan (first_frame +ℤ pos q) t place (omega (arith, all)) in
      let here : IsServedWhere b plan t q kept item = subst (λ (o : Option ℕ). IsItemBy plan o q kept item) there (first_at plan window first_frame pairs q item items are) in
      let given : is_given plan window first_frame pairs end t ≡ b = given_within plan window first_frame pairs end t q place (omega (arith, many)) in
      let same : entries_at (TextsOf k) item ≡ entries_where (is_given plan window first_frame pairs end t) plan k t =
      entries_there b plan k t q kept item here ∙ ap (λ c. entries_where c plan k t) (sym given) in
      subst (λ l. GiveTheSame s (l ++ reading (TextsOf k) items) (entries t (suc n))) (sym same)
      (same_front (entries_where (is_given plan window first_frame pairs end t) plan k t) s (reading (TextsOf k) items) (entries (t + 1) n) more)

  -- where the first item is of a frame behind t
  from_later : (m t n : ℕ) (items : List FrameItem) → first_frame ≡ pos (t + m) → length items ≡ end → t + n ≡ frame_count plan → are_at 0 items
      → GiveTheSame made (reading (TextsOf k) items) (entries t n)
  from_later zero t n items at many all are = aligned t 0 n items (omega (arith, ints, at)) (omega (arith, many)) all are made
  from_later (suc m) t zero items at many all are =
      gaps_off made (reading (TextsOf k) items) (behind_gaps (t + suc m) 0 items (omega (arith, ints, at)) (omega (arith, all)) are)
  from_later (suc m) t (suc n) items at many all are =
      let lost : is_given plan window first_frame pairs end t ≡ false = lost_early plan window first_frame pairs end t (pos t -ℤ first_frame) m (omega (arith, ints, at)) in
      subst (GiveTheSame made (reading (TextsOf k) items)) (sym (lost_frame t n lost))
      (gap_on (reading (TextsOf k) items) (entries (t + 1) n) (from_later m (t + 1) n items (omega (arith, ints, at)) many (omega (arith, all)) are))

  -- where the first items are of no frame
  from_earlier : (m q : ℕ) (items : List FrameItem) → (first_frame +ℤ pos (q + m)) ≡ pos 0 → q + length items ≡ end → are_at q items
      → GiveTheSame made (reading (TextsOf k) items) (entries 0 (frame_count plan))
  from_earlier zero q items place many are = aligned 0 q (frame_count plan) items (omega (arith, ints, place)) many (omega arith) are made
  from_earlier (suc m) q [] place many are =
      gaps_on made (entries 0 (frame_count plan)) (past_gaps 0 (q + suc m) (frame_count plan) place (omega (arith, many)))
  from_earlier (suc m) q (item ∷ items) place many are =
      let none : frame_of_number plan first_frame q ≡ None = none_before plan (first_frame +ℤ pos q) m (omega (arith, ints, place)) in
      let missing : entries_at (TextsOf k) item ≡ None ∷ [] =
      ap (entries_at (TextsOf k)) (missing_by plan window first_frame pairs q item none (first_at plan window first_frame pairs q item items are)) in
      subst (λ l. GiveTheSame made (l ++ reading (TextsOf k) items) (entries 0 (frame_count plan))) (sym missing)
      (gap_off (reading (TextsOf k) items) (entries 0 (frame_count plan))
      (from_earlier m (q + 1) items (omega (arith, ints, place)) (omega (arith, many)) (next_at plan window first_frame pairs q item items are)))

  same_all : (z : ℤ) (items : List FrameItem) → first_frame ≡ z → length items ≡ end → are_at 0 items → GiveTheSame made (reading (TextsOf k) items) (entries 0 (frame_count plan))
  same_all (pos m) items at many are = from_later m 0 (frame_count plan) items (omega (arith, ints, at)) many (omega arith) are
  same_all (negsuc m) items at many are = from_earlier (m + 1) 0 items (omega (arith, ints, at)) (omega (arith, many)) are

-- ---- pieces of four bytes

four_at_end : (bytes : List ℕ) (b : Bool) → nat_le 4 (length bytes) ≡ b → AllByRecursion IsEntry (entries_of (cond b (Some (drop (length bytes - 4) bytes ∷ [])) None))
four_at_end bytes true enough = ((let long = length-drop (length bytes - 4) bytes in omega (arith, long, leb-true 4 (length bytes) enough)), tt)
four_at_end bytes false few = (tt, tt)

are_entries : (k : ℕ) (bytes : Option (List ℕ)) → AllByRecursion IsEntry (entries_of (pieces_of (TextsOf k) bytes))
are_entries k None = (tt, tt)
are_entries k (Some bytes) = four_at_end bytes (nat_le 4 (length bytes)) refl

entries_where_all : (b : Bool) (plan : Plan) (k t : ℕ) → AllByRecursion IsEntry (entries_where b plan k t)
entries_where_all true plan k t = are_entries k (bytes_in k t (config_of plan (t / 3)))
entries_where_all false plan k t = (tt, tt)

all_join : {X : Type 0} (P : X → Type 0) (xs ys : List X) → AllByRecursion P xs → AllByRecursion P ys → AllByRecursion P (xs ++ ys)
all_join P [] ys h g = g
all_join P (x ∷ xs) ys h g = (h.0, all_join P xs ys h.1 g)

entries_all : (plan : Plan) (window : ℕ) (first_frame : ℤ) (pairs : List (ℕ × ℕ)) (end k t n : ℕ) → AllByRecursion IsEntry (entries_from plan window first_frame pairs end k t n)
entries_all plan window first_frame pairs end k t zero = tt
entries_all plan window first_frame pairs end k t (suc n) =
    all_join IsEntry (entries_where (is_given plan window first_frame pairs end t) plan k t) (entries_from plan window first_frame pairs end k (t + 1) n)
    (entries_where_all (is_given plan window first_frame pairs end t) plan k t) (entries_all plan window first_frame pairs end k (t + 1) n)

-- ---- each item is a piece, or bad, or missing

one_piece : (bytes : List ℕ) (b : Bool) → (o : Option (List (List ℕ))) → o ≡ cond b (Some (drop (length bytes - 4) bytes ∷ [])) None → lacking o + piece_count (entries_of o) ≡ 1
one_piece bytes true o is = ap (λ p. lacking p + piece_count (entries_of p)) is
one_piece bytes false o is = ap (λ p. lacking p + piece_count (entries_of p)) is

stream_counted : (k : ℕ) (bytes : Option (List ℕ)) → lacking (pieces_of (TextsOf k) bytes) + piece_count (entries_of (pieces_of (TextsOf k) bytes)) ≡ 1
stream_counted k None = refl
stream_counted k (Some bytes) = one_piece bytes (nat_le 4 (length bytes)) (pieces_of (TextsOf k) (Some bytes)) refl

item_counted : (k : ℕ) (item : FrameItem) → bad_at (TextsOf k) item + missing_at item + piece_count (entries_at (TextsOf k) item) ≡ 1
item_counted k (Frame q frame payload) = omega (arith, stream_counted k (stream_of k frame payload))
item_counted k (Missing q had total) = refl
item_counted k (Bad q fault) = refl

all_counted : (k : ℕ) (items : List FrameItem) → bad_in (TextsOf k) items + missing_in items + piece_count (reading (TextsOf k) items) ≡ length items
all_counted k [] = refl
all_counted k (item ∷ items) =
    omega (arith, item_counted k item, all_counted k items, piece_count-append (entries_at (TextsOf k) item) (reading (TextsOf k) items))

clean_by : (bad missing pieces end : ℕ) → bad + missing + pieces ≡ end → ((bad == 0) && (missing == 0)) ≡ (pieces == end)
clean_by bad missing pieces end is = grind (arith, nat_tests)

-- ---- what is printed

pub texts_of_deliveries : JoinsMessages → Delivering → TextsOfDeliveries
texts_of_deliveries joins delivering plan window reach first frame_limit first_frame arrivals datagrams answers collected k items text clean is some followed run are (said, left, runs, (text_is, clean_is)) =
    let pairs : List (ℕ × ℕ) = pairs_in arrivals in
    let end : ℕ = end_of frame_limit (newest_of first_frame None pairs) in
    let at = placed plan window reach first frame_limit first_frame arrivals datagrams answers collected items delivering is some followed run are in
    let frames : PieceReading = entries_by plan window first_frame pairs end k in
    let same = same_all plan window first_frame pairs end k first_frame items refl at.many at.at in
    let gives = same.gives said left runs in
    let counted : bad_in (TextsOf k) items + missing_in items + piece_count frames ≡ end = omega (arith, all_counted k items, same.many, at.many) in
    record {
      messages = messages_in said;
      are = (joins frames gives.answers (messages_in said) gives.left (entries_all plan window first_frame pairs end k 0 (frame_count plan)) gives.runs).1 gives.same;
      text_is = text_is;
      clean_is = clean_is ∙ clean_by (bad_in (TextsOf k) items) (missing_in items) (piece_count frames) end counted;
    }
