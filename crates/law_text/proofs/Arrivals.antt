-- Where the pieces of a message came one directly after another, a joiner gives it, whatever came before.
use Rattle.std.proofs.Common.{◌≡◌, ℕ, zero, suc, ◌+◌, ◌*◌, ◌/◌, ◌%◌, ◌<◌, ◌≤◌, ◌==◌, inl, inr, Bool, true, false, not, if◌then◌else◌, List, [], ◌∷◌, ◌++◌, length, take, drop, get_or, Option, Some, None, is_some, refl, sym, ap, ap₂, subst, ◌∙◌, append_assoc, append-nil, arith, length-append, eq-eqb}
use Rattle.std.specs.List.{AllByRecursion}
use Rattle.std.specs.Str.{IsUtf8}
use Rattle.std.proofs.lemmas.Bool.{cases_Bool, ne_eqb, and_from, le-leb, lt-leb}
use Rattle.std.proofs.lemmas.List.{take_at, drop_at, get_or_append_left, same_from_push}
use Rattle.drm_text.specs.Segment.{Segment, most_body, round_up, IsSegment}
use Rattle.drm_text.specs.Message.{start, most_message}
use Rattle.drm_text.specs.Reading.{body_length}
use Rattle.drm_text.specs.Joining.{OpenMessage, TextState, PieceRole, Starts, Grows, Fills, made, is_start, is_complete, gather, gather_on, segment_after, same_flag, joined, bytes_with, going_on, whole, ReadsIn, begun_by, after, whole_with, GivesMessage}
use Rattle.drm_text.proofs.Spellings.{placed}
use Rattle.drm_text.proofs.Joinings.{one_read}
use Rattle.drm_text.proofs.Starts.{IsPlain, text_plain, later_piece}
use Rattle.law_text.specs.Readings.{PieceReading, IsEntry, without_gaps, bytes_of, HasNoGaps, MessageGoesOn, AreBegun, EndsMessage}
use Rattle.law_text.specs.Runs.{JoinerRuns, with_message, messages_in}
use Rattle.law_text.proofs.Steps.{is_the_start}

abbrev pub IsFour : List ℕ → Type 0
IsFour piece = length piece ≡ 4

pub all_parts : {X : Type 0} (P : X → Type 0) (xs ys : List X) → AllByRecursion P (xs ++ ys) → AllByRecursion P xs × AllByRecursion P ys
all_parts P [] ys h = (tt, h)
all_parts P (x ∷ xs) ys h = let r = all_parts P xs ys h.1 in ((h.0, r.0), r.1)

fours_of : (pieces : List (List ℕ)) → AllByRecursion IsEntry (without_gaps pieces) → AllByRecursion IsFour pieces
fours_of [] h = tt
fours_of (p ∷ pieces) h = (h.0, fours_of pieces h.1)

-- a run over two readings is one over each of them
pub record Split (s : TextState) (xs ys : PieceReading) (texts : List (Option (List ℕ))) (left : TextState) : Type 0 where
  pub answers : List (Option (List ℕ))
  pub later : List (Option (List ℕ))
  pub mid : TextState
  pub all : texts ≡ answers ++ later
  pub first : JoinerRuns s xs answers mid
  pub second : JoinerRuns mid ys later left

pub runs_split : (s : TextState) (xs ys : List (Option (List ℕ))) (texts : List (Option (List ℕ))) (left : TextState) → JoinerRuns s (xs ++ ys) texts left → Split s xs ys texts left
runs_split s [] ys texts left h = record { answers = []; later = texts; mid = s; all = refl; first = (refl, refl); second = h }
runs_split s (None ∷ xs) ys [] left h = absurd h
runs_split s (None ∷ xs) ys (text ∷ texts) left h =
    let r = runs_split made xs ys texts left h.1 in
    record { answers = text ∷ r.answers; later = r.later; mid = r.mid; all = ap (λ l. text ∷ l) r.all; first = (h.0, r.first); second = r.second }
runs_split s (Some piece ∷ xs) ys [] left h = absurd h
runs_split s (Some piece ∷ xs) ys (text ∷ texts) left (read, reads, gives, rest) =
    let r = runs_split (after s piece read) xs ys texts left rest in
    record { answers = text ∷ r.answers; later = r.later; mid = r.mid; all = ap (λ l. text ∷ l) r.all; first = (read, reads, gives, r.first); second = r.second }

-- what the last piece of a segment tells and leaves, with this message begun before it
pub record Filled (o : Option (List ℕ)) (s : Segment) (texts : List (Option (List ℕ))) (left : TextState) : Type 0 where
  pub answers : List (Option (List ℕ))
  pub text : Option (List ℕ)
  pub texts_are : texts ≡ answers ++ text ∷ []
  pub quiet : messages_in answers ≡ []
  pub gives : GivesMessage (whole s o) text
  pub left_is : left ≡ record { begun = going_on s o; segment = None }

-- these bytes of a segment came, and these pieces are to come
pub record Arriving (s : Segment) (bytes arrived : List ℕ) (pieces : List (List ℕ)) : Type 0 where
  pub segment : IsSegment s bytes
  pub plain : AllByRecursion IsPlain s.body
  pub all : bytes ≡ arrived ++ bytes_of pieces
  pub even : length arrived % 4 ≡ 0
  pub more : length arrived < length bytes
  pub fours : AllByRecursion IsFour pieces

abbrev pub in_segment : Option OpenMessage → List ℕ → TextState
in_segment b bytes = record { begun = b; segment = Some bytes }

-- no piece of it is the start
pub not_start : (s : Segment) (bytes arrived piece : List ℕ) (pieces : List (List ℕ)) → Arriving s bytes arrived (piece ∷ pieces) → is_start piece ≡ false
not_start s bytes arrived piece pieces h =
    elim (cases_Bool (is_start piece)) [
      | inl is ↦
          let i : ℕ = length arrived / 4 in
          let place : length arrived ≡ i * 4 = omega (arith, h.even) in
          let there : take 4 (drop (i * 4) bytes) ≡ piece =
          ap (λ l. take 4 (drop (i * 4) l)) h.all
          ∙ (ap (take 4) (drop_at arrived (piece ++ bytes_of pieces) (i * 4) place) ∙ take_at piece (bytes_of pieces) 4 h.fours.0) in
          absurd (later_piece s bytes i h.plain h.segment (sym (is_the_start piece h.fours.0 is) ∙ sym there))
      | inr other ↦ other
    ]

-- how many bytes there are to be stands in the first of them
size_with : (s : Segment) (bytes arrived piece : List ℕ) (pieces : List (List ℕ)) → Arriving s bytes arrived (piece ∷ pieces) → round_up (body_length (arrived ++ piece)) + 4 ≡ length bytes
size_with s bytes arrived piece pieces h =
    let long : length (arrived ++ piece) ≡ length arrived + 4 = length-append arrived piece ∙ ap (λ n. length arrived + n) h.fours.0 in
    let byte : get_or bytes 0 0 ≡ get_or (arrived ++ piece) 0 0 =
    ap (λ l. get_or l 0 0) (h.all ∙ sym (append_assoc arrived piece (bytes_of pieces))) ∙ get_or_append_left (arrived ++ piece) (bytes_of pieces) 0 0 (omega (arith, long)) in
    ap (λ n. round_up (n % 16 + 1) + 4) (sym byte) ∙ sym (placed s bytes h.segment).begins.size

-- the last piece of it
fill : (b : Option OpenMessage) (s : Segment) (bytes arrived piece : List ℕ) (text : Option (List ℕ)) (texts : List (Option (List ℕ))) (left : TextState) → Arriving s bytes arrived (piece ∷ [])
    → JoinerRuns (in_segment b arrived) (Some piece ∷ []) (text ∷ texts) left → Filled (bytes_with b s) s (text ∷ texts) left
fill b s bytes arrived piece text texts left h (read, reads, gives, rest) =
    let all : bytes ≡ arrived ++ piece = h.all ∙ ap (λ l. arrived ++ l) (append-nil piece) in
    let test : is_complete (arrived ++ piece) ≡ true =
    le-leb (round_up (body_length (arrived ++ piece)) + 4) (length (arrived ++ piece)) (omega (arith, size_with s bytes arrived piece [] h, ap length all)) in
    let fills : gather (Some arrived) piece ≡ Fills (arrived ++ piece) =
    ap (λ t. if t then Starts true else gather_on (Some arrived) piece) (not_start s bytes arrived piece [] h)
    ∙ ap (λ t. if t then Fills (arrived ++ piece) else Grows (arrived ++ piece)) test in
    let P : PieceRole → Type 0 = λ g. ReadsIn g read in
    let Q : List ℕ → Type 0 = λ l. IsSegment s l in
    let is : read ≡ Some s = one_read (arrived ++ piece) read (Some s) (subst P fills reads) (subst Q all h.segment) in
    let R : Option Segment → Type 0 = λ r. GivesMessage (whole_with b r) text in
    record {
      answers = [];
      text = text;
      texts_are = ap (λ l. text ∷ l) rest.0;
      quiet = refl;
      gives = subst R is gives;
      left_is = rest.1 ∙ ap₂ (λ g r. record { begun = begun_by b g r; segment = segment_after g }) fills is;
    }

-- a piece of it behind which others are to come
pub grow : (s : Segment) (bytes arrived piece next : List ℕ) (pieces : List (List ℕ)) → Arriving s bytes arrived (piece ∷ next ∷ pieces)
    → (gather (Some arrived) piece ≡ Grows (arrived ++ piece)) × Arriving s bytes (arrived ++ piece) (next ∷ pieces)
grow s bytes arrived piece next pieces h =
    let long : length (arrived ++ piece) ≡ length arrived + 4 = length-append arrived piece ∙ ap (λ n. length arrived + n) h.fours.0 in
    let all : bytes ≡ (arrived ++ piece) ++ bytes_of (next ∷ pieces) = h.all ∙ sym (append_assoc arrived piece (bytes_of (next ∷ pieces))) in
    let size : length bytes ≡ length (arrived ++ piece) + (4 + length (bytes_of pieces)) =
    omega (arith, ap length all, length-append (arrived ++ piece) (bytes_of (next ∷ pieces)), length-append next (bytes_of pieces), h.fours.1.0) in
    let test : is_complete (arrived ++ piece) ≡ false =
    lt-leb (round_up (body_length (arrived ++ piece)) + 4) (length (arrived ++ piece)) (omega (arith, size_with s bytes arrived piece (next ∷ pieces) h, size)) in (
      ap (λ t. if t then Starts true else gather_on (Some arrived) piece) (not_start s bytes arrived piece (next ∷ pieces) h)
          ∙ ap (λ t. if t then Fills (arrived ++ piece) else Grows (arrived ++ piece)) test,
      record { segment = h.segment; plain = h.plain; all = all; even = omega (arith, long, h.even); more = omega (arith, size); fours = h.fours.1 },
    )

-- a piece that isn't the last one of a segment gives nothing
pub nothing_given : (b : Option OpenMessage) (read : Option Segment) (text : Option (List ℕ)) → read ≡ None → GivesMessage (whole_with b read) text → text ≡ None
nothing_given b read text none gives = let P : Option Segment → Type 0 = λ r. GivesMessage (whole_with b r) text in subst P none gives

pub filled_on : {o : Option (List ℕ)} {s : Segment} {texts : List (Option (List ℕ))} {left : TextState} (text : Option (List ℕ)) → Filled o s texts left → text ≡ None → Filled o s (text ∷ texts) left
filled_on text r none = record {
  answers = text ∷ r.answers;
  text = r.text;
  texts_are = ap (λ l. text ∷ l) r.texts_are;
  quiet = ap (λ o. with_message o (messages_in r.answers)) none ∙ r.quiet;
  gives = r.gives;
  left_is = r.left_is;
}

pub filling : (b : Option OpenMessage) (s : Segment) (bytes arrived : List ℕ) (pieces : List (List ℕ)) (texts : List (Option (List ℕ))) (left : TextState) → Arriving s bytes arrived pieces
    → JoinerRuns (in_segment b arrived) (without_gaps pieces) texts left → Filled (bytes_with b s) s texts left
filling b s bytes arrived [] texts left h run = absurd (omega (arith, h.more, ap length h.all, length-append arrived []))
filling b s bytes arrived (piece ∷ pieces) [] left h run = absurd run
filling b s bytes arrived (piece ∷ []) (text ∷ texts) left h run = fill b s bytes arrived piece text texts left h run
filling b s bytes arrived (piece ∷ next ∷ pieces) (text ∷ texts) left h (read, reads, gives, rest) =
    let more = grow s bytes arrived piece next pieces h in
    let P : PieceRole → Type 0 = λ g. JoinerRuns (record { begun = begun_by b g read; segment = segment_after g }) (without_gaps (next ∷ pieces)) texts left in
    let Q : PieceRole → Type 0 = λ g. ReadsIn g read in
    let r = filling b s bytes (arrived ++ piece) (next ∷ pieces) texts left more.1 (subst P more.0 rest) in
    filled_on text r (nothing_given b read text (subst Q more.0 reads) gives)

-- the message that is still begun after a start
abbrev pub still_begun : TextState → Option OpenMessage
still_begun v = if is_some v.segment then None else v.begun

-- a segment that came whole
pub whole_segment : (v : TextState) (s : Segment) (here : PieceReading) (texts : List (Option (List ℕ))) (left : TextState) → HasNoGaps s here → AllByRecursion IsEntry here → AllByRecursion IsPlain s.body → JoinerRuns v here texts left
    → Filled (bytes_with (still_begun v) s) s texts left
whole_segment v s here texts left has_no_gaps entries plain run =
    let P : PieceReading → Type 0 = λ l. JoinerRuns v l texts left in
    let Q : PieceReading → Type 0 = λ l. AllByRecursion IsEntry l in
    from_start texts (subst Q has_no_gaps.all entries) (subst P has_no_gaps.all run)
  where
    from_start : (texts : List (Option (List ℕ))) → AllByRecursion IsEntry (Some start ∷ without_gaps has_no_gaps.pieces) → JoinerRuns v (Some start ∷ without_gaps has_no_gaps.pieces) texts left → Filled (bytes_with (still_begun v) s) s texts left
    from_start [] entries run = absurd run
    from_start (text ∷ texts) entries (read, reads, gives, rest) =
        let r = filling (still_begun v) s (bytes_of has_no_gaps.pieces) [] has_no_gaps.pieces texts left
        (record {
          segment = has_no_gaps.segment;
          plain = plain;
          all = refl;
          even = refl;
          more = omega (arith, (placed s (bytes_of has_no_gaps.pieces) has_no_gaps.segment).begins.least);
          fours = fours_of has_no_gaps.pieces entries.1;
        })
        rest in
        filled_on text r (nothing_given v.begun read text reads gives)

same_flags : (a b : Bool) → a ≡ b → same_flag a b ≡ true
same_flags true true is = refl
same_flags true false is = absurd cc
same_flags false true is = absurd cc
same_flags false false is = refl

-- the bytes with a segment that goes on
pub begins_with : (b : Option OpenMessage) (s : Segment) → s.first ≡ true → s.number ≡ 0 → bytes_with b s ≡ Some s.body
begins_with b s first number =
    ap (λ f. if f then (if s.number == 0 then Some s.body else None) else joined b s) first ∙ ap (λ t. if t then Some s.body else None) (eq-eqb s.number 0 number)

pub joins_with : (u : OpenMessage) (s : Segment) → s.first ≡ false → s.toggle ≡ u.toggle → s.number ≡ u.number → length u.bytes + length s.body ≤ most_message → bytes_with (Some u) s ≡ Some (u.bytes ++ s.body)
joins_with u s first toggle number few =
    ap (λ f. if f then (if s.number == 0 then Some s.body else None) else joined (Some u) s) first
    ∙ ap (λ t. if t then Some (u.bytes ++ s.body) else None)
    (and_from _ _ (same_flags s.toggle u.toggle toggle) (and_from _ _ (eq-eqb s.number u.number number) (le-leb (length u.bytes + length s.body) most_message few)))

pub goes_on : (s : Segment) (bytes : List ℕ) → s.last ≡ false → length s.body ≡ most_body → going_on s (Some bytes) ≡ Some (record { toggle = s.toggle; number = s.number + 1; bytes = bytes })
goes_on s bytes more full =
    ap (λ t. if t then Some (record { toggle = s.toggle; number = s.number + 1; bytes = bytes }) else None) (and_from _ _ (ap not more) (eq-eqb (length s.body) most_body full))

-- what the last piece of a message, or of the front of one, tells and leaves
record Gave (text : List ℕ) (s : Segment) (texts : List (Option (List ℕ))) (left : TextState) : Type 0 where
  pub answers : List (Option (List ℕ))
  pub given : Option (List ℕ)
  pub texts_are : texts ≡ answers ++ given ∷ []
  pub gives : GivesMessage (whole s (Some text)) given
  pub left_is : left ≡ record { begun = going_on s (Some text); segment = None }

gave_behind : (s : Segment) (text : List ℕ) (o : Option (List ℕ)) (answers later texts : List (Option (List ℕ))) (left : TextState) → texts ≡ answers ++ later → o ≡ Some text → Filled o s later left → Gave text s texts left
gave_behind s text o answers later texts left all is r = record {
  answers = answers ++ r.answers;
  given = r.text;
  texts_are = all ∙ (ap (λ l. answers ++ l) r.texts_are ∙ sym (append_assoc answers r.answers (r.text ∷ [])));
  gives = let P : Option (List ℕ) → Type 0 = λ x. GivesMessage (whole s x) r.text in subst P is r.gives;
  left_is = r.left_is ∙ ap (λ x. record { begun = going_on s x; segment = None }) is;
}

-- the segments of a message, up to one that came whole
arrived : (toggle : Bool) (n : ℕ) (s : Segment) (text : List ℕ) (reading : PieceReading) (v : TextState) (texts : List (Option (List ℕ))) (left : TextState) → MessageGoesOn (AreBegun toggle n) toggle n s text reading
    → AllByRecursion IsEntry reading → AllByRecursion IsPlain text → length text ≤ most_message → JoinerRuns v reading texts left → Gave text s texts left
arrived toggle zero s text reading v texts left g entries plain few run =
    let P : PieceReading → Type 0 = λ l. JoinerRuns v l texts left in
    let Q : PieceReading → Type 0 = λ l. AllByRecursion IsEntry l in
    let R : List ℕ → Type 0 = λ l. AllByRecursion IsPlain l in
    let split = runs_split v g.ahead g.here texts left (subst P g.all run) in
    let r = whole_segment split.mid s g.here split.later left g.whole (all_parts IsEntry g.ahead g.here (subst Q g.all entries)).1 (all_parts IsPlain g.before s.body (subst R g.text_is plain)).1 split.second in
    let body : s.body ≡ text = sym (g.text_is ∙ ap (λ l. l ++ s.body) g.begun.0) in
    let with_it : bytes_with (still_begun split.mid) s ≡ Some text = begins_with (still_begun split.mid) s g.first_is g.number_is ∙ ap Some body in
    gave_behind s text _ split.answers split.later texts left split.all with_it r
arrived toggle (suc n) s text reading v texts left g entries plain few run =
    let P : PieceReading → Type 0 = λ l. JoinerRuns v l texts left in
    let Q : PieceReading → Type 0 = λ l. AllByRecursion IsEntry l in
    let R : List ℕ → Type 0 = λ l. AllByRecursion IsPlain l in
    let split = runs_split v g.ahead g.here texts left (subst P g.all run) in
    let parts = all_parts IsEntry g.ahead g.here (subst Q g.all entries) in
    let plains = all_parts IsPlain g.before s.body (subst R g.text_is plain) in
    let size : length text ≡ length g.before + length s.body = ap length g.text_is ∙ length-append g.before s.body in
    let t : Segment = g.begun.0 in
    let u : OpenMessage = record { toggle = t.toggle; number = t.number + 1; bytes = g.before } in
    let earlier = arrived toggle n t g.before g.ahead v split.answers split.mid g.begun.1 parts.0 plains.0 (omega (arith, size, few)) split.first in
    let mid : split.mid ≡ record { begun = Some u; segment = None } =
    earlier.left_is ∙ ap (λ x. record { begun = x; segment = None }) (goes_on t g.before g.begun.2 g.begun.3) in
    let r = whole_segment split.mid s g.here split.later left g.whole parts.1 plains.1 split.second in
    let later : s.first ≡ false = g.first_is ∙ ne_eqb (suc n) 0 (λ same. absurd (omega (arith, same))) in
    let with_it : bytes_with (still_begun split.mid) s ≡ Some text =
    ap (λ x. bytes_with (still_begun x) s) mid
    ∙ (joins_with u s later (g.toggle_is ∙ sym g.begun.1.toggle_is) (omega (arith, g.number_is, g.begun.1.number_is)) (omega (arith, size, few)) ∙ ap Some (sym g.text_is)) in
    gave_behind s text _ split.answers split.later texts left split.all with_it r

pub given_text : (s : Segment) (message : List ℕ) (text : Option (List ℕ)) → s.last ≡ true → GivesMessage (whole s (Some message)) text → IsUtf8 message → text ≡ Some message
given_text s message None last gives utf8 =
    let P : Option (List ℕ) → Type 0 = λ x. GivesMessage x None in
    let g = subst P (ap (λ t. if t then Some message else None) last) gives in
    let is : false ≡ true = g.0.1 utf8 in
    absurd cc
given_text s message (Some given) last gives utf8 =
    let P : Option (List ℕ) → Type 0 = λ x. GivesMessage x (Some given) in
    let g = subst P (ap (λ t. if t then Some message else None) last) gives in
    ap Some g.1

-- a message that ends there is given
pub ends_given : (v : TextState) (reading : PieceReading) (message : List ℕ) (answers : List (Option (List ℕ))) (text : Option (List ℕ)) (left : TextState) → AllByRecursion IsEntry reading → EndsMessage reading message
    → JoinerRuns v reading (answers ++ text ∷ []) left → text ≡ Some message
ends_given v reading message answers text left entries e run =
    let P : PieceReading → Type 0 = λ l. JoinerRuns v l (answers ++ text ∷ []) left in
    let Q : PieceReading → Type 0 = λ l. AllByRecursion IsEntry l in
    let split = runs_split v e.front e.pieces (answers ++ text ∷ []) left (subst P e.all run) in
    let r = arrived e.toggle e.number e.segment message e.pieces split.mid split.later left e.goes (all_parts IsEntry e.front e.pieces (subst Q e.all entries)).1 (text_plain message e.utf8) e.few split.second in
    let same = same_from_push answers (split.answers ++ r.answers) text r.given
    (split.all ∙ (ap (λ l. split.answers ++ l) r.texts_are ∙ sym (append_assoc split.answers r.answers (r.given ∷ [])))) in
    same.1 ∙ given_text e.segment message r.given e.last r.gives e.utf8
