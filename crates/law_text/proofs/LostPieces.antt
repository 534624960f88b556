-- Pieces of messages with losses, joined.
use Rattle.std.proofs.Common.{◌≡◌, ℕ, zero, suc, ◌+◌, ◌-◌, ◌*◌, ◌/◌, ◌<◌, ◌≤◌, ◌==◌, ◌⊎◌, inl, inr, Bool, true, false, ◌&&◌, not, if◌then◌else◌, List, [], ◌∷◌, ◌++◌, length, take, drop, Option, Some, None, refl, sym, ap, ap₂, subst, ◌∙◌, arith, length-append, length-drop}
use Rattle.std.specs.List.{AllByRecursion}
use Rattle.std.proofs.lemmas.Bool.{cases_Bool, ne_eqb, le-leb, lt-leb}
use Rattle.std.proofs.lemmas.List.{take_all, take-take, drop-take, length-take, length-take-le, take-append-drop}
use Rattle.drm_text.specs.Segment.{Segment, most_body}
use Rattle.drm_text.specs.Message.{start, most_message, segment_at}
use Rattle.drm_text.specs.Joining.{OpenMessage, TextState, PieceRole, Starts, Strays, made, is_start, gather, gather_on, segment_after, joined, bytes_with, going_on, whole, ReadsIn, begun_by, GivesMessage}
use Rattle.drm_text.proofs.Spellings.{placed}
use Rattle.drm_text.proofs.Starts.{IsPlain, text_plain, all_take, all_drop}
use Rattle.law_text.specs.Readings.{PieceReading, without_gaps, bytes_of}
use Rattle.law_text.specs.Runs.{JoinerRuns, with_message, messages_in}
use Rattle.law_text.specs.Losses.{IsMessage, ArePiecesFrom, Sending, IsSending, kept_of, all_kept, reading_of, whole_messages}
use Rattle.law_text.specs.Laws.{GivesWholeMessages}
use Rattle.law_text.proofs.Arrivals.{Arriving, Filled, runs_split, in_segment, not_start, grow, nothing_given, filled_on, filling, begins_with, joins_with, goes_on, given_text}
use Rattle.law_text.proofs.Sendings.{Parts, parts_of}

-- a run that gives nothing, and leaves the joiner as new
record Quiet (texts : List (Option (List ℕ))) (left : TextState) : Type 0 where
  pub none : messages_in texts ≡ []
  pub left_is : left ≡ made

messages-append : (xs ys : List (Option (List ℕ))) → messages_in (xs ++ ys) ≡ messages_in xs ++ messages_in ys
messages-append [] ys = refl
messages-append (None ∷ xs) ys = messages-append xs ys
messages-append (Some message ∷ xs) ys = ap (λ l. message ∷ l) (messages-append xs ys)

quiet_more : {left : TextState} (text : Option (List ℕ)) (texts : List (Option (List ℕ))) → text ≡ None → Quiet texts left → Quiet (text ∷ texts) left
quiet_more text texts none q = record { none = ap (λ o. with_message o (messages_in texts)) none ∙ q.none; left_is = q.left_is }

abbrev IsLater : List ℕ → Type 0
IsLater piece = is_start piece ≡ false

-- the pieces of a segment behind its start
laters : (s : Segment) (bytes arrived : List ℕ) (pieces : List (List ℕ)) → Arriving s bytes arrived pieces → AllByRecursion IsLater pieces
laters s bytes arrived [] h = tt
laters s bytes arrived (piece ∷ []) h = (not_start s bytes arrived piece [] h, tt)
laters s bytes arrived (piece ∷ next ∷ pieces) h =
    (not_start s bytes arrived piece (next ∷ pieces) h, laters s bytes (arrived ++ piece) (next ∷ pieces) (grow s bytes arrived piece next pieces h).1)

-- with no start before them they are nothing
strays : (kept : List Bool) (pieces : List (List ℕ)) (texts : List (Option (List ℕ))) (left : TextState) → AllByRecursion IsLater pieces → JoinerRuns made (kept_of kept pieces) texts left → Quiet texts left
strays [] pieces texts left h run = record { none = ap messages_in run.0; left_is = run.1 }
strays (k ∷ kept) [] texts left h run = record { none = ap messages_in run.0; left_is = run.1 }
strays (false ∷ kept) (piece ∷ pieces) [] left h run = absurd run
strays (false ∷ kept) (piece ∷ pieces) (text ∷ texts) left h run = quiet_more text texts run.0 (strays kept pieces texts left h.1 run.1)
strays (true ∷ kept) (piece ∷ pieces) [] left h run = absurd run
strays (true ∷ kept) (piece ∷ pieces) (text ∷ texts) left h (read, reads, gives, rest) =
    let is : gather None piece ≡ Strays = ap (λ t. if t then Starts false else gather_on None piece) h.0 in
    let P : PieceRole → Type 0 = λ g. ReadsIn g read in
    let Q : PieceRole → Type 0 = λ g. JoinerRuns (record { begun = begun_by None g read; segment = segment_after g }) (kept_of kept pieces) texts left in
    quiet_more text texts (nothing_given None read text (subst P is reads) gives) (strays kept pieces texts left h.1 (subst Q is rest))

-- a segment that loses a piece behind its start
lossy : (b : Option OpenMessage) (s : Segment) (bytes arrived : List ℕ) (pieces : List (List ℕ)) (kept : List Bool) (texts : List (Option (List ℕ))) (left : TextState) → Arriving s bytes arrived pieces
    → length kept ≡ length pieces → all_kept kept ≡ false → JoinerRuns (in_segment b arrived) (kept_of kept pieces) texts left → Quiet texts left
lossy b s bytes arrived pieces [] texts left h size lost run = absurd cc
lossy b s bytes arrived [] (k ∷ kept) texts left h size lost run = absurd (omega (arith, size))
lossy b s bytes arrived (piece ∷ pieces) (false ∷ kept) [] left h size lost run = absurd run
lossy b s bytes arrived (piece ∷ pieces) (false ∷ kept) (text ∷ texts) left h size lost run =
    quiet_more text texts run.0 (strays kept pieces texts left (laters s bytes arrived (piece ∷ pieces) h).1 run.1)
lossy b s bytes arrived (piece ∷ pieces) (true ∷ kept) [] left h size lost run = absurd run
lossy b s bytes arrived (piece ∷ []) (true ∷ []) (text ∷ texts) left h size lost run = absurd cc
lossy b s bytes arrived (piece ∷ []) (true ∷ k ∷ kept) (text ∷ texts) left h size lost run = absurd (omega (arith, size))
lossy b s bytes arrived (piece ∷ next ∷ pieces) (true ∷ kept) (text ∷ texts) left h size lost (read, reads, gives, rest) =
    let more = grow s bytes arrived piece next pieces h in
    let P : PieceRole → Type 0 = λ g. ReadsIn g read in
    let Q : PieceRole → Type 0 = λ g. JoinerRuns (record { begun = begun_by b g read; segment = segment_after g }) (kept_of kept (next ∷ pieces)) texts left in
    quiet_more text texts (nothing_given b read text (subst P more.0 reads) gives)
    (lossy b s bytes (arrived ++ piece) (next ∷ pieces) kept texts left more.1 (omega (arith, size)) lost (subst Q more.0 rest))

kept_whole : (kept : List Bool) (pieces : List (List ℕ)) → length kept ≡ length pieces → all_kept kept ≡ true → kept_of kept pieces ≡ without_gaps pieces
kept_whole [] [] size is = refl
kept_whole [] (piece ∷ pieces) size is = absurd (omega (arith, size))
kept_whole (k ∷ kept) [] size is = absurd (omega (arith, size))
kept_whole (true ∷ kept) (piece ∷ pieces) size is = ap (λ l. Some piece ∷ l) (kept_whole kept pieces (omega (arith, size)) is)
kept_whole (false ∷ kept) (piece ∷ pieces) size is = absurd cc

abbrev between : Option OpenMessage → TextState
between b = record { begun = b; segment = None }

-- a segment came whole, or it lost a piece
abbrev OneSegment : Option OpenMessage → Segment → List Bool → List (Option (List ℕ)) → TextState → Type 0
OneSegment b s kept texts left =
    ((all_kept kept ≡ true) × Filled (bytes_with b s) s texts left) ⊎ ((all_kept kept ≡ false) × Quiet texts left)

one_segment : (b : Option OpenMessage) (s : Segment) (rest : List (List ℕ)) (kept : List Bool) (texts : List (Option (List ℕ))) (left : TextState) → Arriving s (bytes_of rest) [] rest → length kept ≡ suc (length rest)
    → JoinerRuns (between b) (kept_of kept (start ∷ rest)) texts left → OneSegment b s kept texts left
one_segment b s rest [] texts left h size run = absurd (omega (arith, size))
one_segment b s rest (false ∷ kept) [] left h size run = absurd run
one_segment b s rest (false ∷ kept) (text ∷ texts) left h size run =
    inr (refl, quiet_more text texts run.0 (strays kept rest texts left (laters s (bytes_of rest) [] rest h) run.1))
one_segment b s rest (true ∷ kept) [] left h size run = absurd run
one_segment b s rest (true ∷ kept) (text ∷ texts) left h size (read, reads, gives, tail) =
    let P : PieceReading → Type 0 = λ l. JoinerRuns (in_segment b []) l texts left in
    let none : text ≡ None = nothing_given b read text reads gives in
    elim (cases_Bool (all_kept kept)) [
      | inl all ↦ inl (all, filled_on text (filling b s (bytes_of rest) [] rest texts left h (subst P (kept_whole kept rest (omega (arith, size)) all) tail)) none)
      | inr lost ↦ inr (lost, quiet_more text texts none (lossy b s (bytes_of rest) [] rest kept texts left h (omega (arith, size)) lost tail))
    ]

-- what is kept of two stretches
record Masks (kept : List Bool) (ps qs : List (List ℕ)) : Type 0 where
  pub first : List Bool
  pub second : List Bool
  pub all : kept_of kept (ps ++ qs) ≡ kept_of first ps ++ kept_of second qs
  pub whole : all_kept kept ≡ (all_kept first && all_kept second)
  pub first_size : length first ≡ length ps
  pub second_size : length second ≡ length qs

masks : (kept : List Bool) (ps qs : List (List ℕ)) → length kept ≡ length (ps ++ qs) → Masks kept ps qs
masks kept [] qs size = record { first = []; second = kept; all = refl; whole = refl; first_size = refl; second_size = size }
masks [] (p ∷ ps) qs size = absurd (omega (arith, size))
masks (true ∷ kept) (p ∷ ps) qs size =
    let m = masks kept ps qs (omega (arith, size)) in
    record { first = true ∷ m.first; second = m.second; all = ap (λ l. Some p ∷ l) m.all; whole = m.whole; first_size = ap suc m.first_size; second_size = m.second_size }
masks (false ∷ kept) (p ∷ ps) qs size =
    let m = masks kept ps qs (omega (arith, size)) in
    record { first = false ∷ m.first; second = m.second; all = ap (λ l. None ∷ l) m.all; whole = refl; first_size = ap suc m.first_size; second_size = m.second_size }

-- the run over one segment of a message, and the one over those behind it
record Taken (toggle : Bool) (message : List ℕ) (j : ℕ) (b : Option OpenMessage) (kept : List Bool) (pieces : List (List ℕ)) (texts : List (Option (List ℕ))) (left : TextState) : Type 0 where
  pub parts : Parts toggle message j pieces
  pub first : List Bool
  pub second : List Bool
  pub whole : all_kept kept ≡ (all_kept first && all_kept second)
  pub size : length second ≡ length parts.more
  pub answers : List (Option (List ℕ))
  pub later : List (Option (List ℕ))
  pub mid : TextState
  pub all : texts ≡ answers ++ later
  pub segment : OneSegment b (segment_at toggle message j) first answers mid
  pub behind : JoinerRuns mid (kept_of second parts.more) later left

taken : (toggle : Bool) (message : List ℕ) (j : ℕ) (b : Option OpenMessage) (kept : List Bool) (pieces : List (List ℕ)) (texts : List (Option (List ℕ))) (left : TextState) → j * 16 < length message
    → AllByRecursion IsPlain message → ArePiecesFrom toggle message (j * 6) pieces → length kept ≡ length pieces → JoinerRuns (between b) (kept_of kept pieces) texts left → Taken toggle message j b kept pieces texts left
taken toggle message j b kept pieces texts left within plain are size run =
    let parts = parts_of toggle message j (j * 6) pieces within refl are in
    let m = masks kept (start ∷ parts.rest) parts.more (size ∙ ap length parts.all) in
    let P : PieceReading → Type 0 = λ l. JoinerRuns (between b) l texts left in
    let split = runs_split (between b) (kept_of m.first (start ∷ parts.rest)) (kept_of m.second parts.more) texts left (subst P (ap (kept_of kept) parts.all ∙ m.all) run) in
    record {
      parts = parts;
      first = m.first;
      second = m.second;
      whole = m.whole;
      size = m.second_size;
      answers = split.answers;
      later = split.later;
      mid = split.mid;
      all = split.all;
      segment = one_segment b (segment_at toggle message j) parts.rest m.first split.answers split.mid
          (record {
            segment = parts.segment;
            plain = all_take 16 (drop (j * 16) message) (all_drop (j * 16) message plain);
            all = refl;
            even = refl;
            more = omega (arith, (placed (segment_at toggle message j) (bytes_of parts.rest) parts.segment).begins.least);
            fours = parts.fours;
          })
          m.first_size split.first;
      behind = split.second;
    }

-- nothing is given, and then nothing
quiet_join : (texts answers later : List (Option (List ℕ))) (mid left : TextState) → texts ≡ answers ++ later → Quiet answers mid → Quiet later left → Quiet texts left
quiet_join texts answers later mid left all q r = record {
  none = ap messages_in all ∙ (messages-append answers later ∙ ap₂ (λ x y. x ++ y) q.none r.none);
  left_is = r.left_is;
}

no_gift : (text : Option (List ℕ)) (o : Option (List ℕ)) → o ≡ None → GivesMessage o text → text ≡ None
no_gift text o none gives = let P : Option (List ℕ) → Type 0 = λ x. GivesMessage x text in subst P none gives

never_whole : (last : Bool) (o : Option (List ℕ)) → o ≡ None → (if last then o else None) ≡ None
never_whole true o is = is
never_whole false o is = refl

-- a later segment where no message was begun
unbegun : (s : Segment) (texts : List (Option (List ℕ))) (left : TextState) → s.first ≡ false → Filled (bytes_with None s) s texts left → Quiet texts left
unbegun s texts left later f =
    let o : bytes_with None s ≡ None = ap (λ t. if t then (if s.number == 0 then Some s.body else None) else joined None s) later in
    let text : f.text ≡ None = no_gift f.text (whole s (bytes_with None s)) (never_whole s.last (bytes_with None s) o) f.gives in
    record {
      none = ap messages_in f.texts_are
          ∙ (messages-append f.answers (f.text ∷ []) ∙ ap₂ (λ x y. x ++ y) f.quiet (ap (λ t. with_message t []) text));
      left_is = f.left_is ∙ ap (λ x. record { begun = going_on s x; segment = None }) o;
    }

unbegun_either : (s : Segment) (kept : List Bool) (texts : List (Option (List ℕ))) (left : TextState) → s.first ≡ false → OneSegment None s kept texts left → Quiet texts left
unbegun_either s kept texts left later (inl f) = unbegun s texts left later f.1
unbegun_either s kept texts left later (inr q) = q.1

-- no pieces are left
none_left : (kept : List Bool) (pieces : List (List ℕ)) (texts : List (Option (List ℕ))) (mid left : TextState) → pieces ≡ [] → mid ≡ made → JoinerRuns mid (kept_of kept pieces) texts left → Quiet texts left
none_left kept pieces texts mid left none is run =
    let P : TextState → Type 0 = λ v. JoinerRuns v (kept_of kept pieces) texts left in
    let Q : List (List ℕ) → Type 0 = λ l. AllByRecursion IsLater l in
    strays kept pieces texts left (subst Q (sym none) tt) (subst P is run)

-- behind segment j there are d others
record Left (message : List ℕ) (j d : ℕ) : Type 0 where
  pub more : j * 16 + d * 16 < length message
  pub enough : length message ≤ j * 16 + d * 16 + 16

left_more : (message : List ℕ) (j d : ℕ) → Left message j (suc d) → Left message (j + 1) d
left_more message j d h = record { more = omega (arith, h.more); enough = omega (arith, h.enough) }

-- where no message was begun, later segments give nothing
dead : (toggle : Bool) (message : List ℕ) (j d : ℕ) (kept : List Bool) (pieces : List (List ℕ)) (texts : List (Option (List ℕ))) (left : TextState) → 1 ≤ j → Left message j d
    → AllByRecursion IsPlain message → ArePiecesFrom toggle message (j * 6) pieces → length kept ≡ length pieces → JoinerRuns made (kept_of kept pieces) texts left → Quiet texts left
dead toggle message j zero kept pieces texts left some h plain are size run =
    let t = taken toggle message j None kept pieces texts left (omega (arith, h.more)) plain are size run in
    let q = unbegun_either (segment_at toggle message j) t.first t.answers t.mid (ne_eqb j 0 (λ is. absurd (omega (arith, is, some)))) t.segment in
    quiet_join texts t.answers t.later t.mid left t.all q (none_left t.second t.parts.more t.later t.mid left (t.parts.last (omega (arith, h.enough))) q.left_is t.behind)
dead toggle message j (suc d) kept pieces texts left some h plain are size run =
    let t = taken toggle message j None kept pieces texts left (omega (arith, h.more)) plain are size run in
    let q = unbegun_either (segment_at toggle message j) t.first t.answers t.mid (ne_eqb j 0 (λ is. absurd (omega (arith, is, some)))) t.segment in
    let P : TextState → Type 0 = λ v. JoinerRuns v (kept_of t.second t.parts.more) t.later left in
    quiet_join texts t.answers t.later t.mid left t.all q
    (dead toggle message (j + 1) d t.second t.parts.more t.later left (omega arith) (left_more message j d h) plain (t.parts.going (omega (arith, h.more))) t.size (subst P q.left_is t.behind))

-- so do those behind a segment that lost a piece
dead_behind : (toggle : Bool) (message : List ℕ) (j d : ℕ) {b : Option OpenMessage} {kept : List Bool} {pieces : List (List ℕ)} {texts : List (Option (List ℕ))} {left : TextState} → Left message j d
    → AllByRecursion IsPlain message → (t : Taken toggle message j b kept pieces texts left) → t.mid ≡ made → Quiet t.later left
dead_behind toggle message j zero {left = left} h plain t is = none_left t.second t.parts.more t.later t.mid left (t.parts.last (omega (arith, h.enough))) is t.behind
dead_behind toggle message j (suc d) {left = left} h plain t is =
    let P : TextState → Type 0 = λ v. JoinerRuns v (kept_of t.second t.parts.more) t.later left in
    dead toggle message (j + 1) d t.second t.parts.more t.later left (omega arith) (left_more message j d h) plain (t.parts.going (omega (arith, h.more))) t.size (subst P is t.behind)

-- the message where it is whole
abbrev whole_if : Bool → List ℕ → List (List ℕ)
whole_if true message = message ∷ []
whole_if false message = []

record Done (is_whole : Bool) (message : List ℕ) (texts : List (Option (List ℕ))) (left : TextState) : Type 0 where
  pub messages : messages_in texts ≡ whole_if is_whole message
  pub left_is : left ≡ made

done_as : {w v : Bool} {message : List ℕ} {texts : List (Option (List ℕ))} {left : TextState} → v ≡ w → Done w message texts left → Done v message texts left
done_as {message = message} is h = record { messages = h.messages ∙ ap (λ x. whole_if x message) (sym is); left_is = h.left_is }

-- a message that lost a piece in this segment
lost_here : (toggle : Bool) (message : List ℕ) (j d : ℕ) {b : Option OpenMessage} {kept : List Bool} {pieces : List (List ℕ)} {texts : List (Option (List ℕ))} {left : TextState} → Left message j d
    → AllByRecursion IsPlain message → (t : Taken toggle message j b kept pieces texts left) → all_kept t.first ≡ false → Quiet t.answers t.mid → Done (all_kept kept) message texts left
lost_here toggle message j d {texts = texts} {left = left} h plain t lost q =
    let r = quiet_join texts t.answers t.later t.mid left t.all q (dead_behind toggle message j d h plain t q.left_is) in
    done_as (t.whole ∙ ap (λ x. x && all_kept t.second) lost) (record { messages = r.none; left_is = r.left_is })

none_kept : (kept : List Bool) → length kept ≡ 0 → all_kept kept ≡ true
none_kept [] is = refl
none_kept (k ∷ kept) is = absurd (omega (arith, is))

-- the last segment came whole
whole_here : (toggle : Bool) (message : List ℕ) (j : ℕ) {b : Option OpenMessage} {kept : List Bool} {pieces : List (List ℕ)} {texts : List (Option (List ℕ))} {left : TextState} → Left message j 0 → IsMessage message
    → (t : Taken toggle message j b kept pieces texts left) → bytes_with b (segment_at toggle message j) ≡ Some (take (j * 16 + 16) message) → all_kept t.first ≡ true
    → Filled (bytes_with b (segment_at toggle message j)) (segment_at toggle message j) t.answers t.mid → Done (all_kept kept) message texts left
whole_here toggle message j {b = b} {left = left} h is t with_it first f =
    let s : Segment = segment_at toggle message j in
    let last : s.last ≡ true = le-leb (length message) (j * 16 + 16) (omega (arith, h.enough)) in
    let o : bytes_with b s ≡ Some message = with_it ∙ ap Some (take_all (j * 16 + 16) message (omega (arith, h.enough))) in
    let P : Option (List ℕ) → Type 0 = λ x. GivesMessage (whole s x) f.text in
    let text : f.text ≡ Some message = given_text s message f.text last (subst P o f.gives) is.utf8 in
    let next : OpenMessage = record { toggle = s.toggle; number = s.number + 1; bytes = message } in
    let mid : t.mid ≡ made =
    f.left_is
    ∙ (ap (λ x. between (going_on s x)) o ∙ ap (λ l. between (if not l && (length s.body == most_body) then Some next else None)) last) in
    let more : t.parts.more ≡ [] = t.parts.last (omega (arith, h.enough)) in
    let q = none_left t.second t.parts.more t.later t.mid left more mid t.behind in
    let second : all_kept t.second ≡ true = none_kept t.second (t.size ∙ ap length more) in
    done_as (t.whole ∙ ap₂ (λ x y. x && y) first second)
    (record {
      messages = ap messages_in t.all
          ∙ (messages-append t.answers t.later
          ∙ ap₂ (λ x y. x ++ y)
          (ap messages_in f.texts_are
          ∙ (messages-append f.answers (f.text ∷ []) ∙ ap₂ (λ x y. x ++ y) f.quiet (ap (λ x. with_message x []) text)))
          q.none);
      left_is = q.left_is;
    })

-- what came and one segment more
with_segment : (a b : ℕ) (l : List ℕ) → take a l ++ take b (drop a l) ≡ take (a + b) l
with_segment a b l =
    ap₂ (λ x y. x ++ y) (sym (take-take a (a + b) l (omega arith))) (sym (drop-take a b l)) ∙ take-append-drop a (take (a + b) l)

-- the message that goes on
abbrev next_of : Bool → List ℕ → ℕ → OpenMessage
next_of toggle message j = record { toggle = toggle; number = j + 1; bytes = take ((j + 1) * 16) message }

next_with : (toggle : Bool) (message : List ℕ) (j : ℕ) → length message ≤ most_message
    → bytes_with (Some (next_of toggle message j)) (segment_at toggle message (j + 1)) ≡ Some (take ((j + 1) * 16 + 16) message)
next_with toggle message j few =
    let n : ℕ = (j + 1) * 16 in
    joins_with (next_of toggle message j) (segment_at toggle message (j + 1)) (ne_eqb (j + 1) 0 (λ is. absurd (omega (arith, is)))) refl refl
    (omega (arith, few, length-append (take n message) (take 16 (drop n message)), ap length (with_segment n 16 message), length-take (n + 16) message))
    ∙ ap Some (with_segment n 16 message)

-- a segment came whole that isn't the last one
record Went (toggle : Bool) (message : List ℕ) (j : ℕ) (answers : List (Option (List ℕ))) (mid : TextState) : Type 0 where
  pub none : messages_in answers ≡ []
  pub mid_is : mid ≡ between (Some (next_of toggle message j))

went : (toggle : Bool) (message : List ℕ) (j : ℕ) (o : Option (List ℕ)) (answers : List (Option (List ℕ))) (mid : TextState) → j * 16 + 16 < length message → o ≡ Some (take (j * 16 + 16) message)
    → Filled o (segment_at toggle message j) answers mid → Went toggle message j answers mid
went toggle message j o answers mid more is f =
    let s : Segment = segment_at toggle message j in
    let last : s.last ≡ false = lt-leb (length message) (j * 16 + 16) more in
    let full : length s.body ≡ most_body = length-take-le 16 (drop (j * 16) message) (omega (arith, length-drop (j * 16) message, more)) in
    let text : f.text ≡ None = no_gift f.text (whole s o) (ap (λ t. if t then o else None) last) f.gives in
    let bytes : take (j * 16 + 16) message ≡ take ((j + 1) * 16) message = ap (λ n. take n message) (omega arith) in
    record {
      none = ap messages_in f.texts_are
          ∙ (messages-append f.answers (f.text ∷ []) ∙ ap₂ (λ x y. x ++ y) f.quiet (ap (λ t. with_message t []) text));
      mid_is = f.left_is
          ∙ (ap (λ x. between (going_on s x)) (is ∙ ap Some bytes) ∙ ap between (goes_on s (take ((j + 1) * 16) message) last full));
    }

-- with a message begun whose next segments come
alive : (toggle : Bool) (message : List ℕ) (j d : ℕ) (b : Option OpenMessage) (kept : List Bool) (pieces : List (List ℕ)) (texts : List (Option (List ℕ))) (left : TextState) → Left message j d → IsMessage message
    → bytes_with b (segment_at toggle message j) ≡ Some (take (j * 16 + 16) message) → ArePiecesFrom toggle message (j * 6) pieces → length kept ≡ length pieces
    → JoinerRuns (between b) (kept_of kept pieces) texts left → Done (all_kept kept) message texts left
alive toggle message j zero b kept pieces texts left h is with_it are size run =
    let plain = text_plain message is.utf8 in
    let t = taken toggle message j b kept pieces texts left (omega (arith, h.more)) plain are size run in
    elim t.segment [
      | inl f ↦ whole_here toggle message j h is t with_it f.0 f.1
      | inr q ↦ lost_here toggle message j 0 h plain t q.0 q.1
    ]
alive toggle message j (suc d) b kept pieces texts left h is with_it are size run =
    let plain = text_plain message is.utf8 in
    let t = taken toggle message j b kept pieces texts left (omega (arith, h.more)) plain are size run in
    elim t.segment [
      | inl f ↦
          let w = went toggle message j (bytes_with b (segment_at toggle message j)) t.answers t.mid (omega (arith, h.more)) with_it f.1 in
          let P : TextState → Type 0 = λ v. JoinerRuns v (kept_of t.second t.parts.more) t.later left in
          let r = alive toggle message (j + 1) d (Some (next_of toggle message j)) t.second t.parts.more t.later left (left_more message j d h) is (next_with toggle message j is.few)
          (t.parts.going (omega (arith, h.more))) t.size (subst P w.mid_is t.behind) in
          done_as (t.whole ∙ ap (λ x. x && all_kept t.second) f.0)
          (record {
            messages = ap messages_in t.all ∙ (messages-append t.answers t.later ∙ ap₂ (λ x y. x ++ y) w.none r.messages);
            left_is = r.left_is;
          })
      | inr q ↦ lost_here toggle message j (suc d) h plain t q.0 q.1
    ]

-- the pieces of one message
one_message : (m : Sending) (texts : List (Option (List ℕ))) (left : TextState) → IsSending m → JoinerRuns made (kept_of m.kept m.pieces) texts left → Done (all_kept m.kept) m.message texts left
one_message m texts left is run =
    let d : ℕ = (length m.message - 1) / 16 in
    let s : Segment = segment_at m.toggle m.message 0 in
    alive m.toggle m.message 0 d None m.kept m.pieces texts left (record { more = omega (arith, is.message.some); enough = omega (arith, is.message.some) }) is.message
    (begins_with None s refl refl) is.pieces is.each run

joined_if : (w : Bool) (message : List ℕ) (messages : List (List ℕ)) → whole_if w message ++ messages ≡ (if w then message ∷ messages else messages)
joined_if true message messages = refl
joined_if false message messages = refl

pub gives_what_is_whole : GivesWholeMessages
gives_what_is_whole [] texts left each run = (ap messages_in run.0, run.1)
gives_what_is_whole (m ∷ sent) texts left each run =
    let split = runs_split made (kept_of m.kept m.pieces) (reading_of sent) texts left run in
    let first = one_message m split.answers split.mid each.0 split.first in
    let P : TextState → Type 0 = λ v. JoinerRuns v (reading_of sent) split.later left in
    let rest = gives_what_is_whole sent split.later left each.1 (subst P first.left_is split.second) in (
      ap messages_in split.all
          ∙ (messages-append split.answers split.later ∙ (ap₂ (λ x y. x ++ y) first.messages rest.0 ∙ joined_if (all_kept m.kept) m.message (whole_messages sent))),
      rest.1,
    )
