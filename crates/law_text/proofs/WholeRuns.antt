-- The whole run of a joiner, against the messages of the reading.
use Rattle.std.proofs.Common.{◌≡◌, ℕ, ◌⊎◌, inl, inr, List, [], ◌∷◌, ◌++◌, length, Option, Some, None, refl, sym, ap, subst, ◌∙◌, append_assoc, append-nil, arith}
use Rattle.std.specs.Prelude.{◌↔◌}
use Rattle.std.specs.List.{AllByRecursion}
use Rattle.drm_text.specs.Joining.{TextState, made, after}
use Rattle.drm_text.specs.Taking.{text_of}
use Rattle.law_text.specs.Readings.{PieceReading, IsEntry, EndsMessage, AreMessages}
use Rattle.law_text.specs.Runs.{JoinerRuns, with_message, messages_in}
use Rattle.law_text.specs.Laws.{RunsByCalls, JoinsMessages, AnswersEachPiece}
use Rattle.law_text.proofs.Steps.{Holds, clash_some, step, step_gap}
use Rattle.law_text.proofs.Arrivals.{all_parts, ends_given}

all_push : (xs : PieceReading) (x : Option (List ℕ)) → AllByRecursion IsEntry xs → IsEntry x → AllByRecursion IsEntry (xs ++ x ∷ [])
all_push [] x h k = (k, tt)
all_push (y ∷ xs) x h k = (h.0, all_push xs x h.1 k)

pub runs_join : (s : TextState) (xs ys : List (Option (List ℕ))) (answers later : List (Option (List ℕ))) (mid left : TextState) → JoinerRuns s xs answers mid → JoinerRuns mid ys later left → JoinerRuns s (xs ++ ys) (answers ++ later) left
runs_join s [] ys answers later mid left h k =
    let P : List (Option (List ℕ)) → Type 0 = λ l. JoinerRuns s ys (l ++ later) left in
    let Q : TextState → Type 0 = λ v. JoinerRuns v ys later left in
    subst P (sym h.0) (subst Q h.1 k)
runs_join s (None ∷ xs) ys [] later mid left h k = absurd h
runs_join s (None ∷ xs) ys (text ∷ answers) later mid left h k = (h.0, runs_join made xs ys answers later mid left h.1 k)
runs_join s (Some piece ∷ xs) ys [] later mid left h k = absurd h
runs_join s (Some piece ∷ xs) ys (text ∷ answers) later mid left (read, reads, gives, rest) k =
    (read, reads, gives, runs_join (after s piece read) xs ys answers later mid left rest k)

pub runs_by_calls : RunsByCalls
runs_by_calls reading texts s run = record {
  piece = λ piece result left tells leaves.
      runs_join made reading (Some piece ∷ []) texts (text_of result ∷ []) s left run (tells.0, tells.1, tells.2, (refl, leaves tells.0 tells.1));
  gap = runs_join made reading (None ∷ []) texts (None ∷ []) s made run (refl, (refl, refl));
}

-- a run is one step and the run behind it
one_by_one : (s : TextState) (x : Option (List ℕ)) (reading : PieceReading) (text : Option (List ℕ)) (texts : List (Option (List ℕ))) (left : TextState) → JoinerRuns s (x ∷ reading) (text ∷ texts) left
    → (mid : TextState) × JoinerRuns s (x ∷ []) (text ∷ []) mid × JoinerRuns mid reading texts left
one_by_one s None reading text texts left h = (made, (h.0, (refl, refl)), h.1)
one_by_one s (Some piece) reading text texts left (read, reads, gives, rest) =
    (after s piece read, (read, reads, gives, (refl, refl)), rest)

nothing_answered : {A : Type 0} (s : TextState) (x : Option (List ℕ)) (reading : PieceReading) (left : TextState) → JoinerRuns s (x ∷ reading) [] left → A
nothing_answered s None reading left h = absurd h
nothing_answered s (Some piece) reading left h = absurd h

-- what holds a place further on, and that a message that is given ends there
record Stepped (before : PieceReading) (x text : Option (List ℕ)) (left : TextState) : Type 0 where
  pub holds : Holds (before ++ x ∷ []) left
  pub ends : (message : List ℕ) → text ≡ Some message → EndsMessage (before ++ x ∷ []) message

stepped : (before : PieceReading) (s : TextState) (x text : Option (List ℕ)) (left : TextState) → IsEntry x → Holds before s → JoinerRuns s (x ∷ []) (text ∷ []) left → Stepped before x text left
stepped before s None text left is h run = record {
  holds = let P : TextState → Type 0 = λ v. Holds (before ++ None ∷ []) v in subst P (sym run.1.1) (step_gap before);
  ends = λ message some. clash_some text message run.0 some;
}
stepped before s (Some piece) text left is h (read, reads, gives, ended) =
    let r = step before s piece read is h reads in
    record {
      holds = let P : TextState → Type 0 = λ v. Holds (before ++ Some piece ∷ []) v in subst P (sym ended.1) r.holds;
      ends = λ message some. r.ends text message gives some;
    }

-- the run up to a place, and what holds there
record Reached (before : PieceReading) (s : TextState) : Type 0 where
  pub answers : List (Option (List ℕ))
  pub run : JoinerRuns made before answers s
  pub holds : Holds before s
  pub entries : AllByRecursion IsEntry before

-- what is given at the next place is right
right : (before : PieceReading) (s : TextState) (x text : Option (List ℕ)) (left : TextState) → IsEntry x → Reached before s → JoinerRuns s (x ∷ []) (text ∷ []) left → (message : List ℕ)
    → (text ≡ Some message) ↔ EndsMessage (before ++ x ∷ []) message
right before s x text left is at run message = (
  (stepped before s x text left is at.holds run).ends message,
  (λ ends.
      ends_given made (before ++ x ∷ []) message at.answers text left (all_push before x at.entries is) ends
      (runs_join made before (x ∷ []) at.answers (text ∷ []) s left at.run run)),
)

reached_more : (before : PieceReading) (s : TextState) (x text : Option (List ℕ)) (left : TextState) → IsEntry x → Reached before s → JoinerRuns s (x ∷ []) (text ∷ []) left → Reached (before ++ x ∷ []) left
reached_more before s x text left is at run = record {
  answers = at.answers ++ text ∷ [];
  run = runs_join made before (x ∷ []) at.answers (text ∷ []) s left at.run run;
  holds = (stepped before s x text left is at.holds run).holds;
  entries = all_push before x at.entries is;
}

reached_none : Reached [] made
reached_none = record { answers = []; run = (refl, refl); holds = record { behind = []; begun = tt; segment = refl }; entries = tt }

some_or_none : {X : Type 0} (o : Option X) → (o ≡ None) ⊎ ((x : X) × (o ≡ Some x))
some_or_none None = inl refl
some_or_none (Some x) = inr (x, refl)

-- the messages of what is left are those that are given
messages_given : (before reading : List (Option (List ℕ))) (s : TextState) (texts : List (Option (List ℕ))) (left : TextState) (messages : List (List ℕ)) → AllByRecursion IsEntry reading → Reached before s
    → JoinerRuns s reading texts left → AreMessages before reading messages → messages ≡ messages_in texts
messages_given before [] s texts left messages entries at run h = h ∙ ap messages_in (sym run.0)
messages_given before (x ∷ reading) s [] left messages entries at run h = nothing_answered s x reading left run
messages_given before (x ∷ reading) s (text ∷ texts) left messages entries at run (inl (message, more, ends, is, rest)) =
    let w = one_by_one s x reading text texts left run in
    let gives : text ≡ Some message = (right before s x text w.0 entries.0 at w.1 message).1 ends in
    let tail = messages_given (before ++ x ∷ []) reading w.0 texts left more entries.1 (reached_more before s x text w.0 entries.0 at w.1) w.2 rest in
    is ∙ (ap (λ l. message ∷ l) tail ∙ ap (λ o. with_message o (messages_in texts)) (sym gives))
messages_given before (x ∷ reading) s (text ∷ texts) left messages entries at run (inr (none, rest)) =
    let w = one_by_one s x reading text texts left run in
    let gives : text ≡ None =
    elim (some_or_none text) [
      | inl is ↦ is
      | inr v ↦ absurd (none v.0 ((right before s x text w.0 entries.0 at w.1 v.0).0 v.1))
    ] in
    messages_given (before ++ x ∷ []) reading w.0 texts left messages entries.1 (reached_more before s x text w.0 entries.0 at w.1) w.2 rest
    ∙ ap (λ o. with_message o (messages_in texts)) (sym gives)

-- what is given are the messages of what is left
given_messages : (before reading : List (Option (List ℕ))) (s : TextState) (texts : List (Option (List ℕ))) (left : TextState) → AllByRecursion IsEntry reading → Reached before s → JoinerRuns s reading texts left
    → AreMessages before reading (messages_in texts)
given_messages before [] s texts left entries at run = ap messages_in run.0
given_messages before (x ∷ reading) s [] left entries at run = nothing_answered s x reading left run
given_messages before (x ∷ reading) s (text ∷ texts) left entries at run =
    let w = one_by_one s x reading text texts left run in
    let rest = given_messages (before ++ x ∷ []) reading w.0 texts left entries.1 (reached_more before s x text w.0 entries.0 at w.1) w.2 in
    elim (some_or_none text) [
      | inl is ↦
          let P : List (List ℕ) → Type 0 = λ l. AreMessages (before ++ x ∷ []) reading l in
          inr (
            (λ message ends. clash_some text message is ((right before s x text w.0 entries.0 at w.1 message).1 ends)),
            subst P (ap (λ o. with_message o (messages_in texts)) (sym is)) rest,
          )
      | inr v ↦
          inl (v.0, messages_in texts, (right before s x text w.0 entries.0 at w.1 v.0).0 v.1, ap (λ o. with_message o (messages_in texts)) v.1, rest)
    ]

pub joins_messages : JoinsMessages
joins_messages reading texts messages left entries run =
    let P : List (List ℕ) → Type 0 = λ l. AreMessages [] reading l in (
      (λ h. messages_given [] reading made texts left messages entries reached_none run h),
      (λ is. subst P (sym is) (given_messages [] reading made texts left entries reached_none run)),
    )

-- a run up to a place, by how much was told
split_at : (s : TextState) (xs ys answers later : List (Option (List ℕ))) (left : TextState) → length answers ≡ length xs → JoinerRuns s (xs ++ ys) (answers ++ later) left → (mid : TextState) × JoinerRuns s xs answers mid × JoinerRuns mid ys later left
split_at s [] ys [] later left same h = (s, (refl, refl), h)
split_at s [] ys (text ∷ answers) later left same h = absurd (omega (arith, same))
split_at s (x ∷ xs) ys [] later left same h = absurd (omega (arith, same))
split_at s (None ∷ xs) ys (text ∷ answers) later left same h =
    let w = split_at made xs ys answers later left (omega (arith, same)) h.1 in (w.0, (h.0, w.1), w.2)
split_at s (Some piece ∷ xs) ys (text ∷ answers) later left same (read, reads, gives, rest) =
    let w = split_at (after s piece read) xs ys answers later left (omega (arith, same)) rest in
    (w.0, (read, reads, gives, w.1), w.2)

-- what holds after a run
reached_all : (before reading : List (Option (List ℕ))) (s : TextState) (texts : List (Option (List ℕ))) (left : TextState) → AllByRecursion IsEntry reading → Reached before s → JoinerRuns s reading texts left
    → Reached (before ++ reading) left
reached_all before [] s texts left entries at run =
    let P : PieceReading → Type 0 = λ l. Reached l left in
    let Q : TextState → Type 0 = λ v. Reached before v in
    subst P (sym (append-nil before)) (subst Q (sym run.1) at)
reached_all before (x ∷ reading) s [] left entries at run = nothing_answered s x reading left run
reached_all before (x ∷ reading) s (text ∷ texts) left entries at run =
    let P : PieceReading → Type 0 = λ l. Reached l left in
    let w = one_by_one s x reading text texts left run in
    subst P (append_assoc before (x ∷ []) reading) (reached_all (before ++ x ∷ []) reading w.0 texts left entries.1 (reached_more before s x text w.0 entries.0 at w.1) w.2)

pub answers_each : AnswersEachPiece
answers_each before more x answers later text left entries run same message =
    let parts = all_parts IsEntry before (x ∷ more) entries in
    let w = split_at made before (x ∷ more) answers (text ∷ later) left same run in
    let v = one_by_one w.0 x more text later left w.2 in
    right before w.0 x text v.0 parts.1.0 (reached_all [] before made answers w.0 parts.0 reached_none w.1) v.1 message
