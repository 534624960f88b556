-- One item more.
use Rattle.std.proofs.Common.{◌≡◌, ℕ, ◌+◌, List, [], ◌∷◌, ◌++◌, length, Option, None, Some, refl, sym, ap, subst, ◌∙◌, arith, append_assoc, length-append, Result, Ok, Err, OnOk, flat_map}
use Rattle.std.specs.Borrow.{Bor}
use Rattle.std.proofs.lemmas.List.{append-nil}
use Rattle.std.proofs.lemmas.List.Concat.{flat_map-append}
use Rattle.recv_reading.proofs.Common.{Known, Output, CollectorItem as Given}
use Rattle.drm_links.proofs.KnownLemmas.{OutputsText-nothing}
use Rattle.drm_links.proofs.WritingLemmas.{Writes-whole}
use Rattle.mod_feed.specs.Items.{FrameItem, IsItemOf}
use Rattle.drm_text.specs.Segment.{Segment}
use Rattle.drm_text.specs.Joining as joining
use Rattle.drm_text.specs.Taking.{GivesOfPiece, text_of}
use Rattle.law_text.specs.Runs.{JoinerRuns, with_message, messages_in}
use Rattle.law_text.proofs.WholeRuns.{runs_by_calls}
use Rattle.cmd_unpack.specs.declared.counts.Counts.{Counts}
use Rattle.cmd_unpack.specs.declared.messages.MessageTaker.{MessageTaker}
use Rattle.cmd_unpack.specs.Streams.{PayloadKind, TextsOf, entries_at, bad_at, missing_at, reading, bad_in, missing_in}
use Rattle.cmd_unpack.specs.Lines.{text_line}
use Rattle.cmd_unpack.specs.Printed.{AreItems}
use Rattle.cmd_unpack.specs.Taken.{TookMessages, TakesMessages, message_line, message_count}

pub reading_more : (what : PayloadKind) (items : List FrameItem) (item : FrameItem) → reading what (items ++ item ∷ []) ≡ reading what items ++ entries_at what item
reading_more what [] item = append-nil (entries_at what item)
reading_more what (x ∷ items) item = ap (λ l. entries_at what x ++ l) (reading_more what items item) ∙ sym (append_assoc (entries_at what x) (reading what items) (entries_at what item))

pub bad_more : (what : PayloadKind) (items : List FrameItem) (item : FrameItem) → bad_in what (items ++ item ∷ []) ≡ bad_in what items + bad_at what item
bad_more what [] item = omega arith
bad_more what (x ∷ items) item = omega (arith, bad_more what items item)

pub missing_more : (items : List FrameItem) (item : FrameItem) → missing_in (items ++ item ∷ []) ≡ missing_in items + missing_at item
missing_more [] item = omega arith
missing_more (x ∷ items) item = omega (arith, missing_more items item)

pub items_more : (given : List Given) (items : List FrameItem) (next : Given) (item : FrameItem) → AreItems given items → IsItemOf next item → AreItems (given ++ next ∷ []) (items ++ item ∷ [])
items_more [] items next item are is = subst (λ (l : List FrameItem). AreItems (next ∷ []) (l ++ item ∷ [])) (sym are) (is, refl)
items_more (g ∷ given) [] next item are is = absurd are
items_more (g ∷ given) (x ∷ items) next item are is = (are.0, items_more given items next item are.1 is)

pub on_ok : {T E : Type 0} (r : Result T E) (P : Type 0) → P → OnOk r P
on_ok (Ok x) P p = p
on_ok (Err e) P p = tt

-- ---- messages

messages_more : (texts : List (Option (List ℕ))) (text : Option (List ℕ)) → messages_in (texts ++ text ∷ []) ≡ messages_in texts ++ with_message text []
messages_more [] text = refl
messages_more (None ∷ texts) text = messages_more texts text
messages_more (Some message ∷ texts) text = ap (λ l. message ∷ l) (messages_more texts text)

lines_one : (text : Option (List ℕ)) → flat_map text_line (with_message text []) ≡ message_line text
lines_one None = refl
lines_one (Some message) = append-nil (text_line message)

one_size : (text : Option (List ℕ)) → length (with_message text []) ≡ message_count text
one_size None = refl
one_size (Some message) = refl

pub message_more : (k : ℕ) (items : List FrameItem) (item : FrameItem) (text : List ℕ) (t u : MessageTaker) (x : Option (List ℕ)) (said : Option (List ℕ))
    → (took : TookMessages k items text t) → entries_at (TextsOf k) item ≡ x ∷ [] → u.stream ≡ t.stream
    → JoinerRuns joining.made (reading (TextsOf k) items ++ x ∷ []) (took.texts ++ said ∷ []) u.joiner
    → u.counts.given ≡ t.counts.given + message_count said → u.counts.cut ≡ t.counts.cut → u.counts.bad ≡ t.counts.bad + bad_at (TextsOf k) item → u.counts.missing ≡ t.counts.missing + missing_at item
    → TookMessages k (items ++ item ∷ []) (text ++ message_line said) u
message_more k items item text t u x said took entries stream runs given cut bad missing =
    let what : PayloadKind = TextsOf k in
    let all : reading what (items ++ item ∷ []) ≡ reading what items ++ x ∷ [] = reading_more what items item ∙ ap (λ l. reading what items ++ l) entries in
    let more = messages_more took.texts said in
    record {
      stream = stream ∙ took.stream;
      texts = took.texts ++ said ∷ [];
      runs = subst (λ (l : List (Option (List ℕ))). JoinerRuns joining.made l (took.texts ++ said ∷ []) u.joiner) (sym all) runs;
      text_is = ap (λ l. l ++ message_line said) took.text_is
          ∙ (ap (λ l. flat_map text_line (messages_in took.texts) ++ l) (sym (lines_one said))
          ∙ (sym (flat_map-append text_line (messages_in took.texts) (with_message said [])) ∙ ap (λ l. flat_map text_line l) (sym more)));
      given_is = omega (arith, given, took.given_is, ap length more, length-append (messages_in took.texts) (with_message said []), one_size said);
      cut_is = cut ∙ took.cut_is;
      bad_is = omega (arith, bad, took.bad_is, bad_more what items item);
      missing_is = omega (arith, missing, took.missing_is, missing_more items item);
    }

-- a gap
pub message_gap : {E : Type 0} (k : ℕ) (items : List FrameItem) (item : FrameItem) (text : List ℕ) (t u : MessageTaker) (a : Known Output)
    → TookMessages k items text t → entries_at (TextsOf k) item ≡ None ∷ [] → u.stream ≡ t.stream → u.joiner ≡ joining.made
    → u.counts.given ≡ t.counts.given → u.counts.cut ≡ t.counts.cut → u.counts.bad ≡ t.counts.bad + bad_at (TextsOf k) item → u.counts.missing ≡ t.counts.missing + missing_at item
    → (let done : Result (Unit {0}) E = Ok tt in TakesMessages k items item text done u a a)
message_gap k items item text t u a took entries stream new given cut bad missing =
    let runs = (runs_by_calls (reading (TextsOf k) items) took.texts t.joiner took.runs).gap in
    record {
      after = u;
      line = [];
      took = message_more k items item text t u None None took entries stream
          (subst (λ (s : joining.TextState). JoinerRuns joining.made (reading (TextsOf k) items ++ None ∷ []) (took.texts ++ None ∷ []) s) (sym new) runs) (omega (arith, given)) cut bad missing;
      writes = Writes-whole [] a a (OutputsText-nothing a (λ l. l ≡ []) refl) refl;
      after_is = refl;
    }

-- a piece
pub message_piece : (k : ℕ) (items : List FrameItem) (item : FrameItem) (text : List ℕ) (t u : MessageTaker) (piece : List ℕ) (said : Option (Bor (List ℕ)))
    → TookMessages k items text t → entries_at (TextsOf k) item ≡ Some piece ∷ [] → u.stream ≡ t.stream
    → GivesOfPiece t.joiner piece said → ((read : Option Segment) → joining.ReadsIn (joining.gather t.joiner.segment piece) read → u.joiner ≡ joining.after t.joiner piece read)
    → u.counts ≡ record t.counts { given = t.counts.given + message_count (text_of said) } → bad_at (TextsOf k) item ≡ 0 → missing_at item ≡ 0
    → TookMessages k (items ++ item ∷ []) (text ++ message_line (text_of said)) u
message_piece k items item text t u piece said took entries stream tells left counts none_bad none_missing =
    let runs = (runs_by_calls (reading (TextsOf k) items) took.texts t.joiner took.runs).piece piece said u.joiner tells left in
    message_more k items item text t u (Some piece) (text_of said) took entries stream runs
    (ap (λ (n : Counts). n.given) counts) (ap (λ (n : Counts). n.cut) counts) (omega (arith, ap (λ (n : Counts). n.bad) counts, none_bad)) (omega (arith, ap (λ (n : Counts). n.missing) counts, none_missing))
