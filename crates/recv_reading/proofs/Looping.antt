-- A loop over a reading, with what its consumer has made of the items that were given.
use Rattle.std.proofs.Common.{◌≡◌, Bool, false, List, [], ◌∷◌, ◌++◌, length, Option, None, Some, Ok, sym, ◌∙◌, ap, subst, arith}
use Rattle.std.proofs.lemmas.List.{append-nil}
use Rattle.std.proofs.lemmas.Option.{IfSome_then}
use Rattle.recv_reading.proofs.Common.{Answer, Datagram, Taken, CollectorState, made, CollectorItem, ReceiveOptions, AreUsable, bounds_of}
use Rattle.recv_reading.proofs.Common.{capture_options, IsWithinLimits, ReadingState, new_reading, has_ended, ReadingReached, ReadingWaits, ReadsOn}
use Rattle.recv_reading.specs.declared.options.PacketRange.{PacketRange}
use Rattle.recv_reading.specs.ReadingReached.{GivesNext}
use Rattle.recv_reading.proofs.Reaching.{reached_none}
use Rattle.recv_reading.proofs.Finishing.{IsOver, gives_none, waits_now}

-- The reading has come so far by answers that came; and this holds of what was answered to their datagrams, of the items that were given
-- before the last answer and since, and of the collector.
pub record Loop (options : ReceiveOptions) (so_far : List Answer → Type 0) (Has : List Taken → List CollectorItem → List CollectorItem → CollectorState → Type 0) (r : ReadingState) (c : CollectorState) : Type 0 where
  pub answers : List Answer
  pub heard : so_far answers
  pub taken : List Taken
  pub during : List CollectorItem
  pub more : List CollectorItem
  pub reached : ReadingReached options answers taken during more r c
  pub has : Has taken during more c

pub loop_none : (options : ReceiveOptions) (so_far : List Answer → Type 0) (Has : List Taken → List CollectorItem → List CollectorItem → CollectorState → Type 0) (r : ReadingState) (c : CollectorState) → AreUsable options
    → r ≡ new_reading (bounds_of options) → c ≡ made options.window options.reach options.first → so_far [] → Has [] [] [] c → Loop options so_far Has r c
loop_none options so_far Has r c usable reads is none has = record {
  answers = [];
  heard = none;
  taken = [];
  during = [];
  more = [];
  reached = subst (λ s. ReadingReached options [] [] [] [] s c) (sym reads) (reached_none options c usable is);
  has = has;
}

-- by what a capture is read, where its reading ends with it or by the number of frames
pub capture_usable : (range : PacketRange) → IsWithinLimits range → AreUsable (capture_options range)
capture_usable range valid =
    record { window = valid.0; frames = IfSome_then range.frame_limit valid.2 (λ n both. both.0); most_frames = IfSome_then range.frame_limit valid.2 (λ n both. both.1); idle = omega arith; limit = omega arith; most_datagrams = omega arith }

-- where `gives` gives nothing, the reading is as it was, and waits unless it has ended
pub rests_over : (b : Bool) (r : ReadingState) (c : CollectorState) (s : ReadingState) → GivesNext b r c s → b ≡ false → IsOver s c
rests_over b r c s gives none = let (over, same) = gives_none b r c s gives none in subst (λ k. IsOver k c) (sym same) over

pub rests_waiting : (b : Bool) (r : ReadingState) (c : CollectorState) (s : ReadingState) → GivesNext b r c s → b ≡ false → has_ended s ≡ false → ReadingWaits s c
rests_waiting b r c s gives none goes = waits_now s c (rests_over b r c s gives none) goes

-- what was answered, with an answer more where one was
abbrev pub with_answer : List Taken → Option Taken → List Taken
with_answer taken None = taken
with_answer taken (Some answer) = taken ++ answer ∷ []

module _ (options : ReceiveOptions) (so_far : List Answer → Type 0) (Has : List Taken → List CollectorItem → List CollectorItem → CollectorState → Type 0) (r : ReadingState) (c : CollectorState) (i : Loop options so_far Has r c) where
  pub loop_rests : (b : Bool) (s : ReadingState) → GivesNext b r c s → b ≡ false → Loop options so_far Has s c
  loop_rests b s gives none = subst (λ k. Loop options so_far Has k c) (sym (gives_none b r c s gives none).1) i

  -- an item was given
  pub loop_given : (Now : List Taken → List CollectorItem → List CollectorItem → CollectorState → Type 0) (item : CollectorItem) (s : ReadingState) (d : CollectorState)
      → ReadingReached options i.answers i.taken i.during (i.more ++ item ∷ []) s d → Now i.taken i.during (i.more ++ item ∷ []) d → Loop options so_far Now s d
  loop_given Now item s d reached now = record {
    answers = i.answers;
    heard = i.heard;
    taken = i.taken;
    during = i.during;
    more = i.more ++ item ∷ [];
    reached = reached;
    has = now;
  }

  -- one answer more came
  loop_more : (so_far' : List Answer → Type 0) (Now : List Taken → List CollectorItem → List CollectorItem → CollectorState → Type 0) (answers : List Answer) (taken : List Taken) (s : ReadingState) (d : CollectorState)
      → so_far' answers → ReadingReached options answers taken (i.during ++ i.more) [] s d → (d.next ≡ c.next → Now taken (i.during ++ i.more) [] d) → Loop options so_far' Now s d
  loop_more so_far' Now answers taken s d heard reached now = record {
    answers = answers;
    heard = heard;
    taken = taken;
    during = i.during ++ i.more;
    more = [];
    reached = reached;
    has = now (reached.next_is ∙ (sym reached.given_are ∙ (ap length (append-nil (i.during ++ i.more)) ∙ (i.reached.given_are ∙ sym i.reached.next_is))));
  }

  pub loop_on : {E : Type 0} (so_far' : List Answer → Type 0) (breaks : E → List Answer → Type 0) (Now : List Taken → List CollectorItem → List CollectorItem → CollectorState → Type 0) (answer : Option Taken)
      (s : ReadingState) (d : CollectorState) → ReadsOn so_far' breaks options i.answers i.taken (i.during ++ i.more) (Ok answer) s d
      → (d.next ≡ c.next → Now (with_answer i.taken answer) (i.during ++ i.more) [] d) → Loop options so_far' Now s d
  loop_on so_far' breaks Now (Some answer) s d (bytes, heard, reached) now = loop_more so_far' Now (i.answers ++ Datagram bytes ∷ []) (i.taken ++ answer ∷ []) s d heard reached now
  loop_on so_far' breaks Now None s d (others, heard, reached) now = loop_more so_far' Now (i.answers ++ others) i.taken s d heard reached now
