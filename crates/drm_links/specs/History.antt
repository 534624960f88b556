-- What happened at a group of links, in one order.
use Rattle.std.specs.Prelude.{ℕ, ◌≡◌, ◌+◌, ◌<◌, zero, suc, slice_index_or, slice_set, List, [], ◌∷◌, ◌++◌, length, drop, Option, None, Some, IsNone}
use Rattle.drm_links.specs.Known.{Known, one_more}
use Rattle.drm_links.specs.Link.{Answer, Datagram, Idle, Failed, End, next_answer, one_less}
use Rattle.drm_links.specs.declared.link.Sent.{Sent}
use Rattle.drm_links.specs.declared.link.Sent.TheVariants as send

-- One call, and what it answered: a recv, a send over the k-th link, or a rest before it of so many milliseconds.
pub data GroupEvent : Type 0 where
  Received : Answer → GroupEvent
  SentTo : ℕ → List ℕ → Sent → GroupEvent
  RestedAt : ℕ → ℕ → GroupEvent

-- What happened so far; what the next recvs answer; how many sends each link takes before one fails (or none fails); and how many more
-- events are told.
pub record History : Type 0 where
  pub events : List GroupEvent
  pub coming : List Answer
  pub sends : List (Option ℕ)
  pub room : ℕ

-- ---- one event

-- what a send answers over a link that takes so many
abbrev pub sent_by : Option ℕ → Sent
sent_by None = send.Sent
sent_by (Some zero) = send.Failed
sent_by (Some (suc n)) = send.Sent

-- what a send over the k-th link answers
abbrev pub next_sent : List (Option ℕ) → ℕ → Sent
next_sent sends k = sent_by (slice_index_or sends k None)

-- the event has the answer that was ahead
abbrev pub IsAhead : GroupEvent → History → Type 0
IsAhead (Received answer) history = answer ≡ next_answer history.coming
IsAhead (SentTo k bytes answer) history = answer ≡ next_sent history.sends k
IsAhead (RestedAt k millis) history = Unit {0}

-- what is ahead behind it
abbrev pub coming_after : GroupEvent → List Answer → List Answer
coming_after (Received answer) coming = drop 1 coming
coming_after (SentTo k bytes answer) coming = coming
coming_after (RestedAt k millis) coming = coming

abbrev pub sends_after : GroupEvent → List (Option ℕ) → List (Option ℕ)
sends_after (Received answer) sends = sends
sends_after (SentTo k bytes answer) sends = slice_set sends k (one_less (slice_index_or sends k None))
sends_after (RestedAt k millis) sends = sends

-- One event more, and nothing else.
pub record EventHappens (event : GroupEvent) (before after : History) : Type 0 where
  pub is_ahead : IsAhead event before
  pub events : after.events ≡ before.events ++ event ∷ []
  pub coming : after.coming ≡ coming_after event before.coming
  pub sends : after.sends ≡ sends_after event before.sends
  pub room : before.room ≡ after.room + 1

-- ---- several

-- These events, one after another, and nothing else.
abbrev pub EventsHappen : List GroupEvent → History → History → Type 0
EventsHappen [] before after = after ≡ before
EventsHappen (event ∷ events) before after = (mid : History) × EventHappens event before mid × EventsHappen events mid after

-- A group that told before tells these events, unless it had room for fewer.
abbrev pub TellsEvents : List GroupEvent → Option History → Option History → Type 0
TellsEvents events None now = IsNone now
TellsEvents events (Some before) None = before.room < length events
TellsEvents events (Some before) (Some after) = EventsHappen events before after

-- ---- failed calls

-- an event is a failed call, or none
abbrev pub faults_of : GroupEvent → ℕ
faults_of (Received (Datagram bytes)) = 0
faults_of (Received Idle) = 0
faults_of (Received Failed) = 1
faults_of (Received End) = 0
faults_of (SentTo k bytes send.Sent) = 0
faults_of (SentTo k bytes send.Failed) = 1
faults_of (RestedAt k millis) = 0

-- how many of these are
abbrev pub failed_in : List GroupEvent → ℕ
failed_in [] = 0
failed_in (event ∷ events) = faults_of event + failed_in events

-- a count after so many more
abbrev pub risen : ℕ → ℕ → ℕ
risen zero count = count
risen (suc n) count = one_more (risen n count)

-- These events happened: they are told, and as many calls failed as failed among them.
pub record GroupTells (events : List GroupEvent) (before after : Known History) : Type 0 where
  pub told : TellsEvents events before.contents after.contents
  pub faults : after.faults ≡ risen (failed_in events) before.faults
