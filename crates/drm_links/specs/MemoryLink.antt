-- A link in memory.
use Rattle.std.specs.Prelude.{ℕ, ◌≡◌, ◌+◌, ◌-◌, ◌*◌, ◌^◌, ◌<◌, ◌≤◌, ◌⊎◌, zero, suc, Bool, List, [], ◌∷◌, ◌++◌, length, map, take, drop, min, max, All, Contains, nat_eq, nat_le, Option, None, Some, if◌then◌else◌}
use Rattle.std.specs.List.{list_any, filter_map}
use Rattle.std.specs.Map.{lookup}
use Rattle.drm_links.specs.Known.{Known, one_more, contents_for}
use Rattle.drm_links.specs.Link.{Answer, Datagram, Idle, Failed, Traffic, datagram_of, longest_kept}
use Rattle.drm_links.specs.declared.link.Came.{Came}
use Rattle.drm_links.specs.declared.link.Came.TheVariants as recv
use Rattle.drm_links.specs.declared.link.Sent.{Sent}
use Rattle.drm_links.specs.declared.link.Sent.TheVariants as send

-- The datagrams that came, each with the number of its recv, and those that are still to come. The numbers, from 0, of
-- the recvs and of the sends that are to fail, and of the recvs that are to be idle. The datagrams gone, for how many
-- milliseconds the link rested before each of them and for how many since the last, and how many more there is room for.
-- How many recvs, sends and calls there were so far, how many of them failed and how many recvs were idle.
pub record LinkState : Type 0 where
  pub came : List (ℕ × List ℕ)
  pub coming : List (List ℕ)
  pub failing : List ℕ
  pub idling : List ℕ
  pub gone : List (List ℕ)
  pub waits : List ℕ
  pub waiting : ℕ
  pub room : ℕ
  pub recvs : ℕ
  pub sends : ℕ
  pub calls : ℕ
  pub faults : ℕ
  pub idles : ℕ

-- ---- what it answers to a recv

-- the number stands among these
abbrev pub is_among : List ℕ → ℕ → Bool
is_among numbers number = list_any (nat_eq number) numbers

-- the first of these datagrams, or `Idle` where there is none
abbrev pub first_of : List (List ℕ) → Answer
first_of [] = Idle
first_of (bytes ∷ coming) = Datagram bytes

-- The answer to the recv with this number, where these datagrams are still to come: a number that stands in both lists
-- is to fail.
abbrev pub answer_at : List ℕ → List ℕ → ℕ → List (List ℕ) → Answer
answer_at failing idling number coming =
    if is_among failing number then Failed else (if is_among idling number then Idle else first_of coming)

-- the datagrams that are still to come afterwards
abbrev pub left_at : List ℕ → List ℕ → ℕ → List (List ℕ) → List (List ℕ)
left_at failing idling number coming =
    if is_among failing number then coming else (if is_among idling number then coming else drop 1 coming)

-- the answers to so many recvs from this number on, and then the datagrams that are left
abbrev pub answers_from : List ℕ → List ℕ → ℕ → ℕ → List (List ℕ) → List Answer
answers_from failing idling zero number coming = map Datagram coming
answers_from failing idling (suc more) number coming =
    answer_at failing idling number coming ∷ answers_from failing idling more (number + 1) (left_at failing idling number coming)

-- the number after the last of these, or 0 where there is none
abbrev pub after_last : List ℕ → ℕ
after_last [] = 0
after_last (number ∷ numbers) = max (number + 1) (after_last numbers)

-- how many recvs there are from this number on up to the last one that is listed
abbrev pub listed_from : List ℕ → List ℕ → ℕ → ℕ
listed_from failing idling number = max (after_last failing) (after_last idling) - number

-- The answers from this number on, up to the last number that is listed and the last of these datagrams.
abbrev pub answers_ahead : List ℕ → List ℕ → ℕ → List (List ℕ) → List Answer
answers_ahead failing idling number coming = answers_from failing idling (listed_from failing idling number) number coming

-- ---- what it answered

-- the datagram, or what was answered in its place
abbrev pub datagram_or : Option (List ℕ) → Answer → Answer
datagram_or (Some bytes) other = Datagram bytes
datagram_or None other = other

-- what the recv with this number answered, where these datagrams came
abbrev pub answered_at : List ℕ → List (ℕ × List ℕ) → ℕ → Answer
answered_at failing came number =
    datagram_or (lookup (nat_eq number) came) (if is_among failing number then Failed else Idle)

-- what the first so many recvs answered
abbrev pub answered : List ℕ → List (ℕ × List ℕ) → ℕ → List Answer
answered failing came zero = []
answered failing came (suc recvs) = answered failing came recvs ++ answered_at failing came recvs ∷ []

-- ---- how many sends it takes

-- The sends from this number on that are taken: the least of the room and of the distances to numbers that are to
-- fail.
abbrev pub taken_from : List ℕ → ℕ → ℕ → ℕ
taken_from [] number room = room
taken_from (fail ∷ failing) number room =
    if nat_le number fail then min (fail - number) (taken_from failing number room) else taken_from failing number room

-- ---- what it tells

abbrev pub traffic_of : LinkState → Traffic
traffic_of link =
    record {
      answers = answered link.failing link.came link.recvs;
      ahead = answers_ahead link.failing link.idling link.recvs link.coming;
      gone = link.gone;
      waits = link.waits;
      waiting = link.waiting;
      sends = Some (taken_from link.failing link.sends link.room);
      calls = link.calls;
    }

abbrev pub link_known : LinkState → Known Traffic
link_known link = record { faults = link.faults; contents = contents_for link.calls (traffic_of link) }

-- ---- its calls

-- A recv whose number is to fail is Failed, and any other that is to be idle is Idle. Else it gives the first datagram
-- that is still to come, or Idle where none is. Only a datagram changes the buffer, and only at its front.
abbrev pub MemLinkReceives : Came → List ℕ → List ℕ → LinkState → LinkState → Type 0
MemLinkReceives (recv.Datagram n) old new before after =
    (Contains before.failing before.recvs → ⊥)
    × (Contains before.idling before.recvs → ⊥)
    × (before.coming ≡ take n new ∷ after.coming)
    × (n ≤ length new)
    × (drop n new ≡ drop n old)
    × (after ≡ record before { came = before.came ++ (before.recvs, take n new) ∷ []; coming = drop 1 before.coming; recvs = one_more before.recvs; calls = one_more before.calls })
MemLinkReceives recv.Idle old new before after =
    (Contains before.failing before.recvs → ⊥)
    × (Contains before.idling before.recvs ⊎ (before.coming ≡ []))
    × (new ≡ old)
    × (after ≡ record before { recvs = one_more before.recvs; calls = one_more before.calls; idles = one_more before.idles })
MemLinkReceives recv.Failed old new before after =
    Contains before.failing before.recvs
    × (new ≡ old)
    × (after ≡ record before { recvs = one_more before.recvs; calls = one_more before.calls; faults = one_more before.faults })

-- A send fails exactly where its number is to fail, no room is left, or the datagram is longer than the room for one.
-- Any other datagram is gone, after the wait so far.
abbrev pub MemLinkSends : Sent → List ℕ → LinkState → LinkState → Type 0
MemLinkSends send.Sent bytes before after =
    (Contains before.failing before.sends → ⊥)
    × (0 < before.room)
    × (length bytes ≤ longest_kept)
    × (after ≡ record before { gone = before.gone ++ bytes ∷ []; waits = before.waits ++ before.waiting ∷ []; waiting = 0; room = before.room - 1; sends = one_more before.sends; calls = one_more before.calls })
MemLinkSends send.Failed bytes before after =
    (Contains before.failing before.sends ⊎ (before.room ≡ 0) ⊎ (longest_kept < length bytes))
    × (after ≡ record before { sends = one_more before.sends; calls = one_more before.calls; faults = one_more before.faults })

-- the longest wait that is counted, in milliseconds: 2 ^ 64 - 1 rests of 2 ^ 32 - 1
abbrev pub longest_wait : ℕ
longest_wait = 79228162495817593515539431425

-- the link after a rest of so many milliseconds
abbrev pub after_rest : ℕ → LinkState → LinkState
after_rest millis link = record link { waiting = min (link.waiting + millis) longest_wait; calls = one_more link.calls }

-- ---- what holds of each link

-- the longest datagram that a link brings
abbrev pub longest_brought : ℕ
longest_brought = 65536

-- these came before the recv with this number, while the link tells
abbrev pub CameBefore : List (ℕ × List ℕ) → ℕ → ℕ → Type 0
CameBefore came recvs calls = All (λ (heard : ℕ × List ℕ). (heard.0 < recvs) ⊎ (2 ^ 62 < calls)) came

-- The recvs and the sends are among the calls, what came did so before now, and no rest was longer than 2 ^ 32 - 1.
pub record IsCounted (link : LinkState) : Type 0 where
  pub recvs : link.recvs ≤ link.calls
  pub sends : link.sends ≤ link.calls
  pub came : CameBefore link.came link.recvs link.calls
  pub waiting : link.waiting ≤ link.calls * 4294967295

-- No call was made on the link.
pub record IsUntouchedLink (link : LinkState) : Type 0 where
  pub came : link.came ≡ []
  pub gone : link.gone ≡ []
  pub waits : link.waits ≡ []
  pub waiting : link.waiting ≡ 0
  pub recvs : link.recvs ≡ 0
  pub sends : link.sends ≡ 0
  pub calls : link.calls ≡ 0
  pub faults : link.faults ≡ 0
  pub idles : link.idles ≡ 0

-- A datagram was brought: it stands behind all others that are ahead, and all else is as before.
pub record BringsDatagram (bytes : List ℕ) (before after : Traffic) : Type 0 where
  pub answers : after.answers ≡ before.answers
  pub ahead : filter_map datagram_of after.ahead ≡ filter_map datagram_of before.ahead ++ bytes ∷ []
  pub gone : after.gone ≡ before.gone
  pub waits : after.waits ≡ before.waits
  pub waiting : after.waiting ≡ before.waiting
  pub sends : after.sends ≡ before.sends
  pub calls : after.calls ≡ before.calls
