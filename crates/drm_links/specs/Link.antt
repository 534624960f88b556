-- What a link tells.
use Rattle.std.specs.Prelude.{ℕ, ◌≡◌, ◌+◌, ◌-◌, ◌≤◌, List, [], ◌∷◌, ◌++◌, length, take, drop, Option, None, Some}
use Rattle.std.specs.List.{filter_map}
use Rattle.drm_links.specs.declared.link.Came.{Came}
use Rattle.drm_links.specs.declared.link.Came.TheVariants as recv
use Rattle.drm_links.specs.declared.link.Sent.{Sent}
use Rattle.drm_links.specs.declared.link.Sent.TheVariants as send

-- What comes to a receiver: what a link answers to a recv, and what comes of a capture, a datagram for each packet. That
-- nothing comes any more is told by a capture alone: no link answers `End`.
pub data Answer : Type 0 where
  Datagram : List ℕ → Answer
  Idle : Answer
  Failed : Answer
  End : Answer

-- The answers so far and those still ahead; the datagrams gone, for how many milliseconds the link rested before each of
-- them, and for how many since the last; how many sends are taken before one fails (or none fails), and the number of
-- calls so far.
pub record Traffic : Type 0 where
  pub answers : List Answer
  pub ahead : List Answer
  pub gone : List (List ℕ)
  pub waits : List ℕ
  pub waiting : ℕ
  pub sends : Option ℕ
  pub calls : ℕ

abbrev pub datagram_of : Answer → Option (List ℕ)
datagram_of (Datagram bytes) = Some bytes
datagram_of Idle = None
datagram_of Failed = None
datagram_of End = None

-- the datagrams among the answers so far
abbrev pub came : Traffic → List (List ℕ)
came traffic = filter_map datagram_of traffic.answers

-- the first answer ahead, or `Idle` where none is left
abbrev pub next_answer : List Answer → Answer
next_answer [] = Idle
next_answer (answer ∷ ahead) = answer

-- the answer that a recv gave, with what it put into the buffer
abbrev pub answer_of : Came → List ℕ → Answer
answer_of (recv.Datagram n) buf = Datagram (take n buf)
answer_of recv.Idle buf = Idle
answer_of recv.Failed buf = Failed

-- A recv gives the first answer ahead, which then stands among those given.
pub record LinkReceives (result : Came) (buf : List ℕ) (before after : Traffic) : Type 0 where
  pub next : answer_of result buf ≡ next_answer before.ahead
  pub answers : after.answers ≡ before.answers ++ next_answer before.ahead ∷ []
  pub ahead : after.ahead ≡ drop 1 before.ahead
  pub gone : after.gone ≡ before.gone
  pub waits : after.waits ≡ before.waits
  pub waiting : after.waiting ≡ before.waiting
  pub sends : after.sends ≡ before.sends

-- how many sends are left after one that was taken
abbrev pub one_less : Option ℕ → Option ℕ
one_less None = None
one_less (Some n) = Some (n - 1)

-- What is told of sends is told of datagrams of at most this many bytes. No datagram of a server is longer.
abbrev pub longest_kept : ℕ
longest_kept = 32780

-- A send of such a datagram fails exactly where no send is taken any more; a longer one may also fail elsewhere. One
-- that is taken is appended to those gone, with how long the link has rested since the last; a failed one isn't. How many
-- are taken after a failed one is told anew.
abbrev pub LinkSends : Sent → List ℕ → Traffic → Traffic → Type 0
LinkSends send.Sent bytes before after =
    (before.sends ≡ Some 0 → ⊥)
    × (after.gone ≡ before.gone ++ bytes ∷ [])
    × (after.waits ≡ before.waits ++ before.waiting ∷ [])
    × (after.waiting ≡ 0)
    × (after.sends ≡ one_less before.sends)
LinkSends send.Failed bytes before after =
    (length bytes ≤ longest_kept → before.sends ≡ Some 0)
    × (after.gone ≡ before.gone)
    × (after.waits ≡ before.waits)
    × (after.waiting ≡ before.waiting)

-- what came, and what is ahead, is as before
pub record KeepsAnswers (before after : Traffic) : Type 0 where
  pub answers : after.answers ≡ before.answers
  pub ahead : after.ahead ≡ before.ahead

-- The link rested for so many milliseconds. All else is as before, but the number of calls.
pub record LinkRests (millis : ℕ) (before after : Traffic) : Type 0 where
  pub waiting : after.waiting ≡ before.waiting + millis
  pub answers : after.answers ≡ before.answers
  pub ahead : after.ahead ≡ before.ahead
  pub gone : after.gone ≡ before.gone
  pub waits : after.waits ≡ before.waits
  pub sends : after.sends ≡ before.sends

-- No call was made on the link: nothing came or went, and it didn't rest.
pub record IsUnused (traffic : Traffic) : Type 0 where
  pub answers : traffic.answers ≡ []
  pub gone : traffic.gone ≡ []
  pub waits : traffic.waits ≡ []
  pub waiting : traffic.waiting ≡ 0
  pub calls : traffic.calls ≡ 0

-- how long the link rested before each datagram that went, and since the last one
abbrev pub rests_of : Traffic → List ℕ
rests_of traffic = traffic.waits ++ traffic.waiting ∷ []

-- a datagram lies in the front of the buffer
abbrev pub FitsBuffer : Came → List ℕ → Type 0
FitsBuffer (recv.Datagram n) buf = n ≤ length buf
FitsBuffer recv.Idle buf = Unit {0}
FitsBuffer recv.Failed buf = Unit {0}
