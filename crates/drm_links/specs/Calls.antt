-- Calls that are to be made over a group of links, and what comes of them.
use Rattle.std.specs.Prelude.{ℕ, ◌≡◌, ◌+◌, ◌≤◌, zero, suc, Bool, true, false, List, [], ◌∷◌, ◌++◌, length, map, MatchBool, slice_index_or, slice_set, All}
use Rattle.drm_links.specs.Link.{longest_kept}
use Rattle.drm_links.specs.declared.link.Sent.{Sent}
use Rattle.drm_links.specs.declared.link.Sent.TheVariants as send
use Rattle.drm_links.specs.History.{GroupEvent, SentTo, RestedAt}

-- a rest of so many milliseconds before the k-th link, or a send over it
pub data Call : Type 0 where
  Rest : ℕ → ℕ → Call
  Send : ℕ → List ℕ → Call

-- no datagram is longer than any of a server
abbrev pub AreKept : List (List ℕ) → Type 0
AreKept datagrams = All (λ bytes. length bytes ≤ longest_kept) datagrams

-- ---- which links are up

-- the k-th link hasn't failed
abbrev pub is_up : List Bool → ℕ → Bool
is_up up k = slice_index_or up k false

-- which links are up after a send over the k-th
abbrev pub up_after : List Bool → ℕ → Sent → List Bool
up_after up k send.Sent = up
up_after up k send.Failed = slice_set up k false

-- each link has failed
abbrev pub NoneUp : List Bool → Type 0
NoneUp up = (k : ℕ) → is_up up k ≡ false

-- how many links are up
abbrev pub ups : List Bool → ℕ
ups [] = 0
ups (true ∷ up) = ups up + 1
ups (false ∷ up) = ups up

-- ---- calls

-- the calls for 0, those for 1, and so on, for so many
abbrev pub each : (ℕ → List Call) → ℕ → List Call
each calls zero = []
each calls (suc n) = each calls n ++ calls n

-- these datagrams over the k-th link
abbrev pub sends : ℕ → List (List ℕ) → List Call
sends k datagrams = map (λ bytes. Send k bytes) datagrams

-- What comes of these calls, one after another, and which links are up then: a call over a link that is up is made, and any other left
-- out; a link that refuses a datagram isn't up any more.
abbrev pub CallsCome : List Bool → List Call → List GroupEvent → List Bool → Type 0
CallsCome up [] events up' = (events ≡ []) × (up' ≡ up)
CallsCome up (Rest k millis ∷ calls) events up' =
    MatchBool (is_up up k)
    ((rest : List GroupEvent) × (events ≡ RestedAt k millis ∷ rest) × CallsCome up calls rest up')
    (CallsCome up calls events up')
CallsCome up (Send k bytes ∷ calls) events up' =
    MatchBool (is_up up k)
    ((answer : Sent) × (rest : List GroupEvent) × (events ≡ SentTo k bytes answer ∷ rest) × CallsCome (up_after up k answer) calls rest up')
    (CallsCome up calls events up')

-- Just what comes of these calls happened, whoever tells it.
pub record CallsMake (calls : List Call) (up up' : List Bool) (Happened : List GroupEvent → Type 0) : Type 0 where
  pub events : List GroupEvent
  pub come : CallsCome up calls events up'
  pub happens : Happened events
