-- What went over each link of a group: a projection of its history.
use Rattle.std.specs.Prelude.{ℕ, ◌+◌, zero, suc, nat_eq, List, [], ◌∷◌, ◌++◌, if◌then◌else◌}
use Rattle.drm_links.specs.Link.{Answer}
use Rattle.drm_links.specs.Dock.{Over}
use Rattle.drm_links.specs.declared.link.Sent.TheVariants as send
use Rattle.drm_links.specs.History.{GroupEvent, Received, SentTo, RestedAt}

-- what the link answered that is received from
abbrev pub answers_in : List GroupEvent → List Answer
answers_in [] = []
answers_in (Received answer ∷ events) = answer ∷ answers_in events
answers_in (SentTo k bytes answer ∷ events) = answers_in events
answers_in (RestedAt k millis ∷ events) = answers_in events

-- the datagrams that went over the k-th link
abbrev pub gone_at : ℕ → List GroupEvent → List (List ℕ)
gone_at k [] = []
gone_at k (Received answer ∷ events) = gone_at k events
gone_at k (SentTo j bytes send.Sent ∷ events) = if nat_eq j k then bytes ∷ gone_at k events else gone_at k events
gone_at k (SentTo j bytes send.Failed ∷ events) = gone_at k events
gone_at k (RestedAt j millis ∷ events) = gone_at k events

-- for how long it rested before each of them, the first time in addition to what it waited before, and after the last
abbrev pub rests_at : ℕ → ℕ → List GroupEvent → List ℕ
rests_at k waited [] = waited ∷ []
rests_at k waited (Received answer ∷ events) = rests_at k waited events
rests_at k waited (SentTo j bytes send.Sent ∷ events) = if nat_eq j k then waited ∷ rests_at k 0 events else rests_at k waited events
rests_at k waited (SentTo j bytes send.Failed ∷ events) = rests_at k waited events
rests_at k waited (RestedAt j millis ∷ events) = if nat_eq j k then rests_at k (waited + millis) events else rests_at k waited events

-- what went over the k-th link, and what over the one that is received from
abbrev pub over_at : ℕ → List GroupEvent → Over
over_at k events = record { answers = []; gone = gone_at k events; rests = rests_at k 0 events }

abbrev pub over_source : List GroupEvent → Over
over_source events = record { answers = answers_in events; gone = []; rests = 0 ∷ [] }

-- and over the first so many
abbrev pub overs_of : ℕ → List GroupEvent → List Over
overs_of zero events = []
overs_of (suc n) events = overs_of n events ++ over_at n events ∷ []
