-- Laws of the histories of several links.
use Rattle.std.specs.Prelude.{ℕ, ◌≡◌, ◌+◌, ◌<◌, ◌⊎◌, nat_eq, Bool, true, List, [], ◌∷◌, ◌++◌, length, slice_index_or, if◌then◌else◌}
use Rattle.drm_schedule.specs.declared.plan.Plan.{Plan}
use Rattle.drm_links.specs.declared.link.Sent.TheVariants as send
use Rattle.drm_links.specs.History.{GroupEvent, Received, SentTo, RestedAt, History, EventsHappen}
use Rattle.drm_links.specs.Calls.{Call, Rest, Send, is_up, up_after, each, CallsCome}
use Rattle.drm_links.specs.Alone.{gone_at}
use Rattle.drm_server.specs.Datagrams.{AreOfFrame, AreOfFrames}
use Rattle.drm_server.specs.Serving.{turn, FramesCome}

-- ---- one history

-- Two histories of the same calls, from one start, are the same, and so are the links that are up then.
abbrev pub OneHistory : Type 0
OneHistory = (calls : List Call) (up v w : List Bool) (events events' : List GroupEvent) (before after after' : History)
    → CallsCome up calls events v → CallsCome up calls events' w → EventsHappen events before after → EventsHappen events' before after'
    → (events ≡ events') × (v ≡ w) × (after ≡ after')

-- ---- one link alone

-- the calls over the k-th link, and the events at it
abbrev pub calls_at : ℕ → List Call → List Call
calls_at k [] = []
calls_at k (Rest j millis ∷ calls) = if nat_eq j k then Rest j millis ∷ calls_at k calls else calls_at k calls
calls_at k (Send j bytes ∷ calls) = if nat_eq j k then Send j bytes ∷ calls_at k calls else calls_at k calls

abbrev pub events_at : ℕ → List GroupEvent → List GroupEvent
events_at k [] = []
events_at k (Received answer ∷ events) = events_at k events
events_at k (SentTo j bytes answer ∷ events) = if nat_eq j k then SentTo j bytes answer ∷ events_at k events else events_at k events
events_at k (RestedAt j millis ∷ events) = if nat_eq j k then RestedAt j millis ∷ events_at k events else events_at k events

-- Over each link goes what would go over it alone, whatever becomes of the others.
abbrev pub EachAlone : Type 0
EachAlone = (k : ℕ) (calls : List Call) (up up' : List Bool) (events : List GroupEvent) → CallsCome up calls events up'
    → (w : List Bool) × CallsCome up (calls_at k calls) (events_at k events) w × (is_up w k ≡ is_up up' k)

-- ---- frame by frame

-- all frames over one link, and then all over the next
abbrev pub one_by_one : ℕ → ℕ → List (List (List ℕ)) → List Call
one_by_one links pace frames = each (λ k. each (λ n. turn pace n (slice_index_or frames n []) k) (length frames)) links

-- each frame over one link after another, before the next one
abbrev pub frame_by_frame : ℕ → ℕ → List (List (List ℕ)) → List Call
frame_by_frame links pace frames = each (λ n. each (turn pace n (slice_index_or frames n [])) links) (length frames)

-- Two frames over two links: once the first link took the first one, what happens where one link is served after the other isn't what
-- happens frame by frame.
abbrev pub OneByOneDiffers : Type 0
OneByOneDiffers = (pace : ℕ) (a b : List ℕ) (rest : List GroupEvent) (v w : List Bool)
    → CallsCome (true ∷ true ∷ []) (one_by_one 2 pace ((a ∷ []) ∷ (b ∷ []) ∷ [])) (SentTo 0 a send.Sent ∷ rest) v
    → CallsCome (true ∷ true ∷ []) (frame_by_frame 2 pace ((a ∷ []) ∷ (b ∷ []) ∷ [])) (SentTo 0 a send.Sent ∷ rest) w → ⊥

-- ---- links stay together

-- which links are up after these events
abbrev pub ups_after : List Bool → List GroupEvent → List Bool
ups_after up [] = up
ups_after up (Received answer ∷ events) = ups_after up events
ups_after up (SentTo k bytes answer ∷ events) = ups_after (up_after up k answer) events
ups_after up (RestedAt k millis ∷ events) = ups_after up events

-- of n frames from frame `first` on, the datagrams of the one behind m others, or none behind the last one
abbrev pub AreOfNext : Plan → ℕ → ℕ → ℕ → List (List ℕ) → Type 0
AreOfNext plan first n m datagrams = ((m < n) × AreOfFrame plan (first + m) datagrams) ⊎ ((m ≡ n) × (datagrams ≡ []))

-- this went, and behind it some first ones of these datagrams
abbrev pub IsWithin : List (List ℕ) → List (List ℕ) → List (List ℕ) → Type 0
IsWithin common datagrams gone = (part : List (List ℕ)) × (rest : List (List ℕ)) × (gone ≡ common ++ part) × (datagrams ≡ part ++ rest)

-- At each moment all datagrams of the same frames have gone over each link that hasn't failed, and some first ones of the next frame: so
-- none of them is more than this frame ahead of another.
abbrev pub LinksStayTogether : Type 0
LinksStayTogether =
    (plan : Plan) (first pace n : ℕ) (up up' : List Bool) (events front back : List GroupEvent)
    → FramesCome plan first pace n up events up' → events ≡ front ++ back
    → (m : ℕ) × (common : List (List ℕ)) × (datagrams : List (List ℕ)) × AreOfFrames plan first m common × AreOfNext plan first n m datagrams
    × ((k : ℕ) → is_up (ups_after up front) k ≡ true → IsWithin common datagrams (gone_at k front))

-- After so many frames the same has gone over each link that hasn't failed: their datagrams.
abbrev pub AfterEachTurn : Type 0
AfterEachTurn =
    (plan : Plan) (first pace n : ℕ) (up up' : List Bool) (events : List GroupEvent) → FramesCome plan first pace n up events up'
    → (datagrams : List (List ℕ)) × AreOfFrames plan first n datagrams × ((k : ℕ) → is_up up' k ≡ true → gone_at k events ≡ datagrams)
