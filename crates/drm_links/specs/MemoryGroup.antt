-- A group in memory.
use Rattle.std.specs.Prelude.{ℕ, ◌≡◌, ◌+◌, ◌-◌, ◌^◌, ◌<◌, ◌≤◌, Bool, true, false, List, [], ◌∷◌, ◌++◌, length, map, slice_index_or, slice_set, Option, None, Some, if◌then◌else◌}
use Rattle.drm_links.specs.Known.{Known, IfBothKnown, CountsCall}
use Rattle.drm_links.specs.Link.{Answer, Datagram, Idle, Failed, Traffic, LinkSends, LinkRests, KeepsAnswers}
use Rattle.drm_links.specs.Dock.{DockContents, Over, IsNewLink, over_of}
use Rattle.drm_links.specs.Gathering.{TakenAt, after_reaches}
use Rattle.drm_links.specs.declared.dock.Address.{Address}
use Rattle.drm_links.specs.MemoryLink.{LinkState, link_known}
use Rattle.drm_links.specs.History.{GroupEvent, Received, SentTo, RestedAt, History}
use Rattle.drm_links.specs.Alone.{over_at, over_source}
use Rattle.drm_links.specs.declared.link.Sent.{Sent}
use Rattle.drm_links.specs.declared.link.Sent.TheVariants as send
use Rattle.drm_links.specs.declared.member.Member.{Member}
use Rattle.drm_links.specs.declared.book.Happened.{Happened}
use Rattle.drm_links.specs.declared.book.Happened.TheVariants as happened

-- ---- what is written down

abbrev pub event_of : Happened → GroupEvent
event_of (happened.Came bytes) = Received (Datagram bytes)
event_of happened.CameIdle = Received Idle
event_of happened.CameFailed = Received Failed
event_of (happened.SentTo k bytes answer) = SentTo k bytes answer
event_of (happened.RestedAt k millis) = RestedAt k millis

-- the events, for how many more there is room, and whether none is missing
pub record GroupBookState : Type 0 where
  pub events : List GroupEvent
  pub room : ℕ
  pub tells : Bool

-- An event is written down where there is room, and else the book tells nothing any more.
pub record NotesEvent (event : GroupEvent) (before after : GroupBookState) : Type 0 where
  pub full : before.room ≡ 0 → after ≡ record before { tells = false }
  pub noted : 0 < before.room → after ≡ record before { events = before.events ++ event ∷ []; room = before.room - 1 }

-- ---- what it tells

-- the link that is received from, those that are sent over, the book, and how many calls failed
pub record GroupState : Type 0 where
  pub source : LinkState
  pub members : List (Member LinkState)
  pub book : GroupBookState
  pub faults : ℕ

abbrev pub ups_of : List (Member LinkState) → List Bool
ups_of members = map (λ member. member.up) members

-- the answers that are ahead of a link
abbrev pub ahead_of : Option Traffic → List Answer
ahead_of None = []
ahead_of (Some traffic) = traffic.ahead

-- how many sends a link takes, where it is up
abbrev pub taken_by : Bool → Option Traffic → Option ℕ
taken_by false told = Some 0
taken_by true None = None
taken_by true (Some traffic) = traffic.sends

abbrev pub sends_of : List (Member LinkState) → List (Option ℕ)
sends_of members = map (λ member. taken_by member.up (link_known member.link).contents) members

abbrev pub history_of : GroupState → History
history_of group = record { events = group.book.events; coming = ahead_of (link_known group.source).contents; sends = sends_of group.members; room = group.book.room }

abbrev pub group_known : GroupState → Known History
group_known group = record { faults = group.faults; contents = if group.book.tells then Some (history_of group) else None }

-- ---- what holds of each group

-- A link tells that this went over it, and tells at least so many calls more.
pub record IsInStep (known : Known Traffic) (room : ℕ) (over : Over) : Type 0 where
  pub traffic : Traffic
  pub told : known.contents ≡ Some traffic
  pub calls : traffic.calls + room ≤ 2 ^ 62
  pub went : over_of traffic ≡ over

-- While the book tells, what went over each link is what is written down.
pub record AreInStep (source : LinkState) (members : List (Member LinkState)) (book : GroupBookState) : Type 0 where
  pub receiving : IsInStep (link_known source) book.room (over_source book.events)
  pub sending : (k : ℕ) (none : Member LinkState) → k < length members → IsInStep (link_known (slice_index_or members k none).link) book.room (over_at k book.events)

-- ---- its calls

-- the k-th member becomes this, and the others stay
pub record MemberChanges (Change : Member LinkState → Member LinkState → Type 0) (k : ℕ) (before after : List (Member LinkState)) : Type 0 where
  pub old : Member LinkState
  pub new : Member LinkState
  pub within : k < length before
  pub was : (none : Member LinkState) → slice_index_or before k none ≡ old
  pub now : after ≡ slice_set before k new
  pub change : Change old new

abbrev pub up_by : Bool → Sent → Bool
up_by up send.Sent = up
up_by up send.Failed = false

-- it sends, and isn't up any more where that fails
pub record MemberSends (answer : Sent) (bytes : List ℕ) (old new : Member LinkState) : Type 0 where
  pub sends : IfBothKnown (link_known old.link) (link_known new.link) (LinkSends answer bytes)
  pub kept : IfBothKnown (link_known old.link) (link_known new.link) KeepsAnswers
  pub counts : CountsCall (λ (traffic : Traffic). traffic.calls) (link_known old.link) (link_known new.link)
  pub up : new.up ≡ up_by old.up answer

-- it rests
pub record MemberRests (millis : ℕ) (old new : Member LinkState) : Type 0 where
  pub rests : IfBothKnown (link_known old.link) (link_known new.link) (LinkRests millis)
  pub counts : CountsCall (λ (traffic : Traffic). traffic.calls) (link_known old.link) (link_known new.link)
  pub up : new.up ≡ old.up

-- ---- its opening

-- A group begins with an empty book and a node.
pub record IsNewRoom (book : GroupBookState) (nodes : ℕ) : Type 0 where
  pub events : book.events ≡ []
  pub tells : book.tells ≡ true
  pub few_events : book.room ≤ 2 ^ 62
  pub node : nodes ≡ 1

-- no call was made on a link
abbrev pub IsUnusedLink : LinkState → Type 0
IsUnusedLink link = IsNewLink link_known (λ (l : LinkState). l.idles) link × (link.calls ≡ 0)

-- Links were opened to these addresses, and the group tells how they start.
pub record GathersOver (source : LinkState) (room : ℕ) (to : List Address) (group : GroupState) (before after : DockContents) : Type 0 where
  pub contents : after ≡ after_reaches to before
  pub tells : group.book.tells ≡ true
  pub events : group.book.events ≡ []
  pub room_is : group.book.room ≡ room
  pub same : group.source ≡ source
  pub sends : TakenAt to before (sends_of group.members)
