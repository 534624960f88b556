-- Groups of links that are opened in a dock, and closed again.
use Rattle.std.specs.Prelude.{ℕ, ◌≡◌, ◌+◌, ◌<◌, ◌⊎◌, true, Bool, List, [], ◌∷◌, length, take, replicate, slice_index_or, Option, None, Some}
use Rattle.std.specs.FinMap as map
use Rattle.std.specs.Ordering.{nat_cmp}
use Rattle.std.specs.Cmp.Lexicographic.{slice_cmp}
use Rattle.drm_links.specs.Known.{Known}
use Rattle.drm_links.specs.Link.{Answer}
use Rattle.drm_links.specs.Dock.{DockContents, LinkStart, Over, address_key, after_opening, after_failure, after_close, OpeningFinds, FindsNone, after_openings}
use Rattle.drm_links.specs.History.{GroupEvent, History}
use Rattle.drm_links.specs.Alone.{over_source, overs_of}
use Rattle.drm_links.specs.declared.dock.Address.{Address}
use Rattle.drm_links.specs.declared.dock.GatheredGroup.{GatheredGroup}
use Rattle.drm_links.specs.declared.dock.GatheredGroup.TheVariants as gathered

-- ---- openings

-- what a dock tells once so many more openings by `reach` are counted
abbrev pub with_reaches : ℕ → DockContents → DockContents
with_reaches n contents = record contents { reaches = contents.reaches + n }

-- and after links were opened at these addresses, one after another, to send over them
abbrev pub after_reaches : List Address → DockContents → DockContents
after_reaches addresses contents = after_openings addresses (with_reaches (length addresses) contents)

-- after a link was opened to receive over it, if one is named
abbrev pub after_source : Option Address → DockContents → DockContents
after_source None contents = contents
after_source (Some from) contents = after_opening from contents

-- after a group was opened
abbrev pub after_gathering : Option Address → List Address → DockContents → DockContents
after_gathering from to contents = after_reaches to (after_source from contents)

-- these answers are ahead of what is received from
abbrev pub ComesFrom : Option Address → DockContents → List Answer → Type 0
ComesFrom None contents coming = coming ≡ []
ComesFrom (Some from) contents coming = (start : LinkStart) × OpeningFinds contents 0 from start × (coming ≡ start.ahead)

-- the links at these addresses take so many sends
pub record TakenAt (to : List Address) (contents : DockContents) (sends : List (Option ℕ)) : Type 0 where
  pub as_many : length sends ≡ length to
  pub each : (k : ℕ) (at : Address) (none : Option ℕ) → k < length to
      → (start : LinkStart) × OpeningFinds contents k (slice_index_or to k at) start × (slice_index_or sends k none ≡ start.sends)

-- A group starts as the links stood at these addresses: nothing happened yet.
pub record GroupStarts (from : Option Address) (to : List Address) (contents : DockContents) (history : History) : Type 0 where
  pub events : history.events ≡ []
  pub coming : ComesFrom from contents history.coming
  pub sends : TakenAt to (after_source from contents) history.sends
  pub room : history.room ≡ contents.room

-- A new group has no faults, and each of its links is up.
abbrev pub IsFreshGroup : {G : Type 0} → (G → Known History) → (G → List Bool) → ℕ → GatheredGroup G → Type 0
IsFreshGroup known up links (gathered.Group group) = ((known group).faults ≡ 0) × (up group ≡ replicate links true)
IsFreshGroup known up links gathered.Failed = Unit {0}
IsFreshGroup known up links gathered.NoMemory = Unit {0}

-- ---- closings, in the order of the openings

-- nothing went over a link
abbrev pub nothing : Over
nothing = record { answers = []; gone = []; rests = 0 ∷ [] }

-- what a dock tells after links were closed at these addresses over which this went
abbrev pub after_closes : List Over → List Address → DockContents → DockContents
after_closes [] addresses contents = contents
after_closes (over ∷ overs) [] contents = contents
after_closes (over ∷ overs) (at ∷ addresses) contents = after_closes overs addresses (after_close at over contents)

-- after the link was closed that was received from, if one is named
abbrev pub after_source_close : Option Address → Over → DockContents → DockContents
after_source_close None over contents = contents
after_source_close (Some from) over contents = after_close from over contents

-- once the history of one more group is told
abbrev pub with_history : List GroupEvent → DockContents → DockContents
with_history events contents = record contents { histories = events ∷ contents.histories }

-- after a group was closed at which this happened: the links that are sent over, and then the other one
abbrev pub after_disbanding : Option Address → List Address → List GroupEvent → DockContents → DockContents
after_disbanding from to events contents =
    with_history events (after_source_close from (over_source events) (after_closes (overs_of (length to) events) to contents))

-- The group tells what happened at it, and the dock what went over each link, and all that happened, in one order.
abbrev pub DockDisbands : Known History → Option Address → List Address → DockContents → DockContents → Type 0
DockDisbands group from to before after =
    (history : History) × (group.contents ≡ Some history) × (after ≡ after_disbanding from to history.events before)

-- ---- an opening that fails

-- opening a link at some of these addresses, one after another, is to fail
pub record ReachesNone (contents : DockContents) (addresses : List Address) : Type 0 where
  pub k : ℕ
  pub within : k < length addresses
  pub fails : (at : Address) → FindsNone contents k (slice_index_or addresses k at)

-- The openings at the first k addresses were made, to send, and the next one failed. The links that were opened are closed: nothing
-- has gone over them.
pub record ReachesFew (addresses : List Address) (before after : DockContents) : Type 0 where
  pub k : ℕ
  pub within : k < length addresses
  pub fails : (at : Address) → FindsNone before k (slice_index_or addresses k at)
  pub contents : after ≡ after_closes (replicate k nothing) addresses (after_failure (after_openings (take k addresses) (with_reaches (k + 1) before)))

-- The first opening failed, or it was made, and one behind it failed; the links that were opened are closed.
abbrev pub GathersNone : Option Address → List Address → DockContents → DockContents → Type 0
GathersNone None to before after = ReachesFew to before after
GathersNone (Some from) to before after =
    (FindsNone before 0 from × (after ≡ after_failure before))
    ⊎ ((start : LinkStart) × OpeningFinds before 0 from start
    × (mid : DockContents) × ReachesFew to (after_opening from before) mid × (after ≡ after_close from nothing mid))

-- A group is opened, and starts as its links stood; or an opening failed.
abbrev pub DockGathers : {G : Type 0} → (G → Known History) → Option Address → List Address → GatheredGroup G → DockContents → DockContents → Type 0
DockGathers known from to (gathered.Group group) before after =
    (history : History) × ((known group).contents ≡ Some history) × GroupStarts from to before history × (after ≡ after_gathering from to before)
DockGathers known from to gathered.Failed before after = GathersNone from to before after
DockGathers known from to gathered.NoMemory before after = after ≡ before

abbrev pub IsNotGathered : {G : Type 0} → GatheredGroup G → Type 0
IsNotGathered (gathered.Group group) = ⊥
IsNotGathered gathered.Failed = Unit {0}
IsNotGathered gathered.NoMemory = ⊥

-- ---- nothing is sent

-- what had gone over closed links, once links were closed at these addresses with nothing gone
abbrev pub with_none : List Address → map.FinMap (slice_cmp nat_cmp) (List (List ℕ)) → map.FinMap (slice_cmp nat_cmp) (List (List ℕ))
with_none [] gone = gone
with_none (at ∷ addresses) gone = with_none addresses (map.insert gone (address_key at) [])

-- What had gone is as before, but for links that were closed with nothing gone.
abbrev pub NothingSent : DockContents → DockContents → Type 0
NothingSent before after = (addresses : List Address) × (after.gone ≡ with_none addresses before.gone)
