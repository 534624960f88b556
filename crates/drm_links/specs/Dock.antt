-- What a dock tells.
use Rattle.std.specs.Prelude.{ℕ, ◌≡◌, ◌≢◌, ◌+◌, ◌⊎◌, List, [], ◌∷◌, ◌++◌, Contains, Option, None, Some, IsNone, MatchOption}
use Rattle.std.specs.Option.{IfSome}
use Rattle.std.specs.List.{AllByRecursion}
use Rattle.std.specs.Ordering.{nat_cmp}
use Rattle.std.specs.Cmp.Lexicographic.{slice_cmp}
use Rattle.std.specs.FinMap as map
use Rattle.drm_links.specs.Known.{Known, KnownThrough}
use Rattle.drm_links.specs.Link.{Answer, Traffic, IsUnused, rests_of}
use Rattle.drm_links.specs.History.{GroupEvent}
use Rattle.drm_links.specs.declared.dock.Address.{Address}
use Rattle.drm_links.specs.declared.dock.Opened.{Opened}
use Rattle.drm_links.specs.declared.dock.Opened.TheVariants.{Link, Failed}

-- the answers and the sends with which a link starts
pub record LinkStart : Type 0 where
  pub ahead : List Answer
  pub sends : Option ℕ

-- what went over a link until it was closed: what its recvs answered, the datagrams that had gone, and how long it rested before
-- each of these and after the last
pub record Over : Type 0 where
  pub answers : List Answer
  pub gone : List (List ℕ)
  pub rests : List ℕ

abbrev pub over_of : Traffic → Over
over_of traffic = record { answers = traffic.answers; gone = traffic.gone; rests = rests_of traffic }

-- The number of openings so far, and of those by `reach`; the numbers of the openings, from 0, that are to fail; the links
-- that stand at addresses; what the links had answered that were closed, what had gone over them, and how long these had rested; what
-- happened at each group that was closed, the last one first, and how many events are told of one; and the number of calls so far.
pub record DockContents : Type 0 where
  pub openings : ℕ
  pub reaches : ℕ
  pub failing : List ℕ
  pub links : map.FinMap (slice_cmp nat_cmp) LinkStart
  pub answers : map.FinMap (slice_cmp nat_cmp) (List Answer)
  pub gone : map.FinMap (slice_cmp nat_cmp) (List (List ℕ))
  pub rests : map.FinMap (slice_cmp nat_cmp) (List ℕ)
  pub histories : List (List GroupEvent)
  pub room : ℕ
  pub calls : ℕ

-- the key of an address: its four bytes and its port
abbrev pub address_key : Address → List ℕ
address_key at = at.ip ++ at.port ∷ []

-- how the link starts that stands at this address
abbrev pub start_at : DockContents → Address → Option LinkStart
start_at contents at = map.get contents.links (address_key at)

-- what a link tells that was just opened
abbrev pub first_traffic : LinkStart → Traffic
first_traffic start =
    record { answers = []; ahead = start.ahead; gone = []; waits = []; waiting = 0; sends = start.sends; calls = 0 }

-- what it tells after a link was opened at this address, which stands there no more
abbrev pub after_opening : Address → DockContents → DockContents
after_opening at contents = record contents { openings = contents.openings + 1; links = map.remove contents.links (address_key at); calls = contents.calls + 1 }

-- and after an opening that failed
abbrev pub after_failure : DockContents → DockContents
after_failure contents = record contents { openings = contents.openings + 1; calls = contents.calls + 1 }

-- An opening is Failed exactly where its number is to fail or no link stands at its address. The link that it gives
-- starts as it stood there.
abbrev pub DockOpens : {L : Type 0} → (L → Known Traffic) → Address → Opened L → DockContents → DockContents → Type 0
DockOpens known at (Link link) before after =
    (Contains before.failing before.openings → ⊥)
    × MatchOption (start_at before at) ⊥ (λ start. (known link).contents ≡ Some (first_traffic start))
    × (after ≡ after_opening at before)
DockOpens known at Failed before after =
    (Contains before.failing before.openings ⊎ IsNone (start_at before at))
    × (after ≡ after_failure before)

-- the contents once one more opening by `reach` is counted
abbrev pub with_reach : DockContents → DockContents
with_reach contents = record contents { reaches = contents.reaches + 1 }

-- An opening by `bind` opens.
abbrev pub DockBinds : {L : Type 0} → (L → Known Traffic) → Address → Opened L → DockContents → DockContents → Type 0
DockBinds known at opened before after = DockOpens known at opened before after

-- An opening by `reach` opens, and is counted as one by `reach`.
abbrev pub DockReaches : {L : Type 0} → (L → Known Traffic) → Address → Opened L → DockContents → DockContents → Type 0
DockReaches known at opened before after = DockOpens known at opened (with_reach before) after

-- A new link has no faults and no idles, and where it tells, no call was made on it.
abbrev pub IsNewLink : {L : Type 0} → (L → Known Traffic) → (L → ℕ) → L → Type 0
IsNewLink known idles link = ((known link).faults ≡ 0) × (idles link ≡ 0) × IfSome (known link).contents IsUnused

abbrev pub IsFresh : {L : Type 0} → (L → Known Traffic) → (L → ℕ) → Opened L → Type 0
IsFresh known idles (Link link) = IsNewLink known idles link
IsFresh known idles Failed = Unit {0}

abbrev pub IsFailed : {L : Type 0} → Opened L → Type 0
IsFailed (Link link) = ⊥
IsFailed Failed = Unit {0}

-- what it tells after a link was closed at this address over which this went
abbrev pub after_close : Address → Over → DockContents → DockContents
after_close at over contents = record contents {
  answers = map.insert contents.answers (address_key at) over.answers;
  gone = map.insert contents.gone (address_key at) over.gone;
  rests = map.insert contents.rests (address_key at) over.rests;
  calls = contents.calls + 1;
}

-- A close of a link that still tells adds what went over it.
abbrev pub DockCloses : Option Traffic → Address → DockContents → DockContents → Type 0
DockCloses None at before after = after ≡ record before { calls = before.calls + 1 }
DockCloses (Some traffic) at before after = after ≡ after_close at (over_of traffic) before

-- ---- links that are opened, one after another

-- no two are equal
abbrev pub AreDifferent : List Address → Type 0
AreDifferent [] = Unit {0}
AreDifferent (address ∷ others) = AllByRecursion (λ other. other ≢ address) others × AreDifferent others

-- the k-th opening from here finds a link at this address that starts so
pub record OpeningFinds (contents : DockContents) (k : ℕ) (at : Address) (start : LinkStart) : Type 0 where
  pub allowed : Contains contents.failing (contents.openings + k) → ⊥
  pub stands : start_at contents at ≡ Some start

-- it fails
abbrev pub FindsNone : DockContents → ℕ → Address → Type 0
FindsNone contents k at = Contains contents.failing (contents.openings + k) ⊎ IsNone (start_at contents at)

-- where a dock tells at the end, it told before, and P holds of what it told then
abbrev pub DockKnownThrough : Known DockContents → Known DockContents → (DockContents → Type 0) → Type 0
DockKnownThrough before after P = KnownThrough before after (λ contents _. P contents)

-- what a dock tells after links were opened at these addresses, one after another, to receive over them
abbrev pub after_openings : List Address → DockContents → DockContents
after_openings [] contents = contents
after_openings (at ∷ addresses) contents = after_openings addresses (after_opening at contents)

-- the link of the k-th opening from here starts with what stood at its address
abbrev pub HasLink : {L : Type 0} → (L → Known Traffic) → DockContents → ℕ → Address → L → Type 0
HasLink known contents k at link = (start : LinkStart) × OpeningFinds contents k at start × ((known link).contents ≡ Some (first_traffic start))
