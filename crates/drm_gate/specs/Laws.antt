-- What a run of a gateway brings over each link: a projection of what happens.
use Rattle.std.specs.Prelude.{ℕ, ◌≡◌, ◌<◌, ◌≤◌, Bool, true, false, List, [], ◌++◌, length, slice_index_or, Option, None, Some}
use Rattle.dcp_pft.specs.declared.carry.Carry.{Carry}
use Rattle.drm_links.specs.Link.{Answer}
use Rattle.drm_links.specs.Transmission.{TakesSends, fewer}
use Rattle.drm_links.specs.History.{GroupEvent, History, EventsHappen}
use Rattle.drm_links.specs.Alone.{gone_at}
use Rattle.drm_links.specs.Calls.{is_up}
use Rattle.recv_reading.specs.declared.options.ReceiveOptions.{ReceiveOptions}
use Rattle.drm_gate.specs.Passing.{Outcome, sent_of}
use Rattle.drm_gate.specs.Relaying.{RelaysPackets}

-- a front of a list, and not the whole
abbrev pub IsProperPrefix : List (List ℕ) → List (List ℕ) → Type 0
IsProperPrefix whole front = (rest : List (List ℕ)) × (1 ≤ length rest) × (whole ≡ front ++ rest)

-- A link that hasn't failed got all these datagrams; one that has got some first ones.
abbrev pub LinkGets : Bool → List (List ℕ) → List (List ℕ) → Type 0
LinkGets true datagrams gone = gone ≡ datagrams
LinkGets false datagrams gone = IsProperPrefix datagrams gone

-- Over each link that was up went what has become of all that was heard, or the first of it.
abbrev pub EachLinkGets : Type 0
EachLinkGets =
    (rules : ReceiveOptions) (carry : Carry) (up up' : List Bool) (answers : List Answer) (fates : List Outcome) (events : List GroupEvent) (k : ℕ)
    → RelaysPackets rules carry (length up) [] [] up answers fates events up'
    → k < length up → is_up up k ≡ true → LinkGets (is_up up' k) (sent_of fates) (gone_at k events)

-- A link takes so many sends; one that has failed since took so many, and no more.
abbrev pub TakesJust : Bool → ℕ → Option ℕ → Option ℕ → Type 0
TakesJust true n before after = TakesSends before n × (after ≡ fewer before n)
TakesJust false n before after = before ≡ Some n

-- It takes so many, or, where it fails, no more than these: so it is told of a group. Links that are lent apart tell it for themselves.
abbrev pub EachLinkTakes : Type 0
EachLinkTakes =
    (rules : ReceiveOptions) (carry : Carry) (up up' : List Bool) (answers : List Answer) (fates : List Outcome) (events : List GroupEvent) (before after : History) (k : ℕ)
    → RelaysPackets rules carry (length up) [] [] up answers fates events up' → EventsHappen events before after
    → k < length up → k < length before.sends → is_up up k ≡ true
    → TakesJust (is_up up' k) (length (gone_at k events)) (slice_index_or before.sends k None) (slice_index_or after.sends k None)
