-- A dock in memory.
use Rattle.std.specs.Prelude.{ℕ, ◌≡◌, ◌⊎◌, ◌+◌, ◌^◌, zero, suc, max, List, [], ◌∷◌, ◌++◌, Contains, Option, None, Some, IsNone, if◌then◌else◌, refl}
use Rattle.std.specs.Prelude as list
use Rattle.std.specs.Ordering.{nat_cmp}
use Rattle.std.specs.Cmp.Lexicographic.{slice_cmp}
use Rattle.std.specs.FinMap as map
use Rattle.std.specs.Coded.{Coded, code_by, coded×, coded_ℕ, coded_list}
use Rattle.drm_links.specs.Known.{Known, one_more, contents_for}
use Rattle.drm_links.specs.Link.{Answer, Datagram, Idle, End, Traffic, rests_of}
use Rattle.drm_links.specs.Link as link
use Rattle.drm_links.specs.Dock.{DockContents, LinkStart, address_key}
use Rattle.drm_links.specs.MemoryLink.{LinkState, IsUntouchedLink, traffic_of, link_known}
use Rattle.drm_links.specs.History.{GroupEvent, Received, SentTo, RestedAt}
use Rattle.drm_links.specs.declared.link.Sent.TheVariants as send
use Rattle.drm_links.specs.declared.dock.Address.{Address}
use Rattle.drm_links.specs.declared.dock.Opened.{Opened}
use Rattle.drm_links.specs.declared.dock.Opened.TheVariants.{Link, Failed}

-- The links that stand at addresses, and those that were closed at addresses, the last one first; the numbers of the
-- openings, from 0, that are to fail; what happened at each group that was closed, the last one first, and how many events are told of one; the number of
-- openings, of those by `reach` and of calls so far, and how many openings failed.
pub record DockState : Type 0 where
  pub links : map.FinMap (slice_cmp nat_cmp) LinkState
  pub closed : List (List ℕ × LinkState)
  pub failing : List ℕ
  pub histories : List (List GroupEvent)
  pub room : ℕ
  pub openings : ℕ
  pub reaches : ℕ
  pub calls : ℕ
  pub faults : ℕ

-- how many events are told of a group, unless another number is set
abbrev pub first_room : ℕ
first_room = 1024

-- ---- how they are stored

abbrev pub numbers_code : Coded (List ℕ)
numbers_code = coded_list coded_ℕ

abbrev pub link_code : Coded LinkState
link_code =
    code_by
    (List (ℕ × List ℕ) × (List (List ℕ) × (List ℕ × (List ℕ × (List (List ℕ) × (List ℕ × (ℕ × (ℕ × (ℕ × (ℕ × (ℕ × (ℕ × ℕ))))))))))))
    (coded× (coded_list (coded× coded_ℕ numbers_code))
    (coded× (coded_list numbers_code)
    (coded× numbers_code
    (coded× numbers_code
    (coded× (coded_list numbers_code)
    (coded× numbers_code (coded× coded_ℕ (coded× coded_ℕ (coded× coded_ℕ (coded× coded_ℕ (coded× coded_ℕ (coded× coded_ℕ coded_ℕ))))))))))))
    (λ link. (link.came, (link.coming, (link.failing, (link.idling, (link.gone, (link.waits, (link.waiting, (link.room, (link.recvs, (link.sends, (link.calls, (link.faults, link.idles)))))))))))))
    (λ parts. record {
      came = parts.0;
      coming = parts.1.0;
      failing = parts.1.1.0;
      idling = parts.1.1.1.0;
      gone = parts.1.1.1.1.0;
      waits = parts.1.1.1.1.1.0;
      waiting = parts.1.1.1.1.1.1.0;
      room = parts.1.1.1.1.1.1.1.0;
      recvs = parts.1.1.1.1.1.1.1.1.0;
      sends = parts.1.1.1.1.1.1.1.1.1.0;
      calls = parts.1.1.1.1.1.1.1.1.1.1.0;
      faults = parts.1.1.1.1.1.1.1.1.1.1.1.0;
      idles = parts.1.1.1.1.1.1.1.1.1.1.1.1;
    })
    (λ _. refl)

-- an event by a number for its kind, two numbers and a datagram
abbrev event_parts : GroupEvent → ℕ × (ℕ × (ℕ × List ℕ))
event_parts (Received (Datagram bytes)) = (0, (0, (0, bytes)))
event_parts (Received Idle) = (1, (0, (0, [])))
event_parts (Received link.Failed) = (2, (0, (0, [])))
event_parts (Received End) = (3, (0, (0, [])))
event_parts (SentTo k bytes send.Sent) = (4, (k, (0, bytes)))
event_parts (SentTo k bytes send.Failed) = (5, (k, (0, bytes)))
event_parts (RestedAt k millis) = (6, (k, (millis, [])))

abbrev event_by : ℕ → ℕ → ℕ → List ℕ → GroupEvent
event_by zero k millis bytes = Received (Datagram bytes)
event_by (suc zero) k millis bytes = Received Idle
event_by (suc (suc zero)) k millis bytes = Received link.Failed
event_by (suc (suc (suc zero))) k millis bytes = Received End
event_by (suc (suc (suc (suc zero)))) k millis bytes = SentTo k bytes send.Sent
event_by (suc (suc (suc (suc (suc zero))))) k millis bytes = SentTo k bytes send.Failed
event_by (suc (suc (suc (suc (suc (suc kind)))))) k millis bytes = RestedAt k millis

abbrev event_from : ℕ × (ℕ × (ℕ × List ℕ)) → GroupEvent
event_from parts = event_by parts.0 parts.1.0 parts.1.1.0 parts.1.1.1

pub event_again : (event : GroupEvent) → event_from (event_parts event) ≡ event
event_again (Received (Datagram bytes)) = refl
event_again (Received Idle) = refl
event_again (Received link.Failed) = refl
event_again (Received End) = refl
event_again (SentTo k bytes send.Sent) = refl
event_again (SentTo k bytes send.Failed) = refl
event_again (RestedAt k millis) = refl

abbrev pub event_code : Coded GroupEvent
event_code = code_by (ℕ × (ℕ × (ℕ × List ℕ))) (coded× coded_ℕ (coded× coded_ℕ (coded× coded_ℕ numbers_code))) event_parts event_from event_again

abbrev pub dock_code : Coded DockState
dock_code =
    code_by
    (map.FinMap (slice_cmp nat_cmp) LinkState × (List (List ℕ × LinkState) × (List ℕ × (List (List GroupEvent) × (ℕ × (ℕ × (ℕ × (ℕ × ℕ))))))))
    (coded× (map.code numbers_code link_code)
    (coded× (coded_list (coded× numbers_code link_code))
    (coded× numbers_code (coded× (coded_list (coded_list event_code)) (coded× coded_ℕ (coded× coded_ℕ (coded× coded_ℕ (coded× coded_ℕ coded_ℕ))))))))
    (λ dock. (dock.links, (dock.closed, (dock.failing, (dock.histories, (dock.room, (dock.openings, (dock.reaches, (dock.calls, dock.faults)))))))))
    (λ parts. record {
      links = parts.0;
      closed = parts.1.0;
      failing = parts.1.1.0;
      histories = parts.1.1.1.0;
      room = parts.1.1.1.1.0;
      openings = parts.1.1.1.1.1.0;
      reaches = parts.1.1.1.1.1.1.0;
      calls = parts.1.1.1.1.1.1.1.0;
      faults = parts.1.1.1.1.1.1.1.1;
    })
    (λ _. refl)

-- ---- what it tells

-- the answers and the sends with which this link starts
abbrev pub start_of : LinkState → LinkStart
start_of link = record { ahead = (traffic_of link).ahead; sends = (traffic_of link).sends }

-- how these links start, at their addresses
abbrev pub starts_of : map.FinMap (slice_cmp nat_cmp) LinkState → map.FinMap (slice_cmp nat_cmp) LinkStart
starts_of links = map.from_entries (list.map (λ entry. (entry.0, start_of entry.1)) (map.entries links))

-- this of a link that was closed at this address, if it still told, beside what is kept of others
abbrev pub with_known : {X : Type 0} → (Traffic → X) → Option Traffic → List ℕ → map.FinMap (slice_cmp nat_cmp) X → map.FinMap (slice_cmp nat_cmp) X
with_known what None key kept = kept
with_known what (Some traffic) key kept = map.insert kept key (what traffic)

-- this of the links that were closed and still told, the last one at an address
abbrev pub kept_of : {X : Type 0} → (Traffic → X) → List (List ℕ × LinkState) → map.FinMap (slice_cmp nat_cmp) X
kept_of what [] = map.empty
kept_of what (entry ∷ closed) = with_known what (link_known entry.1).contents entry.0 (kept_of what closed)

abbrev pub contents_of : DockState → DockContents
contents_of dock =
    record {
      openings = dock.openings;
      reaches = dock.reaches;
      failing = dock.failing;
      links = starts_of dock.links;
      answers = kept_of (λ traffic. traffic.answers) dock.closed;
      gone = kept_of (λ traffic. traffic.gone) dock.closed;
      rests = kept_of rests_of dock.closed;
      histories = dock.histories;
      room = dock.room;
      calls = dock.calls;
    }

abbrev pub dock_known : DockState → Known DockContents
dock_known dock = record { faults = dock.faults; contents = contents_for dock.calls (contents_of dock) }

-- ---- its links

-- the link that stands at this address
abbrev pub link_at : DockState → Address → Option LinkState
link_at dock at = map.get dock.links (address_key at)

-- the link that was closed last at this address
abbrev pub closed_at : DockState → Address → Option LinkState
closed_at dock at = map.find (slice_cmp nat_cmp) (address_key at) dock.closed

-- one more link stands at this address
abbrev pub with_start : Address → LinkStart → DockContents → DockContents
with_start at start contents = record contents { links = map.insert contents.links (address_key at) start }

-- ---- its calls

-- the dock once one more opening by `reach` is counted
abbrev pub reached : DockState → DockState
reached dock = record dock { reaches = one_more dock.reaches }

-- An opening fails exactly where its number is to fail or no link stands at its address. Else the link that stood
-- there, on which no call was made, leaves the dock.
abbrev pub LeavesDock : Opened LinkState → Address → DockState → DockState → Type 0
LeavesDock (Link link) at before after =
    (Contains before.failing before.openings → ⊥)
    × (link_at before at ≡ Some link)
    × IsUntouchedLink link
    × (after ≡ record before { openings = one_more before.openings; links = map.remove before.links (address_key at); calls = one_more before.calls })
LeavesDock Failed at before after =
    (Contains before.failing before.openings ⊎ IsNone (link_at before at))
    × (after ≡ record before { openings = one_more before.openings; calls = one_more before.calls; faults = one_more before.faults })

-- the dock after this link was closed at this address
abbrev pub after_close : Address → LinkState → DockState → DockState
after_close at link dock = record dock { closed = (address_key at, link) ∷ dock.closed; calls = one_more dock.calls }

-- the dock once its number of calls is past all after which it tells
abbrev pub past_telling : DockState → DockState
past_telling dock = record dock { calls = max dock.calls (2 ^ 62 + 1) }
