-- What a gateway hears, and what it sends of that before it hears more.
use Rattle.std.specs.Prelude.{ℕ, ◌≡◌, ◌⊎◌, Bool, true, false, List, [], ◌∷◌, ◌++◌, length}
use Rattle.dcp_pft.specs.declared.carry.Carry.{Carry}
use Rattle.dcp_collect.specs.declared.taken.Taken.{Taken}
use Rattle.dcp_collect.specs.CollectorState.{CollectorState, made, ready}
use Rattle.dcp_collect.specs.Runs.{CollectorItem, IsItem, CollectorSteps, CollectorRun}
use Rattle.law_collect.specs.Laws.{GivesSoFar}
use Rattle.drm_links.specs.Link.{Answer, Failed}
use Rattle.drm_links.specs.History.{GroupEvent, Received}
use Rattle.drm_links.specs.Calls.{CallsCome, NoneUp}
use Rattle.recv_reading.specs.declared.reason.EndWord.{EndWord}
use Rattle.recv_reading.specs.declared.options.ReceiveOptions.{ReceiveOptions}
use Rattle.recv_reading.specs.Ending.{datagrams, CollectorGave, ReasonHolds, ReadingEndsBy, IsReadingOpen, ComesTo}
use Rattle.recv_reading.specs.First.{MayBeFirst, first_of}
use Rattle.recv_reading.specs.State.{is_full}
use Rattle.drm_gate.specs.Passing.{Outcome, OutcomesOf, passing}

-- ---- what becomes of what is heard

-- What becomes of these datagrams: of what a collector gives of them, up to the told number, what is ready at their end
-- included.
pub record IsOnward (rules : ReceiveOptions) (carry : Carry) (datagrams : List (List ℕ)) (fates : List Outcome) : Type 0 where
  pub taken : List Taken
  pub items : List CollectorItem
  pub run : CollectorRun rules.window rules.reach rules.first rules.frames datagrams taken items
  pub become : OutcomesOf carry (first_of run.mid) items fates

-- What becomes of what these datagrams make ready, while more may come.
pub record AreReadyOutcomes (rules : ReceiveOptions) (carry : Carry) (datagrams : List (List ℕ)) (fates : List Outcome) : Type 0 where
  pub taken : List Taken
  pub items : List CollectorItem
  pub mid : CollectorState
  pub steps : CollectorSteps (made rules.window rules.reach rules.first) datagrams taken items mid
  pub become : OutcomesOf carry (first_of mid) items fates

-- All that these answers make ready becomes this: where they end the reading, what is ready at its end included.
abbrev pub AllBecome : ReceiveOptions → Carry → List Answer → List Outcome → Type 0
AllBecome rules carry answers fates =
    ((word : EndWord) × ReadingEndsBy rules answers word × IsOnward rules carry (datagrams answers) fates)
    ⊎ (IsReadingOpen rules answers × AreReadyOutcomes rules carry (datagrams answers) fates)

-- The first of what they make ready becomes this: what was given so far, and the item behind it, which isn't past the told number.
pub record SomeBecome (rules : ReceiveOptions) (carry : Carry) (answers : List Answer) (fates : List Outcome) : Type 0 where
  pub before : List Answer
  pub later : List Answer
  pub are : answers ≡ before ++ later
  pub taken : List Taken
  pub during : List CollectorItem
  pub mid : CollectorState
  pub gave : CollectorGave rules before taken during mid
  pub state : CollectorState
  pub comes : ComesTo rules answers later mid state
  pub more : List CollectorItem
  pub last : CollectorState
  pub gives : GivesSoFar state more last
  pub is_ready : ready last ≡ true
  pub item : CollectorItem
  pub is_next : IsItem last item
  pub within : is_full rules.frames (length (during ++ more)) ≡ false
  pub become : (first : ℕ) → MayBeFirst last first → OutcomesOf carry first ((during ++ more) ++ item ∷ []) fates

-- What has become of them once these links are up: all, or where none is left, some.
abbrev pub HasBecome : ReceiveOptions → Carry → List Answer → List Outcome → List Bool → Type 0
HasBecome rules carry answers fates up = AllBecome rules carry answers fates ⊎ (NoneUp up × SomeBecome rules carry answers fates)

-- ---- what happens

-- Nothing more is heard: there is a reason to end, the last answer was that the link failed, or no link is left.
abbrev pub RelayIsOver : ReceiveOptions → List Answer → List Bool → Type 0
RelayIsOver rules heard up =
    ((word : EndWord) × ReasonHolds rules heard word) ⊎ ((before : List Answer) × (heard ≡ before ++ Failed ∷ [])) ⊎ NoneUp up

-- What happens from here on, where so much was heard, and this has become of it: until the run is over one more answer is heard, and what
-- becomes of what it makes ready goes over each link that is up, before the next one is. And all that has become of it, and which links
-- are up then.
abbrev pub RelaysPackets : ReceiveOptions → Carry → ℕ → List Answer → List Outcome → List Bool → List Answer → List Outcome → List GroupEvent → List Bool → Type 0
RelaysPackets rules carry links heard done up [] fates events up' = (events ≡ []) × (fates ≡ done) × (up' ≡ up) × RelayIsOver rules heard up
RelaysPackets rules carry links heard done up (answer ∷ answers) fates events up' =
    (RelayIsOver rules heard up → ⊥)
    × (more : List Outcome) × (front : List GroupEvent) × (mid : List Bool) × (back : List GroupEvent)
    × (events ≡ Received answer ∷ front ++ back)
    × CallsCome up (passing links more) front mid
    × HasBecome rules carry (heard ++ answer ∷ []) (done ++ more) mid
    × RelaysPackets rules carry links (heard ++ answer ∷ []) (done ++ more) mid answers fates back up'
