-- When a receiver has read enough of a link, or of a capture.
use Rattle.std.specs.Prelude.{ℕ, ◌≡◌, ◌+◌, ◌*◌, ◌<◌, ◌≤◌, ◌⊎◌, List, [], ◌∷◌, ◌++◌, length, take, Option, None, Some, IfSome}
use Rattle.std.specs.List.{filter_map, AllByRecursion}
use Rattle.drm_links.specs.Link.{Answer, Datagram, Idle, Failed, End, datagram_of}
use Rattle.dcp_collect.specs.declared.taken.Taken.{Taken}
use Rattle.dcp_collect.specs.CollectorState.{CollectorState, made, after_finish}
use Rattle.dcp_collect.specs.Runs.{CollectorItem, CollectorTakes, CollectorSteps, up_to}
use Rattle.law_collect.specs.Laws.{GivesSoFar, most_at_once}
use Rattle.recv_reading.specs.declared.reason.EndWord.{EndWord}
use Rattle.recv_reading.specs.declared.reason.EndWord.TheVariants as word
use Rattle.recv_reading.specs.declared.options.ReceiveOptions.{ReceiveOptions}

-- the datagrams among the answers
abbrev pub datagrams : List Answer → List (List ℕ)
datagrams answers = filter_map datagram_of answers

-- how many idle answers stand at the end, behind n of them
abbrev pub idles_from : ℕ → List Answer → ℕ
idles_from n [] = n
idles_from n (Datagram bytes ∷ answers) = idles_from 0 answers
idles_from n (Idle ∷ answers) = idles_from (n + 1) answers
idles_from n (Failed ∷ answers) = idles_from 0 answers
idles_from n (End ∷ answers) = idles_from 0 answers

abbrev pub idles : List Answer → ℕ
idles answers = idles_from 0 answers

-- A new collector that takes these datagrams, and gives all that is ready after each, has given these items.
abbrev pub CollectorGave : ReceiveOptions → List Answer → List Taken → List CollectorItem → CollectorState → Type 0
CollectorGave rules answers taken items end = CollectorSteps (made rules.window rules.reach rules.first) (datagrams answers) taken items end

-- the items that are given after these answers
abbrev pub GaveItems : ReceiveOptions → List Answer → List CollectorItem → Type 0
GaveItems rules answers items = (taken : List Taken) × (end : CollectorState) × CollectorGave rules answers taken items end

-- So few items are given behind those before, by one datagram more: where the collector has a newest number, by the reach.
abbrev pub FewMore : ReceiveOptions → CollectorState → List CollectorItem → List CollectorItem → Type 0
FewMore rules c before items =
    (length items ≤ length before + most_at_once rules.window)
    × IfSome c.newest (λ n. length items ≤ length before + (rules.reach + rules.window))

-- each of these answers brings no more items than one datagram can
abbrev pub FewAtOnce : ReceiveOptions → List Answer → Type 0
FewAtOnce rules answers =
    (k : ℕ) (taken : List Taken) (before items : List CollectorItem) (c : CollectorState) → CollectorGave rules (take k answers) taken before c
    → GaveItems rules (take (k + 1) answers) items → FewMore rules c before items

-- as many items were given as are told
abbrev pub HasGiven : ReceiveOptions → List Answer → Option ℕ → Type 0
HasGiven rules answers None = ⊥
HasGiven rules answers (Some n) = (taken : List Taken) × (items : List CollectorItem) × (end : CollectorState) × CollectorGave rules answers taken items end × (n ≤ length items)

-- nothing comes after these answers
abbrev pub HaveEnded : List Answer → Type 0
HaveEnded answers = (before : List Answer) × (answers ≡ before ++ End ∷ [])

-- a reason to end after these answers
abbrev pub ReasonHolds : ReceiveOptions → List Answer → EndWord → Type 0
ReasonHolds rules answers word.Frames = HasGiven rules answers rules.frames
ReasonHolds rules answers word.Limit = length (datagrams answers) ≡ rules.limit
ReasonHolds rules answers word.Idle = rules.idle ≤ idles answers
ReasonHolds rules answers word.Input = HaveEnded answers
ReasonHolds rules answers word.Paths = ⊥

abbrev pub IsReadingOpen : ReceiveOptions → List Answer → Type 0
IsReadingOpen rules answers = (w : EndWord) → ReasonHolds rules answers w → ⊥

-- the first reason that holds
abbrev pub ReadingEndsBy : ReceiveOptions → List Answer → EndWord → Type 0
ReadingEndsBy rules answers word.Frames = ReasonHolds rules answers word.Frames
ReadingEndsBy rules answers word.Limit = ReasonHolds rules answers word.Limit × (ReasonHolds rules answers word.Frames → ⊥)
ReadingEndsBy rules answers word.Idle =
    ReasonHolds rules answers word.Idle × (ReasonHolds rules answers word.Frames → ⊥) × (ReasonHolds rules answers word.Limit → ⊥)
ReadingEndsBy rules answers word.Input =
    ReasonHolds rules answers word.Input × (ReasonHolds rules answers word.Frames → ⊥) × (ReasonHolds rules answers word.Limit → ⊥)
    × (ReasonHolds rules answers word.Idle → ⊥)
ReadingEndsBy rules answers word.Paths = ⊥

-- the answer didn't fail
abbrev pub HasNotFailed : Answer → Type 0
HasNotFailed (Datagram bytes) = Unit {0}
HasNotFailed Idle = Unit {0}
HasNotFailed Failed = ⊥
HasNotFailed End = Unit {0}

-- Nothing failed, and nothing shorter than these answers is finished.
pub record ReadingGoesOn (rules : ReceiveOptions) (answers : List Answer) : Type 0 where
  pub sound : AllByRecursion HasNotFailed answers
  pub shorter : (k : ℕ) → k < length answers → IsReadingOpen rules (take k answers)

-- These answers are the shortest that are finished, and this is why.
pub record IsFinished (rules : ReceiveOptions) (answers : List Answer) (w : EndWord) : Type 0 where
  pub goes_on : ReadingGoesOn rules answers
  pub ends : ReadingEndsBy rules answers w

-- These answers, none of whose fronts is finished, are the shortest that end in `Failed`.
pub record IsReadingBroken (rules : ReceiveOptions) (before answers : List Answer) : Type 0 where
  pub last : answers ≡ before ++ Failed ∷ []
  pub goes_on : ReadingGoesOn rules before
  pub is_open : IsReadingOpen rules before

-- so many answers are read at the most
abbrev pub most_answers : ReceiveOptions → ℕ
most_answers rules = rules.limit * rules.idle + rules.idle + 1

-- what a collector comes to by the last of these answers: it takes that datagram, or it is finished where the reading is
abbrev pub ComesTo : ReceiveOptions → List Answer → List Answer → CollectorState → CollectorState → Type 0
ComesTo options answers later mid c =
    ((bytes : List ℕ) × (answer : Taken) × (later ≡ Datagram bytes ∷ []) × CollectorTakes mid bytes answer c)
    ⊎ ((word : EndWord) × (later ≡ []) × ReadingEndsBy options answers word × (c ≡ after_finish mid options.frames))

-- These are some first items of those that the answers give: all that was given before the last of them, and then some.
pub record GivesSome (options : ReceiveOptions) (answers : List Answer) (items : List CollectorItem) : Type 0 where
  pub before : List Answer
  pub later : List Answer
  pub are : answers ≡ before ++ later
  pub taken : List Taken
  pub during : List CollectorItem
  pub mid : CollectorState
  pub gave : CollectorGave options before taken during mid
  pub state : CollectorState
  pub comes : ComesTo options answers later mid state
  pub more : List CollectorItem
  pub last : CollectorState
  pub gives : GivesSoFar state more last
  pub items_are : items ≡ up_to options.frames (during ++ more)
