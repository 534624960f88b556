-- How far a reading has come.
use Rattle.std.specs.Prelude.{ℕ, ◌≡◌, ◌+◌, ◌*◌, ◌<◌, ◌≤◌, ◌^◌, ◌⊎◌, Bool, true, false, IfSome, List, [], ◌∷◌, ◌++◌, length, Option, None, Some, Result, Ok, Err}
use Rattle.drm_links.specs.Link.{Answer, Datagram, Failed}
use Rattle.dcp_collect.specs.declared.taken.Taken.{Taken}
use Rattle.dcp_collect.specs.CollectorState.{CollectorState, ready, after_finish}
use Rattle.dcp_collect.specs.Runs.{CollectorItem, Packet, CollectorTakes}
use Rattle.law_collect.specs.Laws.{CollectorInvariant, GivesSoFar}
use Rattle.recv_reading.specs.declared.options.ReceiveOptions.{ReceiveOptions}
use Rattle.recv_reading.specs.declared.reason.EndWord.{EndWord}
use Rattle.recv_reading.specs.Options.{AreUsable, bounds_of}
use Rattle.recv_reading.specs.Ending.{datagrams, idles, CollectorGave, HaveEnded, ReadingEndsBy, ReadingGoesOn, IsReadingBroken, most_answers}
use Rattle.recv_reading.specs.First.{KnowsFirst}
use Rattle.recv_reading.specs.State.{ReadingState, is_full, has_enough, has_ended, one_given}

-- All that the datagrams make ready was given.
pub record IsDrained (options : ReceiveOptions) (answers : List Answer) (taken : List Taken) (items : List CollectorItem) (c : CollectorState) : Type 0 where
  pub gave : CollectorGave options answers taken items c
  pub none_ready : ready c ≡ false
  pub room : is_full options.frames (length items) ≡ false

-- The last answer was a datagram. All that was ready before it was given, and then some of what it made ready.
pub record IsAmid (options : ReceiveOptions) (answers : List Answer) (taken : List Taken) (during more : List CollectorItem) (c : CollectorState) : Type 0 where
  pub before : List Answer
  pub bytes : List ℕ
  pub are : answers ≡ before ++ Datagram bytes ∷ []
  pub earlier : List Taken
  pub answer : Taken
  pub taken_are : taken ≡ earlier ++ answer ∷ []
  pub mid : CollectorState
  pub drained : IsDrained options before earlier during mid
  pub kept : CollectorState
  pub takes : CollectorTakes mid bytes answer kept
  pub gives : GivesSoFar kept more c

-- The reading has ended for this reason. All that was ready before was given, and then some of what was ready at the end.
pub record IsEnding (options : ReceiveOptions) (answers : List Answer) (taken : List Taken) (during more : List CollectorItem) (word : EndWord) (c : CollectorState) : Type 0 where
  pub mid : CollectorState
  pub drained : IsDrained options answers taken during mid
  pub ends : ReadingEndsBy options answers word
  pub gives : GivesSoFar (after_finish mid options.frames) more c

abbrev pub ComesIn : ReceiveOptions → List Answer → List Taken → List CollectorItem → List CollectorItem → Option EndWord → CollectorState → Type 0
ComesIn options answers taken during more None c =
    (c.end ≡ None) × (((more ≡ []) × IsDrained options answers taken during c) ⊎ IsAmid options answers taken during more c)
ComesIn options answers taken during more (Some word) c = IsEnding options answers taken during more word c

-- what is counted of the answers while the reading is open
pub record CountsAnswers (options : ReceiveOptions) (answers : List Answer) (r : ReadingState) : Type 0 where
  pub idles_are : idles answers ≡ r.idles
  pub fewer : r.idles < options.idle
  pub few : length answers ≤ r.taken * options.idle + r.idles
  pub not_ended : HaveEnded answers → ⊥

-- how many of them are packets
abbrev pub packets_in : List CollectorItem → ℕ
packets_in [] = 0
packets_in (Packet index bytes ∷ items) = packets_in items + 1
packets_in (item ∷ items) = packets_in items

-- These answers came, none of which failed and none of whose first ones end the reading; this was answered to their datagrams;
-- and these items were given: during those before the last one, and since then.
pub record ReadingReached (options : ReceiveOptions) (answers : List Answer) (taken : List Taken) (during more : List CollectorItem) (r : ReadingState) (c : CollectorState) : Type 0 where
  pub bounds_are : r.bounds ≡ bounds_of options
  pub usable : AreUsable options
  pub comes : ComesIn options answers taken during more r.end c
  pub goes_on : ReadingGoesOn options answers
  pub taken_are : length (datagrams answers) ≡ r.taken
  pub most : r.taken ≤ options.limit
  pub counts : r.end ≡ None → CountsAnswers options answers r
  pub few : length answers ≤ most_answers options
  pub given_are : length (during ++ more) ≡ r.given
  pub next_is : c.next ≡ r.given
  pub below : IfSome options.frames (λ n. r.given ≤ n)
  pub fit : CollectorInvariant c
  pub knows : KnowsFirst c
  pub few_packets : packets_in (during ++ more) + length c.kept ≤ r.taken

-- a reading has come here by some answers
abbrev pub HasReached : ReadingState → CollectorState → Type 0
HasReached r c =
    (options : ReceiveOptions) × (answers : List Answer) × (taken : List Taken) × (during : List CollectorItem) × (more : List CollectorItem)
    × ReadingReached options answers taken during more r c

-- it waits for an answer: nothing is ready, and no reason to end holds
pub record ReadingWaits (r : ReadingState) (c : CollectorState) : Type 0 where
  pub is_open : has_ended r ≡ false
  pub none_ready : ready c ≡ false

-- it can be ended: the collector isn't finished, and no more frames are asked for than it can give
abbrev pub CanEnd : ReadingState → CollectorState → Type 0
CanEnd r c = (c.end ≡ None) × IfSome r.bounds.frames (λ n. n ≤ 2 ^ 62)

-- whether an item is ready and not enough were given, and it is counted
abbrev pub GivesNext : Bool → ReadingState → CollectorState → ReadingState → Type 0
GivesNext false r c s = ((has_enough r ≡ true) ⊎ (ready c ≡ false)) × (s ≡ r)
GivesNext true r c s = (has_enough r ≡ false) × (ready c ≡ true) × (c.next < 2 ^ 62) × (s ≡ one_given r)

-- What becomes of a reading that asks for one answer more: a datagram is taken; or the answer is another one, or none, since the
-- number of datagrams is reached; or nothing more can be had, and all that came before was given.
abbrev pub ReadsOn : {E : Type 0} → (List Answer → Type 0) → (E → List Answer → Type 0) → ReceiveOptions → List Answer → List Taken → List CollectorItem
    → Result (Option Taken) E → ReadingState → CollectorState → Type 0
ReadsOn so_far breaks options answers taken items (Ok (Some answer)) r c =
    (bytes : List ℕ) × so_far (answers ++ Datagram bytes ∷ []) × ReadingReached options (answers ++ Datagram bytes ∷ []) (taken ++ answer ∷ []) items [] r c
ReadsOn so_far breaks options answers taken items (Ok None) r c =
    (others : List Answer) × so_far (answers ++ others) × ReadingReached options (answers ++ others) taken items [] r c
ReadsOn so_far breaks options answers taken items (Err fault) r c =
    breaks fault (answers ++ Failed ∷ []) × IsReadingBroken options answers (answers ++ Failed ∷ []) × CollectorGave options answers taken items c
