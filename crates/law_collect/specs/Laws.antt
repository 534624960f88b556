-- The laws of collecting.
use Rattle.std.specs.Prelude.{ℕ, ℤ, pos, ◌+ℤ◌, ◌*ℤ◌, ◌<ℤ◌, ◌≡◌, ◌+◌, ◌≤◌, ◌↔◌, true, List, [], ◌∷◌, ◌++◌, length, Option, None, Some, IfSome}
use Rattle.std.specs.List.{AllByRecursion}
use Rattle.drm_bits.specs.Bits.{IsBytes}
use Rattle.dcp_pft.specs.Loss.{size}
use Rattle.dcp_collect.specs.declared.taken.Field.{Field}
use Rattle.dcp_collect.specs.declared.taken.Field.TheVariants.{Far}
use Rattle.dcp_collect.specs.declared.taken.Taken.{Taken}
use Rattle.dcp_collect.specs.declared.taken.Taken.TheVariants.{Kept, Repeated, Late, Refused}
use Rattle.dcp_collect.specs.Reading.{Incoming, DatagramContent, Unread, Brings, IsReadAs}
use Rattle.dcp_collect.specs.CollectorState.{CollectorState, made, is_far, number_of, answer_within, ready, after_item, nearest}
use Rattle.dcp_collect.specs.Runs.{CollectorItem, Packet, IsItem, CollectorTakes, CollectorGives, CollectorSteps, CollectorRun}
use Rattle.dcp_pft.specs.declared.carry.Carry.{Carry}
use Rattle.dcp_pft.specs.Carrying.{shape_under, losses}
use Rattle.law_collect.specs.Delivery.{AreSent, AreDelivered, packet_at, got, item, items, IsWithinSpan, IsFirstPacket}

-- a collector gives these, each while it is ready, and comes so far
abbrev pub GivesSoFar : CollectorState → List CollectorItem → CollectorState → Type 0
GivesSoFar c [] after = after ≡ c
GivesSoFar c (item ∷ items) after = (ready c ≡ true) × IsItem c item × GivesSoFar (after_item c) items after

-- a datagram is read as one thing
abbrev pub OneReading : Type 0
OneReading = (bytes : List ℕ) (first second : DatagramContent) → IsReadAs first bytes → IsReadAs second bytes → second ≡ first

-- The number n has this sequence number, where `first` is that of number 0.
abbrev pub HasSequence : ℕ → ℕ → ℤ → Type 0
HasSequence first sequence n = (turns : ℤ) × ((pos first +ℤ n) ≡ (pos sequence +ℤ (turns *ℤ pos 65536)))

-- n lies from 32,768 below the reference to 32,767 above
abbrev pub IsNearReference : ℕ → ℤ → Type 0
IsNearReference reference n = (n <ℤ (pos reference +ℤ pos 32768)) × (pos reference <ℤ (n +ℤ pos 32769))

-- Of all numbers with a sequence number one lies near the reference, and that is the number of a datagram with it.
abbrev pub OneNearest : Type 0
OneNearest =
    (first reference sequence : ℕ)
    → HasSequence first sequence (nearest first reference sequence)
    × IsNearReference reference (nearest first reference sequence)
    × ((n : ℤ) → HasSequence first sequence n → IsNearReference reference n → n ≡ nearest first reference sequence)

-- the datagram was neither refused nor inconsistent
abbrev pub IsTakenWell : Taken → Type 0
IsTakenWell Kept = Unit {0}
IsTakenWell Repeated = Unit {0}
IsTakenWell Late = Unit {0}
IsTakenWell other = ⊥

-- A datagram has cause to be refused: it can be read and is far, or it can't be read, which lies in its bytes alone.
abbrev pub HasCause : CollectorState → Field → List ℕ → Type 0
HasCause c Far datagram = (incoming : Incoming) × IsReadAs (Brings incoming) datagram × (is_far c (number_of c incoming) ≡ true)
HasCause c cause datagram = IsReadAs (Unread cause) datagram

-- What has cause to be refused is, and nothing else; and the collector stays as it was.
abbrev pub Refusing : Type 0
Refusing =
    (c after : CollectorState) (datagram : List ℕ) (taken : Taken) (cause : Field) → CollectorTakes c datagram taken after
    → (HasCause c cause datagram ↔ (taken ≡ Refused cause)) × (taken ≡ Refused cause → after ≡ c)

-- With the greatest reach nothing is far: what can be read is answered as if there were none.
abbrev pub ReachingAll : Type 0
ReachingAll =
    (c after : CollectorState) (datagram : List ℕ) (taken : Taken) → 32767 ≤ c.reach → CollectorTakes c datagram taken after
    → (taken ≡ Refused Far → ⊥)
    × ((incoming : Incoming) → IsReadAs (Brings incoming) datagram → taken ≡ answer_within c (number_of c incoming) incoming.head)

-- a delivery of sent packets, within the span
pub record IsHeard (carry : Carry) (sequence0 : ℕ) (packets : List (List ℕ)) (reach : ℕ) (first : Option ℕ) (first_packet : ℤ) (pairs : List (ℕ × ℕ)) (datagrams : List (List ℕ)) : Type 0 where
  pub sent : AreSent carry sequence0 packets
  pub delivered : AreDelivered carry sequence0 packets pairs datagrams
  pub is_first : IsFirstPacket sequence0 first pairs first_packet
  pub within_span : IsWithinSpan reach first_packet None pairs

-- Every run over a delivery gives its items, each once and in order, and finds no datagram refused or inconsistent.
abbrev pub Collecting : Type 0
Collecting =
    (carry : Carry) (sequence0 window reach : ℕ) (packets : List (List ℕ)) (first frame_limit : Option ℕ) (first_packet : ℤ)
    (pairs : List (ℕ × ℕ)) (datagrams : List (List ℕ)) (answers : List Taken) (given : List CollectorItem)
    → 1 ≤ window → IsHeard carry sequence0 packets reach first first_packet pairs datagrams
    → CollectorRun window reach first frame_limit datagrams answers given
    → (given ≡ items carry packets window first_packet frame_limit pairs) × AllByRecursion IsTakenWell answers

-- The item of a packet that lost no more datagrams than it was cut for, and whose others came within the window, is the
-- packet.
abbrev pub InTime : Type 0
InTime =
    (carry : Carry) (sequence0 window : ℕ) (packets : List (List ℕ)) (first_packet : ℤ) (pairs : List (ℕ × ℕ)) (q : ℕ) (packet : List ℕ)
    → AreSent carry sequence0 packets → packet_at packets (first_packet +ℤ pos q) ≡ Some packet
    → let count = (shape_under carry (length packet)).count in
    count ≤ size count (got window first_packet pairs q) + losses carry
    → item carry packets window first_packet pairs q ≡ Packet q packet

-- a collector answers and gives in one way
abbrev pub OneRun : Type 0
OneRun =
    (c after after' : CollectorState) (datagrams : List (List ℕ)) (answers answers' : List Taken) (given given' : List CollectorItem)
    → CollectorSteps c datagrams answers given after → CollectorSteps c datagrams answers' given' after'
    → (answers' ≡ answers) × (given' ≡ given) × (after' ≡ after)

abbrev pub OneGiving : Type 0
OneGiving =
    (c after after' : CollectorState) (given given' : List CollectorItem)
    → CollectorGives c given after → CollectorGives c given' after' → (given' ≡ given) × (after' ≡ after)

-- steps one after another are steps
abbrev pub StepsJoin : Type 0
StepsJoin =
    (c mid after : CollectorState) (before later : List (List ℕ)) (answers answers' : List Taken) (given given' : List CollectorItem)
    → CollectorSteps c before answers given mid → CollectorSteps mid later answers' given' after
    → CollectorSteps c (before ++ later) (answers ++ answers') (given ++ given') after

-- and steps over datagrams are steps over the first of them, and then over the others
abbrev pub StepsPart : Type 0
StepsPart =
    (c after : CollectorState) (before later : List (List ℕ)) (answers : List Taken) (given : List CollectorItem)
    → CollectorSteps c (before ++ later) answers given after
    → (mid : CollectorState) × (first : List Taken) × (last : List Taken) × (now : List CollectorItem) × (then_given : List CollectorItem)
    × CollectorSteps c before first now mid × CollectorSteps mid later last then_given after
    × (answers ≡ first ++ last) × (given ≡ now ++ then_given)

-- each item that is given has the next number
abbrev pub StepsCount : Type 0
StepsCount =
    (c after : CollectorState) (datagrams : List (List ℕ)) (answers : List Taken) (given : List CollectorItem)
    → CollectorSteps c datagrams answers given after → after.next ≡ c.next + length given

-- the window isn't empty, and what is kept is bytes
abbrev pub CollectorInvariant : CollectorState → Type 0
CollectorInvariant c = (1 ≤ c.window) × AllByRecursion (λ f. IsBytes f.payload) c.kept

-- whatever bytes a collector keeps, giving what is ready comes to an end
abbrev pub GivingEnds : Type 0
GivingEnds =
    (c : CollectorState) → 1 ≤ c.window → AllByRecursion (λ f. IsBytes f.payload) c.kept
    → (given : List CollectorItem) × (after : CollectorState) × CollectorGives c given after

-- So many items one datagram brings at most: it can be newer by 32,767, and as many as the window are waited for. Once
-- something was kept, it can be newer by the reach.
abbrev pub most_at_once : ℕ → ℕ
most_at_once window = 32767 + window

-- what is given after one more datagram, whatever the datagrams before it
abbrev pub FewAtOnce : Type 0
FewAtOnce =
    (window reach : ℕ) (first : Option ℕ) (datagrams : List (List ℕ)) (answers : List Taken) (given : List CollectorItem) (mid : CollectorState)
    (datagram : List ℕ) (taken : Taken) (kept : CollectorState) (items : List CollectorItem) (after : CollectorState)
    → 1 ≤ window → CollectorSteps (made window reach first) datagrams answers given mid
    → CollectorTakes mid datagram taken kept → CollectorGives kept items after
    → (length items ≤ most_at_once window) × IfSome mid.newest (λ n. length items ≤ reach + window)
