-- The calls of a joiner, as functions of it as data.
use Rattle.std.proofs.Common.{◌≡◌, ℕ, ◌==◌, Bool, true, false, if◌then◌else◌, List, length, Option, None, is_some, sym, ap, subst, ◌∙◌, eq-eqb}
use Rattle.std.proofs.lemmas.Bool.{ne_eqb}
use Rattle.drm_data.specs.declared.fault.DataFault.{DataFault}
use Rattle.drm_data.specs.declared.joiner.Joiner.TheInside.{Inside}
use Rattle.drm_data.specs.declared.unit_buffer.UnitBuffer.{UnitBuffer}
use Rattle.drm_data.specs.PacketFields.{PacketFields, IsPacket}
use Rattle.drm_data.specs.Faults.{IsFault}
use Rattle.drm_data.specs.Joining.{JoinerEvent, Received, Broken, Gap, ReadsDataPacket, OpenUnit, JoinerState, JoinerAnswer, Silent, Refuses, begun_after, answer_after, answer, after}
use Rattle.drm_data.specs.Room.{begun_in, IsUnitBuffer, state}
use Rattle.drm_data.proofs.Answered.{one_packet, one_fault, no_fault}

-- bytes are one event
pub one_event : (d : ℕ) (bytes : List ℕ) (e f : JoinerEvent) → ReadsDataPacket d bytes e → ReadsDataPacket d bytes f → e ≡ f
one_event d bytes (Received p) (Received q) h k = ap Received (one_packet d p q bytes h k)
one_event d bytes (Received p) (Broken g) h k = absurd (no_fault d p g bytes h k)
one_event d bytes (Received p) Gap h k = absurd k
one_event d bytes (Broken f) (Received q) h k = absurd (no_fault d q f bytes k h)
one_event d bytes (Broken f) (Broken g) h k = ap Broken (one_fault d f g bytes h k)
one_event d bytes (Broken f) Gap h k = absurd k
one_event d bytes Gap f h k = absurd h

-- what is left after one event is left after any that the bytes are
pub left_by : (s : JoinerState) (bytes : List ℕ) (e : JoinerEvent) (left : JoinerState) → ReadsDataPacket s.length bytes e → left ≡ after s e → (f : JoinerEvent) → ReadsDataPacket s.length bytes f → left ≡ after s f
left_by s bytes e left h is f k = is ∙ ap (after s) (one_event s.length bytes e f h k)

-- the joiner with another unit open
abbrev pub with_begun : JoinerState → Option OpenUnit → JoinerState
with_begun s begun = record s { begun = begun }

pub state_with : (j : Inside) (new : UnitBuffer) (begun : Option OpenUnit) → IsUnitBuffer j.room → IsUnitBuffer new → begun_in new ≡ begun
    → state (record { id = j.id; length = j.length; room = new }) ≡ with_begun (state j) begun
state_with j new begun old_room new_room is =
    ap (λ n. record { id = j.id; length = j.length; room = n; begun = begun_in new }) (new_room.room ∙ sym old_room.room)
    ∙ ap (λ b. record { id = j.id; length = j.length; room = length j.room.bytes.items; begun = b }) is

-- what is left after these bytes
abbrev pub Leaves : JoinerState → List ℕ → JoinerState → Type 0
Leaves s bytes left = (f : JoinerEvent) → ReadsDataPacket s.length bytes f → left ≡ after s f

-- the bytes are an event with this answer
abbrev pub AnswersBy : JoinerState → List ℕ → JoinerAnswer → Type 0
AnswersBy s bytes a = (event : JoinerEvent) × ReadsDataPacket s.length bytes event × (a ≡ answer s event)

-- a packet of the id
pub joined : (s : JoinerState) (j : Inside) (new : UnitBuffer) (bytes : List ℕ) (p : PacketFields) → state j ≡ s → IsPacket j.length p bytes → p.id ≡ j.id → IsUnitBuffer j.room → IsUnitBuffer new
    → begun_in new ≡ begun_after (begun_in j.room) p → Leaves s bytes (state (record { id = j.id; length = j.length; room = new }))
joined s j new bytes p view is mine old_room new_room begun =
    let left : JoinerState = state (record { id = j.id; length = j.length; room = new }) in
    let test : (p.id == j.id) ≡ true = eq-eqb p.id j.id mine in
    let step : after (state j) (Received p) ≡ with_begun (state j) (begun_after (begun_in j.room) p) =
    ap (λ b. if b then with_begun (state j) (begun_after (begun_in j.room) p) else state j) test in
    subst (λ (t : JoinerState). Leaves t bytes left) view
    (left_by (state j) bytes (Received p) left is (state_with j new (begun_after (begun_in j.room) p) old_room new_room begun ∙ sym step))

pub answered : (s : JoinerState) (j : Inside) (bytes : List ℕ) (p : PacketFields) (a : JoinerAnswer) → state j ≡ s → IsPacket j.length p bytes → p.id ≡ j.id → a ≡ answer_after (begun_in j.room) p → AnswersBy s bytes a
answered s j bytes p a view is mine same =
    let test : (p.id == j.id) ≡ true = eq-eqb p.id j.id mine in
    let step : answer (state j) (Received p) ≡ answer_after (begun_in j.room) p = ap (λ b. if b then answer_after (begun_in j.room) p else Silent) test in
    subst (λ (t : JoinerState). AnswersBy t bytes a) view (Received p, is, same ∙ sym step)

-- a packet of another id
pub passed : (s : JoinerState) (j : Inside) (bytes : List ℕ) (p : PacketFields) → state j ≡ s → IsPacket j.length p bytes → (p.id ≡ j.id → ⊥) → Leaves s bytes (state j)
passed s j bytes p view is other =
    let test : (p.id == j.id) ≡ false = ne_eqb p.id j.id other in
    let step : after (state j) (Received p) ≡ state j = ap (λ b. if b then with_begun (state j) (begun_after (begun_in j.room) p) else state j) test in
    subst (λ (t : JoinerState). Leaves t bytes (state j)) view (left_by (state j) bytes (Received p) (state j) is (sym step))

pub unanswered : (s : JoinerState) (j : Inside) (bytes : List ℕ) (p : PacketFields) → state j ≡ s → IsPacket j.length p bytes → (p.id ≡ j.id → ⊥) → AnswersBy s bytes Silent
unanswered s j bytes p view is other =
    let test : (p.id == j.id) ≡ false = ne_eqb p.id j.id other in
    let step : answer (state j) (Received p) ≡ Silent = ap (λ b. if b then answer_after (begun_in j.room) p else Silent) test in
    subst (λ (t : JoinerState). AnswersBy t bytes Silent) view (Received p, is, sym step)

-- bytes that are refused
pub broken : (s : JoinerState) (j : Inside) (new : UnitBuffer) (bytes : List ℕ) (fault : DataFault) → state j ≡ s → IsFault j.length fault bytes → IsUnitBuffer j.room → IsUnitBuffer new → begun_in new ≡ None
    → Leaves s bytes (state (record { id = j.id; length = j.length; room = new }))
broken s j new bytes fault view is old_room new_room begun =
    let left : JoinerState = state (record { id = j.id; length = j.length; room = new }) in
    subst (λ (t : JoinerState). Leaves t bytes left) view (left_by (state j) bytes (Broken fault) left is (state_with j new None old_room new_room begun))

pub refused : (s : JoinerState) (j : Inside) (bytes : List ℕ) (fault : DataFault) (cut : Bool) → state j ≡ s → IsFault j.length fault bytes → cut ≡ is_some (begun_in j.room) → AnswersBy s bytes (Refuses fault cut)
refused s j bytes fault cut view is same =
    subst (λ (t : JoinerState). AnswersBy t bytes (Refuses fault cut)) view (Broken fault, is, ap (Refuses fault) same)
