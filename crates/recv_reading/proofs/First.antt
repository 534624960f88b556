-- What is known of the first sequence number stays.
use Rattle.std.proofs.Common.{◌≡◌, ℕ, true, List, [], ◌∷◌, Option, None, Some, sym, subst, ap, refl, IfSome, unwrap_or, ◌==◌, not, filter}
use Rattle.recv_reading.proofs.Common.{Taken, CollectorState, after_item, CollectorItem, Packet, IsItem, CollectorTakes, GivesSoFar, MayBeFirst, KnowsFirst}
use Rattle.recv_reading.proofs.Common.{first_of}
use Rattle.dcp_collect.specs.Fragments.{NumberedFragment, suffice, of_packet}
use Rattle.dcp_collect.specs.Reading.{Incoming, DatagramContent, Unread, Brings}
use Rattle.dcp_collect.specs.CollectorState.{after_take, answer, number_of}
use Rattle.law_collect.proofs.Stays.{after_by, first_stays}

may_by : (c : CollectorState) (incoming : Incoming) (n : ℕ) (o : Option ℕ) → c.first ≡ o → (first : ℕ) → MayBeFirst (after_take c (Brings incoming)) first → MayBeFirst c first
may_by c incoming n None is first may = subst (λ (v : Option ℕ). IfSome v (λ m. m ≡ first)) (sym is) tt
may_by c incoming n (Some f) is first may =
    let same : (after_take c (Brings incoming)).first ≡ Some f = first_stays c (number_of c incoming) incoming (answer c (Brings incoming)) f is in
    let now : f ≡ first = subst (λ (v : Option ℕ). IfSome v (λ m. m ≡ first)) same may in
    subst (λ (v : Option ℕ). IfSome v (λ m. m ≡ first)) (sym is) now

may_read : (c : CollectorState) (read : DatagramContent) (first : ℕ) → MayBeFirst (after_take c read) first → MayBeFirst c first
may_read c (Unread field) first may = may
may_read c (Brings incoming) first may = may_by c incoming 0 c.first refl first may

pub may_taken : (c k : CollectorState) (bytes : List ℕ) (a : Taken) (first : ℕ) → CollectorTakes c bytes a k → MayBeFirst k first → MayBeFirst c first
may_taken c k bytes a first takes may = may_read c takes.read first (subst (λ (s : CollectorState). MayBeFirst s first) takes.after_is may)

knows_read : (c : CollectorState) (read : DatagramContent) → KnowsFirst c → KnowsFirst (after_take c read)
knows_read c (Unread field) knows = knows
knows_read c (Brings incoming) knows =
    after_by KnowsFirst c (number_of c incoming) incoming (answer c (Brings incoming)) knows
    (λ m e. absurd (let clash : Some (unwrap_or c.first incoming.sequence) ≡ None = e in cc))

pub knows_taken : (c k : CollectorState) (bytes : List ℕ) (a : Taken) → CollectorTakes c bytes a k → KnowsFirst c → KnowsFirst k
knows_taken c k bytes a takes knows = subst KnowsFirst (sym takes.after_is) (knows_read c takes.read knows)

pub knows_item : (c : CollectorState) → KnowsFirst c → KnowsFirst (after_item c)
knows_item c knows = λ none. ap (filter (λ (f : NumberedFragment). not (f.number == c.next))) (knows none)

-- giving keeps the first sequence number
pub given_first : (items : List CollectorItem) (c d : CollectorState) → GivesSoFar c items d → d.first ≡ c.first
given_first [] c d given = ap (λ s. s.first) given
given_first (item ∷ items) c d given = given_first items (after_item c) d given.2

-- what is known of the first number of a state is what it may be
self_by : (o : Option ℕ) → IfSome o (λ n. n ≡ unwrap_or o 0)
self_by None = tt
self_by (Some n) = refl

pub first_itself : (c : CollectorState) → MayBeFirst c (first_of c)
first_itself c = self_by c.first

no_packet : (n : ℕ) (kept : List NumberedFragment) → kept ≡ [] → suffice (of_packet n kept) ≡ true → ⊥
no_packet n kept none is =
    let P : List NumberedFragment → Type 0 = λ l. suffice (of_packet n l) ≡ true in
    let clash : suffice (of_packet n []) ≡ true = subst P none is in
    cc

number_is : (o : Option ℕ) (n first : ℕ) (kept : List NumberedFragment) → ((o ≡ None) → kept ≡ []) → suffice (of_packet n kept) ≡ true → IfSome o (λ m. m ≡ first) → unwrap_or o 0 ≡ first
number_is None n first kept knows is may = absurd (no_packet n kept (knows refl) is)
number_is (Some m) n first kept knows is may = may

-- where a packet is given, the number that the code takes is the one that may be
pub packet_first : (c : CollectorState) (q : ℕ) (bytes : List ℕ) (first : ℕ) → KnowsFirst c → IsItem c (Packet q bytes) → MayBeFirst c first → first_of c ≡ first
packet_first c q bytes first knows is may = number_is c.first c.next first c.kept knows is.1 may
