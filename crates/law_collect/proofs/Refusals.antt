-- What is refused, and why, and that it leaves the collector as it was.
use Rattle.std.proofs.Common.{ℕ, ◌≡◌, ◌+◌, ◌≤◌, Bool, true, false, if◌then◌else◌, not, List, Option, None, Some, refl, sym, ap, ◌∙◌, subst, arith}
use Rattle.std.specs.Prelude.{ℤ, pos, negsuc, ◌+ℤ◌, ◌<ℤ◌, unwrap_or}
use Rattle.std.specs.List.{find}
use Rattle.std.proofs.lemmas.Bool.{le-ltb}
use Rattle.std.proofs.lemmas.Int.{ints}
use Rattle.dcp_collect.specs.declared.head.Head.{Head}
use Rattle.dcp_collect.specs.declared.taken.Field.{Field}
use Rattle.dcp_collect.specs.declared.taken.Field.TheVariants.{Sync, Af, Pft, Large, Far}
use Rattle.dcp_collect.specs.declared.taken.Taken.{Taken}
use Rattle.dcp_collect.specs.declared.taken.Taken.TheVariants.{Repeated, Late, Refused}
use Rattle.dcp_collect.specs.Fragments.{NumberedFragment, agree, has_index, suffice, of_packet}
use Rattle.dcp_collect.specs.Reading.{Incoming, DatagramContent, Unread, Brings, IsReadAs}
use Rattle.dcp_collect.specs.CollectorState.{CollectorState, is_above, is_far, is_late, answer_by, answer_among, answer_within, answer_at, answer, after_answer, after_take, number_of}
use Rattle.dcp_collect.proofs.Answering.{not_far}
use Rattle.law_collect.specs.Laws.{OneReading, HasCause, Refusing, ReachingAll}
use Rattle.law_collect.proofs.Numbers.{one_nearest}

by_not : (o : Option NumberedFragment) (b : Bool) (head : Head) (cause : Field) → answer_by o b head ≡ Refused cause → ⊥
by_not (Some f) b head cause e = cc
by_not None true head cause e = cc
by_not None false head cause e = cc

among_not : (b : Bool) (a : Taken) (cause : Field) → (a ≡ Refused cause → ⊥) → (if b then Repeated else a) ≡ Refused cause → ⊥
among_not true a cause none e = let clash : Repeated ≡ Refused cause = e in cc
among_not false a cause none e = none e

late_not : (b : Bool) (a : Taken) (cause : Field) → (a ≡ Refused cause → ⊥) → (if b then Late else a) ≡ Refused cause → ⊥
late_not true a cause none e = let clash : Late ≡ Refused cause = e in cc
late_not false a cause none e = none e

-- what is near is never refused
within_not : (c : CollectorState) (n : ℤ) (head : Head) (cause : Field) → answer_within c n head ≡ Refused cause → ⊥
within_not c (negsuc n) head cause e = let clash : Late ≡ Refused cause = e in cc
within_not c (pos n) head cause e =
    let those : List NumberedFragment = of_packet n c.kept in
    late_not (is_late c n) (answer_among those head) cause
    (among_not (suffice those) (answer_by (find (λ f. not (agree f.head head)) those) (has_index those head.index) head) cause
    (by_not (find (λ f. not (agree f.head head)) those) (has_index those head.index) head cause)) e

-- what is read as a fragment is refused only where it is far
far_by : (b : Bool) (a : Taken) (cause : Field) → (a ≡ Refused cause → ⊥) → (if b then Refused Far else a) ≡ Refused cause → (b ≡ true) × (cause ≡ Far)
far_by true a cause none e = let same : Refused Far ≡ Refused cause = e in (refl, (let x : Far ≡ cause = cc in sym x))
far_by false a cause none e = absurd (none e)

at_far : (c : CollectorState) (n : ℤ) (head : Head) (cause : Field) → answer_at c n head ≡ Refused cause → (is_far c n ≡ true) × (cause ≡ Far)
at_far c n head cause = far_by (is_far c n) (answer_within c n head) cause (within_not c n head cause)

-- a cause that lies in the bytes
pub unread_has : (c : CollectorState) (cause : Field) (datagram : List ℕ) → IsReadAs (Unread cause) datagram → HasCause c cause datagram
unread_has c Sync datagram is = is
unread_has c (Af fault) datagram is = is
unread_has c (Pft fault) datagram is = is
unread_has c Large datagram is = is
unread_has c Far datagram is = absurd is

has_cause : (c : CollectorState) (read : DatagramContent) (cause : Field) (datagram : List ℕ) → IsReadAs read datagram → answer c read ≡ Refused cause → HasCause c cause datagram
has_cause c (Unread field) cause datagram is e =
    let whole : Refused field ≡ Refused cause = e in
    let same : field ≡ cause = cc in
    unread_has c cause datagram (subst (λ f. IsReadAs (Unread f) datagram) same is)
has_cause c (Brings incoming) cause datagram is e =
    let far = at_far c (number_of c incoming) incoming.head cause e in
    subst (λ f. HasCause c f datagram) (sym far.1) (incoming, is, far.0)

is_refused : (one_reading : OneReading) (c : CollectorState) (read : DatagramContent) (cause : Field) (datagram : List ℕ) → IsReadAs read datagram → HasCause c cause datagram
    → answer c read ≡ Refused cause
is_refused one_reading c read Sync datagram is has = ap (answer c) (one_reading datagram (Unread Sync) read has is)
is_refused one_reading c read (Af fault) datagram is has = ap (answer c) (one_reading datagram (Unread (Af fault)) read has is)
is_refused one_reading c read (Pft fault) datagram is has = ap (answer c) (one_reading datagram (Unread (Pft fault)) read has is)
is_refused one_reading c read Large datagram is has = ap (answer c) (one_reading datagram (Unread Large) read has is)
is_refused one_reading c read Far datagram is (incoming, brings, far) =
    ap (answer c) (one_reading datagram (Brings incoming) read brings is)
    ∙ ap (λ b. if b then Refused Far else answer_within c (number_of c incoming) incoming.head) far

-- after a refusal
pub after_refused : (c : CollectorState) (read : DatagramContent) (cause : Field) → answer c read ≡ Refused cause → after_take c read ≡ c
after_refused c (Unread field) cause e = refl
after_refused c (Brings incoming) cause e = ap (after_answer c (number_of c incoming) incoming) e

pub refusing : OneReading → Refusing
refusing one_reading c after datagram taken cause takes = (
  (
    λ has. takes.taken_is ∙ is_refused one_reading c takes.read cause datagram takes.is_read has,
    λ e. has_cause c takes.read cause datagram takes.is_read (sym takes.taken_is ∙ e),
  ),
  λ e. takes.after_is ∙ after_refused c takes.read cause (sym takes.taken_is ∙ e),
)

-- ---- with the greatest reach

-- the number of a datagram is no more than 32,767 above the newest
never_above : (m : Option ℕ) (reach n : ℕ) → 32767 ≤ reach → pos n <ℤ (pos (unwrap_or m 0) +ℤ pos 32768) → is_above m reach n ≡ false
never_above None reach n all near = refl
never_above (Some m) reach n all near = le-ltb (m + reach) n (omega (arith, ints, all, near))

never_far : (c : CollectorState) (n : ℤ) → 32767 ≤ c.reach → n <ℤ (pos (unwrap_or c.newest 0) +ℤ pos 32768) → is_far c n ≡ false
never_far c (negsuc n) all near = refl
never_far c (pos n) all near = never_above c.newest c.reach n all near

answered_within : (c : CollectorState) (incoming : Incoming) → 32767 ≤ c.reach → answer c (Brings incoming) ≡ answer_within c (number_of c incoming) incoming.head
answered_within c incoming all =
    not_far c (number_of c incoming) incoming.head
    (never_far c (number_of c incoming) all
    (one_nearest (unwrap_or c.first incoming.sequence) (unwrap_or c.newest 0) incoming.sequence).1.0)

pub reaching_all : OneReading → ReachingAll
reaching_all one_reading c after datagram taken all takes =
    let within : (incoming : Incoming) → IsReadAs (Brings incoming) datagram → taken ≡ answer_within c (number_of c incoming) incoming.head =
    λ incoming is. takes.taken_is ∙ (ap (answer c) (one_reading datagram (Brings incoming) takes.read is takes.is_read) ∙ answered_within c incoming all) in (
      (λ e.
          let (incoming, is, far) = has_cause c takes.read Far datagram takes.is_read (sym takes.taken_is ∙ e) in
          within_not c (number_of c incoming) incoming.head Far (sym (within incoming is) ∙ e)),
      within,
    )
