-- A group in memory: what it tells after a call.
use Rattle.std.proofs.Common.{◌≡◌, ℕ, zero, suc, ◌+◌, ◌-◌, ◌<◌, ◌≤◌, ◌^◌, nat_eq, Bool, true, false, List, [], ◌∷◌, ◌++◌, length, length-append, map, drop, slice_index_or, slice_set, Option, None, Some, if◌then◌else◌, refl, sym, ◌∙◌, ap, subst, arith}
use Rattle.std.proofs.Math.ListN.{length-set}
use Rattle.std.proofs.Math.Seq.{map-set_same}
use Rattle.std.proofs.lemmas.List.{get_or-map, get_or-set_same, get_or-set_other, map-set, take-append-le}
use Rattle.std.proofs.lemmas.Bool.Decides.{nat_tests}
use Rattle.drm_links.specs.Known.{Known, IfBoth, IfBothKnown, CountsCall, CountsOneCall}
use Rattle.drm_links.specs.Link as link
use Rattle.drm_links.specs.Link.{Answer, Traffic, FitsBuffer, LinkReceives, LinkSends, LinkRests, KeepsAnswers, answer_of, next_answer, one_less, longest_kept}
use Rattle.drm_links.specs.Dock.{Over, over_of}
use Rattle.drm_links.specs.MemoryLink.{LinkState, link_known}
use Rattle.drm_links.specs.History.{GroupEvent, Received, SentTo, RestedAt, History, EventHappens, IsAhead, TellsEvents, coming_after, sends_after, sent_by}
use Rattle.drm_links.specs.Calls.{is_up, up_after}
use Rattle.drm_links.specs.Alone.{answers_in, over_at, over_source}
use Rattle.drm_links.specs.MemoryGroup.{GroupBookState, NotesEvent, GroupState, ups_of, ahead_of, taken_by, sends_of, history_of, group_known, IsInStep, AreInStep, MemberChanges, MemberSends, MemberRests, up_by}
use Rattle.drm_links.specs.declared.link.Came.{Came}
use Rattle.drm_links.specs.declared.link.Came.TheVariants as recv
use Rattle.drm_links.specs.declared.link.Sent.{Sent}
use Rattle.drm_links.specs.declared.link.Sent.TheVariants as send
use Rattle.drm_links.specs.declared.member.Member.{Member}
use Rattle.drm_links.proofs.AloneLemmas.{LeavesAlone, at_other, at_sent, at_rested, alone_recv, alone_send, alone_rest, source_heard, source_other}

-- ---- one number, or two

by_number : {T : Type 0} (j k : ℕ) → (j ≡ k → T) → ((j ≡ k → ⊥) → T) → T
by_number {T} j k same other = decided (nat_eq j k) refl
  where
    decided : (b : Bool) → nat_eq j k ≡ b → T
    decided true is = same (grind (arith, nat_tests))
    decided false is = other (grind (arith, nat_tests))

-- ---- a link, after one call

told_again : (x y : Option Traffic) (n : ℕ) (t : Traffic) (P : Traffic → Traffic → Type 0) → 0 < n → x ≡ Some t → t.calls + n ≤ 2 ^ 62 → IfBoth x y P → CountsOneCall (λ (u : Traffic). u.calls) x y
    → (t' : Traffic) × (y ≡ Some t') × (t'.calls ≡ t.calls + 1) × P t t'
told_again None y n t P some is room both counts = cc
told_again (Some x) None n t P some is room both counts =
    let same : x ≡ t = cc in
    let calls : x.calls ≡ t.calls = ap (λ (u : Traffic). u.calls) same in
    absurd (omega (arith, some, room, counts, calls))
told_again (Some x) (Some y) n t P some is room both counts =
    let same : x ≡ t = cc in
    let calls : x.calls ≡ t.calls = ap (λ (u : Traffic). u.calls) same in
    (y, refl, counts.0 ∙ ap (λ c. c + 1) calls, subst (λ (u : Traffic). P u y) same both)

stepped : (a b : Known Traffic) (n : ℕ) (over over' : Over) (P : Traffic → Traffic → Type 0) → 0 < n → IsInStep a n over → IfBothKnown a b P → CountsCall (λ (u : Traffic). u.calls) a b
    → ((t t' : Traffic) → over_of t ≡ over → P t t' → over_of t' ≡ over') → IsInStep b (n - 1) over'
stepped a b n over over' P some step both counts goes =
    let now = told_again a.contents b.contents n step.traffic P some step.told step.calls both counts in
    let room = step.calls in
    let calls = now.2 in
    record { traffic = now.0; told = now.1; calls = omega (arith, some, room, calls); went = goes step.traffic now.0 step.went now.3 }

-- a link over which nothing went
still : (a : Known Traffic) (n : ℕ) (over over' : Over) → IsInStep a n over → over' ≡ over → IsInStep a (n - 1) over'
still a n over over' step same =
    let room = step.calls in
    record { traffic = step.traffic; told = step.told; calls = omega (arith, room); went = step.went ∙ sym same }

-- ---- the book

abbrev with_event : GroupEvent → GroupBookState → GroupBookState
with_event event book = record book { events = book.events ++ event ∷ []; room = book.room - 1 }

abbrev pub InStep : GroupState → Type 0
InStep group = AreInStep group.source group.members group.book

none_or_some : {T : Type 0} (n : ℕ) → (n ≡ 0 → T) → (0 < n → T) → T
none_or_some zero none some = none refl
none_or_some (suc n) none some = some (omega arith)

told_by : (b b' : Bool) (event : GroupEvent) (x y : History) (n : ℕ) → x.room ≡ n → (n ≡ 0 → b' ≡ false) → (0 < n → b' ≡ b) → (b ≡ true → 0 < n → EventHappens event x y)
    → TellsEvents (event ∷ []) (if b then Some x else None) (if b' then Some y else None)
told_by false false event x y n is full noted happens = refl
told_by false true event x y zero is full noted happens = let e = full refl in cc
told_by false true event x y (suc n) is full noted happens = let e = noted (omega arith) in cc
told_by true false event x y zero is full noted happens = omega (arith, is)
told_by true false event x y (suc n) is full noted happens = let e = noted (omega arith) in cc
told_by true true event x y zero is full noted happens = let e = full refl in cc
told_by true true event x y (suc n) is full noted happens = (y, happens refl (omega arith), refl)

-- what a group does by one call: while its book tells, its links are in step, and it tells the event
pub record Does (event : GroupEvent) (old new : GroupState) : Type 0 where
  pub steps : new.book.tells ≡ true → InStep new
  pub told : TellsEvents (event ∷ []) (group_known old).contents (group_known new).contents

does : (event : GroupEvent) (old new : GroupState) → NotesEvent event old.book new.book → (old.book.tells ≡ true → InStep old)
    → (InStep old → 0 < old.book.room → AreInStep new.source new.members (with_event event old.book) × IsAhead event (history_of old)
    × ((history_of new).coming ≡ coming_after event (history_of old).coming) × ((history_of new).sends ≡ sends_after event (history_of old).sends))
    → Does event old new
does event old new notes before goes =
    let off : old.book.room ≡ 0 → new.book.tells ≡ false = λ none. ap (λ (b : GroupBookState). b.tells) (notes.full none) in
    let on : 0 < old.book.room → new.book.tells ≡ old.book.tells = λ some. ap (λ (b : GroupBookState). b.tells) (notes.noted some) in
    record {
      steps = λ tells.
          none_or_some old.book.room
          (λ none. let other = off none in cc)
          (λ some. subst (AreInStep new.source new.members) (sym (notes.noted some)) (goes (before (sym (on some) ∙ tells)) some).0);
      told = told_by old.book.tells new.book.tells event (history_of old) (history_of new) old.book.room refl off on
          (λ tells some.
          let (steps, is_ahead, coming, sends) = goes (before tells) some in
          let room : new.book.room ≡ old.book.room - 1 = ap (λ (b : GroupBookState). b.room) (notes.noted some) in
          record { is_ahead = is_ahead; events = ap (λ (b : GroupBookState). b.events) (notes.noted some); coming = coming; sends = sends; room = omega (arith, some, room) });
    }

-- ---- a call of one member

module _ (Change : Member LinkState → Member LinkState → Type 0) (k : ℕ) (members members' : List (Member LinkState)) (changes : MemberChanges Change k members members') where
  -- what f gives of each
  mapped : {X : Type 0} (f : Member LinkState → X) → map f members' ≡ slice_set (map f members) k (f changes.new)
  mapped f = ap (map f) changes.now ∙ map-set f members k changes.new

  mapped_same : {X : Type 0} (f : Member LinkState → X) → f changes.new ≡ f changes.old → map f members' ≡ map f members
  mapped_same f is = ap (map f) changes.now ∙ map-set_same f members k changes.new changes.old (is ∙ ap f (sym (changes.was changes.old)))

  mapped_at : {X : Type 0} (f : Member LinkState → X) (d : X) → slice_index_or (map f members) k d ≡ f changes.old
  mapped_at f d = get_or-map f members k changes.old d changes.within ∙ ap f (changes.was changes.old)

  before_at : (source : LinkState) (book : GroupBookState) → AreInStep source members book → IsInStep (link_known changes.old.link) book.room (over_at k book.events)
  before_at source book steps = subst (λ (m : Member LinkState). IsInStep (link_known m.link) book.room (over_at k book.events)) (changes.was changes.old) (steps.sending k changes.old changes.within)

  -- all links are in step, where this one is
  steps_at : (event : GroupEvent) (source : LinkState) (book : GroupBookState) → answers_in (event ∷ []) ≡ [] → ((j : ℕ) → (k ≡ j → ⊥) → LeavesAlone j (event ∷ [])) → AreInStep source members book
      → IsInStep (link_known changes.new.link) (book.room - 1) (over_at k (book.events ++ event ∷ [])) → AreInStep source members' (with_event event book)
  steps_at event source book silent alone steps here = record {
    receiving = still (link_known source) book.room (over_source book.events) (over_source (book.events ++ event ∷ [])) steps.receiving (source_other book.events (event ∷ []) silent);
    sending = λ j none within.
        by_number k j
        (λ same.
        subst (λ (n : ℕ). IsInStep (link_known (slice_index_or members' n none).link) (book.room - 1) (over_at n (book.events ++ event ∷ []))) same
        (subst (λ (m : Member LinkState). IsInStep (link_known m.link) (book.room - 1) (over_at k (book.events ++ event ∷ []))) (sym (ap (λ l. slice_index_or l k none) changes.now ∙ get_or-set_same members k changes.new none changes.within)) here))
        (λ apart.
        let there : slice_index_or members' j none ≡ slice_index_or members j none = ap (λ l. slice_index_or l j none) changes.now ∙ get_or-set_other members k j changes.new none (λ is. apart (sym is)) in
        let within' : j < length members = subst (λ (n : ℕ). j < n) (ap length changes.now ∙ length-set members k changes.new) within in
        subst (λ (m : Member LinkState). IsInStep (link_known m.link) (book.room - 1) (over_at j (book.events ++ event ∷ []))) (sym there)
        (still (link_known (slice_index_or members j none).link) book.room (over_at j book.events) (over_at j (book.events ++ event ∷ [])) (steps.sending j none within') (at_other j book.events (event ∷ []) (alone j apart))));
  }

-- ---- a send

sent_as : (answer : Sent) (bytes : List ℕ) (t t' : Traffic) → length bytes ≤ longest_kept → LinkSends answer bytes t t' → answer ≡ sent_by t.sends
sent_as send.Sent bytes t t' short sends = taken t.sends sends.0
  where
    taken : (o : Option ℕ) → (o ≡ Some 0 → ⊥) → send.Sent ≡ sent_by o
    taken None some = refl
    taken (Some zero) some = absurd (some refl)
    taken (Some (suc n)) some = refl
sent_as send.Failed bytes t t' short sends = sym (ap sent_by (sends.0 short))

left_as : (answer : Sent) (bytes : List ℕ) (t t' : Traffic) → length bytes ≤ longest_kept → LinkSends answer bytes t t' → taken_by (up_by true answer) (Some t') ≡ one_less t.sends
left_as send.Sent bytes t t' short sends = sends.4
left_as send.Failed bytes t t' short sends = sym (ap one_less (sends.0 short))

pub up_send : (k : ℕ) (bytes : List ℕ) (answer : Sent) (members members' : List (Member LinkState)) → MemberChanges (MemberSends answer bytes) k members members' → ups_of members' ≡ up_after (ups_of members) k answer
up_send k bytes send.Sent members members' changes = mapped_same (MemberSends send.Sent bytes) k members members' changes (λ m. m.up) changes.change.up
up_send k bytes send.Failed members members' changes =
    mapped (MemberSends send.Failed bytes) k members members' changes (λ m. m.up) ∙ ap (λ (b : Bool). slice_set (ups_of members) k b) changes.change.up

sends_and_keeps : (answer : Sent) (bytes : List ℕ) (x y : Option Traffic) → IfBoth x y (LinkSends answer bytes) → IfBoth x y KeepsAnswers → IfBoth x y (λ t t'. LinkSends answer bytes t t' × KeepsAnswers t t')
sends_and_keeps answer bytes None y sends kept = tt
sends_and_keeps answer bytes (Some x) None sends kept = tt
sends_and_keeps answer bytes (Some x) (Some y) sends kept = (sends, kept)

pub does_send : (k : ℕ) (bytes : List ℕ) (answer : Sent) (old new : GroupState) → length bytes ≤ longest_kept → is_up (ups_of old.members) k ≡ true → new.source ≡ old.source
    → MemberChanges (MemberSends answer bytes) k old.members new.members → NotesEvent (SentTo k bytes answer) old.book new.book → (old.book.tells ≡ true → InStep old) → Does (SentTo k bytes answer) old new
does_send k bytes answer old new short up same changes notes before =
    let told : Member LinkState → Option ℕ = λ m. taken_by m.up (link_known m.link).contents in
    let both = sends_and_keeps answer bytes (link_known changes.old.link).contents (link_known changes.new.link).contents changes.change.sends changes.change.kept in
    let was_up : changes.old.up ≡ true = sym (mapped_at (MemberSends answer bytes) k old.members new.members changes (λ m. m.up) false) ∙ up in
    let up_now : changes.new.up ≡ up_by true answer = changes.change.up ∙ ap (λ (b : Bool). up_by b answer) was_up in
    does (SentTo k bytes answer) old new notes before
    (λ steps some.
    let here = before_at (MemberSends answer bytes) k old.members new.members changes old.source old.book steps in
    let now = told_again (link_known changes.old.link).contents (link_known changes.new.link).contents old.book.room here.traffic (λ t t'. LinkSends answer bytes t t' × KeepsAnswers t t') some here.told here.calls both changes.change.counts in
    let takes : slice_index_or (sends_of old.members) k None ≡ here.traffic.sends = mapped_at (MemberSends answer bytes) k old.members new.members changes told None ∙ (λ i. taken_by (was_up i) (here.told i)) in (
      subst (λ (l : LinkState). AreInStep l new.members (with_event (SentTo k bytes answer) old.book)) (sym same)
          (steps_at (MemberSends answer bytes) k old.members new.members changes (SentTo k bytes answer) old.source old.book refl (λ j apart. alone_send k j bytes answer apart) steps
          (stepped (link_known changes.old.link) (link_known changes.new.link) old.book.room (over_at k old.book.events) (over_at k (old.book.events ++ SentTo k bytes answer ∷ [])) (λ t t'. LinkSends answer bytes t t' × KeepsAnswers t t') some here both changes.change.counts
          (λ t t' went p. at_sent k old.book.events bytes answer t t' went p.0 p.1))),
      sent_as answer bytes here.traffic now.0 short now.3.0 ∙ sym (ap sent_by takes),
      ap (λ (l : LinkState). ahead_of (link_known l).contents) same,
      mapped (MemberSends answer bytes) k old.members new.members changes told
          ∙ ap (λ (o : Option ℕ). slice_set (sends_of old.members) k o) ((λ i. taken_by (up_now i) (now.1 i)) ∙ (left_as answer bytes here.traffic now.0 short now.3.0 ∙ sym (ap one_less takes))),
    ))

-- ---- a rest

pub up_rest : (k millis : ℕ) (members members' : List (Member LinkState)) → MemberChanges (MemberRests millis) k members members' → ups_of members' ≡ ups_of members
up_rest k millis members members' changes = mapped_same (MemberRests millis) k members members' changes (λ m. m.up) changes.change.up

taken_still : (b : Bool) (t t' : Traffic) → t'.sends ≡ t.sends → taken_by b (Some t') ≡ taken_by b (Some t)
taken_still true t t' is = is
taken_still false t t' is = refl

pub does_rest : (k millis : ℕ) (old new : GroupState) → new.source ≡ old.source → MemberChanges (MemberRests millis) k old.members new.members
    → NotesEvent (RestedAt k millis) old.book new.book → (old.book.tells ≡ true → InStep old) → Does (RestedAt k millis) old new
does_rest k millis old new same changes notes before =
    does (RestedAt k millis) old new notes before
    (λ steps some.
    let here = before_at (MemberRests millis) k old.members new.members changes old.source old.book steps in
    let now = told_again (link_known changes.old.link).contents (link_known changes.new.link).contents old.book.room here.traffic (LinkRests millis) some here.told here.calls changes.change.rests changes.change.counts in (
      subst (λ (l : LinkState). AreInStep l new.members (with_event (RestedAt k millis) old.book)) (sym same)
          (steps_at (MemberRests millis) k old.members new.members changes (RestedAt k millis) old.source old.book refl (λ j apart. alone_rest k j millis apart) steps
          (stepped (link_known changes.old.link) (link_known changes.new.link) old.book.room (over_at k old.book.events) (over_at k (old.book.events ++ RestedAt k millis ∷ [])) (LinkRests millis) some here changes.change.rests changes.change.counts
          (λ t t' went p. at_rested k old.book.events millis t t' went p))),
      tt,
      ap (λ (l : LinkState). ahead_of (link_known l).contents) same,
      mapped_same (MemberRests millis) k old.members new.members changes (λ m. taken_by m.up (link_known m.link).contents)
          ((λ i. taken_by (changes.change.up i) (now.1 i)) ∙ (taken_still changes.old.up here.traffic now.0 now.3.sends ∙ sym (ap (taken_by changes.old.up) here.told))),
    ))

-- ---- a recv

pub does_recv : (came : Came) (buf : List ℕ) (old new : GroupState) → new.members ≡ old.members → IfBothKnown (link_known old.source) (link_known new.source) (LinkReceives came buf)
    → CountsCall (λ (u : Traffic). u.calls) (link_known old.source) (link_known new.source) → NotesEvent (Received (answer_of came buf)) old.book new.book → (old.book.tells ≡ true → InStep old) → Does (Received (answer_of came buf)) old new
does_recv came buf old new same receives counts notes before =
    let event = Received (answer_of came buf) in
    does event old new notes before
    (λ steps some.
    let here = steps.receiving in
    let now = told_again (link_known old.source).contents (link_known new.source).contents old.book.room here.traffic (LinkReceives came buf) some here.told here.calls receives counts in (
      subst (λ (l : List (Member LinkState)). AreInStep new.source l (with_event event old.book)) (sym same)
          (record {
            receiving = stepped (link_known old.source) (link_known new.source) old.book.room (over_source old.book.events) (over_source (old.book.events ++ event ∷ [])) (LinkReceives came buf) some here receives counts
                (λ t t' went p. source_heard old.book.events (answer_of came buf) came buf t t' went p refl);
            sending = λ j none within.
                still (link_known (slice_index_or old.members j none).link) old.book.room (over_at j old.book.events) (over_at j (old.book.events ++ event ∷ [])) (steps.sending j none within)
                (at_other j old.book.events (event ∷ []) (alone_recv j (answer_of came buf)));
          }),
      now.3.next ∙ sym (ap (λ (o : Option Traffic). next_answer (ahead_of o)) here.told),
      ap ahead_of now.1 ∙ (now.3.ahead ∙ sym (ap (λ (o : Option Traffic). drop 1 (ahead_of o)) here.told)),
      ap sends_of same,
    ))

-- ---- the front of a buffer

pub fits_more : (came : Came) (xs ys : List ℕ) → FitsBuffer came xs → FitsBuffer came (xs ++ ys)
fits_more (recv.Datagram n) xs ys fits = let e = length-append xs ys in omega (arith, fits, e)
fits_more recv.Idle xs ys fits = tt
fits_more recv.Failed xs ys fits = tt

pub answer_more : (came : Came) (xs ys : List ℕ) → FitsBuffer came xs → answer_of came xs ≡ answer_of came (xs ++ ys)
answer_more (recv.Datagram n) xs ys fits = ap link.Datagram (sym (take-append-le n xs ys fits))
answer_more recv.Idle xs ys fits = refl
answer_more recv.Failed xs ys fits = refl

pub receives_more : (came : Came) (xs ys : List ℕ) (a b : Known Traffic) → FitsBuffer came xs → IfBothKnown a b (LinkReceives came xs) → IfBothKnown a b (LinkReceives came (xs ++ ys))
receives_more came xs ys a b fits = by_contents a.contents b.contents
  where
    by_contents : (x y : Option Traffic) → IfBoth x y (LinkReceives came xs) → IfBoth x y (LinkReceives came (xs ++ ys))
    by_contents None y both = tt
    by_contents (Some x) None both = tt
    by_contents (Some x) (Some y) both = record {
      next = sym (answer_more came xs ys fits) ∙ both.next;
      answers = both.answers;
      ahead = both.ahead;
      gone = both.gone;
      waits = both.waits;
      waiting = both.waiting;
      sends = both.sends;
    }
