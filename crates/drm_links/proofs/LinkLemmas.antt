-- What a link in memory tells before and after a call.
use Rattle.std.proofs.Common.{◌≡◌, ℕ, zero, suc, ◌+◌, ◌-◌, ◌*◌, ◌^◌, ◌<◌, ◌≤◌, ◌⊎◌, inl, inr, Bool, true, false, cond, ◌||◌, List, [], ◌∷◌, ◌++◌, length, map, take, drop, get_or, min, Contains, nat_eq, nat_le, None, Some, if◌then◌else◌, refl, sym, ◌∙◌, ap, arith}
use Rattle.std.proofs.lemmas.Bool.{cases_lt}
use Rattle.std.proofs.lemmas.Bool.Decides.{nat_tests}
use Rattle.std.proofs.lemmas.List.Elements.{All-head, All-tail, All-push}
use Rattle.std.specs.Cmp.{nat_eq_equiv}
use Rattle.std.specs.List.{filter_map}
use Rattle.std.specs.Map.{lookup}
use Rattle.std.proofs.lemmas.Map.Views.{list_any-from_Contains, Contains-from_any}
use Rattle.drm_links.specs.Known.{IfBothKnown, one_more}
use Rattle.drm_links.specs.Link.{Answer, Datagram, Idle, Failed, LinkReceives, LinkSends, LinkRests, next_answer, answer_of, datagram_of, longest_kept}
use Rattle.drm_links.specs.MemoryLink.{LinkState, CameBefore, is_among, first_of, answer_at, left_at, answers_from, after_last, listed_from, answers_ahead, answered_at, answered, taken_from, traffic_of, link_known, MemLinkReceives, MemLinkSends, after_rest, longest_wait, IsCounted, BringsDatagram}
use Rattle.drm_links.specs.declared.link.Came.{Came}
use Rattle.drm_links.specs.declared.link.Came.TheVariants as recv
use Rattle.drm_links.specs.declared.link.Sent.{Sent}
use Rattle.drm_links.specs.declared.link.Sent.TheVariants as send
use Rattle.drm_links.proofs.AloneLemmas.{same_number}
use Rattle.drm_links.proofs.MemoryLemmas.{both_known_for}

-- ---- numbers that are listed

is_listed : (numbers : List ℕ) (number : ℕ) → Contains numbers number → is_among numbers number ≡ true
is_listed numbers number listed = list_any-from_Contains nat_eq_equiv number numbers listed

either_way : (numbers : List ℕ) (number : ℕ) (b : Bool) → is_among numbers number ≡ b → (Contains numbers number → ⊥) → is_among numbers number ≡ false
either_way numbers number true is unlisted = absurd (unlisted (Contains-from_any same_number number numbers is))
either_way numbers number false is unlisted = is

is_unlisted : (numbers : List ℕ) (number : ℕ) → (Contains numbers number → ⊥) → is_among numbers number ≡ false
is_unlisted numbers number unlisted = either_way numbers number (is_among numbers number) refl unlisted

-- no number from the one after the last on is listed
beyond : (numbers : List ℕ) (number : ℕ) → after_last numbers ≤ number → is_among numbers number ≡ false
beyond [] number past = refl
beyond (n ∷ numbers) number past =
    let other : nat_eq number n ≡ false = grind (arith, nat_tests) in
    let others : is_among numbers number ≡ false = beyond numbers number (omega arith) in
    rw (other, others) refl

-- ---- the answers ahead

first_ahead : (coming : List (List ℕ)) → next_answer (map Datagram coming) ≡ first_of coming
first_ahead [] = refl
first_ahead (bytes ∷ coming) = refl

others_ahead : (coming : List (List ℕ)) → drop 1 (map Datagram coming) ≡ map Datagram (drop 1 coming)
others_ahead [] = refl
others_ahead (bytes ∷ coming) = refl

-- where no number is listed any more, the datagrams come
unlisted_answer : (failing idling : List ℕ) (number : ℕ) (coming : List (List ℕ)) → listed_from failing idling number ≡ 0 → answer_at failing idling number coming ≡ first_of coming
unlisted_answer failing idling number coming past =
    let fails : is_among failing number ≡ false = beyond failing number (omega arith) in
    let idles : is_among idling number ≡ false = beyond idling number (omega arith) in
    rw (fails, idles) refl

unlisted_left : (failing idling : List ℕ) (number : ℕ) (coming : List (List ℕ)) → listed_from failing idling number ≡ 0 → left_at failing idling number coming ≡ drop 1 coming
unlisted_left failing idling number coming past =
    let fails : is_among failing number ≡ false = beyond failing number (omega arith) in
    let idles : is_among idling number ≡ false = beyond idling number (omega arith) in
    rw (fails, idles) refl

-- the first answer ahead is that of the next recv
next_of_more : (failing idling : List ℕ) (more number : ℕ) (coming : List (List ℕ)) → listed_from failing idling number ≡ more → next_answer (answers_from failing idling more number coming) ≡ answer_at failing idling number coming
next_of_more failing idling zero number coming is =
    first_ahead coming ∙ sym (unlisted_answer failing idling number coming is)
next_of_more failing idling (suc more) number coming is = refl

next_ahead : (failing idling : List ℕ) (number : ℕ) (coming : List (List ℕ)) → next_answer (answers_ahead failing idling number coming) ≡ answer_at failing idling number coming
next_ahead failing idling number coming = next_of_more failing idling _ number coming refl

-- the answers after the first are those from the next number on
rest_of_more : (failing idling : List ℕ) (more number : ℕ) (coming : List (List ℕ)) → listed_from failing idling number ≡ more → drop 1 (answers_from failing idling more number coming) ≡ answers_ahead failing idling (number + 1) (left_at failing idling number coming)
rest_of_more failing idling zero number coming is =
    let none : listed_from failing idling (number + 1) ≡ 0 = omega arith in
    rw (none, unlisted_left failing idling number coming is) (others_ahead coming)
rest_of_more failing idling (suc more) number coming is =
    let left : listed_from failing idling (number + 1) ≡ more = omega arith in
    rw left refl

rest_ahead : (failing idling : List ℕ) (number : ℕ) (coming : List (List ℕ)) → drop 1 (answers_ahead failing idling number coming) ≡ answers_ahead failing idling (number + 1) (left_at failing idling number coming)
rest_ahead failing idling number coming = rest_of_more failing idling _ number coming refl

datagrams_of : (coming : List (List ℕ)) → filter_map datagram_of (map Datagram coming) ≡ coming
datagrams_of [] = refl
datagrams_of (bytes ∷ coming) = ap (λ l. bytes ∷ l) (datagrams_of coming)

-- the datagrams among an answer and the answers after it
with_answer : (failing idling : List ℕ) (number : ℕ) (coming : List (List ℕ)) (rest : List Answer) (fails idles : Bool) → is_among failing number ≡ fails → is_among idling number ≡ idles → filter_map datagram_of rest ≡ left_at failing idling number coming → filter_map datagram_of (answer_at failing idling number coming ∷ rest) ≡ coming
with_answer failing idling number coming rest true idles is_fails is_idles are = rw is_fails (rw is_fails at are)
with_answer failing idling number coming rest false true is_fails is_idles are = rw (is_fails, is_idles) (rw (is_fails, is_idles) at are)
with_answer failing idling number [] rest false false is_fails is_idles are = rw (is_fails, is_idles) (rw (is_fails, is_idles) at are)
with_answer failing idling number (bytes ∷ coming) rest false false is_fails is_idles are =
    rw (is_fails, is_idles) (ap (λ l. bytes ∷ l) (rw (is_fails, is_idles) at are))

datagrams_from : (failing idling : List ℕ) (more number : ℕ) (coming : List (List ℕ)) → filter_map datagram_of (answers_from failing idling more number coming) ≡ coming
datagrams_from failing idling zero number coming = datagrams_of coming
datagrams_from failing idling (suc more) number coming =
    with_answer failing idling number coming (answers_from failing idling more (number + 1) (left_at failing idling number coming)) _ _ refl refl
    (datagrams_from failing idling more (number + 1) (left_at failing idling number coming))

-- a datagram that is brought stands behind the others
pub bring_known : (link after : LinkState) (bytes : List ℕ) → after ≡ record link { coming = link.coming ++ bytes ∷ [] } → IfBothKnown (link_known link) (link_known after) (BringsDatagram bytes)
bring_known link after bytes is_after =
    rw is_after
    (both_known_for link.calls link.calls _ _ (BringsDatagram bytes)
    (λ known. record {
      answers = refl;
      ahead =
          datagrams_from link.failing link.idling _ link.recvs (link.coming ++ bytes ∷ [])
          ∙ ap (λ l. l ++ bytes ∷ []) (sym (datagrams_from link.failing link.idling _ link.recvs link.coming));
      gone = refl;
      waits = refl;
      waiting = refl;
      sends = refl;
      calls = refl;
    }))

-- ---- the answers so far

is_other : (recvs number calls : ℕ) → (number < recvs) ⊎ (2 ^ 62 < calls) → calls ≤ 2 ^ 62 → nat_eq recvs number ≡ false
is_other recvs number calls (inl earlier) known = grind (arith, nat_tests)
is_other recvs number calls (inr over) known = absurd (omega arith)

no_number : (came : List (ℕ × List ℕ)) (recvs calls : ℕ) → CameBefore came recvs calls → calls ≤ 2 ^ 62 → lookup (nat_eq recvs) came ≡ None
no_number [] recvs calls before known = refl
no_number (heard ∷ came) recvs calls before known =
    let here : (heard.0 < recvs) ⊎ (2 ^ 62 < calls) = All-head (λ (h : ℕ × List ℕ). (h.0 < recvs) ⊎ (2 ^ 62 < calls)) heard came before in
    let other : nat_eq recvs heard.0 ≡ false = is_other recvs heard.0 calls here known in
    let others : lookup (nat_eq recvs) came ≡ None =
    no_number came recvs calls (All-tail (λ (h : ℕ × List ℕ). (h.0 < recvs) ⊎ (2 ^ 62 < calls)) heard came before) known in
    rw (other, others) refl

found_behind : (first : List ℕ) (came : List (ℕ × List ℕ)) (recvs : ℕ) (bytes : List ℕ) (b : Bool) → cond b (Some first) (lookup (nat_eq recvs) came) ≡ None → (lookup (nat_eq recvs) came ≡ None → lookup (nat_eq recvs) (came ++ (recvs, bytes) ∷ []) ≡ Some bytes) → cond b (Some first) (lookup (nat_eq recvs) (came ++ (recvs, bytes) ∷ [])) ≡ Some bytes
found_behind first came recvs bytes true none behind = cc
found_behind first came recvs bytes false none behind = behind none

found_last : (came : List (ℕ × List ℕ)) (recvs : ℕ) (bytes : List ℕ) → lookup (nat_eq recvs) came ≡ None → lookup (nat_eq recvs) (came ++ (recvs, bytes) ∷ []) ≡ Some bytes
found_last [] recvs bytes none = let same : nat_eq recvs recvs ≡ true = grind (arith, nat_tests) in rw same refl
found_last (heard ∷ came) recvs bytes none = found_behind heard.1 came recvs bytes (nat_eq recvs heard.0) none (found_last came recvs bytes)

found_before : (came : List (ℕ × List ℕ)) (number recvs : ℕ) (bytes : List ℕ) → number < recvs → lookup (nat_eq number) (came ++ (recvs, bytes) ∷ []) ≡ lookup (nat_eq number) came
found_before [] number recvs bytes earlier =
    let other : nat_eq number recvs ≡ false = grind (arith, nat_tests) in rw other refl
found_before (heard ∷ came) number recvs bytes earlier =
    ap (cond (nat_eq number heard.0) (Some heard.1)) (found_before came number recvs bytes earlier)

-- what was answered before doesn't change by a datagram that comes
answered_before : (failing : List ℕ) (came : List (ℕ × List ℕ)) (recvs : ℕ) (bytes : List ℕ) (number : ℕ) → number ≤ recvs → answered failing (came ++ (recvs, bytes) ∷ []) number ≡ answered failing came number
answered_before failing came recvs bytes zero earlier = refl
answered_before failing came recvs bytes (suc number) earlier =
    let others = answered_before failing came recvs bytes number (omega arith) in
    rw (others, found_before came number recvs bytes (omega arith)) refl

came_later : (recvs calls more over : ℕ) → recvs ≤ more → calls ≤ over → (heard : ℕ × List ℕ) → (heard.0 < recvs) ⊎ (2 ^ 62 < calls) → (heard.0 < more) ⊎ (2 ^ 62 < over)
came_later recvs calls more over later past heard (inl earlier) = inl (omega arith)
came_later recvs calls more over later past heard (inr known) = inr (omega arith)

now_or_over : (recvs calls more over : ℕ) → recvs ≤ calls → calls < 2 ^ 64 → more ≡ one_more recvs → over ≡ one_more calls → (recvs < more) ⊎ (more ≤ recvs) → (recvs < more) ⊎ (2 ^ 62 < over)
now_or_over recvs calls more over within counts is_more is_over (inl now) = inl now
now_or_over recvs calls more over within counts is_more is_over (inr last) = inr (omega arith)

-- one more datagram came
pub CameBefore-then : (came : List (ℕ × List ℕ)) (recvs calls more over : ℕ) (bytes : List ℕ) → CameBefore came recvs calls → recvs ≤ calls → calls < 2 ^ 64 → more ≡ one_more recvs → over ≡ one_more calls → CameBefore (came ++ (recvs, bytes) ∷ []) more over
CameBefore-then came recvs calls more over bytes before within counts is_more is_over =
    All-push (λ (heard : ℕ × List ℕ). (heard.0 < more) ⊎ (2 ^ 62 < over)) came (recvs, bytes)
    (λ k d inside. came_later recvs calls more over (omega arith) (omega arith) (get_or came k d) (before k d inside))
    (now_or_over recvs calls more over within counts is_more is_over (cases_lt recvs more))

-- one more answer
more_answered : (failing : List ℕ) (came : List (ℕ × List ℕ)) (recvs calls : ℕ) → recvs ≤ calls → calls ≤ 2 ^ 62 → answered failing came (one_more recvs) ≡ answered failing came recvs ++ answered_at failing came recvs ∷ []
more_answered failing came recvs calls within known =
    let next : one_more recvs ≡ suc recvs = omega arith in rw next refl

-- ---- a recv

-- what is ahead after a recv, by what it leaves of the datagrams
then_ahead : (failing idling : List ℕ) (recvs calls : ℕ) (coming left : List (List ℕ)) → recvs ≤ calls → calls ≤ 2 ^ 62 → left_at failing idling recvs coming ≡ left → answers_ahead failing idling (one_more recvs) left ≡ drop 1 (answers_ahead failing idling recvs coming)
then_ahead failing idling recvs calls coming left within known is =
    let next : one_more recvs ≡ recvs + 1 = omega arith in
    rw (next, ← is) (sym (rest_ahead failing idling recvs coming))

-- what was answered after a recv that gave no datagram
then_answered : (failing : List ℕ) (came : List (ℕ × List ℕ)) (recvs calls : ℕ) (answer : Answer) → CameBefore came recvs calls → recvs ≤ calls → calls ≤ 2 ^ 62 → (if is_among failing recvs then Failed else Idle) ≡ answer → answered failing came (one_more recvs) ≡ answered failing came recvs ++ answer ∷ []
then_answered failing came recvs calls answer before within known is =
    more_answered failing came recvs calls within known
    ∙ rw (no_number came recvs calls before known) (ap (λ a. answered failing came recvs ++ a ∷ []) is)

-- what was answered after one that gave a datagram
then_came : (failing : List ℕ) (came : List (ℕ × List ℕ)) (recvs calls : ℕ) (bytes : List ℕ) → CameBefore came recvs calls → recvs ≤ calls → calls ≤ 2 ^ 62 → answered failing (came ++ (recvs, bytes) ∷ []) (one_more recvs) ≡ answered failing came recvs ++ Datagram bytes ∷ []
then_came failing came recvs calls bytes before within known =
    let none : lookup (nat_eq recvs) came ≡ None = no_number came recvs calls before known in
    more_answered failing (came ++ (recvs, bytes) ∷ []) recvs calls within known
    ∙ rw (answered_before failing came recvs bytes recvs (omega arith), found_last came recvs bytes none) refl

idle_answer : (failing idling : List ℕ) (recvs : ℕ) (coming : List (List ℕ)) → is_among failing recvs ≡ false → (Contains idling recvs) ⊎ (coming ≡ []) → (b : Bool) → is_among idling recvs ≡ b → (answer_at failing idling recvs coming ≡ Idle) × (left_at failing idling recvs coming ≡ coming)
idle_answer failing idling recvs coming fails nothing true idles = rw (fails, idles) (refl, refl)
idle_answer failing idling recvs coming fails (inl listed) false idles =
    let is : is_among idling recvs ≡ true = is_listed idling recvs listed in cc
idle_answer failing idling recvs coming fails (inr none) false idles = rw (fails, idles, none) (refl, refl)

-- what a recv answers, by what it leaves
hears_as : (before : LinkState) (result : Came) (new : List ℕ) (came : List (ℕ × List ℕ)) (coming : List (List ℕ)) (calls : ℕ) → IsCounted before → before.calls ≤ 2 ^ 62
    → answer_at before.failing before.idling before.recvs before.coming ≡ answer_of result new → left_at before.failing before.idling before.recvs before.coming ≡ coming
    → answered before.failing came (one_more before.recvs) ≡ answered before.failing before.came before.recvs ++ answer_of result new ∷ []
    → LinkReceives result new (traffic_of before) (traffic_of (record before { came = came; coming = coming; recvs = one_more before.recvs; calls = calls }))
hears_as before result new came coming calls counted known answer left are =
    let next = next_ahead before.failing before.idling before.recvs before.coming ∙ answer in
    record {
      next = sym next;
      answers = are ∙ ap (λ a. answered before.failing before.came before.recvs ++ a ∷ []) (sym next);
      ahead = then_ahead before.failing before.idling before.recvs before.calls before.coming coming counted.recvs known left;
      gone = refl;
      waits = refl;
      waiting = refl;
      sends = refl;
    }

pub Hears-receives : (result : Came) (old new : List ℕ) (before after : LinkState) → IsCounted before → MemLinkReceives result old new before after → before.calls ≤ 2 ^ 62 → LinkReceives result new (traffic_of before) (traffic_of after)
Hears-receives (recv.Datagram n) old new before after counted (unlisted, unidle, first, within, rest, is_after) known =
    let fails : is_among before.failing before.recvs ≡ false = is_unlisted before.failing before.recvs unlisted in
    let idles : is_among before.idling before.recvs ≡ false = is_unlisted before.idling before.recvs unidle in
    rw is_after
    (hears_as before (recv.Datagram n) new _ _ _ counted known (rw (fails, idles, first) refl) (rw (fails, idles) refl)
    (then_came before.failing before.came before.recvs before.calls (take n new) counted.came counted.recvs known))
Hears-receives recv.Idle old new before after counted (unlisted, nothing, same, is_after) known =
    let fails : is_among before.failing before.recvs ≡ false = is_unlisted before.failing before.recvs unlisted in
    let both = idle_answer before.failing before.idling before.recvs before.coming fails nothing _ refl in
    rw is_after
    (hears_as before recv.Idle new _ _ _ counted known both.0 both.1
    (then_answered before.failing before.came before.recvs before.calls Idle counted.came counted.recvs known (rw fails refl)))
Hears-receives recv.Failed old new before after counted (listed, same, is_after) known =
    let fails : is_among before.failing before.recvs ≡ true = is_listed before.failing before.recvs listed in
    rw is_after
    (hears_as before recv.Failed new _ _ _ counted known (rw fails refl) (rw fails refl)
    (then_answered before.failing before.came before.recvs before.calls Failed counted.came counted.recvs known (rw fails refl)))

pub hears_known : (result : Came) (old new : List ℕ) (before after : LinkState) → IsCounted before → MemLinkReceives result old new before after → IfBothKnown (link_known before) (link_known after) (LinkReceives result new)
hears_known result old new before after counted hears =
    both_known_for before.calls after.calls (traffic_of before) (traffic_of after) (LinkReceives result new)
    (Hears-receives result old new before after counted hears)

-- ---- sends

neither : (a b : Bool) → (a || b) ≡ false → (a ≡ false) × (b ≡ false)
neither true b is = cc
neither false b is = (refl, is)

one_more_taken : (fail number least more : ℕ) → nat_eq number fail ≡ false → more ≡ least - 1 → (if nat_le (number + 1) fail then min (fail - (number + 1)) more else more) ≡ (if nat_le number fail then min (fail - number) least else least) - 1
one_more_taken fail number least more other is = grind (arith, nat_tests)

-- one more send was taken
taken_then : (failing : List ℕ) (number room : ℕ) → is_among failing number ≡ false → taken_from failing (number + 1) (room - 1) ≡ taken_from failing number room - 1
taken_then [] number room fails = refl
taken_then (fail ∷ failing) number room fails =
    let others = neither (nat_eq number fail) (is_among failing number) fails in
    one_more_taken fail number _ _ others.0 (taken_then failing number room others.1)

none_here : (fail number least : ℕ) → nat_eq number fail ≡ true → (if nat_le number fail then min (fail - number) least else least) ≡ 0
none_here fail number least same = grind (arith, nat_tests)

none_else : (fail number least : ℕ) → least ≡ 0 → (if nat_le number fail then min (fail - number) least else least) ≡ 0
none_else fail number least none = grind (arith, nat_tests)

-- none is taken where its number is to fail
none_listed : (failing : List ℕ) (number room : ℕ) (b : Bool) → (b || is_among failing number) ≡ true → (fail : ℕ) → nat_eq number fail ≡ b → (is_among failing number ≡ true → taken_from failing number room ≡ 0) → taken_from (fail ∷ failing) number room ≡ 0
none_listed failing number room true fails fail is others = none_here fail number _ is
none_listed failing number room false fails fail is others = none_else fail number _ (others fails)

none_where_listed : (failing : List ℕ) (number room : ℕ) → is_among failing number ≡ true → taken_from failing number room ≡ 0
none_where_listed [] number room fails = cc
none_where_listed (fail ∷ failing) number room fails =
    none_listed failing number room _ fails fail refl (none_where_listed failing number room)

-- none is taken where no room is left
none_left : (failing : List ℕ) (number : ℕ) → taken_from failing number 0 ≡ 0
none_left [] number = refl
none_left (fail ∷ failing) number = none_else fail number _ (none_left failing number)

some_here : (fail number least : ℕ) → nat_eq number fail ≡ false → 0 < least → 0 < (if nat_le number fail then min (fail - number) least else least)
some_here fail number least other some = grind (arith, nat_tests)

-- one is taken elsewhere
some_taken : (failing : List ℕ) (number room : ℕ) → is_among failing number ≡ false → 0 < room → 0 < taken_from failing number room
some_taken [] number room fails left = left
some_taken (fail ∷ failing) number room fails left =
    let others = neither (nat_eq number fail) (is_among failing number) fails in
    some_here fail number _ others.0 (some_taken failing number room others.1 left)

none_taken : (link : LinkState) (bytes : List ℕ) → Contains link.failing link.sends ⊎ (link.room ≡ 0) ⊎ (longest_kept < length bytes) → length bytes ≤ longest_kept → taken_from link.failing link.sends link.room ≡ 0
none_taken link bytes (inl listed) short = none_where_listed link.failing link.sends link.room (is_listed link.failing link.sends listed)
none_taken link bytes (inr (inl full)) short = rw full (none_left link.failing link.sends)
none_taken link bytes (inr (inr long)) short = absurd (omega arith)

pub Carries-sends : (result : Sent) (bytes : List ℕ) (before after : LinkState) → IsCounted before → MemLinkSends result bytes before after → before.calls ≤ 2 ^ 62 → LinkSends result bytes (traffic_of before) (traffic_of after)
Carries-sends send.Sent bytes before after counted (unlisted, room, short, is_after) known =
    let fails : is_among before.failing before.sends ≡ false = is_unlisted before.failing before.sends unlisted in
    let some : 0 < taken_from before.failing before.sends before.room = some_taken before.failing before.sends before.room fails room in
    let sends = counted.sends in
    let next : one_more before.sends ≡ before.sends + 1 = omega arith in
    rw is_after (
      (λ none. let zero_taken : taken_from before.failing before.sends before.room ≡ 0 = cc in omega arith),
      refl,
      refl,
      refl,
      rw next (ap Some (taken_then before.failing before.sends before.room fails)),
    )
Carries-sends send.Failed bytes before after counted (reason, is_after) known =
    rw is_after ((λ short. ap Some (none_taken before bytes reason short)), refl, refl, refl)

pub carries_known : (result : Sent) (bytes : List ℕ) (before after : LinkState) → IsCounted before → MemLinkSends result bytes before after → IfBothKnown (link_known before) (link_known after) (LinkSends result bytes)
carries_known result bytes before after counted carries =
    both_known_for before.calls after.calls (traffic_of before) (traffic_of after) (LinkSends result bytes)
    (Carries-sends result bytes before after counted carries)

-- ---- rests

-- a link that tells didn't rest so long that a wait isn't counted
whole_wait : (wait calls millis : ℕ) → wait ≤ calls * 4294967295 → calls ≤ 2 ^ 62 → millis < 2 ^ 32 → min (wait + millis) longest_wait ≡ wait + millis
whole_wait wait calls millis within known short = omega arith

pub rest_known : (millis : ℕ) (before after : LinkState) → IsCounted before → millis < 2 ^ 32 → after ≡ after_rest millis before → IfBothKnown (link_known before) (link_known after) (LinkRests millis)
rest_known millis before after counted short is_after =
    rw is_after
    (both_known_for before.calls (one_more before.calls) (traffic_of before) (traffic_of (after_rest millis before)) (LinkRests millis)
    (λ known. record {
      waiting = whole_wait before.waiting before.calls millis counted.waiting known short;
      answers = refl;
      ahead = refl;
      gone = refl;
      waits = refl;
      sends = refl;
    }))
