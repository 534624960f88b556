-- How many items one datagram brings.
use Rattle.std.proofs.Common.{ℕ, ◌≡◌, ◌+◌, ◌≤◌, Bool, true, false, if◌then◌else◌, not, eqb, List, [], ◌∷◌, length, Option, Some, None, inl, ⊎_elim, refl, sym, ap, ◌∙◌, subst, arith}
use Rattle.std.specs.Prelude.{ℤ, pos, negsuc, ◌+ℤ◌, ◌<ℤ◌, ◌≤ℤ◌, IfSome, unwrap_or}
use Rattle.std.specs.List.{AllByRecursion}
use Rattle.std.proofs.lemmas.Bool.{leb-false, ltb-false, or_parts}
use Rattle.std.proofs.lemmas.Int.{ints}
use Rattle.dcp_collect.specs.declared.taken.Field.TheVariants.{Far}
use Rattle.dcp_collect.specs.declared.taken.Taken.{Taken}
use Rattle.dcp_collect.specs.declared.taken.Taken.TheVariants.{Kept, Repeated, Late, Refused, Inconsistent}
use Rattle.dcp_collect.specs.Fragments.{suffice, of_packet}
use Rattle.dcp_collect.specs.Reading.{Incoming, DatagramContent, Unread, Brings}
use Rattle.dcp_collect.specs.CollectorState.{CollectorState, made, ready, ready_by, is_above, is_far, reached, answer_within, answer_at, answer, number_of, after_answer, after_take, after_item}
use Rattle.dcp_collect.specs.Numbers.{newer, end_of}
use Rattle.dcp_collect.specs.Runs.{CollectorItem, CollectorGives, CollectorSteps}
use Rattle.dcp_collect.proofs.Lists.{all_insert, all_filter, all_weaker}
use Rattle.law_collect.specs.Laws.{FewAtOnce}
use Rattle.law_collect.proofs.Numbers.{one_nearest}
use Rattle.law_collect.proofs.Reached.{reached_more, reached_now, reached_less, reached_end, end_more, numbered, ready_why}
use Rattle.law_collect.proofs.Stays.{after_by, take_next}
use Rattle.law_collect.proofs.Runs.{gives_given, gives_count, steps_reach}

-- no number above the newest is kept, or was given
pub record IsReached (window : ℕ) (c : CollectorState) : Type 0 where
  pub window_is : c.window ≡ window
  pub no_end : c.end ≡ None
  pub below : c.next ≤ end_of None c.newest
  pub kept : AllByRecursion (λ f. reached c.newest f.number ≡ true) c.kept

-- ---- it stays so

reached_kept : (window : ℕ) (c : CollectorState) (n : ℤ) (incoming : Incoming) (a : Taken) → IsReached window c → IsReached window (after_answer c n incoming a)
reached_kept window c n incoming a h =
    after_by (IsReached window) c n incoming a h
    (λ m. record {
      window_is = h.window_is;
      no_end = h.no_end;
      below = (let b = h.below in let l = end_more c.newest m in omega (arith, b, l));
      kept = all_insert (λ f. reached (newer c.newest m) f.number ≡ true) (record { number = m; head = incoming.head; payload = incoming.payload }) c.kept
          (reached_now c.newest m)
          (all_weaker (λ f. reached c.newest f.number ≡ true) (λ f. reached (newer c.newest m) f.number ≡ true) (λ f r. reached_more c.newest m f.number r) c.kept h.kept);
    })

pub reached_take : (window : ℕ) (c : CollectorState) (read : DatagramContent) → IsReached window c → IsReached window (after_take c read)
reached_take window c (Unread field) h = h
reached_take window c (Brings incoming) h = reached_kept window c (number_of c incoming) incoming (answer c (Brings incoming)) h

-- what is given next is reached
reached_next : (window : ℕ) (c : CollectorState) → IsReached window c → ready c ≡ true → reached c.newest c.next ≡ true
reached_next window c h r =
    ⊎_elim
    (λ t. numbered (λ f. reached c.newest f.number ≡ true) c.newest c.next (of_packet c.next c.kept) (λ f k. k)
    (all_filter (λ f. reached c.newest f.number ≡ true) (λ f. eqb f.number c.next) c.kept h.kept) (inl t))
    (λ k. reached_less c.newest c.next c.window k)
    (ready_why c h.no_end r)

reached_item : (window : ℕ) (c : CollectorState) → IsReached window c → ready c ≡ true → IsReached window (after_item c)
reached_item window c h r = record {
  window_is = h.window_is;
  no_end = h.no_end;
  below = reached_end c.newest c.next (reached_next window c h r);
  kept = all_weaker (λ f. (reached c.newest f.number ≡ true) × (not (eqb f.number c.next) ≡ true)) (λ f. reached c.newest f.number ≡ true) (λ f k. k.0) _
      (all_filter (λ f. reached c.newest f.number ≡ true) (λ f. not (eqb f.number c.next)) c.kept h.kept);
}

pub reached_gives : (window : ℕ) (items : List CollectorItem) (c d : CollectorState) → IsReached window c → CollectorGives c items d → IsReached window d
reached_gives window [] c d h g = subst (IsReached window) (sym g.1) h
reached_gives window (item ∷ items) c d h g = reached_gives window items (after_item c) d (reached_item window c h g.0) g.2

reached_steps : (window : ℕ) (datagrams : List (List ℕ)) (answers : List Taken) (given : List CollectorItem) (c d : CollectorState)
    → IsReached window c → ready c ≡ false → CollectorSteps c datagrams answers given d → IsReached window d × (ready d ≡ false)
reached_steps window [] [] given c d h quiet s = (subst (IsReached window) (sym s.1) h, ap ready s.1 ∙ quiet)
reached_steps window [] (a ∷ answers) given c d h quiet s = absurd s
reached_steps window (b ∷ datagrams) [] given c d h quiet s = absurd s
reached_steps window (b ∷ datagrams) (a ∷ answers) given c d h quiet (now, more, kept, mid, takes, gives, steps, are) =
    let taken : IsReached window kept = subst (IsReached window) (sym takes.after_is) (reached_take window c takes.read h) in
    reached_steps window datagrams answers more mid d (reached_gives window now kept mid taken gives) (gives_given now kept mid gives).1 steps

pub reached_new : (window reach : ℕ) (first : Option ℕ) → IsReached window (made window reach first)
reached_new window reach first = record { window_is = refl; no_end = refl; below = omega arith; kept = tt }

-- ---- how far the newest number rises

most_same : (m : Option ℕ) → end_of None m ≤ unwrap_or m 0 + 32768
most_same None = omega arith
most_same (Some m) = omega arith

most_newer : (m : Option ℕ) (n : ℕ) → pos n <ℤ (pos (unwrap_or m 0) +ℤ pos 32768) → end_of None (newer m n) ≤ unwrap_or m 0 + 32768
most_newer None n l = omega (arith, ints, l)
most_newer (Some m) n l = omega (arith, ints, l)

most_after : (c : CollectorState) (n : ℤ) (incoming : Incoming) (a : Taken) → n <ℤ (pos (unwrap_or c.newest 0) +ℤ pos 32768)
    → end_of None (after_answer c n incoming a).newest ≤ unwrap_or c.newest 0 + 32768
most_after c (pos n) incoming Kept l = most_newer c.newest n l
most_after c (negsuc n) incoming Kept l = most_same c.newest
most_after c n incoming Repeated l = most_same c.newest
most_after c n incoming Late l = most_same c.newest
most_after c n incoming (Refused field) l = most_same c.newest
most_after c n incoming (Inconsistent kept came) l = most_same c.newest

most_take : (c : CollectorState) (read : DatagramContent) → end_of None (after_take c read).newest ≤ unwrap_or c.newest 0 + 32768
most_take c (Unread field) = most_same c.newest
most_take c (Brings incoming) =
    most_after c (number_of c incoming) incoming (answer c (Brings incoming))
    (one_nearest (unwrap_or c.first incoming.sequence) (unwrap_or c.newest 0) incoming.sequence).1.0

-- by the reach, where there is a newest number

near_after : (c : CollectorState) (n : ℤ) (incoming : Incoming) (a : Taken) (m : ℕ) → c.newest ≡ Some m → n ≤ℤ pos (m + c.reach)
    → end_of None (after_answer c n incoming a).newest ≤ m + c.reach + 1
near_after c (pos n) incoming Kept m e l = subst (λ o. end_of None (newer o n) ≤ m + c.reach + 1) (sym e) (omega (arith, ints, l))
near_after c (negsuc n) incoming Kept m e l = subst (λ o. end_of None o ≤ m + c.reach + 1) (sym e) (omega arith)
near_after c n incoming Repeated m e l = subst (λ o. end_of None o ≤ m + c.reach + 1) (sym e) (omega arith)
near_after c n incoming Late m e l = subst (λ o. end_of None o ≤ m + c.reach + 1) (sym e) (omega arith)
near_after c n incoming (Refused field) m e l = subst (λ o. end_of None o ≤ m + c.reach + 1) (sym e) (omega arith)
near_after c n incoming (Inconsistent kept came) m e l = subst (λ o. end_of None o ≤ m + c.reach + 1) (sym e) (omega arith)

near_of : (c : CollectorState) (n : ℤ) (m : ℕ) → c.newest ≡ Some m → is_far c n ≡ false → n ≤ℤ pos (m + c.reach)
near_of c (negsuc n) m e near = omega (arith, ints)
near_of c (pos n) m e near =
    let l = ltb-false (m + c.reach) n (subst (λ o. is_above o c.reach n ≡ false) e near) in omega (arith, ints, l)

near_by : (c : CollectorState) (n : ℤ) (incoming : Incoming) (m : ℕ) (b : Bool) → is_far c n ≡ b → c.newest ≡ Some m
    → end_of None (after_answer c n incoming (answer_at c n incoming.head)).newest ≤ m + c.reach + 1
near_by c n incoming m true far e =
    subst (λ a. end_of None (after_answer c n incoming a).newest ≤ m + c.reach + 1)
    (sym (ap (λ b. if b then Refused Far else answer_within c n incoming.head) far))
    (subst (λ o. end_of None o ≤ m + c.reach + 1) (sym e) (omega arith))
near_by c n incoming m false near e = near_after c n incoming (answer_at c n incoming.head) m e (near_of c n m e near)

near_take : (c : CollectorState) (read : DatagramContent) (m : ℕ) → c.newest ≡ Some m → end_of None (after_take c read).newest ≤ m + c.reach + 1
near_take c (Unread field) m e = subst (λ o. end_of None o ≤ m + c.reach + 1) (sym e) (omega arith)
near_take c (Brings incoming) m e = near_by c (number_of c incoming) incoming m (is_far c (number_of c incoming)) refl e

pub gives_newest : (items : List CollectorItem) (c d : CollectorState) → CollectorGives c items d → d.newest ≡ c.newest
gives_newest [] c d g = ap (λ m. m.newest) g.1
gives_newest (item ∷ items) c d g = gives_newest items (after_item c) d g.2

-- where nothing is ready, the newest number is within the window
near : (m : Option ℕ) (n : ℕ) → 1 ≤ n → reached m n ≡ false → unwrap_or m 0 + 1 ≤ n
near None n some e = some
near (Some m) n some e = (let l = leb-false n m e in omega (arith, l))

within : (window : ℕ) (c : CollectorState) → 1 ≤ window → IsReached window c → ready c ≡ false → unwrap_or c.newest 0 + 1 ≤ c.next + window
within window c some h quiet =
    subst (λ w. unwrap_or c.newest 0 + 1 ≤ c.next + w) h.window_is
    (near c.newest (c.next + c.window) (let w = h.window_is in omega (arith, w, some))
    (or_parts (suffice (of_packet c.next c.kept)) (reached c.newest (c.next + c.window)) (sym (ap (λ o. ready_by o c) h.no_end) ∙ quiet)).1)

-- so many items lie ahead, where the newest number rose by the reach at most
by_reach : (next window reach count : ℕ) (m : Option ℕ) → unwrap_or m 0 + 1 ≤ next + window
    → ((n : ℕ) → m ≡ Some n → next + count ≤ n + reach + 1) → IfSome m (λ n. count ≤ reach + window)
by_reach next window reach count None ahead few = tt
by_reach next window reach count (Some n) ahead few = let l = few n refl in omega (arith, ahead, l)

pub few_at_once : FewAtOnce
few_at_once window reach first datagrams answers given mid datagram taken kept items after some steps takes gives =
    let (h, quiet) = reached_steps window datagrams answers given (made window reach first) mid (reached_new window reach first) refl steps in
    let now : IsReached window kept = subst (IsReached window) (sym takes.after_is) (reached_take window mid takes.read h) in
    let last = (reached_gives window items kept after now gives).below in
    let end_is : after.newest ≡ (after_take mid takes.read).newest = gives_newest items kept after gives ∙ ap (λ m. m.newest) takes.after_is in
    let newest : end_of None after.newest ≤ unwrap_or mid.newest 0 + 32768
    = subst (λ m. end_of None m ≤ unwrap_or mid.newest 0 + 32768) (sym end_is) (most_take mid takes.read) in
    let ahead = within window mid some h quiet in
    let start : kept.next ≡ mid.next = ap (λ m. m.next) takes.after_is ∙ take_next mid takes.read in
    let count = gives_count items kept after gives in
    let same = steps_reach (made window reach first) mid datagrams answers given steps in (
      omega (arith, last, newest, ahead, start, count),
      by_reach mid.next window reach (length items) mid.newest ahead
          (λ n e. let near = subst (λ m. end_of None m ≤ n + mid.reach + 1) (sym end_is) (near_take mid takes.read n e) in
          let few : end_of None after.newest ≤ n + reach + 1 = omega (arith, near, same) in
          omega (arith, last, few, start, count)),
    )
