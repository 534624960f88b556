-- Runs grow at their end, as a loop makes them, and are joined and parted.
use Rattle.std.proofs.Common.{ℕ, ◌≡◌, ◌+◌, true, false, List, [], ◌∷◌, ◌++◌, length, refl, sym, ap, ◌∙◌, append_assoc, length-append, subst, arith}
use Rattle.std.proofs.lemmas.List.{append-nil}
use Rattle.dcp_collect.specs.declared.taken.Taken.{Taken}
use Rattle.dcp_collect.specs.CollectorState.{CollectorState, ready, after_item}
use Rattle.dcp_collect.specs.Runs.{CollectorItem, IsItem, CollectorTakes, CollectorGives, CollectorSteps}
use Rattle.law_collect.specs.Laws.{GivesSoFar, StepsJoin, StepsPart, StepsCount}
use Rattle.law_collect.proofs.Stays.{take_next, take_reach}

-- one item more
pub given_more : (items : List CollectorItem) (c d : CollectorState) (item : CollectorItem)
    → GivesSoFar c items d → ready d ≡ true → IsItem d item → GivesSoFar c (items ++ item ∷ []) (after_item d)
given_more [] c d item g r is = (ap ready (sym g) ∙ r, subst (λ x. IsItem x item) g is, ap after_item g)
given_more (first ∷ items) c d item g r is = (g.0, g.1, given_more items (after_item c) d item g.2 r is)

-- all that was ready
pub given_all : (items : List CollectorItem) (c d : CollectorState) → GivesSoFar c items d → ready d ≡ false → CollectorGives c items d
given_all [] c d g r = (ap ready (sym g) ∙ r, g)
given_all (first ∷ items) c d g r = (g.0, g.1, given_all items (after_item c) d g.2 r)

-- what is given so far, and then all that is left
pub gives_after : (items more : List CollectorItem) (c d e : CollectorState) → GivesSoFar c items d → CollectorGives d more e → CollectorGives c (items ++ more) e
gives_after [] more c d e gives rest = subst (λ (s : CollectorState). CollectorGives s more e) gives rest
gives_after (item ∷ items) more c d e gives rest = (gives.0, gives.1, gives_after items more (after_item c) d e gives.2 rest)

-- a whole giving is a giving so far, after which nothing is ready
pub gives_given : (items : List CollectorItem) (c d : CollectorState) → CollectorGives c items d → GivesSoFar c items d × (ready d ≡ false)
gives_given [] c d g = (g.1, ap ready g.1 ∙ g.0)
gives_given (first ∷ items) c d g =
    let rest = gives_given items (after_item c) d g.2 in
    ((g.0, g.1, rest.0), rest.1)

pub steps_join : StepsJoin
steps_join c mid after [] later [] answers' given given' s t =
    subst (λ items. CollectorSteps c later answers' items after) (ap (λ l. l ++ given') (sym s.0)) (subst (λ m. CollectorSteps m later answers' given' after) s.1 t)
steps_join c mid after [] later (a ∷ answers) answers' given given' s t = absurd s
steps_join c mid after (datagram ∷ before) later [] answers' given given' s t = absurd s
steps_join c mid after (datagram ∷ before) later (a ∷ answers) answers' given given' (now, more, kept, next, takes, gives, steps, are) t = (
  now,
  more ++ given',
  kept,
  next,
  takes,
  gives,
  steps_join next mid after before later answers answers' more given' steps t,
  ap (λ l. l ++ given') are ∙ append_assoc now more given',
)

-- one datagram
pub steps_one : (c kept after : CollectorState) (datagram : List ℕ) (a : Taken) (now : List CollectorItem)
    → CollectorTakes c datagram a kept → CollectorGives kept now after → CollectorSteps c (datagram ∷ []) (a ∷ []) now after
steps_one c kept after datagram a now takes gives = (now, [], kept, after, takes, gives, (refl, refl), sym (append-nil now))

-- one datagram more, and what was ready after it
pub steps_more : (datagrams : List (List ℕ)) (answers : List Taken) (given now : List CollectorItem) (c d kept after : CollectorState) (datagram : List ℕ) (a : Taken)
    → CollectorSteps c datagrams answers given d → CollectorTakes d datagram a kept → CollectorGives kept now after
    → CollectorSteps c (datagrams ++ datagram ∷ []) (answers ++ a ∷ []) (given ++ now) after
steps_more datagrams answers given now c d kept after datagram a steps takes gives =
    steps_join c d after datagrams (datagram ∷ []) answers (a ∷ []) given now steps (steps_one d kept after datagram a now takes gives)

pub steps_part : StepsPart
steps_part c after [] later answers given s = (c, [], answers, [], given, (refl, refl), s, refl, refl)
steps_part c after (datagram ∷ before) later [] given s = absurd s
steps_part c after (datagram ∷ before) later (a ∷ answers) given (now, more, kept, next, takes, gives, steps, are) =
    let (mid, first, last, early, late, front, back, answers_are, items) = steps_part next after before later answers more steps in (
      mid,
      a ∷ first,
      last,
      now ++ early,
      late,
      (now, early, kept, next, takes, gives, front, refl),
      back,
      ap (λ l. a ∷ l) answers_are,
      are ∙ ap (λ l. now ++ l) items ∙ sym (append_assoc now early late),
    )

pub gives_count : (items : List CollectorItem) (c d : CollectorState) → CollectorGives c items d → d.next ≡ c.next + length items
gives_count [] c d g = ap (λ m. m.next) g.1 ∙ omega arith
gives_count (first ∷ items) c d g = gives_count items (after_item c) d g.2 ∙ omega arith

-- ---- the reach stays as it is

pub gives_reach : (items : List CollectorItem) (c d : CollectorState) → CollectorGives c items d → d.reach ≡ c.reach
gives_reach [] c d g = ap (λ m. m.reach) g.1
gives_reach (first ∷ items) c d g = gives_reach items (after_item c) d g.2

pub takes_reach : (c kept : CollectorState) (datagram : List ℕ) (a : Taken) → CollectorTakes c datagram a kept → kept.reach ≡ c.reach
takes_reach c kept datagram a takes = ap (λ m. m.reach) takes.after_is ∙ take_reach c takes.read

pub steps_reach : (c d : CollectorState) (datagrams : List (List ℕ)) (answers : List Taken) (given : List CollectorItem) → CollectorSteps c datagrams answers given d → d.reach ≡ c.reach
steps_reach c d [] [] given s = ap (λ m. m.reach) s.1
steps_reach c d [] (a ∷ answers) given s = absurd s
steps_reach c d (datagram ∷ datagrams) [] given s = absurd s
steps_reach c d (datagram ∷ datagrams) (a ∷ answers) given (now, more, kept, mid, takes, gives, steps, are) =
    steps_reach mid d datagrams answers more steps ∙ (gives_reach now kept mid gives ∙ takes_reach c kept datagram a takes)

-- ---- the number of each item

pub steps_count : StepsCount
steps_count c after [] [] given s =
    let n : length given ≡ 0 = ap length s.0 in
    ap (λ m. m.next) s.1 ∙ omega (arith, n)
steps_count c after [] (a ∷ answers) given s = absurd s
steps_count c after (datagram ∷ datagrams) [] given s = absurd s
steps_count c after (datagram ∷ datagrams) (a ∷ answers) given (now, more, kept, mid, takes, gives, steps, are) =
    let start : kept.next ≡ c.next = ap (λ m. m.next) takes.after_is ∙ take_next c takes.read in
    let first : mid.next ≡ kept.next + length now = gives_count now kept mid gives in
    let rest : after.next ≡ mid.next + length more = steps_count mid after datagrams answers more steps in
    let size : length given ≡ length now + length more = ap length are ∙ length-append now more in
    omega (arith, start, first, rest, size)
