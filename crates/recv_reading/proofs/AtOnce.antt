-- How many items one answer more brings.
use Rattle.std.proofs.Common.{◌≡◌, ℕ, zero, suc, ◌+◌, ◌≤◌, ◌⊎◌, inl, inr, List, [], ◌∷◌, ◌++◌, length, take, Option, None, Some, IfSome, refl, ◌∙◌, sym, ap, subst, arith, length-append, add-one}
use Rattle.std.proofs.lemmas.List.{append-nil}
use Rattle.std.proofs.lemmas.List.Elements.{filter_map-append}
use Rattle.drm_links.specs.Link.{Answer, Datagram, Idle, Failed, End, datagram_of}
use Rattle.dcp_collect.specs.declared.taken.Taken.{Taken}
use Rattle.dcp_collect.specs.CollectorState.{CollectorState, made}
use Rattle.dcp_collect.specs.Runs.{CollectorItem, CollectorSteps}
use Rattle.law_collect.specs.Laws.{most_at_once}
use Rattle.law_collect.proofs.AtOnce.{few_at_once}
use Rattle.law_collect.proofs.Runs.{steps_part}
use Rattle.recv_reading.specs.declared.options.ReceiveOptions.{ReceiveOptions}
use Rattle.recv_reading.specs.Ending.{datagrams, CollectorGave, GaveItems, FewMore, FewAtOnce}
use Rattle.recv_reading.proofs.Reaching.{one_way}

-- where there is a number or not
if_some : {A : Type 0} (m : Option ℕ) → A → IfSome m (λ n. A)
if_some None a = tt
if_some (Some n) a = a

if_weaker : {A B : Type 0} (m : Option ℕ) → (A → B) → IfSome m (λ n. A) → IfSome m (λ n. B)
if_weaker None f a = tt
if_weaker (Some n) f a = f a

-- one datagram
one_step : (window reach : ℕ) (first : Option ℕ) (datagrams : List (List ℕ)) (answers : List Taken) (given : List CollectorItem) (mid : CollectorState)
    (bytes : List ℕ) (last : List Taken) (later : List CollectorItem) (end : CollectorState)
    → 1 ≤ window → CollectorSteps (made window reach first) datagrams answers given mid → CollectorSteps mid (bytes ∷ []) last later end
    → (length later ≤ most_at_once window) × IfSome mid.newest (λ n. length later ≤ reach + window)
one_step window reach first datagrams answers given mid bytes [] later end some s t = absurd t
one_step window reach first datagrams answers given mid bytes (a ∷ []) later end some s (now, more, kept, next, takes, gives, steps, are) =
    let few = few_at_once window reach first datagrams answers given mid bytes a kept now next some s takes gives in
    let none : length more ≡ 0 = ap length steps.0 in
    let size : length later ≡ length now = ap length are ∙ (length-append now more ∙ omega (arith, none)) in
    (subst (λ n. n ≤ most_at_once window) (sym size) few.0, subst (λ n. IfSome mid.newest (λ m. n ≤ reach + window)) (sym size) few.1)
one_step window reach first datagrams answers given mid bytes (a ∷ b ∷ last) later end some s (now, more, kept, next, takes, gives, steps, are) = absurd steps

-- a datagram behind those that gave the items before
datagram_more : (rules : ReceiveOptions) (ds : List (List ℕ)) (bytes : List ℕ) (taken taken' : List Taken) (before items : List CollectorItem) (mid end : CollectorState)
    → 1 ≤ rules.window → CollectorSteps (made rules.window rules.reach rules.first) ds taken before mid
    → CollectorSteps (made rules.window rules.reach rules.first) (ds ++ bytes ∷ []) taken' items end → FewMore rules mid before items
datagram_more rules ds bytes taken taken' before items mid end some s t =
    let (half, first, last, now, later, front, back, answers_are, are) = steps_part (made rules.window rules.reach rules.first) end ds (bytes ∷ []) taken' items t in
    let (replies, same, there) = one_way (made rules.window rules.reach rules.first) mid half ds taken first before now s front in
    let few = one_step rules.window rules.reach rules.first ds first now half bytes last later end some front back in
    let size : length items ≡ length before + length later = ap length are ∙ (length-append now later ∙ ap (λ n. n + length later) (ap length same)) in (
      (let f = few.0 in omega (arith, f, size)),
      subst (λ (c : CollectorState). IfSome c.newest (λ n. length items ≤ length before + (rules.reach + rules.window))) there
          (if_weaker half.newest (λ f. omega (arith, f, size)) few.1),
    )

-- the same datagrams
none_more : (rules : ReceiveOptions) (ds : List (List ℕ)) (taken taken' : List Taken) (before items : List CollectorItem) (mid end : CollectorState)
    → CollectorSteps (made rules.window rules.reach rules.first) ds taken before mid → CollectorSteps (made rules.window rules.reach rules.first) ds taken' items end
    → FewMore rules mid before items
none_more rules ds taken taken' before items mid end s t =
    let same : items ≡ before = (one_way (made rules.window rules.reach rules.first) mid end ds taken taken' before items s t).1 in
    let size : length items ≡ length before = ap length same in
    (omega (arith, size), if_some mid.newest (omega (arith, size)))

answer_more : (rules : ReceiveOptions) (xs : List Answer) (x : Answer) (taken : List Taken) (before items : List CollectorItem) (mid : CollectorState) → 1 ≤ rules.window
    → CollectorGave rules xs taken before mid → GaveItems rules (xs ++ x ∷ []) items → FewMore rules mid before items
answer_more rules xs x taken before items mid some s (taken', end, t) =
    by x (subst (λ ds. CollectorSteps (made rules.window rules.reach rules.first) ds taken' items end) (filter_map-append datagram_of xs (x ∷ [])) t)
  where
    same : (y : Answer) → datagrams (y ∷ []) ≡ [] → CollectorSteps (made rules.window rules.reach rules.first) (datagrams xs ++ datagrams (y ∷ [])) taken' items end
        → FewMore rules mid before items
    same y none u =
        none_more rules (datagrams xs) taken taken' before items mid end s
        (subst (λ ds. CollectorSteps (made rules.window rules.reach rules.first) ds taken' items end) (ap (λ l. datagrams xs ++ l) none ∙ append-nil (datagrams xs)) u)

    by : (y : Answer) → CollectorSteps (made rules.window rules.reach rules.first) (datagrams xs ++ datagrams (y ∷ [])) taken' items end
        → FewMore rules mid before items
    by (Datagram bytes) u = datagram_more rules (datagrams xs) bytes taken taken' before items mid end some s u
    by Idle u = same Idle refl u
    by Failed u = same Failed refl u
    by End u = same End refl u

take_more : (k : ℕ) (xs : List Answer) → (take (suc k) xs ≡ take k xs) ⊎ ((x : Answer) × (take (suc k) xs ≡ take k xs ++ x ∷ []))
take_more zero [] = inl refl
take_more (suc k) [] = inl refl
take_more zero (x ∷ xs) = inr (x, refl)
take_more (suc k) (x ∷ xs) =
    elim (take_more k xs) [
      | inl e ↦ inl (ap (λ l. x ∷ l) e)
      | inr h ↦ inr (h.0, ap (λ l. x ∷ l) h.1)
    ]

pub few_given : (rules : ReceiveOptions) (answers : List Answer) → 1 ≤ rules.window → FewAtOnce rules answers
few_given rules answers some k taken before items mid s more =
    elim (take_more k answers) [
      | inl e ↦
          let (taken', end, t) = subst (λ l. GaveItems rules l items) (ap (λ n. take n answers) (add-one k) ∙ e) more in
          none_more rules (datagrams (take k answers)) taken taken' before items mid end s t
      | inr h ↦ answer_more rules (take k answers) h.0 taken before items mid some s (subst (λ l. GaveItems rules l items) (ap (λ n. take n answers) (add-one k) ∙ h.1) more)
    ]
