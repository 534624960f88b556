-- What came over a link, call by call.
use Rattle.std.proofs.Common.{◌≡◌, ℕ, ◌+◌, ◌≤◌, ◌^◌, length, arith, length-append, List, [], ◌∷◌, ◌++◌, drop, Option, None, Some, refl, sym, ◌∙◌, ap, subst, append_assoc}
use Rattle.std.proofs.lemmas.List.{append-nil}
use Rattle.drm_links.specs.declared.link.Came.{Came}
use Rattle.drm_links.specs.Link.{Answer, Traffic, LinkReceives, answer_of}
use Rattle.drm_links.specs.Dock.{LinkStart, first_traffic, over_of}
use Rattle.drm_links.specs.Known.{Known, IfBothKnown, CountsCall, IfBoth, CountsOneCall}
use Rattle.drm_links.specs.Hearing.{AreNext, HeardThroughout, LinkHeard}
use Rattle.drm_links.specs.Binding.{heard}

next_append : (ahead mid rest : List Answer) (xs ys : List Answer) → AreNext ahead xs mid → AreNext mid ys rest → AreNext ahead (xs ++ ys) rest
next_append ahead mid rest [] ys p q = subst (λ m. AreNext m ys rest) p q
next_append ahead mid rest (x ∷ xs) ys p q = (p.0, next_append (drop 1 ahead) mid rest xs ys p.1 q)

none_through : (a : Option Traffic) → HeardThroughout [] a a
none_through None = tt
none_through (Some t) = record { given = sym (append-nil t.answers); ahead = refl; gone = refl; waits = refl; waiting = refl; sends = refl; calls = omega arith }

pub heard_none : (a : Known Traffic) → LinkHeard a a []
heard_none a = none_through a.contents

then_through : (a b c : Option Traffic) (xs ys : List Answer) → HeardThroughout xs a b → HeardThroughout ys b c → HeardThroughout (xs ++ ys) a c
then_through None None None xs ys p q = tt
then_through None (Some y) None xs ys p q = absurd p
then_through (Some x) None None xs ys p q = let e : length (xs ++ ys) ≡ length xs + length ys = length-append xs ys in omega (arith, p, e)
then_through (Some x) (Some y) None xs ys p q =
    let e : length (xs ++ ys) ≡ length xs + length ys = length-append xs ys in
    let f : y.calls ≡ x.calls + length xs = p.calls in
    omega (arith, q, e, f)
then_through a None (Some z) xs ys p q = absurd q
then_through None (Some y) (Some z) xs ys p q = absurd p
then_through (Some x) (Some y) (Some z) xs ys p q = record {
  given = q.given ∙ ap (λ l. l ++ ys) p.given ∙ append_assoc x.answers xs ys;
  ahead = next_append x.ahead y.ahead z.ahead xs ys p.ahead q.ahead;
  gone = q.gone ∙ p.gone;
  waits = q.waits ∙ p.waits;
  waiting = q.waiting ∙ p.waiting;
  sends = q.sends ∙ p.sends;
  calls =
      let e : length (xs ++ ys) ≡ length xs + length ys = length-append xs ys in
      let f : y.calls ≡ x.calls + length xs = p.calls in
      let g : z.calls ≡ y.calls + length ys = q.calls in
      omega (arith, e, f, g);
}

pub heard_then : (a b c : Known Traffic) (xs ys : List Answer) → LinkHeard a b xs → LinkHeard b c ys → LinkHeard a c (xs ++ ys)
heard_then a b c = then_through a.contents b.contents c.contents

one_through : (a b : Option Traffic) (result : Came) (buf : List ℕ) → IfBoth a b (LinkReceives result buf) → CountsOneCall (λ (t : Traffic). t.calls) a b → HeardThroughout (answer_of result buf ∷ []) a b
one_through None None result buf receives counts = tt
one_through (Some x) None result buf receives counts = let h : 2 ^ 62 ≤ x.calls = counts in omega (arith, h)
one_through None (Some y) result buf receives counts = cc
one_through (Some x) (Some y) result buf receives counts = record {
  given = receives.answers ∙ ap (λ w. x.answers ++ w ∷ []) (sym receives.next);
  ahead = (receives.next, receives.ahead);
  gone = receives.gone;
  waits = receives.waits;
  waiting = receives.waiting;
  sends = receives.sends;
  calls = counts.0;
}

heard_one : (a b : Known Traffic) (result : Came) (buf : List ℕ) → IfBothKnown a b (LinkReceives result buf) → CountsCall (λ (t : Traffic). t.calls) a b → LinkHeard a b (answer_of result buf ∷ [])
heard_one a b = one_through a.contents b.contents

pub heard_more : (a b c : Known Traffic) (xs : List Answer) (result : Came) (buf : List ℕ) → LinkHeard a b xs → IfBothKnown b c (LinkReceives result buf) → CountsCall (λ (t : Traffic). t.calls) b c → LinkHeard a c (xs ++ answer_of result buf ∷ [])
heard_more a b c xs result buf p receives counts = heard_then a b c xs (answer_of result buf ∷ []) p (heard_one b c result buf receives counts)

-- What told how it starts tells still: these answers came over it, and nothing else went.
pub heard_contents : (a b : Option Traffic) (start : LinkStart) (answers : List Answer) → HeardThroughout answers a b → a ≡ Some (first_traffic start) → length answers ≤ 2 ^ 62
    → (traffic : Traffic) × (b ≡ Some traffic) × (over_of traffic ≡ heard answers) × AreNext start.ahead answers traffic.ahead
heard_contents None b start answers answers_heard is few = absurd (cc)
heard_contents (Some x) None start answers answers_heard is few =
    let same : x ≡ first_traffic start = cc in
    let calls : x.calls ≡ 0 = ap (λ (t : Traffic). t.calls) same in
    absurd (omega (arith, answers_heard, calls, few))
heard_contents (Some x) (Some y) start answers answers_heard is few =
    let same : x ≡ first_traffic start = cc in
    let given : y.answers ≡ answers = answers_heard.given ∙ ap (λ (t : Traffic). t.answers ++ answers) same in
    let gone : y.gone ≡ [] = answers_heard.gone ∙ ap (λ (t : Traffic). t.gone) same in
    let waits : y.waits ≡ [] = answers_heard.waits ∙ ap (λ (t : Traffic). t.waits) same in
    let waiting : y.waiting ≡ 0 = answers_heard.waiting ∙ ap (λ (t : Traffic). t.waiting) same in (
      y,
      refl,
      (λ i. record { answers = given i; gone = gone i; rests = waits i ++ waiting i ∷ [] }),
      subst (λ (t : Traffic). AreNext t.ahead answers y.ahead) same answers_heard.ahead,
    )

-- what was heard of a new link stood ahead of it
pub heard_next : (a b : Option Traffic) (start : LinkStart) (answers : List Answer) → HeardThroughout answers a b → a ≡ Some (first_traffic start) → length answers ≤ 2 ^ 62
    → (rest : List Answer) × AreNext start.ahead answers rest
heard_next a b start answers given is few = let told = heard_contents a b start answers given is few in (told.0.ahead, told.3)
