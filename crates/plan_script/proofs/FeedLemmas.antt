-- Feeds with one more, and with more deliveries for the last one.
use Rattle.std.proofs.Common.{◌≡◌, ℕ, ◌+◌, ◌≤◌, nat_lt, Bool, true, false, List, [], ◌∷◌, ◌++◌, length, sum_by, Option, Some, None, option_map, refl, sym, ap, subst, ◌∙◌, arith}
use Rattle.std.specs.Prelude.{◌||◌}
use Rattle.std.proofs.lemmas.Bool.Decides.{nat_tests}
use Rattle.std.proofs.lemmas.List.{length-append}
use Rattle.std.proofs.lemmas.List.Sums.{sum_by-append, sum_by_push}
use Rattle.drm_schedule.specs.declared.plan.Plan.{Plan}
use Rattle.plan_script.specs.declared.delivery.Delivery.{Delivery}
use Rattle.plan_script.specs.declared.feeds.Feeds.{Feeds}
use Rattle.plan_script.specs.Script.{is_too_long, delivery_size}
use Rattle.plan_script.specs.Steps.{AreCounted, begun, feeds_in, is_full, to_last, with_all}

to_last_push : (more : List Delivery) (closed : List (List Delivery)) (feed : List Delivery) → to_last more (closed ++ feed ∷ []) ≡ closed ++ (feed ++ more) ∷ []
to_last_push more [] feed = refl
to_last_push more (c ∷ []) feed = refl
to_last_push more (c ∷ d ∷ closed) feed = ap (λ (fs : List (List Delivery)). c ∷ fs) (to_last_push more (d ∷ closed) feed)

-- the feeds that are kept, with the last one
whole : (r : Feeds) (feed : List Delivery) → r.current ≡ Some feed → feeds_in r ≡ r.closed ++ feed ∷ []
whole r feed is = rw is refl

with_more : (plan : Plan) (more : List Delivery) (r : Feeds) (feed : List Delivery) → r.current ≡ Some feed → feeds_in (with_all plan more r) ≡ r.closed ++ (feed ++ more) ∷ []
with_more plan more r feed is = rw is refl

pub more_feeds : (plan : Plan) (more : List Delivery) (r : Feeds) (feed : List Delivery) → r.current ≡ Some feed → feeds_in (with_all plan more r) ≡ to_last more (feeds_in r)
more_feeds plan more r feed is =
    with_more plan more r feed is ∙ sym (to_last_push more r.closed feed) ∙ ap (to_last more) (sym (whole r feed is))

more_sum : (f : List Delivery → ℕ) (more : List Delivery) (closed : List (List Delivery)) (feed : List Delivery) (n : ℕ) → f (feed ++ more) ≡ f feed + n → sum_by f (closed ++ (feed ++ more) ∷ []) ≡ sum_by f (closed ++ feed ∷ []) + n
more_sum f more closed feed n both = omega (arith, both, sum_by_push f closed (feed ++ more), sum_by_push f closed feed)

more_count : (plan : Plan) (more : List Delivery) (r : Feeds) (feed : List Delivery) → AreCounted plan r → r.current ≡ Some feed → r.count + length more ≡ sum_by length (feeds_in (with_all plan more r))
more_count plan more r feed counted is =
    let old : sum_by length (feeds_in r) ≡ sum_by length (r.closed ++ feed ∷ []) = ap (λ (fs : List (List Delivery)). sum_by length fs) (whole r feed is) in
    let new : sum_by length (feeds_in (with_all plan more r)) ≡ sum_by length (r.closed ++ (feed ++ more) ∷ []) = ap (λ (fs : List (List Delivery)). sum_by length fs) (with_more plan more r feed is) in
    omega (arith, counted.count, old, new, more_sum length more r.closed feed (length more) (length-append feed more))

more_bytes : (plan : Plan) (more : List Delivery) (r : Feeds) (feed : List Delivery) → AreCounted plan r → r.current ≡ Some feed → r.bytes + sum_by (delivery_size plan) more ≡ sum_by (sum_by (delivery_size plan)) (feeds_in (with_all plan more r))
more_bytes plan more r feed counted is =
    let old : sum_by (sum_by (delivery_size plan)) (feeds_in r) ≡ sum_by (sum_by (delivery_size plan)) (r.closed ++ feed ∷ []) = ap (λ (fs : List (List Delivery)). sum_by (sum_by (delivery_size plan)) fs) (whole r feed is) in
    let new : sum_by (sum_by (delivery_size plan)) (feeds_in (with_all plan more r)) ≡ sum_by (sum_by (delivery_size plan)) (r.closed ++ (feed ++ more) ∷ []) = ap (λ (fs : List (List Delivery)). sum_by (sum_by (delivery_size plan)) fs) (with_more plan more r feed is) in
    omega (arith, counted.bytes, old, new, more_sum (sum_by (delivery_size plan)) more r.closed feed (sum_by (delivery_size plan) more) (sum_by-append (delivery_size plan) feed more))

mapped_some : (more : List Delivery) (o : Option (List Delivery)) (feed : List Delivery) → o ≡ Some feed → option_map (λ f. f ++ more) o ≡ None → ⊥
mapped_some more o feed is none =
    let here : Some (feed ++ more) ≡ None = rw is at none in
    absurd cc

pub more_counted : (plan : Plan) (more : List Delivery) (r : Feeds) (feed : List Delivery) → AreCounted plan r → r.current ≡ Some feed → is_full (with_all plan more r) ≡ false → AreCounted plan (with_all plan more r)
more_counted plan more r feed counted is fits = record {
  count = more_count plan more r feed counted is;
  bytes = more_bytes plan more r feed counted is;
  few = counted.few;
  closed = λ none. absurd (mapped_some more r.current feed is none);
  fits = fits;
}

few_feeds : (closed : List (List Delivery)) (feed : List Delivery) → length closed ≤ 15 → nat_lt 16 (length (closed ++ feed ∷ [])) ≡ false
few_feeds closed feed few =
    let n = length-append closed (feed ∷ []) in
    grind (arith, nat_tests)

three : (a b c d e : Bool) → a ≡ false → b ≡ d → c ≡ e → (a || b || c) ≡ (d || e)
three a b c d e none is same = rw (none, is, same) refl

pub more_long : (plan : Plan) (more : List Delivery) (r : Feeds) (feed : List Delivery) → AreCounted plan r → r.current ≡ Some feed → is_too_long plan (to_last more (feeds_in r)) ≡ is_full (with_all plan more r)
unfolding is_too_long
more_long plan more r feed counted is =
    subst
    (λ (fs : List (List Delivery)). (nat_lt 16 (length fs) || nat_lt 100000 (sum_by length fs) || nat_lt 268435456 (sum_by (sum_by (delivery_size plan)) fs)) ≡ is_full (with_all plan more r))
    (more_feeds plan more r feed is)
    (three _ _ _ _ _
    (ap (λ (fs : List (List Delivery)). nat_lt 16 (length fs)) (with_more plan more r feed is) ∙ few_feeds r.closed (feed ++ more) counted.few)
    (ap (nat_lt 100000) (sym (more_count plan more r feed counted is)))
    (ap (nat_lt 268435456) (sym (more_bytes plan more r feed counted is))))

-- one more feed
one_sum : (f : List Delivery → ℕ) (feeds : List (List Delivery)) → f [] ≡ 0 → sum_by f (feeds ++ [] ∷ []) ≡ sum_by f feeds
one_sum f feeds none = omega (arith, none, sum_by_push f feeds [])

pub begun_counted : (plan : Plan) (r : Feeds) → AreCounted plan r → length (feeds_in r) ≤ 15 → AreCounted plan (begun r)
begun_counted plan r counted few = record {
  count = counted.count ∙ sym (one_sum length (feeds_in r) refl);
  bytes = counted.bytes ∙ sym (one_sum (sum_by (delivery_size plan)) (feeds_in r) refl);
  few = few;
  closed = λ none. absurd cc;
  fits = counted.fits;
}

begun_rows : (a : Bool) (n c b : ℕ) → (nat_lt 100000 c || nat_lt 268435456 b) ≡ false → a ≡ nat_lt 15 n → (a || nat_lt 100000 c || nat_lt 268435456 b) ≡ nat_lt 15 n
begun_rows true n c b fits is = is
begun_rows false n c b fits is = fits ∙ is

begun_many : (feeds : List (List Delivery)) (feed : List Delivery) → nat_lt 16 (length (feeds ++ feed ∷ [])) ≡ nat_lt 15 (length feeds)
begun_many feeds feed =
    let n : length (feeds ++ feed ∷ []) ≡ length feeds + 1 = length-append feeds (feed ∷ []) in
    grind (arith, nat_tests)

pub begun_long : (plan : Plan) (r : Feeds) → AreCounted plan r → is_too_long plan (feeds_in r ++ [] ∷ []) ≡ nat_lt 15 (length (feeds_in r))
unfolding is_too_long
begun_long plan r counted =
    let count : sum_by length (feeds_in r ++ [] ∷ []) ≡ r.count = one_sum length (feeds_in r) refl ∙ sym counted.count in
    let bytes : sum_by (sum_by (delivery_size plan)) (feeds_in r ++ [] ∷ []) ≡ r.bytes = one_sum (sum_by (delivery_size plan)) (feeds_in r) refl ∙ sym counted.bytes in
    rw (count, bytes) (begun_rows (nat_lt 16 (length (feeds_in r ++ [] ∷ []))) (length (feeds_in r)) r.count r.bytes counted.fits (begun_many (feeds_in r) []))
