-- More and more deliveries for the last feed.
use Rattle.std.proofs.Common.{◌≡◌, ℕ, ◌+◌, ◌-◌, ◌<◌, ◌≤◌, suc, nat_lt, Bool, true, false, List, [], ◌∷◌, ◌++◌, map, reverse, length, sum_by, Option, Some, None, option_map, Err, refl, sym, ap, subst, ◌∙◌, append_assoc, arith}
use Rattle.std.specs.Prelude.{◌||◌, ◌&&◌, nat_le}
use Rattle.std.proofs.lemmas.Bool.Decides.{nat_tests}
use Rattle.drm_schedule.specs.Valid.{IsSchedule}
use Rattle.plan_script.specs.declared.line.Delivers.{Delivers}
use Rattle.plan_script.specs.declared.line.Delivers.TheVariants as delivers
use Rattle.std.specs.List.{flat_map, range_with_len}
use Rattle.std.proofs.lemmas.List.{append-nil, length-append, reverse-append}
use Rattle.std.proofs.lemmas.List.Sums.{sum_by-append}
use Rattle.std.proofs.lemmas.List.FromFn.{map-range_with_len_more}
use Rattle.drm_schedule.specs.declared.plan.Plan.{Plan}
use Rattle.plan_script.specs.declared.delivery.Delivery.{Delivery}
use Rattle.plan_script.specs.declared.fault.ScriptFault.{ScriptFault}
use Rattle.plan_script.specs.declared.fault.ScriptFault.TheVariants as faults
use Rattle.plan_script.specs.declared.feeds.Feeds.{Feeds}
use Rattle.drm_timeline.specs.Numbers.{frame_count}
use Rattle.plan_script.specs.Script.{delivery_size, delivery, all_of, fragment_count, has_packet, in_schedule}
use Rattle.plan_script.specs.Steps.{with_all, is_full, KeepsPackets}

feed_none : (o : Option (List Delivery)) → option_map (λ feed. feed ++ []) o ≡ o
feed_none None = refl
feed_none (Some feed) = ap (λ (f : List Delivery). Some f) (append-nil feed)

feed_both : (a b : List Delivery) (o : Option (List Delivery)) → option_map (λ feed. feed ++ (a ++ b)) o ≡ option_map (λ feed. feed ++ b) (option_map (λ feed. feed ++ a) o)
feed_both a b None = refl
feed_both a b (Some feed) = ap (λ (f : List Delivery). Some f) (sym (append_assoc feed a b))

pub with_none : (plan : Plan) (r : Feeds) → with_all plan [] r ≡ r
with_none plan r =
    let zero_count : r.count + 0 ≡ r.count = omega arith in
    let zero_bytes : r.bytes + 0 ≡ r.bytes = omega arith in
    rw (feed_none r.current, zero_count, zero_bytes) refl

pub with_both : (plan : Plan) (a b : List Delivery) (r : Feeds) → with_all plan (a ++ b) r ≡ with_all plan b (with_all plan a r)
with_both plan a b r =
    let counts : r.count + length (a ++ b) ≡ r.count + length a + length b = omega (arith, length-append a b) in
    let sizes : r.bytes + sum_by (delivery_size plan) (a ++ b) ≡ r.bytes + sum_by (delivery_size plan) a + sum_by (delivery_size plan) b = omega (arith, sum_by-append (delivery_size plan) a b) in
    rw (feed_both a b r.current, counts, sizes) refl

full_more : (c b d e : ℕ) → (nat_lt 100000 c || nat_lt 268435456 b) ≡ true → (nat_lt 100000 (c + d) || nat_lt 268435456 (b + e)) ≡ true
full_more c b d e full = grind arith

-- what has passed a limit passes it with more
full_on : (plan : Plan) (a b : List Delivery) (r : Feeds) → is_full (with_all plan a r) ≡ true → is_full (with_all plan (a ++ b) r) ≡ true
full_on plan a b r full =
    subst (λ (w : Feeds). is_full w ≡ true) (sym (with_both plan a b r)) (full_more (r.count + length a) (r.bytes + sum_by (delivery_size plan) a) (length b) (sum_by (delivery_size plan) b) full)

-- some are kept, and the rest is still to come
pub goes : (plan : Plan) (a rest : List Delivery) (r new whole : Feeds) → with_all plan (a ++ rest) r ≡ whole → new ≡ with_all plan a r → with_all plan rest new ≡ whole
goes plan a rest r new whole so_far is = rw is (sym (with_both plan a rest r) ∙ so_far)

-- some aren't kept, and so not all
pub stops : (p : ScriptFault) (plan : Plan) (n : ℕ) (a rest : List Delivery) (r new other whole : Feeds) → with_all plan (a ++ rest) r ≡ whole → KeepsPackets (Err p) n new (with_all plan a r) → KeepsPackets (Err p) n other whole
stops faults.NoMemory plan n a rest r new other whole so_far e = tt
stops (faults.Line line reason) plan n a rest r new other whole so_far e = (e.0, e.1, subst (λ (w : Feeds). is_full w ≡ true) so_far (full_on plan a rest r e.2))

-- none is left
pub ends : (plan : Plan) (r whole : Feeds) → with_all plan [] r ≡ whole → is_full r ≡ false → (r ≡ whole) × (is_full whole ≡ false)
ends plan r whole so_far fits =
    let all : r ≡ whole = sym (with_none plan r) ∙ so_far in
    (all, subst (λ (w : Feeds). is_full w ≡ false) all fits)

-- the fragments from the i-th on, when there are more
pub fragments_from : (number i count : ℕ) → i < count → map (delivery number) (range_with_len i (count - i)) ≡ (delivery number i ∷ []) ++ map (delivery number) (range_with_len (i + 1) (count - (i + 1)))
fragments_from number i count lt =
    let e : count - i ≡ suc (count - (i + 1)) = omega (arith, lt) in
    ap (λ k. map (delivery number) (range_with_len i k)) e

pub no_fragments : (number i count : ℕ) → count ≤ i → map (delivery number) (range_with_len i (count - i)) ≡ []
no_fragments number i count le =
    let e : count - i ≡ 0 = omega (arith, le) in
    ap (λ k. map (delivery number) (range_with_len i k)) e

-- the packets from the k-th on, when there are more
pub packets_from : (plan : Plan) (k end : ℕ) → k < end → flat_map (all_of plan) (range_with_len k (end - k)) ≡ all_of plan k ++ flat_map (all_of plan) (range_with_len (k + 1) (end - (k + 1)))
packets_from plan k end lt =
    let e : end - k ≡ suc (end - (k + 1)) = omega (arith, lt) in
    ap (λ j. flat_map (all_of plan) (range_with_len k j)) e

pub no_packets : (plan : Plan) (k end : ℕ) → end ≤ k → flat_map (all_of plan) (range_with_len k (end - k)) ≡ []
no_packets plan k end le =
    let e : end - k ≡ 0 = omega (arith, le) in
    ap (λ j. flat_map (all_of plan) (range_with_len k j)) e

-- the last of so many fragments, and those before it
from_behind : (number left : ℕ) → reverse (map (delivery number) (range_with_len 0 (left + 1))) ≡ (delivery number left ∷ []) ++ reverse (map (delivery number) (range_with_len 0 left))
from_behind number left =
    ap (λ (ds : List Delivery). reverse ds) (map-range_with_len_more (delivery number) 0 left left (omega arith))
    ∙ reverse-append (map (delivery number) (range_with_len 0 left)) (delivery number left ∷ [])

pub behind : (number left less : ℕ) → left ≡ less + 1 → reverse (map (delivery number) (range_with_len 0 left)) ≡ (delivery number less ∷ []) ++ reverse (map (delivery number) (range_with_len 0 less))
behind number left less is = ap (λ k. reverse (map (delivery number) (range_with_len 0 k))) is ∙ from_behind number less

pub all_are : (plan : Plan) (number count : ℕ) → count ≡ fragment_count plan number → map (delivery number) (range_with_len 0 (count - 0)) ≡ all_of plan number
unfolding all_of
all_are plan number count is =
    let e : count - 0 ≡ fragment_count plan number = omega (arith, is) in
    ap (λ k. map (delivery number) (range_with_len 0 k)) e

pub all_back : (plan : Plan) (number count : ℕ) → count ≡ fragment_count plan number → reverse (map (delivery number) (range_with_len 0 count)) ≡ reverse (all_of plan number)
unfolding all_of
all_back plan number count is = ap (λ k. reverse (map (delivery number) (range_with_len 0 k))) is

last_by : (a b : Bool) (last most : ℕ) → b ≡ nat_lt last most → (a && b) ≡ true → last < most
last_by false b last most is e = absurd cc
last_by true false last most is e = absurd cc
last_by true true last most is e = grind (arith, nat_tests)

-- no packet's number comes near the greatest number
pub last_fits : (plan : Plan) (first last : ℕ) (d : Delivers) → IsSchedule plan → in_schedule plan d ≡ true → d ≡ delivers.Packets first last → last < 3000000
unfolding in_schedule
last_fits plan first last d valid within is =
    let here : in_schedule plan (delivers.Packets first last) ≡ true = rw is at within in
    let lt = last_by (nat_le first last) (has_packet plan last) last (frame_count plan) refl here in
    omega (arith, lt, valid.in_lines.few_frames)
