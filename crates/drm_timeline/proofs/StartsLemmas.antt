-- How a schedule announces its starts.
use Rattle.std.proofs.Common.{◌≡◌, ◌<◌, ◌≤◌, ◌+◌, ◌==◌, ◌&&◌, ◌⊎◌, inl, inr, ℕ, zero, suc, not, nat_le, nat_lt, Bool, true, false, List, [], ◌∷◌, length, map, filter, cond, get_or, drop, All, Contains, Option, Some, None, refl, ap, ◌∙◌, arith}
use Rattle.std.specs.List.{last_or, find}
use Rattle.std.proofs.lemmas.Bool.{true≢false, cond-true, cond-false, and_parts, or_parts, leb-true, leb-false, le-leb, lt-ltb, le-ltb, eqb-true}
use Rattle.std.proofs.lemmas.List.Elements.{All-nil, All-cons, All-head, All-tail, All-weaker, All-map}
use Rattle.drm_schedule.specs.declared.config.Config.{Config}
use Rattle.drm_schedule.specs.declared.plan.Plan.{Plan}
use Rattle.drm_schedule.specs.Ranges.{ConfigInLines}
use Rattle.drm_schedule.specs.Announcement.{countdown_start}
use Rattle.drm_schedule.specs.Valid.{IsFaultless, AreFaultless}
use Rattle.drm_timeline.specs.Standing.{has_started, is_counting, frames_before}
use Rattle.drm_timeline.proofs.ScheduleLemmas.{follows, first_start}

-- the starts of some configurations
abbrev pub starts : List Config → List ℕ
starts cs = map (λ (c : Config). c.start) cs

contains_later : {X : Type 0} (xs : List X) (x y : X) → Contains xs y → Contains (x ∷ xs) y
contains_later xs x y is = (suc is.0, omega (arith, is.1), is.2)

-- an element of what a list is mapped to comes from one of the list
pub from_map : {X Y : Type 0} (f : X → Y) (xs : List X) (k : ℕ) (y : Y) → k < length (map f xs) → get_or (map f xs) k y ≡ y → (x : X) × Contains xs x × (f x ≡ y)
from_map f [] k y within is = absurd (omega (arith, within))
from_map f (x ∷ xs) zero y within is = (x, (zero, omega arith, refl), is)
from_map f (x ∷ xs) (suc k) y within is = let rest = from_map f xs k y (omega (arith, within)) is in (rest.0, contains_later xs x rest.0 rest.1, rest.2)

pub not_the_first : {X : Type 0} (xs : List X) (x : X) → Contains (drop 1 xs) x → Contains xs x
not_the_first [] x is = is
not_the_first (y ∷ xs) x is = contains_later xs y x is

-- a start above 0 is a later one
pub is_later : (plan : Plan) (cs : List Config) (start : ℕ) → AreFaultless plan None cs → 0 < start → Contains (starts cs) start → Contains (starts (drop 1 cs)) start
is_later plan [] start are above is = is
is_later plan (c ∷ more) start are above is = by is.0 is.1 is.2
  where
    by : (k : ℕ) → k < length (c.start ∷ starts more) → get_or (c.start ∷ starts more) k start ≡ start → Contains (starts more) start
    by zero within is = absurd (omega (arith, above, is, first_start plan c more are.0))
    by (suc k) within is = (k, omega (arith, within), is)

-- later starts are in the schedule
abbrev IsWithin : ℕ → Config → Type 0
IsWithin len c = (0 < c.start) × (c.start < len)

all_behind : (plan : Plan) (before : Config) (cs : List Config) → AreFaultless plan (Some before) cs → All (IsWithin plan.length) cs
all_behind plan before [] are = All-nil (IsWithin plan.length)
all_behind plan before (c ∷ more) are =
    let order = or_parts (nat_le c.start before.start) (nat_le plan.length c.start) are.0.order in
    All-cons (IsWithin plan.length) c more (omega (arith, leb-false c.start before.start order.0), leb-false plan.length c.start order.1) (all_behind plan c more are.1)

pub all_within : (plan : Plan) (cs : List Config) → AreFaultless plan None cs → All (λ start. (0 < start) × (start < plan.length)) (starts (drop 1 cs))
all_within plan [] are = All-nil (λ start. (0 < start) × (start < plan.length))
all_within plan (c ∷ more) are = All-map (λ start. (0 < start) × (start < plan.length)) (λ (c : Config). c.start) more (all_behind plan c more are.1)

-- the first configuration has no countdown
no_countdown : (plan : Plan) (c : Config) (more : List Config) → IsFaultless plan None c more → c.countdown ≡ 0
no_countdown plan c more is = by (c.countdown == 0) refl is.countdown_fits
  where
    by : (b : Bool) → (c.countdown == 0) ≡ b → not b ≡ false → c.countdown ≡ 0
    by true test wrong = eqb-true c.countdown 0 test
    by false test wrong = absurd (true≢false wrong)

-- a configuration behind another has a countdown, and the other one has started when it begins
abbrev IsApart : Config → Config → Type 0
IsApart before c = (1 ≤ c.countdown) × (before.start + c.countdown ≤ c.start)

all_apart : (plan : Plan) (before : Config) (cs : List Config) → AreFaultless plan (Some before) cs → All (IsApart before) cs
all_apart plan before [] are = All-nil (IsApart before)
all_apart plan before (c ∷ more) are =
    let f = follows plan before c more are.0 in
    All-cons (IsApart before) c more (f.counts, f.apart)
    (All-weaker (IsApart c) (IsApart before) (λ d apart. (apart.0, omega (arith, apart.1, f.later))) more (all_apart plan c more are.1))

-- a countdown begins with the schedule or later, and each configuration but one that starts with the schedule has one
abbrev pub HasCountdown : Config → Type 0
HasCountdown c = (0 < c.start → 1 ≤ c.countdown) × (c.countdown ≤ c.start)

pub all_have_countdown : (plan : Plan) (cs : List Config) → AreFaultless plan None cs → All HasCountdown cs
all_have_countdown plan [] are = All-nil HasCountdown
all_have_countdown plan (c ∷ more) are =
    All-cons HasCountdown c more
    ((λ above. absurd (omega (arith, above, first_start plan c more are.0))), omega (arith, no_countdown plan c more are.0))
    (All-weaker (IsApart c) HasCountdown (λ d apart. ((λ above. apart.0), omega (arith, apart.1))) more (all_apart plan c more are.1))

counting : (sf : ℕ) (c : Config) → countdown_start c ≤ sf → sf < c.start → is_counting sf c ≡ true
counting sf c low high = ap (λ b. b && nat_lt sf c.start) (le-leb (countdown_start c) sf low) ∙ lt-ltb sf c.start high

not_counting : (sf : ℕ) (c : Config) → c.start ≤ sf → is_counting sf c ≡ false
not_counting sf c past = by (nat_le (countdown_start c) sf)
  where
    by : (b : Bool) → (b && nat_lt sf c.start) ≡ false
    by true = le-ltb sf c.start past
    by false = refl

-- in each super frame of its countdown a configuration is what is announced
abbrev pub IsAnnouncedIn : List Config → Config → Type 0
IsAnnouncedIn cs c = (sf : ℕ) → countdown_start c ≤ sf → sf < c.start → find (is_counting sf) cs ≡ Some c

pub all_announced : (plan : Plan) (before : Option Config) (cs : List Config) → AreFaultless plan before cs → All (IsAnnouncedIn cs) cs
all_announced plan before [] are = All-nil (IsAnnouncedIn [])
all_announced plan before (x ∷ more) are =
    All-cons (IsAnnouncedIn (x ∷ more)) x more (λ sf low high. cond-true (is_counting sf x) (Some x) (find (is_counting sf) more) (counting sf x low high))
    (λ k d within. later (get_or more k d) (all_apart plan x more are.1 k d within) (all_announced plan (Some x) more are.1 k d within))
  where
    later : (c : Config) → IsApart x c → IsAnnouncedIn more c → IsAnnouncedIn (x ∷ more) c
    later c apart announced sf low high =
        cond-false (is_counting sf x) (Some x) (find (is_counting sf) more) (not_counting sf x (omega (arith, apart.1, low))) ∙ announced sf low high

-- an index above 0 counts down to a start
abbrev pub IsNamed : ℕ → List ℕ → Option Config → Type 0
IsNamed sf all o = 0 < frames_before sf o → Contains all (sf + frames_before sf o)

pub named_in : (sf : ℕ) (cs : List Config) → IsNamed sf (starts cs) (find (is_counting sf) cs)
named_in sf [] = λ above. absurd (omega (arith, above))
named_in sf (x ∷ more) = by (named_in sf more) (is_counting sf x)
  where
    by : IsNamed sf (starts more) (find (is_counting sf) more) → (b : Bool) → IsNamed sf (x.start ∷ starts more) (cond b (Some x) (find (is_counting sf) more))
    by rest true above = (zero, omega arith, omega (arith, above))
    by rest false above = contains_later (starts more) x.start (sf + frames_before sf (find (is_counting sf) more)) (rest above)

-- an index has three bits
pub small_in : (sf : ℕ) (cs : List Config) → All ConfigInLines cs → frames_before sf (find (is_counting sf) cs) < 8
small_in sf [] fit = omega arith
small_in sf (x ∷ more) fit = by (small_in sf more (All-tail ConfigInLines x more fit)) (is_counting sf x) refl
  where
    by : frames_before sf (find (is_counting sf) more) < 8 → (b : Bool) → is_counting sf x ≡ b → frames_before sf (cond b (Some x) (find (is_counting sf) more)) < 8
    by rest true is = omega (arith, leb-true (countdown_start x) sf (and_parts (nat_le (countdown_start x) sf) (nat_lt sf x.start) is).0, (All-head ConfigInLines x more fit).countdown_fits)
    by rest false is = rest

-- the last of some configurations that has started in a super frame is the same in the next one, or one starts there
abbrev pub StaysOrStarts : ℕ → Option Config → List Config → Type 0
StaysOrStarts sf o cs = (last_or o (filter (has_started sf) cs) ≡ last_or o (filter (has_started (sf + 1)) cs)) ⊎ Contains (starts cs) (sf + 1)

pub stays_or_starts : (sf : ℕ) (o : Option Config) (cs : List Config) → StaysOrStarts sf o cs
stays_or_starts sf o [] = inl refl
stays_or_starts sf o (x ∷ more) = by (λ p. stays_or_starts sf p more) (has_started sf x) refl (has_started (sf + 1) x) refl
  where
    now : List Config
    now = filter (has_started sf) more

    next : List Config
    next = filter (has_started (sf + 1)) more

    on : (p : Option Config) → StaysOrStarts sf p more → (last_or p now ≡ last_or p next) ⊎ Contains (x.start ∷ starts more) (sf + 1)
    on p (inl same) = inl same
    on p (inr there) = inr (contains_later (starts more) x.start (sf + 1) there)

    by : ((p : Option Config) → StaysOrStarts sf p more) → (a : Bool) → has_started sf x ≡ a → (b : Bool) → has_started (sf + 1) x ≡ b → (last_or o (cond a (x ∷ now) now) ≡ last_or o (cond b (x ∷ next) next)) ⊎ Contains (x.start ∷ starts more) (sf + 1)
    by rest true a true b = on (Some x) (rest (Some x))
    by rest false a false b = on o (rest o)
    by rest true a false b = absurd (omega (arith, leb-true x.start sf a, leb-false x.start (sf + 1) b))
    by rest false a true b = inr (zero, omega arith, omega (arith, leb-false x.start sf a, leb-true x.start (sf + 1) b))
