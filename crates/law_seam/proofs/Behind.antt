-- What holds and what is announced behind the seam.
use Rattle.std.proofs.Common.{◌≡◌, ◌+◌, ◌&&◌, ◌≤◌, ◌<◌, ℕ, Bool, true, false, nat_le, nat_lt, cond, List, [], ◌∷◌, ◌++◌, filter, map, All, IfSome, get_or, option_map, Option, None, Some, refl, sym, ap, ap₂, ◌∙◌, arith}
use Rattle.std.specs.List.{last_or, find}
use Rattle.std.proofs.lemmas.Bool.{cond-true, cond-false, le-leb, le-ltb}
use Rattle.std.proofs.lemmas.Bool.Decides.{nat_tests}
use Rattle.std.proofs.lemmas.List.Elements.{filter-append, All-head, All-tail}
use Rattle.drm_sdc.specs.declared.entity.Entity.{Entity}
use Rattle.drm_schedule.specs.declared.config.Config.{Config}
use Rattle.drm_schedule.specs.Announcement.{countdown_start}
use Rattle.drm_timeline.specs.Standing.{has_started, is_counting, frames_before}
use Rattle.drm_timeline.specs.Blocks.{block_with, own_entities}
use Rattle.drm_timeline.specs.Announcing.{announced_by}
use Rattle.law_seam.specs.Joined.{shifted, configs_behind}
use Rattle.law_seam.proofs.Shifted.{raised, same_own, same_announced}

-- ---- lists

-- the last one of two lists, where the second has one
last_skips : {X : Type 0} (o : Option X) (xs : List X) (x : X) (more : List X) → last_or o (xs ++ x ∷ more) ≡ last_or (Some x) more
last_skips o [] x more = refl
last_skips o (y ∷ xs) x more = last_skips (Some y) xs x more

-- the first one of two lists, where the first has none
pub find_skips : {X : Type 0} (p : X → Bool) (xs ys : List X) → All (λ x. p x ≡ false) xs → find p (xs ++ ys) ≡ find p ys
find_skips p [] ys none = refl
find_skips p (x ∷ xs) ys none =
    cond-false (p x) (Some x) (find p (xs ++ ys)) (All-head (λ x. p x ≡ false) x xs none) ∙ find_skips p xs ys (All-tail (λ x. p x ≡ false) x xs none)

-- one that has started isn't counted down to
pub not_counting : (sf : ℕ) (c : Config) → c.start ≤ sf → is_counting sf c ≡ false
not_counting sf c past = by (nat_le (countdown_start c) sf)
  where
    by : (b : Bool) → (b && nat_lt sf c.start) ≡ false
    by true = le-ltb sf c.start past
    by false = refl

-- a countdown that lies behind the schedule's start
abbrev pub CountsWithin : Config → Type 0
CountsWithin c = c.countdown ≤ c.start

module _ (n sf : ℕ) where
  started_later : (c : Config) → has_started (n + sf) (shifted n c) ≡ has_started sf c
  started_later c = grind (arith, nat_tests)

  counting_later : (c : Config) → CountsWithin c → is_counting (n + sf) (shifted n c) ≡ is_counting sf c
  counting_later c few =
      let low : nat_le (countdown_start (shifted n c)) (n + sf) ≡ nat_le (countdown_start c) sf = grind (arith, nat_tests) in
      let high : nat_lt (n + sf) (c.start + n) ≡ nat_lt sf c.start = grind (arith, nat_tests) in
      ap₂ (λ (a b : Bool). a && b) low high

  -- ---- the configuration

  -- it is one of the next schedule, so much later
  pub record HoldsBehind (found behind : Option Config) : Type 0 where
    pub config : Config
    pub countdown : ℕ
    pub found_is : found ≡ Some config
    pub behind_is : behind ≡ Some (raised n countdown config)

  -- of the configurations behind one that has started
  abbrev LastOf : Config → ℕ → List Config → Type 0
  LastOf c countdown configs = HoldsBehind (last_or (Some c) (filter (has_started sf) configs)) (last_or (Some (raised n countdown c)) (filter (has_started (n + sf)) (map (shifted n) configs)))

  last_later : (c : Config) (countdown : ℕ) (configs : List Config) → LastOf c countdown configs
  last_later c countdown [] = record { config = c; countdown = countdown; found_is = refl; behind_is = refl }
  last_later c countdown (x ∷ configs) =
      by (last_later x x.countdown configs) (last_later c countdown configs) (has_started sf x) (has_started (n + sf) (shifted n x)) (started_later x)
    where
      by : LastOf x x.countdown configs → LastOf c countdown configs → (b d : Bool) → d ≡ b
          → HoldsBehind (last_or (Some c) (cond b (x ∷ filter (has_started sf) configs) (filter (has_started sf) configs)))
          (last_or (Some (raised n countdown c)) (cond d (shifted n x ∷ filter (has_started (n + sf)) (map (shifted n) configs)) (filter (has_started (n + sf)) (map (shifted n) configs))))
      by started waiting true true same = started
      by started waiting false false same = waiting
      by started waiting true false same = absurd cc
      by started waiting false true same = absurd cc

  pub holds_behind : (before : List Config) (c : Config) (configs : List Config) (countdown : ℕ) → c.start ≡ 0
      → HoldsBehind (last_or None (filter (has_started sf) (c ∷ configs))) (last_or None (filter (has_started (n + sf)) (before ++ configs_behind n countdown (c ∷ configs))))
  holds_behind before c configs countdown at_start =
      let d : Config = raised n countdown c in
      let later : List Config = filter (has_started (n + sf)) (map (shifted n) configs) in
      let here : filter (has_started sf) (c ∷ configs) ≡ c ∷ filter (has_started sf) configs =
      cond-true (has_started sf c) (c ∷ filter (has_started sf) configs) (filter (has_started sf) configs) (le-leb c.start sf (omega (arith, at_start))) in
      let there : filter (has_started (n + sf)) (d ∷ map (shifted n) configs) ≡ d ∷ later =
      cond-true (has_started (n + sf) d) (d ∷ later) later (le-leb (c.start + n) (n + sf) (omega (arith, at_start))) in
      let all : last_or None (filter (has_started (n + sf)) (before ++ (d ∷ map (shifted n) configs))) ≡ last_or (Some d) later =
      ap (λ l. last_or None l) (filter-append (has_started (n + sf)) before (d ∷ map (shifted n) configs) ∙ ap (λ l. filter (has_started (n + sf)) before ++ l) there)
      ∙ last_skips None (filter (has_started (n + sf)) before) d later in
      let last = last_later c countdown configs in
      record {
        config = last.config;
        countdown = last.countdown;
        found_is = ap (λ l. last_or None l) here ∙ last.found_is;
        behind_is = all ∙ last.behind_is;
      }

  -- ---- what is announced

  find_later : (configs : List Config) → All CountsWithin configs → find (is_counting (n + sf)) (map (shifted n) configs) ≡ option_map (shifted n) (find (is_counting sf) configs)
  find_later [] few = refl
  find_later (x ∷ configs) few =
      by (find_later configs (All-tail CountsWithin x configs few)) (is_counting sf x) (is_counting (n + sf) (shifted n x)) (counting_later x (All-head CountsWithin x configs few))
    where
      by : find (is_counting (n + sf)) (map (shifted n) configs) ≡ option_map (shifted n) (find (is_counting sf) configs) → (b d : Bool) → d ≡ b → cond d (Some (shifted n x)) (find (is_counting (n + sf)) (map (shifted n) configs)) ≡ option_map (shifted n) (cond b (Some x) (find (is_counting sf) configs))
      by rest true true same = refl
      by rest false false same = rest
      by rest true false same = absurd cc
      by rest false true same = absurd cc

  pub announced_behind : (before : List Config) (c : Config) (configs : List Config) (countdown : ℕ) → c.start ≡ 0 → All CountsWithin configs → All (λ (b : Config). b.start < n) before
      → find (is_counting (n + sf)) (before ++ configs_behind n countdown (c ∷ configs)) ≡ option_map (shifted n) (find (is_counting sf) (c ∷ configs))
  announced_behind before c configs countdown at_start few below =
      let d : Config = raised n countdown c in
      let past : (x : Config) → x.start < n → is_counting (n + sf) x ≡ false = λ x less. not_counting (n + sf) x (omega (arith, less)) in
      find_skips (is_counting (n + sf)) before (d ∷ map (shifted n) configs) (λ k x within. past (get_or before k x) (below k x within))
      ∙ (cond-false (is_counting (n + sf) d) (Some d) (find (is_counting (n + sf)) (map (shifted n) configs)) (not_counting (n + sf) d (omega (arith, at_start)))
      ∙ (find_later configs few
      ∙ ap (option_map (shifted n)) (sym (cond-false (is_counting sf c) (Some c) (find (is_counting sf) configs) (not_counting sf c (omega (arith, at_start)))))))

  -- ---- index and block

  pub same_index : (o : Option Config) → frames_before (n + sf) (option_map (shifted n) o) ≡ frames_before sf o
  same_index None = refl
  same_index (Some c) = omega arith

  pub same_block : (countdown : ℕ) (c : Config) (o : Option Config) → IfSome o CountsWithin
      → option_map (block_with c.room) (option_map (λ (announced : List Entity). own_entities (raised n countdown c) (n + sf) ++ announced) (announced_by (raised n countdown c) (n + sf) (option_map (shifted n) o)))
      ≡ option_map (block_with c.room) (option_map (λ (announced : List Entity). own_entities c sf ++ announced) (announced_by c sf o))
  same_block countdown c o few =
      let own = same_own n countdown c sf in
      ap₂ (λ (l : List Entity) (a : Option (List Entity)). option_map (block_with c.room) (option_map (λ (announced : List Entity). l ++ announced) a)) own (told o few)
    where
      told : (o : Option Config) → IfSome o CountsWithin → announced_by (raised n countdown c) (n + sf) (option_map (shifted n) o) ≡ announced_by c sf o
      told None few = refl
      told (Some e) few = same_announced n countdown c sf e few
