-- The frames below the seam.
use Rattle.std.proofs.Common.{◌≡◌, ◌+◌, ◌-◌, ◌*◌, ◌/◌, ◌%◌, ◌==◌, ◌&&◌, ◌≤◌, ◌<◌, ℕ, Bool, true, false, nat_lt, cond, List, [], ◌∷◌, ◌++◌, filter, map, length, All, get_or, is_some, option_map, Option, None, Some, refl, sym, ap, ◌∙◌, arith}
use Rattle.std.specs.List.{last_or, find}
use Rattle.std.proofs.lemmas.Bool.{cond-false, lt-leb}
use Rattle.std.proofs.lemmas.List.{append-nil}
use Rattle.std.proofs.lemmas.List.Elements.{filter-append, All-nil, All-cons, All-head, All-tail}
use Rattle.drm_fac.specs.declared.fac.Fac.{Fac}
use Rattle.drm_fac.specs.declared.service.Service.{Service}
use Rattle.drm_sdc.specs.declared.block.Block.{Block}
use Rattle.drm_sdc.specs.declared.entity.Entity.{Entity}
use Rattle.mdi_items.specs.RoundTrip.{Parts, BlockBytes}
use Rattle.drm_schedule.specs.declared.config.Config.{Config}
use Rattle.drm_schedule.specs.declared.plan.Plan.{Plan}
use Rattle.drm_schedule.specs.Announcement.{countdown_start}
use Rattle.drm_schedule.specs.Contents.{stream_bytes}
use Rattle.drm_schedule.specs.Valid.{IsSchedule, AreFaultless}
use Rattle.drm_schedule.proofs.Faultless.{all_faultless}
use Rattle.plan_packing.specs.Packing.{chain}
use Rattle.drm_timeline.specs.Numbers.{frame_count}
use Rattle.drm_timeline.specs.Standing.{config_of, announced_in, index_of, frames_before, is_counting, has_started}
use Rattle.drm_timeline.specs.FastAccess.{services_of, service_of, channel_of, fac_under}
use Rattle.drm_timeline.specs.Description.{description_of}
use Rattle.drm_timeline.specs.Blocks.{block_of, block_with, own_entities, entities_of}
use Rattle.drm_timeline.specs.Announcing.{announced_by}
use Rattle.drm_timeline.proofs.ScheduleLemmas.{first_start, follows}
use Rattle.drm_server.specs.Frames.{HasBlockWhere, IsFrameAt}
use Rattle.drm_server.proofs.OnePacket.{one_frame}
use Rattle.law_seam.specs.Joined.{shifted, configs_behind, joined}
use Rattle.law_seam.specs.Laws.{with_index, DiffersByAnnouncement, AnnouncesBelow}
use Rattle.law_seam.proofs.Shifted.{raised}
use Rattle.law_seam.proofs.Behind.{CountsWithin, not_counting}
use Rattle.law_seam.proofs.AtSeam.{all_within}

-- ---- lists

none_left : {X : Type 0} (p : X → Bool) (xs : List X) → All (λ x. p x ≡ false) xs → filter p xs ≡ []
none_left p [] none = refl
none_left p (x ∷ xs) none =
    cond-false (p x) (x ∷ filter p xs) (filter p xs) (All-head (λ x. p x ≡ false) x xs none) ∙ none_left p xs (All-tail (λ x. p x ≡ false) x xs none)

-- the first one of two lists, where the second has none
find_first : {X : Type 0} (p : X → Bool) (xs ys : List X) → All (λ x. p x ≡ false) ys → find p (xs ++ ys) ≡ find p xs
find_first p [] [] none = refl
find_first p [] (y ∷ ys) none =
    cond-false (p y) (Some y) (find p ys) (All-head (λ x. p x ≡ false) y ys none) ∙ find_first p [] ys (All-tail (λ x. p x ≡ false) y ys none)
find_first p (x ∷ xs) ys none = ap (λ o. cond (p x) (Some x) o) (find_first p xs ys none)

find_none : {X : Type 0} (p : X → Bool) (xs : List X) → All (λ x. p x ≡ false) xs → find p xs ≡ None
find_none p [] none = refl
find_none p (x ∷ xs) none =
    cond-false (p x) (Some x) (find p xs) (All-head (λ x. p x ≡ false) x xs none) ∙ find_none p xs (All-tail (λ x. p x ≡ false) x xs none)

each_shifted : (P : Config → Type 0) (n : ℕ) (configs : List Config) → All (λ c. P (shifted n c)) configs → All P (map (shifted n) configs)
each_shifted P n [] all = All-nil P
each_shifted P n (c ∷ configs) all =
    All-cons P (shifted n c) (map (shifted n) configs) (All-head (λ c. P (shifted n c)) c configs all) (each_shifted P n configs (All-tail (λ c. P (shifted n c)) c configs all))

-- a countdown that hasn't begun
waits : (sf : ℕ) (c : Config) → sf < countdown_start c → is_counting sf c ≡ false
waits sf c ahead = ap (λ b. b && nat_lt sf c.start) (lt-leb (countdown_start c) sf ahead)

-- ---- configurations

-- each before the next schedule's first one starts before its countdown
all_apart : (plan : Plan) (before : Option Config) (configs : List Config) (c : Config) (more : List Config) → AreFaultless plan before (configs ++ c ∷ more)
    → All (λ (x : Config). x.start + c.countdown ≤ c.start) configs
all_apart plan before [] c more are = All-nil (λ (x : Config). x.start + c.countdown ≤ c.start)
all_apart plan before (x ∷ []) c more are =
    let f = follows plan x c more are.1.0 in
    All-cons (λ (x : Config). x.start + c.countdown ≤ c.start) x [] f.apart (All-nil (λ (x : Config). x.start + c.countdown ≤ c.start))
all_apart plan before (x ∷ (y ∷ configs)) c more are =
    let rest = all_apart plan (Some x) (y ∷ configs) c more are.1 in
    let f = follows plan x y (configs ++ c ∷ more) are.1.0 in
    let less = f.later in
    let apart = All-head (λ (x : Config). x.start + c.countdown ≤ c.start) y configs rest in
    All-cons (λ (x : Config). x.start + c.countdown ≤ c.start) x (y ∷ configs) (omega (arith, less, apart)) rest

-- ---- the FAC

with_other_index : (c : Config) (i j t : ℕ) → fac_under c i t ≡ option_map (with_index i) (fac_under c j t)
with_other_index c i j t = by (services_of c) (service_of c (t - 3 * c.start))
  where
    by : (s : Option ℕ) (o : Option Service)
        → chain s (λ services. option_map (λ service. (let fac : Fac = record { channel = channel_of c services i (t % 3); service = service } in fac)) o)
        ≡ option_map (with_index i) (chain s (λ services. option_map (λ service. (let fac : Fac = record { channel = channel_of c services j (t % 3); service = service } in fac)) o))
    by None o = refl
    by (Some s) None = refl
    by (Some s) (Some x) = refl

same_fac : (a b : Fac) (i : ℕ) (o : Option Fac) → option_map (with_index i) o ≡ Some b → o ≡ Some a → b ≡ with_index i a
same_fac a b i None is here = absurd cc
same_fac a b i (Some x) is here = let one : x ≡ a = cc in let two : with_index i x ≡ b = cc in sym two ∙ ap (with_index i) one

-- ---- a frame

same_config : (a b : Config) → Some a ≡ Some b → a ≡ b
same_config a b is = cc

same_block : (a b : Block) → Some a ≡ Some b → a ≡ b
same_block a b is = cc

module _ (countdown : ℕ) (plan next : Plan) (valid : IsSchedule plan) (valid_next : IsSchedule next) (t : ℕ) (below : t < frame_count plan) where
  abbrev n : ℕ
  n = plan.length

  abbrev sf : ℕ
  sf = t / 3

  abbrev both : Plan
  both = joined countdown plan next

  early : sf < n
  early = omega (arith, below)

  faultless_next : AreFaultless next None next.configs
  faultless_next = all_faultless next 0 None next.configs valid_next.valid

  -- the configurations of the next schedule
  abbrev later : List Config
  later = configs_behind n countdown next.configs

  none_started : All (λ (c : Config). has_started sf c ≡ false) later
  none_started = by next.configs
    where
      not_yet : (c : Config) → has_started sf (shifted n c) ≡ false
      not_yet c = lt-leb (c.start + n) sf (omega (arith, early))

      by : (configs : List Config) → All (λ (c : Config). has_started sf c ≡ false) (configs_behind n countdown configs)
      by [] = All-nil (λ (c : Config). has_started sf c ≡ false)
      by (c ∷ configs) =
          All-cons (λ (c : Config). has_started sf c ≡ false) (raised n countdown c) (map (shifted n) configs) (lt-leb (c.start + n) sf (omega (arith, early)))
          (each_shifted (λ (c : Config). has_started sf c ≡ false) n configs (λ k d within. not_yet (get_or configs k d)))

  config_same : config_of both sf ≡ config_of plan sf
  config_same =
      ap (λ l. last_or None l) (filter-append (has_started sf) plan.configs later ∙ (ap (λ l. filter (has_started sf) plan.configs ++ l) (none_left (has_started sf) later none_started) ∙ append-nil (filter (has_started sf) plan.configs)))

  -- ---- before the countdown

  module _ (ahead : sf + countdown < n) where
    none_counting : All (λ (c : Config). is_counting sf c ≡ false) later
    none_counting = by next.configs faultless_next
      where
        not_yet : (c : Config) → CountsWithin c → is_counting sf (shifted n c) ≡ false
        not_yet c few = waits sf (shifted n c) (omega (arith, early, few))

        by : (configs : List Config) → AreFaultless next None configs → All (λ (c : Config). is_counting sf c ≡ false) (configs_behind n countdown configs)
        by [] are = All-nil (λ (c : Config). is_counting sf c ≡ false)
        by (c ∷ configs) are =
            All-cons (λ (c : Config). is_counting sf c ≡ false) (raised n countdown c) (map (shifted n) configs) (waits sf (raised n countdown c) (omega (arith, ahead)))
            (each_shifted (λ (c : Config). is_counting sf c ≡ false) n configs (λ k d within. not_yet (get_or configs k d) (all_within next c configs are.1 k d within)))

    announced_same : announced_in both sf ≡ announced_in plan sf
    announced_same = find_first (is_counting sf) plan.configs later none_counting

    block_same : block_of both sf ≡ block_of plan sf
    block_same =
        ap (λ o. chain o (λ (k : Config). option_map (block_with k.room) (entities_of k both sf))) config_same
        ∙ ap (λ a. chain (config_of plan sf) (λ (k : Config). option_map (block_with k.room) (option_map (λ announced. own_entities k sf ++ announced) (announced_by k sf a)))) announced_same

    has_block : (first : Bool) (room : ℕ) (block : Option BlockBytes) → HasBlockWhere first both sf room block → HasBlockWhere first plan sf room block
    has_block true room block (b, is, at) =
        (b, is, record { block = at.block; is = sym block_same ∙ at.is; bits = at.bits; size = at.size; octets = at.octets; spelled = at.spelled; padding = at.padding })
    has_block false room block none = none

    pub same_frame : (parts others : Parts) → IsFrameAt plan t parts → IsFrameAt both t others → others ≡ parts
    same_frame parts others f g =
        one_frame plan t others parts (record {
          config = g.config;
          holds = sym config_same ∙ g.holds;
          count = g.count;
          fac =
              sym (ap (λ o. chain o (λ (k : Config). fac_under k (index_of both sf) t)) config_same
              ∙ ap (λ a. chain (config_of plan sf) (λ (k : Config). fac_under k (frames_before sf a) t)) announced_same)
              ∙ g.fac;
          mux = g.mux;
          mode = g.mode;
          block = has_block (t % 3 == 0) g.config.room others.block g.block;
          streams = g.streams;
        }) f

  -- ---- within it

  module _ (valid_both : IsSchedule both) (counting : n ≤ sf + countdown) where
    none_of_plan : announced_in plan sf ≡ None
    none_of_plan = by next.configs faultless_next valid_next.in_lines.some_config (all_faultless both 0 None both.configs valid_both.valid)
      where
        by : (configs : List Config) → AreFaultless next None configs → 1 ≤ length configs → AreFaultless both None (plan.configs ++ configs_behind n countdown configs) → announced_in plan sf ≡ None
        by [] are some all = absurd (omega (arith, some))
        by (c ∷ configs) are some all =
            let start = first_start next c configs are.0 in
            let apart = all_apart both None plan.configs (raised n countdown c) (map (shifted n) configs) all in
            find_none (is_counting sf) plan.configs
            (λ k d within. not_counting sf (get_or plan.configs k d) (let before = apart k d within in omega (arith, before, start, counting)))

    block_more : (c : Config) (block other : Block) → config_of plan sf ≡ Some c → block_of plan sf ≡ Some block → block_of both sf ≡ Some other
        → (more : List Entity) × (other.entities ≡ block.entities ++ more)
    block_more c block other holds is is' =
        let own : List Entity = own_entities c sf in
        let here : block_of plan sf ≡ Some (block_with c.room (own ++ [])) =
        ap (λ o. chain o (λ (k : Config). option_map (block_with k.room) (entities_of k plan sf))) holds
        ∙ ap (λ a. option_map (block_with c.room) (option_map (λ announced. own ++ announced) (announced_by c sf a))) none_of_plan in
        let there : block_of both sf ≡ option_map (block_with c.room) (option_map (λ announced. own ++ announced) (announced_by c sf (announced_in both sf))) =
        ap (λ o. chain o (λ (k : Config). option_map (block_with k.room) (entities_of k both sf))) (config_same ∙ holds) in
        by own (same_block block (block_with c.room (own ++ [])) (sym is ∙ here)) (announced_by c sf (announced_in both sf)) (sym there ∙ is')
      where
        by : (own : List Entity) → block ≡ block_with c.room (own ++ []) → (a : Option (List Entity)) → option_map (block_with c.room) (option_map (λ announced. own ++ announced) a) ≡ Some other
            → (more : List Entity) × (other.entities ≡ block.entities ++ more)
        by own is None other_is = absurd cc
        by own is (Some a) other_is =
            let one = same_block (block_with c.room (own ++ a)) other other_is in
            (a, sym (ap (λ (b : Block). b.entities) one) ∙ ap (λ l. l ++ a) (sym (append-nil own) ∙ sym (ap (λ (b : Block). b.entities) is)))

    both_have : (first : Bool) (p q : Plan) (s r r' : ℕ) (a b : Option BlockBytes) → HasBlockWhere first p s r a → HasBlockWhere first q s r' b → is_some b ≡ is_some a
    both_have true p q s r r' a b x y = ap is_some y.1 ∙ sym (ap is_some x.1)
    both_have false p q s r r' a b x y = ap is_some y ∙ sym (ap is_some x)

    pub announces : (parts others : Parts) → IsFrameAt plan t parts → IsFrameAt both t others → DiffersByAnnouncement plan both t parts others
    announces parts others f g =
        let c = f.config in
        let same : g.config ≡ c = same_config g.config c (sym g.holds ∙ (config_same ∙ f.holds)) in
        let mine : fac_under c (index_of plan sf) t ≡ Some parts.fac = sym (ap (λ o. chain o (λ (k : Config). fac_under k (index_of plan sf) t)) f.holds) ∙ f.fac in
        let theirs : fac_under c (index_of both sf) t ≡ Some others.fac = sym (ap (λ o. chain o (λ (k : Config). fac_under k (index_of both sf) t)) (config_same ∙ f.holds)) ∙ g.fac in
        record {
          count = g.count ∙ sym f.count;
          fac = same_fac parts.fac others.fac (index_of both sf) (fac_under c (index_of plan sf) t) (sym (with_other_index c (index_of both sf) (index_of plan sf) t) ∙ theirs) mine;
          mux = g.mux ∙ (ap (λ (k : Config). description_of k) same ∙ sym f.mux);
          mode = g.mode ∙ (ap (λ (k : Config). k.mode) same ∙ sym f.mode);
          streams = g.streams ∙ (ap (λ (k : Config). map (stream_bytes (t - 3 * k.start)) k.streams) same ∙ sym f.streams);
          has_block = both_have (t % 3 == 0) plan both sf c.room g.config.room parts.block others.block f.block g.block;
          block = λ block other is is'. block_more c block other f.holds is is';
        }

pub announces_below : AnnouncesBelow
announces_below countdown plan next valid valid_next valid_both t parts others below f g = (
  (λ ahead. same_frame countdown plan next valid valid_next t below ahead parts others f g),
  (λ counting. announces countdown plan next valid valid_next t below valid_both counting parts others f g),
)
