-- What holds of the configurations of a schedule, and of those that hold and are announced in a super frame.
use Rattle.std.proofs.Common.{◌≡◌, ◌<◌, ◌≤◌, ◌+◌, ◌==◌, ◌&&◌, ℕ, zero, suc, not, nat_le, nat_lt, Bool, true, false, List, [], ◌∷◌, length, filter, drop, cond, All, IfSome, IsSome, get_or, slice_get, Option, Some, None, refl, sym, ap, subst, ◌∙◌, arith}
use Rattle.std.specs.List.{last_or, find}
use Rattle.std.proofs.lemmas.Bool.{true≢false, cond-true, cond-false, or_parts, eqb-true, leb-true, leb-false, ltb-true, ltb-false, le-leb, lt-leb, and_parts}
use Rattle.std.proofs.lemmas.List.Elements.{All-nil, All-cons}
use Rattle.drm_schedule.specs.declared.config.Config.{Config}
use Rattle.drm_schedule.specs.declared.plan.Plan.{Plan}
use Rattle.std.proofs.lemmas.Option.{slice_get-get_or}
use Rattle.dcp_pft.specs.Limits.{most_packet}
use Rattle.drm_schedule.specs.Ranges.{ConfigInLines}
use Rattle.drm_schedule.specs.Announcement.{countdown_start, lacks_announcement, can_be_announced}
use Rattle.drm_schedule.specs.Sizes.{HasRoom, packet_len}
use Rattle.drm_schedule.specs.Services.{services_disagree}
use Rattle.drm_schedule.specs.Valid.{IsFaultless, AreFaultless}
use Rattle.drm_timeline.specs.Standing.{has_started, is_counting}
use Rattle.drm_timeline.specs.FastAccess.{audio_services, data_services, services_of}
use Rattle.drm_timeline.proofs.FastAccessLemmas.{both_kinds, has_code}
use Rattle.drm_timeline.proofs.StandingLemmas.{some_last, last_passing_has}

-- what holds of each configuration of a schedule by itself
pub record IsSound (c : Config) : Type 0 where
  pub services : services_disagree c ≡ false
  pub room : HasRoom c

pub all_sound : (plan : Plan) (before : Option Config) (cs : List Config) → AreFaultless plan before cs → All IsSound cs
all_sound plan before [] are = All-nil IsSound
all_sound plan before (c ∷ more) are =
    All-cons IsSound c more (record { services = are.0.services_agree; room = are.0.blocks_have_room }) (all_sound plan (Some c) more are.1)

-- the packets of each are within the limit
pub all_small : (plan : Plan) (before : Option Config) (cs : List Config) → AreFaultless plan before cs → All (λ c. packet_len c true ≤ most_packet plan.carry) cs
all_small plan before [] are = All-nil (λ c. packet_len c true ≤ most_packet plan.carry)
all_small plan before (c ∷ more) are = All-cons (λ c. packet_len c true ≤ most_packet plan.carry) c more are.0.packet (all_small plan (Some c) more are.1)

-- the first configuration starts with the schedule
pub first_start : (plan : Plan) (c : Config) (more : List Config) → IsFaultless plan None c more → c.start ≡ 0
first_start plan c more is = by (c.start == 0) refl is.order
  where
    by : (b : Bool) → (c.start == 0) ≡ b → not b ≡ false → c.start ≡ 0
    by true test wrong = eqb-true c.start 0 test
    by false test wrong = absurd (true≢false wrong)

-- so some configuration holds in each super frame
pub some_config : (plan : Plan) (sf : ℕ) (cs : List Config) → 1 ≤ length cs → AreFaultless plan None cs → last_or None (filter (has_started sf) cs) ≡ None → ⊥
some_config plan sf [] some are none = absurd (omega (arith, some))
some_config plan sf (c ∷ more) some are none =
    let started : has_started sf c ≡ true = le-leb c.start sf (omega (arith, first_start plan c more are.0)) in
    some_last c (filter (has_started sf) more) (ap (λ l. last_or None l) (sym (cond-true (has_started sf c) (c ∷ filter (has_started sf) more) (filter (has_started sf) more) started)) ∙ none)

-- a later configuration starts behind the one before it, and so does its countdown
pub record Follows (before c : Config) : Type 0 where
  pub later : before.start < c.start
  pub counts : 1 ≤ c.countdown
  pub apart : before.start + c.countdown ≤ c.start

pub follows : (plan : Plan) (before c : Config) (more : List Config) → IsFaultless plan (Some before) c more → Follows before c
follows plan before c more is =
    let order = or_parts (nat_le c.start before.start) (nat_le plan.length c.start) is.order in
    let counts = or_parts (c.countdown == 0) (nat_lt c.start (before.start + c.countdown)) is.countdown_fits in
    record {
      later = leb-false c.start before.start order.0;
      counts = omega (arith, some c.countdown counts.0);
      apart = ltb-false c.start (before.start + c.countdown) counts.1;
    }
  where
    some : (n : ℕ) → (n == 0) ≡ false → 1 ≤ n
    some zero zero_is = absurd (true≢false zero_is)
    some (suc n) zero_is = omega arith

-- not before the start, and not in the countdown, of one that follows
none_later : (plan : Plan) (sf : ℕ) (before : Config) (cs : List Config) → AreFaultless plan (Some before) cs → sf < before.start → find (is_counting sf) cs ≡ None
none_later plan sf before [] are ahead = refl
none_later plan sf before (c ∷ more) are ahead =
    let f = follows plan before c more are.0 in
    ap (λ b. cond b (Some c) (find (is_counting sf) more)) (ap (λ b. b && nat_lt sf c.start) (lt-leb (countdown_start c) sf (omega (arith, f.later, f.apart, ahead))))
    ∙ none_later plan sf c more are.1 (omega (arith, f.later, ahead))

none_started : (plan : Plan) (sf : ℕ) (before : Config) (cs : List Config) → AreFaultless plan (Some before) cs → sf < before.start → filter (has_started sf) cs ≡ []
none_started plan sf before [] are ahead = refl
none_started plan sf before (c ∷ more) are ahead =
    let f = follows plan before c more are.0 in
    ap (λ b. cond b (c ∷ filter (has_started sf) more) (filter (has_started sf) more)) (lt-leb c.start sf (omega (arith, f.later, ahead)))
    ∙ none_started plan sf c more are.1 (omega (arith, f.later, ahead))

-- What is announced in a super frame, and the configuration that holds there.
pub record Announces (o : Option Config) (sf : ℕ) (cs : List Config) (c : Config) : Type 0 where
  pub before : Config
  pub holds : last_or o (filter (has_started sf) cs) ≡ Some before
  pub can : lacks_announcement (Some before) c ≡ false
  pub counting : is_counting sf c ≡ true

pub some_is : (a b : Config) → Some a ≡ Some b → a ≡ b
some_is a b same = cc

-- a configuration that is announced follows the one that holds
pub announces : (plan : Plan) (sf : ℕ) (before : Option Config) (cs : List Config) (c : Config) → AreFaultless plan before cs → find (is_counting sf) cs ≡ Some c → Announces before sf cs c
announces plan sf before [] c are found = absurd cc
announces plan sf before (x ∷ more) c are found = by (announces plan sf (Some x) more c) (is_counting sf x) refl (has_started sf x) refl before are found
  where
    started : (o : Option Config) → has_started sf x ≡ true → last_or o (filter (has_started sf) (x ∷ more)) ≡ last_or (Some x) (filter (has_started sf) more)
    started o is = ap (λ l. last_or o l) (cond-true (has_started sf x) (x ∷ filter (has_started sf) more) (filter (has_started sf) more) is)

    ahead : (o : Option Config) → has_started sf x ≡ false → AreFaultless plan (Some x) more → last_or o (filter (has_started sf) (x ∷ more)) ≡ o
    ahead o is rest =
        ap (λ l. last_or o l) (cond-false (has_started sf x) (x ∷ filter (has_started sf) more) (filter (has_started sf) more) is ∙ none_started plan sf x more rest (leb-false x.start sf is))

    by : (AreFaultless plan (Some x) more → find (is_counting sf) more ≡ Some c → Announces (Some x) sf more c) → (b : Bool) → is_counting sf x ≡ b → (s : Bool) → has_started sf x ≡ s → (o : Option Config) → AreFaultless plan o (x ∷ more) → cond b (Some x) (find (is_counting sf) more) ≡ Some c → Announces o sf (x ∷ more) c
    by rest true counts true is o all found = absurd (omega (arith, ltb-true sf x.start (and_parts (nat_le (countdown_start x) sf) (nat_lt sf x.start) counts).1, leb-true x.start sf is))
    by rest true counts false is None all found = absurd (omega (arith, ltb-true sf x.start (and_parts (nat_le (countdown_start x) sf) (nat_lt sf x.start) counts).1, first_start plan x more all.0))
    by rest true counts false is (Some b) all found =
        subst (λ (y : Config). Announces (Some b) sf (x ∷ more) y) (some_is x c found)
        (record { before = b; holds = ahead (Some b) is all.1; can = all.0.announced; counting = counts })
    by rest false counts true is o all found =
        let behind = rest all.1 found in
        record { before = behind.before; holds = started o is ∙ behind.holds; can = behind.can; counting = behind.counting }
    by rest false counts false is o all found = absurd (some_none c (sym found ∙ none_later plan sf x more all.1 (leb-false x.start sf is)))
      where
        some_none : (y : Config) → Some y ≡ None → ⊥
        some_none y same = cc

-- The configuration that holds in a super frame.
pub record Holds (plan : Plan) (sf : ℕ) (cs : List Config) (c : Config) : Type 0 where
  pub config : last_or None (filter (has_started sf) cs) ≡ Some c
  pub fits : ConfigInLines c
  pub started : c.start ≤ sf
  pub sound : IsSound c
  pub packet : packet_len c true ≤ most_packet plan.carry

starts : (sf : ℕ) (cs : List Config) (o : Option Config) → IfSome o (λ c. c.start ≤ sf) → IfSome (last_or o (filter (has_started sf) cs)) (λ c. c.start ≤ sf)
starts sf [] o of = of
starts sf (x ∷ more) o of = by (starts sf more) (has_started sf x) refl
  where
    by : ((o : Option Config) → IfSome o (λ c. c.start ≤ sf) → IfSome (last_or o (filter (has_started sf) more)) (λ c. c.start ≤ sf)) → (b : Bool) → has_started sf x ≡ b → IfSome (last_or o (cond b (x ∷ filter (has_started sf) more) (filter (has_started sf) more))) (λ c. c.start ≤ sf)
    by rest true is = rest (Some x) (leb-true x.start sf is)
    by rest false is = rest o of

pub holds : (plan : Plan) (sf k : ℕ) (cs : List Config) (c : Config) → AreFaultless plan None cs → All ConfigInLines cs → k < length cs → c ≡ get_or cs k c → slice_get cs k ≡ last_or None (filter (has_started sf) cs) → Holds plan sf cs c
holds plan sf k cs c are fit within is found =
    let same : last_or None (filter (has_started sf) cs) ≡ Some c = sym found ∙ slice_get-get_or cs k c within ∙ ap (λ (x : Config). Some x) (sym is) in
    let of : (P : Config → Type 0) → IfSome (last_or None (filter (has_started sf) cs)) P → P c = λ P has. subst (λ (o : Option Config). IfSome o P) same has in
    record {
      config = same;
      fits = of ConfigInLines (last_passing_has (has_started sf) ConfigInLines cs fit);
      started = of (λ x. x.start ≤ sf) (starts sf cs None tt);
      sound = of IsSound (last_passing_has (has_started sf) IsSound cs (all_sound plan None cs are));
      packet = of (λ x. packet_len x true ≤ most_packet plan.carry) (last_passing_has (has_started sf) (λ x. packet_len x true ≤ most_packet plan.carry) cs (all_small plan None cs are));
    }

-- one to four services have a code
pub sound_services : (c : Config) → ConfigInLines c → IsSound c → IsSome (services_of c)
sound_services c fits sound =
    let few : length c.services ≤ 4 = ltb-false 4 (length c.services) (or_parts _ _ sound.services).0 in
    has_code (length (audio_services c)) (length (data_services c)) (omega (arith, both_kinds c.services, fits.some_service)) (omega (arith, both_kinds c.services, few))

-- The search for what is announced.
pub found_first : (sf : ℕ) (left : List Config) (c : Config) → 1 ≤ length left → c ≡ get_or left 0 c → is_counting sf c ≡ true → find (is_counting sf) left ≡ Some c
found_first sf [] c some is counts = absurd (omega (arith, some))
found_first sf (x ∷ left) c some is counts =
    cond-true (is_counting sf x) (Some x) (find (is_counting sf) left) (ap (is_counting sf) (sym is) ∙ counts) ∙ ap (λ (y : Config). Some y) (sym is)

pub not_first : (sf : ℕ) (left : List Config) (c : Config) (found : Option Config) → 1 ≤ length left → c ≡ get_or left 0 c → is_counting sf c ≡ false → find (is_counting sf) left ≡ found → find (is_counting sf) (drop 1 left) ≡ found
not_first sf [] c found some is counts whole = absurd (omega (arith, some))
not_first sf (x ∷ left) c found some is counts whole = sym (cond-false (is_counting sf x) (Some x) (find (is_counting sf) left) (ap (is_counting sf) (sym is) ∙ counts)) ∙ whole

pub can_announce : (plan : Plan) (sf : ℕ) (cs : List Config) (c before : Config) → AreFaultless plan None cs → find (is_counting sf) cs ≡ Some c → last_or None (filter (has_started sf) cs) ≡ Some before → can_be_announced before c ≡ true
can_announce plan sf cs c before are found stands =
    let a = announces plan sf None cs c are found in
    let same : a.before ≡ before = some_is a.before before (sym a.holds ∙ stands) in
    by (can_be_announced before c) (subst (λ (b : Config). lacks_announcement (Some b) c ≡ false) same a.can)
  where
    by : (b : Bool) → not b ≡ false → b ≡ true
    by true is = refl
    by false is = absurd (true≢false is)

pub first_has : (P : Config → Type 0) (left : List Config) (c : Config) → All P left → 1 ≤ length left → c ≡ get_or left 0 c → P c
first_has P left c all some is = subst P (sym is) (all 0 c some)
