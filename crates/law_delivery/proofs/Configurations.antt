-- The configuration of each frame of a schedule, and how long its packet is.
use Rattle.std.proofs.Common.{ℕ, ◌≡◌, ◌/◌, ◌%◌, ◌≤◌, ◌==◌, Bool, true, false, cond, List, [], ◌∷◌, filter, All, IfSome, Option, Some, None, unwrap_or, option_map, refl, sym, ap, subst, arith}
use Rattle.std.specs.List.{last_or}
use Rattle.std.proofs.lemmas.Bool.{leb-true}
use Rattle.std.proofs.lemmas.List.Elements.{All-nil, All-cons}
use Rattle.drm_schedule.specs.declared.config.Config.{Config}
use Rattle.drm_schedule.specs.declared.plan.Plan.{Plan}
use Rattle.drm_schedule.specs.Ranges.{ConfigInLines}
use Rattle.drm_schedule.specs.Sizes.{packet_len}
use Rattle.drm_schedule.specs.Valid.{IsSchedule, AreFaultless, is_hierarchical}
use Rattle.drm_schedule.proofs.Faultless.{all_faultless}
use Rattle.drm_timeline.specs.Standing.{has_started, config_of}
use Rattle.drm_timeline.proofs.ScheduleLemmas.{IsSound, all_sound, all_small}
use Rattle.drm_timeline.proofs.SignatureAtLemmas.{there}
use Rattle.drm_timeline.proofs.StandingLemmas.{last_passing_has}
use Rattle.dcp_pft.specs.Limits.{most_packet}
use Rattle.drm_timeline.specs.Numbers.{packet_size}
use Rattle.drm_timeline.proofs.PacketSizes.{size_is, some_bytes, first_most}

-- What a schedule promises of the configuration of a super frame.
pub record IsConfig (plan : Plan) (sf : ℕ) (c : Config) : Type 0 where
  pub fits : ConfigInLines c
  pub sound : IsSound c
  pub packet : packet_len c true ≤ most_packet plan.carry
  pub not_hierarchical : is_hierarchical c ≡ false
  pub started : c.start ≤ sf

all_flat : (plan : Plan) (before : Option Config) (cs : List Config) → AreFaultless plan before cs → All (λ c. is_hierarchical c ≡ false) cs
all_flat plan before [] are = All-nil (λ c. is_hierarchical c ≡ false)
all_flat plan before (c ∷ more) are = All-cons (λ c. is_hierarchical c ≡ false) c more are.0.not_hierarchical (all_flat plan (Some c) more are.1)

has_begun : (sf : ℕ) (cs : List Config) (o : Option Config) → IfSome o (λ c. c.start ≤ sf) → IfSome (last_or o (filter (has_started sf) cs)) (λ c. c.start ≤ sf)
has_begun sf [] o of = of
has_begun sf (x ∷ more) o of = by (has_begun sf more) (has_started sf x) refl
  where
    by : ((o : Option Config) → IfSome o (λ c. c.start ≤ sf) → IfSome (last_or o (filter (has_started sf) more)) (λ c. c.start ≤ sf)) → (b : Bool) → has_started sf x ≡ b
        → IfSome (last_or o (cond b (x ∷ filter (has_started sf) more) (filter (has_started sf) more))) (λ c. c.start ≤ sf)
    by rest true is = rest (Some x) (leb-true x.start sf is)
    by rest false is = rest o of

pub faultless : (plan : Plan) → IsSchedule plan → AreFaultless plan None plan.configs
faultless plan is = all_faultless plan 0 None plan.configs is.valid

some_is : (a b : Config) → Some a ≡ Some b → a ≡ b
some_is a b same = cc

-- each configuration that holds in a super frame
pub config_is : (plan : Plan) → IsSchedule plan → (sf : ℕ) (c : Config) → config_of plan sf ≡ Some c → IsConfig plan sf c
config_is plan is sf c holds =
    let are = faultless plan is in
    let of : (P : Config → Type 0) → IfSome (config_of plan sf) P → P c = λ P has. subst (λ (o : Option Config). IfSome o P) holds has in
    record {
      fits = of ConfigInLines (last_passing_has (has_started sf) ConfigInLines plan.configs is.in_lines.each_config);
      sound = of IsSound (last_passing_has (has_started sf) IsSound plan.configs (all_sound plan None plan.configs are));
      packet = of (λ c. packet_len c true ≤ most_packet plan.carry)
          (last_passing_has (has_started sf) (λ c. packet_len c true ≤ most_packet plan.carry) plan.configs (all_small plan None plan.configs are));
      not_hierarchical = of (λ c. is_hierarchical c ≡ false)
          (last_passing_has (has_started sf) (λ c. is_hierarchical c ≡ false) plan.configs (all_flat plan None plan.configs are));
      started = of (λ c. c.start ≤ sf) (has_begun sf plan.configs None tt);
    }

-- there is one
pub some_config : (plan : Plan) → IsSchedule plan → (sf : ℕ) → (c : Config) × (config_of plan sf ≡ Some c)
some_config plan is sf =
    let here = there plan sf is.in_lines.some_config (faultless plan is) is.in_lines.each_config in
    (here.config, here.holds)

-- its packet has some bytes, and no more than may be carried so
pub size_fits : (plan : Plan) → IsSchedule plan → (t : ℕ) → (1 ≤ packet_size plan t) × (packet_size plan t ≤ most_packet plan.carry)
size_fits plan is t =
    let here = some_config plan is (t / 3) in
    let c : Config = here.0 in
    let size : packet_size plan t ≡ packet_len c (t % 3 == 0) = size_is plan t c here.1 in
    let some : 1 ≤ packet_len c (t % 3 == 0) = some_bytes c (t % 3 == 0) in
    let most : packet_len c (t % 3 == 0) ≤ packet_len c true = first_most c (t % 3 == 0) in
    let small : packet_len c true ≤ most_packet plan.carry = (config_is plan is (t / 3) c here.1).packet in
    (subst (λ (n : ℕ). 1 ≤ n) (sym size) some, subst (λ (n : ℕ). n ≤ most_packet plan.carry) (sym size) (omega (arith, most, small)))
