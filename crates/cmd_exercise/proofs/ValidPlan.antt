-- The schedule of an exercise is valid.
use Rattle.std.proofs.Common.{◌≡◌, ℕ, zero, suc, ◌+◌, ◌-◌, ◌/◌, ◌<◌, ◌≤◌, Bool, true, false, List, [], ◌∷◌, length, All, Some, None, refl, ap, ◌∙◌, arith, rules}
use Rattle.std.specs.Prelude.{nat_le, nat_lt, ◌||◌, not, if◌then◌else◌}
use Rattle.std.proofs.lemmas.Bool.{le-leb}
use Rattle.drm_fac.specs.declared.mode.Mode.{Mode}
use Rattle.drm_fac.specs.declared.mode.Mode.TheVariants.{B, C}
use Rattle.dcp_pft.specs.declared.carry.Carry.TheVariants.{Pft}
use Rattle.drm_schedule.specs.declared.invalid.Invalid.{Invalid}
use Rattle.drm_schedule.specs.declared.config.Config.{Config}
use Rattle.drm_schedule.specs.declared.plan.Plan.{Plan}
use Rattle.drm_schedule.specs.InForce.{first_entities, entities_of_last}
use Rattle.drm_schedule.specs.Sizes.{size_with, free_bytes}
use Rattle.drm_schedule.specs.Announcement.{announced, free_in_countdown, lacks_announcement}
use Rattle.plan_packing.specs.Packing.{can_be_packed}
use Rattle.drm_schedule.specs.Ranges.{InLines, ConfigInLines, ServiceInLines, StreamInLines, EntityInLines, TimedInLines}
use Rattle.drm_schedule.specs.Valid.{rows, first_fault, first_of, first_invalid_from, first_invalid}
use Rattle.cmd_exercise.specs.Exercise.{config, plan}

-- ---- what the lines of a text can give

all_one : {X : Type 0} (P : X → Type 0) (x : X) → P x → All P (x ∷ [])
all_one P x is zero d within = is
all_one P x is (suc k) d within = absurd (omega (arith, within))

all_two : {X : Type 0} (P : X → Type 0) (x y : X) → P x → P y → All P (x ∷ y ∷ [])
all_two P x y is also zero d within = is
all_two P x y is also (suc zero) d within = also
all_two P x y is also (suc (suc k)) d within = absurd (omega (arith, within))

config_in_lines : (start countdown : ℕ) (mode : Mode) (short_depth : Bool) (byte : ℕ) → start < 1000000 → countdown < 8 → byte < 256 → ConfigInLines (config start countdown mode short_depth byte)
config_in_lines start countdown mode short_depth byte early few fits = record {
  start_fits = early;
  countdown_fits = omega (arith, few);
  occupancy_fits = omega arith;
  msc_fits = omega arith;
  prot_a_fits = omega arith;
  prot_b_fits = omega arith;
  room_fits = omega arith;
  some_service = omega arith;
  each_service = all_one ServiceInLines _ (record { id_fits = omega arith; short_fits = omega arith; language_fits = omega arith; descriptor_fits = omega arith; last_is_zero = refl });
  some_stream = omega arith;
  few_streams = omega arith;
  each_stream = all_one StreamInLines _ (record { a_fits = omega arith; b_fits = omega arith; not_empty = omega arith; contents = omega (arith, fits) });
  clock_fits = tt;
  some_block = omega arith;
  few_blocks = omega arith;
  each_block = all_one TimedInLines _ (record {
    from_fits = omega arith;
    few_entities = omega arith;
    each_entity = all_one EntityInLines _ (record { version_fits = refl; body_fits = (omega arith, omega arith, omega arith, omega arith, omega arith, omega arith, refl, (omega arith, λ k. omega arith)) });
  });
}

abbrev half : ℕ → Config
half n = config (n / 2) 2 C true 18

abbrev with_second : ℕ → Bool → Plan
with_second n two = record { carry = Pft 2 1400; seq = 65000; dlfc = 4294967000; length = n; configs = config 0 0 B false 17 ∷ (if two then half n ∷ [] else []) }

of_lines : (n : ℕ) (two : Bool) → 1 ≤ n → n ≤ 1000 → 1 ≤ length (with_second n two).configs → length (with_second n two).configs ≤ 16
    → All ConfigInLines (with_second n two).configs → InLines (with_second n two)
of_lines n two some few one most each = record {
  carry_fits = (omega arith, omega arith, omega arith);
  seq_fits = omega arith;
  dlfc_fits = omega arith;
  some_frames = some;
  few_frames = omega (arith, few);
  some_config = one;
  few_configs = most;
  each_config = each;
}

first_in_lines : ConfigInLines (config 0 0 B false 17)
first_in_lines = config_in_lines 0 0 B false 17 (omega arith) (omega arith) (omega arith)

in_lines_by : (n : ℕ) (two : Bool) → 1 ≤ n → n ≤ 1000 → InLines (with_second n two)
in_lines_by n true some few =
    of_lines n true some few (omega arith) (omega arith)
    (all_two ConfigInLines _ _ first_in_lines (config_in_lines (n / 2) 2 C true 18 (omega (arith, few)) (omega arith) (omega arith)))
in_lines_by n false some few = of_lines n false some few (omega arith) (omega arith) (all_one ConfigInLines _ first_in_lines)

pub in_lines : (n : ℕ) → 1 ≤ n → n ≤ 1000 → InLines (plan n)
in_lines n some few = in_lines_by n (nat_le 4 n) some few

-- ---- no row applies to it

-- no row holds
NoneHolds : List (Bool × Invalid) → Type 0
NoneHolds [] = Unit {0}
NoneHolds (r ∷ more) = (r.0 ≡ false) × NoneHolds more

none_first : (rows : List (Bool × Invalid)) → NoneHolds rows → first_fault rows ≡ None
unfolding NoneHolds
none_first [] holds = refl
none_first (r ∷ more) holds = rw holds.0 (none_first more holds.1)

not_le : (a b : ℕ) → b < a → nat_le a b ≡ false
not_le a b less = search (rules, less)

not_lt : (a b : ℕ) → b ≤ a → nat_lt a b ≡ false
not_lt a b less = search (rules, less)

neither : (a b : Bool) → a ≡ false → b ≡ false → (a || b) ≡ false
neither true b is also = absurd cc
neither false b is also = also

-- the configuration before has as much left in each super frame, since its one block begins with it
abbrev first : Config
first = config 0 0 B false 17

abbrev free : ℕ
free = free_bytes first 0

free_in : (sf : ℕ) → free_bytes first sf ≡ free
free_in sf = ap (λ has. first.room - (size_with first (entities_of_last (first_entities first) (if has then first.blocks else [])) + 0)) (le-leb 0 (sf - 0) (omega arith))

free_twice : (n : ℕ) → free_in_countdown first (half n) ≡ free ∷ free ∷ []
free_twice n = ap (λ a. a ∷ free_bytes first (n / 2 - 2 + 1) ∷ []) (free_in (n / 2 - 2)) ∙ ap (λ b. free ∷ b ∷ []) (free_in (n / 2 - 2 + 1))

second_announced : (n : ℕ) → lacks_announcement (Some first) (half n) ≡ false
second_announced n = ap (λ sizes. not (can_be_packed sizes (announced (half n)))) (free_twice n)

second_rows : (n : ℕ) → 4 ≤ n → first_fault (rows (with_second n true) 1 (Some (config 0 0 B false 17)) (half n) []) ≡ None
unfolding NoneHolds
second_rows n most =
    none_first (rows (with_second n true) 1 (Some (config 0 0 B false 17)) (half n) []) (
      neither _ _ (not_le (n / 2) 0 (omega (arith, most))) (not_le n (n / 2) (omega (arith, most))),
      (not_lt (n / 2) 2 (omega (arith, most)), (refl, (refl, (refl, (refl, (refl, (refl, (second_announced n, (refl, (refl, tt)))))))))),
    )

valid_by : (n : ℕ) (two : Bool) → nat_le 4 n ≡ two → first_invalid (with_second n two) ≡ None
unfolding first_invalid_from
valid_by n true is = ap (λ o. first_of o None) (second_rows n (search (rules, is)))
valid_by n false is = refl

pub valid : (n : ℕ) → first_invalid (plan n) ≡ None
valid n = valid_by n (nat_le 4 n) refl
