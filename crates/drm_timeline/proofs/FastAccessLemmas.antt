-- Services by kind, and their order in the FAC.
use Rattle.std.proofs.Common.{mul_comm, ◌≡◌, ◌<◌, ◌≤◌, ◌+◌, ◌/◌, ◌%◌, ℕ, zero, suc, not, nat_lt, Bool, true, false, List, [], ◌∷◌, length, filter, cond, slice_get, All, IfSome, IsSome, inl, inr, Option, Some, None, refl, sym, subst, ◌∙◌, arith}
use Rattle.drm_fac.specs.declared.service.Service.{Service}
use Rattle.drm_fac.specs.declared.order.Slot.{Slot}
use Rattle.drm_fac.specs.declared.order.Slot.TheVariants.{Audio, Data}
use Rattle.drm_fac.specs.Services.{code_of}
use Rattle.drm_fac.specs.Pattern.{before_data, order_of, service_at}
use Rattle.drm_fac.proofs.OrderLemmas.{few, round, at_mixed, all_audio, all_data, len_audio, len_data, len_mixed}
use Rattle.std.proofs.lemmas.Option.{slice_get_cases, get_or_from_slice_get}
use Rattle.std.proofs.lemmas.List.Elements.{All-filter}
use Rattle.std.proofs.lemmas.Nat.{mod_below, div_below}
use Rattle.drm_schedule.specs.declared.config.Config.{Config}
use Rattle.drm_schedule.specs.Ranges.{ServiceInLines}
use Rattle.drm_timeline.specs.FastAccess.{is_of_kind, audio_services, data_services, services_of, service_in}

-- each service is of one kind
pub both_kinds : (services : List Service) → length (filter (is_of_kind false) services) + length (filter (is_of_kind true) services) ≡ length services
both_kinds [] = refl
both_kinds (s ∷ services) = by s.is_data (both_kinds services)
  where
    a : List Service
    a = filter (is_of_kind false) services

    d : List Service
    d = filter (is_of_kind true) services

    by : (b : Bool) → length a + length d ≡ length services → length (cond (not b) (s ∷ a) a) + length (cond b (s ∷ d) d) ≡ suc (length services)
    by true rest = omega (arith, rest)
    by false rest = omega (arith, rest)

-- one to four services have a code
pub has_code : (a d : ℕ) → 1 ≤ a + d → a + d ≤ 4 → IsSome (code_of a d)
has_code a d some few = grind arith

-- a slot names one of so many services
abbrev pub IsOneOf : ℕ → ℕ → Slot → Type 0
IsOneOf a d (Audio k) = k < a
IsOneOf a d (Data k) = k < d

one_of : (a d p : ℕ) → IsSome (code_of a d) → p < length (order_of a d) → IfSome (slice_get (order_of a d) p) (IsOneOf a d)
one_of a zero p some within = subst (λ (o : Option Slot). IfSome o (IsOneOf a zero)) (sym (all_audio a p within)) (omega (arith, within, len_audio a zero refl))
one_of zero (suc d) p some within = subst (λ (o : Option Slot). IfSome o (IsOneOf zero (suc d))) (sym (all_data (suc d) p within)) (omega (arith, within, len_data zero (suc d) refl (λ e. absurd (omega arith))))
one_of (suc a) (suc d) p some within =
    subst (λ (o : Option Slot). IfSome o (IsOneOf (suc a) (suc d))) (at_mixed (suc a) (suc d) p some (λ e. absurd (omega arith)) (λ e. absurd (omega arith)) within) (by (nat_lt (p % (n + 1)) n))
  where
    n : ℕ
    n = length (before_data (suc a))

    by : (b : Bool) → IsOneOf (suc a) (suc d) (cond b (Audio (p % (n + 1) % suc a)) (Data (p / (n + 1))))
    by true = mod_below (p % (n + 1)) (suc a) (omega arith)
    by false = div_below p (n + 1) (suc d) (omega arith) (subst (λ x. p < x) (sym (len_mixed (suc a) (suc d) some (λ e. absurd (omega arith)) (λ e. absurd (omega arith))) ∙ mul_comm (n + 1) (suc d)) within)

-- what is told at a phase is one of the services
pub is_one : (a d phase : ℕ) (slot : Slot) → IsSome (code_of a d) → Some slot ≡ service_at a d phase → IsOneOf a d slot
is_one a d phase slot some is =
    let n : ℕ = length (order_of a d) in
    subst (λ (o : Option Slot). IfSome o (IsOneOf a d)) (sym is) (one_of a d (phase % n) some (mod_below phase n (round a d some).0))

-- there is the service of a slot
slot_within : (c : Config) (slot : Slot) → IsOneOf (length (audio_services c)) (length (data_services c)) slot → service_in c slot ≡ None → ⊥
slot_within c (Audio k) within none = elim (slice_get_cases (audio_services c) k).1 [ inl is ↦ absurd cc | inr past ↦ omega (arith, within, past.0) ]
slot_within c (Data k) within none = elim (slice_get_cases (data_services c) k).1 [ inl is ↦ absurd cc | inr past ↦ omega (arith, within, past.0) ]

pub service_there : (c : Config) (phase : ℕ) (slot : Slot) → IsSome (services_of c) → Some slot ≡ service_at (length (audio_services c)) (length (data_services c)) phase → service_in c slot ≡ None → ⊥
service_there c phase slot some is none =
    slot_within c slot (is_one (length (audio_services c)) (length (data_services c)) phase slot some is) none

-- a service of a slot is one of the lines
of_list : (P : Service → Type 0) (xs : List Service) (k : ℕ) (s : Service) → All P xs → slice_get xs k ≡ Some s → P s
of_list P xs k s all is = elim (slice_get_cases xs k).1 [ inl there ↦ subst P (get_or_from_slice_get xs k s s is) (all k s there.1) | inr past ↦ absurd cc ]

pub service_fits : (c : Config) (slot : Slot) (s : Service) → All ServiceInLines c.services → service_in c slot ≡ Some s → ServiceInLines s
service_fits c (Audio k) s all is = of_list ServiceInLines (audio_services c) k s (All-filter (is_of_kind false) ServiceInLines c.services all) is
service_fits c (Data k) s all is = of_list ServiceInLines (data_services c) k s (All-filter (is_of_kind true) ServiceInLines c.services all) is
