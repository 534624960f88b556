-- The signatures of the frames of a schedule.
use Rattle.std.proofs.Common.{◌≡◌, ◌≢◌, ◌≤◌, ◌+◌, ◌-◌, ◌*◌, ◌/◌, ◌%◌, ◌⊎◌, inl, inr, ℕ, length, get_or, All, IfSome, IsSome, Option, Some, None, refl, sym, ap, subst, ◌∙◌, arith}
use Rattle.std.proofs.lemmas.Nat.{mod_below}
use Rattle.std.proofs.lemmas.Option.{slice_get_cases}
use Rattle.drm_fac.specs.declared.order.Slot.{Slot}
use Rattle.drm_fac.specs.declared.service.Service.{Service}
use Rattle.drm_fac.specs.Pattern.{order_of, service_at}
use Rattle.drm_fac.proofs.OrderLemmas.{round}
use Rattle.drm_schedule.specs.declared.config.Config.{Config}
use Rattle.drm_schedule.specs.declared.plan.Plan.{Plan}
use Rattle.plan_packing.specs.Packing.{chain}
use Rattle.drm_schedule.specs.Ranges.{ConfigInLines}
use Rattle.drm_schedule.specs.Valid.{AreFaultless}
use Rattle.drm_reconfiguration.specs.declared.seen.Signature.{Signature}
use Rattle.drm_timeline.specs.Standing.{has_started, config_of}
use Rattle.drm_timeline.specs.FastAccess.{audio_services, data_services, services_of, service_of, service_in, channel_of}
use Rattle.drm_timeline.specs.Description.{description_of}
use Rattle.drm_reconfiguration.specs.Seen.{signature_of}
use Rattle.drm_timeline.specs.Starts.{IsFirstFrame, signature_at}
use Rattle.drm_timeline.proofs.FastAccessLemmas.{service_there}
use Rattle.drm_timeline.proofs.ScheduleLemmas.{all_sound, some_config, sound_services}
use Rattle.drm_timeline.proofs.StandingLemmas.{last_passing_has}
use Rattle.drm_timeline.proofs.StartsLemmas.{stays_or_starts, is_later}

-- in each frame a service is told
has_service : (c : Config) (phase : ℕ) → IsSome (services_of c) → (service : Service) × (service_of c phase ≡ Some service)
has_service c phase some = by (service_at a d phase) refl
  where
    a : ℕ
    a = length (audio_services c)

    d : ℕ
    d = length (data_services c)

    of_slot : (slot : Slot) → service_at a d phase ≡ Some slot → (o : Option Service) → service_in c slot ≡ o → (service : Service) × (o ≡ Some service)
    of_slot slot is None none = absurd (service_there c phase slot some (sym is) none)
    of_slot slot is (Some service) is_service = (service, refl)

    by : (o : Option Slot) → service_at a d phase ≡ o → (service : Service) × (chain o (service_in c) ≡ Some service)
    by (Some slot) is = of_slot slot is (service_in c slot) refl
    by None is =
        let n : ℕ = length (order_of a d) in
        elim (slice_get_cases (order_of a d) (phase % n)).1 [ inl there ↦ absurd cc | inr past ↦ absurd (omega (arith, past.0, mod_below phase n (round a d some).0)) ]

-- what holds of the configuration of each super frame
pub record IsThere (plan : Plan) (sf : ℕ) : Type 0 where
  pub config : Config
  pub holds : config_of plan sf ≡ Some config
  pub services : ℕ
  pub code : services_of config ≡ Some services

pub there : (plan : Plan) (sf : ℕ) → 1 ≤ length plan.configs → AreFaultless plan None plan.configs → All ConfigInLines plan.configs → IsThere plan sf
there plan sf some are fit = by (config_of plan sf) refl
  where
    have : IfSome (config_of plan sf) (λ c. IsSome (services_of c))
    have =
        last_passing_has (has_started sf) (λ c. IsSome (services_of c)) plan.configs
        (λ k d within. sound_services (get_or plan.configs k d) (fit k d within) (all_sound plan None plan.configs are k d within))

    code_of : (c : Config) → config_of plan sf ≡ Some c → (o : Option ℕ) → services_of c ≡ o → IsSome o → IsThere plan sf
    code_of c is None none has = absurd cc
    code_of c is (Some services) code has = record { config = c; holds = is; services = services; code = code }

    by : (o : Option Config) → config_of plan sf ≡ o → IsThere plan sf
    by None none = absurd (some_config plan sf plan.configs some are none)
    by (Some c) is = code_of c is (services_of c) refl (subst (λ (o : Option Config). IfSome o (λ c. IsSome (services_of c))) is have)

-- the signature of the frames of a configuration
abbrev signature_under : Config → ℕ → Signature
signature_under c services = signature_of c.mode (channel_of c services 0 0) (description_of c)

signed_as : (plan : Plan) (t : ℕ) (c : Config) (services : ℕ) → config_of plan (t / 3) ≡ Some c → services_of c ≡ Some services → signature_at plan t ≡ Some (signature_under c services)
signed_as plan t c services holds code =
    let is_service = has_service c (t - 3 * c.start) (subst (λ (o : Option ℕ). IsSome o) (sym code) refl) in
    rw (holds, code, is_service.1) refl

pub signed_in : (plan : Plan) (t : ℕ) → IsThere plan (t / 3) → IsSome (signature_at plan t)
signed_in plan t is = subst (λ (o : Option Signature). IsSome o) (sym (signed_as plan t is.config is.services is.holds is.code)) refl

-- where the configuration stays, so does the signature
same_signature : (plan : Plan) (t u : ℕ) → IsThere plan (t / 3) → config_of plan (t / 3) ≡ config_of plan (u / 3) → signature_at plan t ≡ signature_at plan u
same_signature plan t u is same =
    signed_as plan t is.config is.services is.holds is.code ∙ sym (signed_as plan u is.config is.services (sym same ∙ is.holds) is.code)

next_frame : (t : ℕ) → ((t + 1) / 3 ≡ t / 3) ⊎ (((t + 1) / 3 ≡ t / 3 + 1) × (t + 1 ≡ 3 * (t / 3 + 1)))
next_frame t = grind arith

-- so signatures change only with the first frame of a later configuration
pub changes_in : (plan : Plan) (t : ℕ) → AreFaultless plan None plan.configs → IsThere plan (t / 3) → signature_at plan t ≢ signature_at plan (t + 1) → IsFirstFrame plan (t + 1)
changes_in plan t are is differ =
    elim (next_frame t) [
      | inl same ↦ absurd (differ (same_signature plan t (t + 1) is (ap (config_of plan) (sym same))))
      | inr next ↦
          elim (stays_or_starts (t / 3) None plan.configs) [
            | inl same ↦ absurd (differ (same_signature plan t (t + 1) is (same ∙ ap (config_of plan) (sym next.0))))
            | inr start ↦ (t / 3 + 1, is_later plan plan.configs (t / 3 + 1) are (omega arith) start, next.1)
          ]
    ]
