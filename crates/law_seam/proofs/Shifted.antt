-- What a configuration tells, so many super frames later.
use Rattle.std.proofs.Common.{◌≡◌, ◌+◌, ◌-◌, ◌*◌, ◌/◌, ◌%◌, ◌==◌, ◌&&◌, ◌≤◌, ℕ, zero, suc, if◌then◌else◌, List, [], ◌∷◌, ◌++◌, map, option_map, is_some, Option, Some, refl, ap, ap₂, ◌∙◌, arith}
use Rattle.std.specs.List.{range_with_len}
use Rattle.drm_fac.specs.declared.fac.Fac.{Fac}
use Rattle.drm_sdc.specs.declared.entity.Entity.{Entity}
use Rattle.drm_sdc.specs.declared.body.Body.TheVariants.{Mux}
use Rattle.drm_schedule.specs.declared.config.Config.{Config}
use Rattle.drm_schedule.specs.InForce.{entities_of_last, begun, first_entities}
use Rattle.drm_schedule.specs.Sizes.{free_bytes, size_with, size_if}
use Rattle.drm_schedule.specs.Announcement.{countdown_start, free_in_countdown}
use Rattle.plan_packing.specs.Packing.{chain, front}
use Rattle.drm_timeline.specs.FastAccess.{services_of, service_of, channel_of, fac_under}
use Rattle.drm_timeline.specs.Description.{description_of}
use Rattle.drm_timeline.specs.Blocks.{current, clock_from, own_entities}
use Rattle.drm_timeline.specs.Announcing.{announced_by, announcement_of, packed_in}
use Rattle.law_seam.specs.Joined.{shifted}

-- a configuration that starts so many super frames later, announced by this countdown
abbrev pub raised : ℕ → ℕ → Config → Config
raised n countdown c = record c { start = c.start + n; countdown = countdown }

module _ (n countdown : ℕ) (c : Config) where
  -- what the FAC says in a frame
  abbrev fac_at : ℕ → ℕ → ℕ → Option Fac
  fac_at index position phase = chain (services_of c) (λ services. option_map (λ service. record { channel = channel_of c services index position; service = service }) (service_of c phase))

  pub same_fac : (index t : ℕ) → fac_under (raised n countdown c) index (3 * n + t) ≡ fac_under c index t
  same_fac index t =
      let position : (3 * n + t) % 3 ≡ t % 3 = omega arith in
      let phase : 3 * n + t - 3 * (c.start + n) ≡ t - 3 * c.start = omega arith in
      ap₂ (λ (p q : ℕ). fac_at index p q) position phase

  -- its own entities, so many super frames behind its start
  abbrev own_at : ℕ → List Entity
  own_at k = current (Mux (description_of c)) ∷ (entities_of_last (first_entities c) (begun k c.blocks) ++ (if is_some c.clock && k % 50 == 0 then clock_from (k / 50) c.clock else []))

  behind_start : (sf : ℕ) → n + sf - (c.start + n) ≡ sf - c.start
  behind_start sf = omega arith

  pub same_own : (sf : ℕ) → own_entities (raised n countdown c) (n + sf) ≡ own_entities c sf
  same_own sf = ap own_at (behind_start sf)

  -- what is free, so many super frames behind its start
  abbrev free_at : ℕ → ℕ
  free_at k = c.room - (size_with c (entities_of_last (first_entities c) (begun k c.blocks)) + size_if (is_some c.clock && k % 50 == 0))

  pub same_free : (sf : ℕ) → free_bytes (raised n countdown c) (n + sf) ≡ free_bytes c sf
  same_free sf = ap free_at (behind_start sf)

  same_frees : (from len : ℕ) → map (free_bytes (raised n countdown c)) (range_with_len (n + from) len) ≡ map (free_bytes c) (range_with_len from len)
  same_frees from zero = refl
  same_frees from (suc len) =
      let next : n + from + 1 ≡ n + (from + 1) = omega arith in
      ap₂ (λ (x : ℕ) (l : List ℕ). x ∷ l) (same_free from) (ap (λ k. map (free_bytes (raised n countdown c)) (range_with_len k len)) next ∙ same_frees (from + 1) len)

  -- what it tells of one that starts later, too
  pub same_announced : (sf : ℕ) (e : Config) → e.countdown ≤ e.start → announced_by (raised n countdown c) (n + sf) (Some (shifted n e)) ≡ announced_by c sf (Some e)
  same_announced sf e few =
      let begins : countdown_start (shifted n e) ≡ n + countdown_start e = omega (arith, few) in
      let at : n + sf - countdown_start (shifted n e) ≡ sf - countdown_start e = omega (arith, begins) in
      let free : free_in_countdown (raised n countdown c) (shifted n e) ≡ free_in_countdown c e =
      ap (λ k. map (free_bytes (raised n countdown c)) (range_with_len k e.countdown)) begins ∙ same_frees (countdown_start e) e.countdown in
      ap₂ (λ (k : ℕ) (l : List ℕ). option_map (packed_in k l front) (announcement_of e)) at free
