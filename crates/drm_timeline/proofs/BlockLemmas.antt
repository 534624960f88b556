-- The entities of a block, at the front of its data field.
use Rattle.std.proofs.Common.{◌≡◌, ◌≤◌, ◌+◌, ◌-◌, ◌*◌, ◌/◌, ℕ, Bool, false, List, [], ◌++◌, length, take, replicate, option_map, Some, ap, subst, ◌∙◌, arith, length-append}
use Rattle.std.proofs.Math.Nat.{mul-div_cancel_left}
use Rattle.drm_bits.specs.Bits.{bits_of}
use Rattle.drm_bits.specs.Sink.{written, unwritten}
use Rattle.drm_bits.specs.declared.bit_sink.BitSink.{BitSink}
use Rattle.drm_bits.proofs.SinkLemmas.{front-bytes}
use Rattle.drm_sdc.specs.declared.entity.Entity.{Entity}
use Rattle.drm_sdc.specs.Field.{IsField}
use Rattle.drm_bits.specs.Sink.{WroteBits}
use Rattle.drm_sdc.specs.Writing.{entity_bits, total_size}
use Rattle.drm_sdc.proofs.EntityLaws.{small_front}
use Rattle.drm_sdc.proofs.WrittenField.{field_is, field_length}
use Rattle.drm_schedule.specs.declared.config.Config.{Config}
use Rattle.drm_schedule.specs.declared.plan.Plan.{Plan}
use Rattle.drm_schedule.specs.Sizes.{HasRoom, free_bytes, size_in_force, size_if, tells_clock}
use Rattle.drm_timeline.specs.Standing.{announced_in}
use Rattle.drm_timeline.specs.Blocks.{own_entities, entities_of}
use Rattle.drm_timeline.specs.Telling.{WroteEntities, BlockAnnounces}
use Rattle.drm_timeline.proofs.PackedLemmas.{size_append, wrote_both}
use Rattle.drm_timeline.proofs.OwnLemmas.{own_size, own_room, bits_length}

-- The sink that a data field is written into, after all entities.
pub record Filled (c : Config) (plan : Plan) (sf : ℕ) (s t : BitSink) : Type 0 where
  pub entities : List Entity
  pub are : entities_of c plan sf ≡ Some entities
  pub wrote : WroteEntities entities s t
  pub few : total_size entities ≤ c.room

pub filled : (c : Config) (plan : Plan) (sf : ℕ) (s t u : BitSink) → 1 ≤ length c.blocks → HasRoom c → WroteEntities (own_entities c sf) s t → BlockAnnounces c sf (announced_in plan sf) t u → Filled c plan sf s u
filled c plan sf s t u some room own tells = record {
  entities = own_entities c sf ++ tells.entities;
  are = ap (option_map (λ announced. own_entities c sf ++ announced)) tells.are;
  wrote = wrote_both own tells.written;
  few = omega (arith, size_append (own_entities c sf) tells.entities, own_size c sf, own_room c sf some room, tells.fit);
}

pub own_fits : (c : Config) (sf bits : ℕ) → 1 ≤ length c.blocks → HasRoom c → c.room ≤ 1023 → bits ≡ 8 * 1023 → 8 * (size_in_force c sf + size_if (tells_clock c sf)) ≤ bits
own_fits c sf bits some room small is = omega (arith, own_room c sf some room, small, is)

pub free_fits : (c : Config) (sf : ℕ) (s t : BitSink) → c.room ≤ 1023 → length (unwritten s) ≡ 8 * 1023 → WroteEntities (own_entities c sf) s t → 8 * free_bytes c sf ≤ length (unwritten t)
free_fits c sf s t small is own = omega (arith, own.left, own_size c sf, small, is)

-- how many bytes are written
pub used_is : {c : Config} {plan : Plan} {sf : ℕ} {s t : BitSink} (n : ℕ) → written s ≡ [] → n ≡ length (written t) → (f : Filled c plan sf s t) → n / 8 ≡ total_size f.entities
used_is {c} {plan} {sf} {s} {t} n empty is f =
    let size : n ≡ 8 * total_size f.entities =
    omega (arith, is, ap length f.wrote.wrote.more, ap length empty, length-append (written s) (entity_bits f.entities), bits_length f.entities f.wrote.each) in
    ap (λ m. m / 8) size ∙ mul-div_cancel_left (total_size f.entities) (omega arith)

-- the field, once zeros stand behind the entities
pub field_done : {c : Config} {plan : Plan} {sf : ℕ} {s t : BitSink} (u : BitSink) (r n : ℕ) → r ≡ c.room → written s ≡ [] → (f : Filled c plan sf s t) → n ≡ total_size f.entities → WroteBits (bits_of (replicate (r - n) 0)) t u
    → (entities : List Entity) × (entities_of c plan sf ≡ Some entities) × IsField entities (replicate (c.room - total_size entities) 0) (take c.room u.bytes.now)
field_done {c} {plan} {sf} {s} {t} u r n room empty f used zeros =
    let k : ℕ = c.room - total_size f.entities in
    let parts : List Bool = entity_bits f.entities ++ bits_of (replicate k 0) in
    let wrote : WroteBits (bits_of (replicate k 0)) t u = subst (λ m. WroteBits (bits_of (replicate m 0)) t u) (ap (λ m. m - n) room ∙ ap (λ m. c.room - m) used) zeros in
    let all : written u ≡ parts =
    wrote.more ∙ ap (λ l. l ++ bits_of (replicate k 0)) (f.wrote.wrote.more ∙ ap (λ l. l ++ entity_bits f.entities) empty) in
    let size : length (written u) ≡ 8 * c.room = omega (arith, ap length all, field_length f.entities k f.wrote.each, f.few) in
    (f.entities, f.are, field_is f.entities k (take c.room u.bytes.now) (small_front u.bytes.now c.room u.octets) f.wrote.each (front-bytes u c.room size ∙ all))
