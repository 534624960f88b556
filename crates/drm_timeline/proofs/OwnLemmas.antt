-- What blocks tell can be written.
use Rattle.std.proofs.Common.{◌≡◌, ◌<◌, ◌≤◌, ◌+◌, ◌-◌, ◌*◌, ◌/◌, ◌%◌, ◌^◌, ◌==◌, ◌&&◌, if◌then◌else◌, ℕ, suc, Bool, true, false, List, [], ◌∷◌, ◌++◌, length, take, get_or, All, Option, Some, None, is_some, refl, sym, ap, subst, ◌∙◌, arith, length-append}
use Rattle.std.proofs.lemmas.Bool.{ltb-false}
use Rattle.std.proofs.lemmas.List.{append-nil}
use Rattle.std.proofs.lemmas.List.Elements.{All-nil, All-cons}
use Rattle.std.specs.Int.{from_bool}
use Rattle.drm_bits.specs.declared.description.MuxDesc.{MuxDesc}
use Rattle.drm_bits.specs.declared.bit_sink.BitSink.{BitSink}
use Rattle.drm_bits.specs.Sink.{unwritten}
use Rattle.drm_bits.specs.Fields.{AllFit, spelled}
use Rattle.drm_bits.specs.Description.{IsDescription, part_fields}
use Rattle.drm_sdc.specs.declared.body.Body.{Body}
use Rattle.drm_sdc.specs.declared.body.Body.TheVariants.{Mux}
use Rattle.drm_sdc.specs.declared.entity.Entity.{Entity}
use Rattle.drm_sdc.specs.Entity.{EntityFits, entity_fields, entity_size}
use Rattle.drm_bits.specs.Sink.{WroteBits}
use Rattle.drm_sdc.specs.Writing.{entity_bits, total_size}
use Rattle.drm_sdc.proofs.FieldLaws.{length-spelled}
use Rattle.drm_sdc.proofs.EntityLaws.{widths-entity}
use Rattle.drm_schedule.specs.declared.config.Clock.{Clock}
use Rattle.drm_schedule.specs.declared.config.Config.{Config}
use Rattle.drm_schedule.specs.declared.stream.Stream.{Stream}
use Rattle.drm_schedule.specs.Ranges.{EntityInLines, ConfigInLines, StreamInLines, BodyInLines}
use Rattle.drm_schedule.specs.InForce.{entities_in_force}
use Rattle.drm_schedule.specs.Sizes.{size_with, size_in_force, size_if, tells_clock, HasRoom}
use Rattle.drm_schedule.proofs.Fitting.{body_fits, entity_fits}
use Rattle.drm_schedule.proofs.InForceLemmas.{AreOfLines, of_those_in_force, each_of_lines}
use Rattle.drm_timeline.specs.Announcing.{next}
use Rattle.drm_timeline.specs.Description.{description_of, parts_of}
use Rattle.drm_timeline.specs.Blocks.{current, clock_from, clock_in, own_entities}
use Rattle.drm_timeline.specs.Telling.{WroteEntities}
use Rattle.drm_timeline.proofs.PackedLemmas.{size_append, wrote_both}

flag_fits : (b : Bool) → from_bool b < 2 ^ 1
flag_fits true = omega arith
flag_fits false = omega arith

-- an entity of a line, as one of the next configuration
pub next_fits : (e : Entity) → EntityInLines e → EntityFits (next e.body)
next_fits e h =
    let b = body_fits e.body h.body_fits in
    record { fields = (b.fields.0, (flag_fits true, b.fields.1)); body = b.body; not_empty = λ is. subst BodyInLines (ap (λ (x : Entity). x.body) is) h.body_fits }

-- the parts of streams that lines give, and the zeros behind them
parts_fit : (streams : List Stream) (n : ℕ) → length streams ≤ 4 → All StreamInLines streams → n ≡ length streams → AllFit (part_fields (take n (parts_of streams)))
parts_fit [] n few all is = rw is tt
parts_fit (a ∷ []) n few all is = let p = all 0 a (omega arith) in rw is (p.a_fits, (p.b_fits, tt))
parts_fit (a ∷ b ∷ []) n few all is = let p = all 0 a (omega arith) in let q = all 1 b (omega arith) in rw is (p.a_fits, (p.b_fits, (q.a_fits, (q.b_fits, tt))))
parts_fit (a ∷ b ∷ c ∷ []) n few all is =
    let p = all 0 a (omega arith) in let q = all 1 b (omega arith) in let r = all 2 c (omega arith) in
    rw is (p.a_fits, (p.b_fits, (q.a_fits, (q.b_fits, (r.a_fits, (r.b_fits, tt))))))
parts_fit (a ∷ b ∷ c ∷ d ∷ []) n few all is =
    let p = all 0 a (omega arith) in let q = all 1 b (omega arith) in let r = all 2 c (omega arith) in let s = all 3 d (omega arith) in
    rw is (p.a_fits, (p.b_fits, (q.a_fits, (q.b_fits, (r.a_fits, (r.b_fits, (s.a_fits, (s.b_fits, tt))))))))
parts_fit (a ∷ b ∷ c ∷ d ∷ e ∷ more) n few all is = absurd (omega (arith, few))

is_description : (c : Config) (streams : List Stream) → length streams ≤ 4 → IsDescription (record { prot_a = c.prot_a; prot_b = c.prot_b; count = length streams; parts = parts_of streams })
is_description c [] few = record { size = refl; count = few; rest = refl }
is_description c (x ∷ []) few = record { size = refl; count = few; rest = refl }
is_description c (x ∷ y ∷ []) few = record { size = refl; count = few; rest = refl }
is_description c (x ∷ y ∷ z ∷ []) few = record { size = refl; count = few; rest = refl }
is_description c (x ∷ y ∷ z ∷ w ∷ []) few = record { size = refl; count = few; rest = refl }
is_description c (x ∷ y ∷ z ∷ w ∷ v ∷ more) few = absurd (omega (arith, few))

-- the description of one to four streams
pub description_fits : (c : Config) (version : Bool) → ConfigInLines c → EntityFits (record { version = version; body = Mux (description_of c) })
description_fits c version fits = record {
  fields = (
    omega (arith, fits.few_streams),
    (flag_fits version, (omega arith, (fits.prot_a_fits, (fits.prot_b_fits, parts_fit c.streams (length c.streams) fits.few_streams fits.each_stream refl)))),
  );
  body = is_description c c.streams fits.few_streams;
  not_empty = λ is. omega (arith, fits.some_stream, ap count_of is);
}
  where
    count_of : Entity → ℕ
    count_of e = by e.body
      where
        by : Body → ℕ
        by (Mux desc) = desc.count
        by _ = 0

-- The entities of a block's own configuration.
pub own_sizes : (c : Config) (sf : ℕ) → total_size (own_entities c sf) ≡ size_in_force c sf + total_size (clock_in c sf)
own_sizes c sf = omega (arith, size_append (entities_in_force c sf) (clock_in c sf))

clock_sizes : (c : Config) (sf : ℕ) → total_size (clock_in c sf) ≡ size_if (tells_clock c sf)
clock_sizes c sf = by c.clock
  where
    by : (o : Option Clock) → total_size (if is_some o && (sf - c.start) % 50 == 0 then clock_from ((sf - c.start) / 50) o else []) ≡ size_if (is_some o && (sf - c.start) % 50 == 0)
    by None = refl
    by (Some clock) = at ((sf - c.start) % 50 == 0)
      where
        at : (b : Bool) → total_size (if b then clock_from ((sf - c.start) / 50) (Some clock) else []) ≡ size_if b
        at true = refl
        at false = refl

-- at most what is reserved for a clock
clock_most : (c : Config) (sf : ℕ) → size_if (tells_clock c sf) ≤ size_if (is_some c.clock)
clock_most c sf = by (is_some c.clock) ((sf - c.start) % 50 == 0)
  where
    by : (a b : Bool) → size_if (a && b) ≤ size_if a
    by true true = omega arith
    by true false = omega arith
    by false b = omega arith

pub own_size : (c : Config) (sf : ℕ) → total_size (own_entities c sf) ≡ size_in_force c sf + size_if (tells_clock c sf)
own_size c sf = own_sizes c sf ∙ ap (λ n. size_in_force c sf + n) (clock_sizes c sf)

-- they have room
pub own_room : (c : Config) (sf : ℕ) → 1 ≤ length c.blocks → HasRoom c → size_in_force c sf + size_if (tells_clock c sf) ≤ c.room
own_room c sf some room =
    let fits : size_with c (entities_in_force c sf) + size_if (is_some c.clock) ≤ c.room =
    of_those_in_force (λ entities. size_with c entities + size_if (is_some c.clock) ≤ c.room) c sf some
    (λ k d within. ltb-false c.room (size_with c (get_or c.blocks k d).entities + size_if (is_some c.clock)) (room k d within)) in
    omega (arith, fits, clock_most c sf)

pub lines_fit : (es : List Entity) → All EntityInLines es → All EntityFits es
lines_fit es all k d within = entity_fits (get_or es k d) (all k d within)

pub each_in_force : (c : Config) (sf : ℕ) → ConfigInLines c → All EntityInLines (entities_in_force c sf)
each_in_force c sf fits = (of_those_in_force (λ entities. AreOfLines entities) c sf fits.some_block (each_of_lines c.blocks fits.each_block)).1

-- the description, the entities of the lines and the clock, one behind another
pub wrote_own : (c : Config) (sf : ℕ) (d : MuxDesc) (es : List Entity) (s t u v : BitSink) → ConfigInLines c → d ≡ description_of c → es ≡ entities_in_force c sf
    → WroteBits (spelled (entity_fields (current (Mux d)))) s t → length (unwritten t) + 8 * entity_size (current (Mux d)) ≡ length (unwritten s)
    → WroteBits (entity_bits es) t u → length (unwritten u) + 8 * total_size es ≡ length (unwritten t) → WroteEntities (clock_in c sf) u v → WroteEntities (own_entities c sf) s v
wrote_own c sf d es s t u v fits is same first first_left rest rest_left clock =
    let one : WroteEntities (current (Mux d) ∷ []) s t = record {
      each = All-cons EntityFits (current (Mux d)) [] (subst (λ (x : MuxDesc). EntityFits (current (Mux x))) (sym is) (description_fits c false fits)) (All-nil EntityFits);
      wrote = subst (λ (l : List Bool). WroteBits l s t) (sym (append-nil (spelled (entity_fields (current (Mux d)))))) first;
      left = omega (arith, first_left);
    } in
    let lines : WroteEntities es t u = record { each = subst (All EntityFits) (sym same) (lines_fit (entities_in_force c sf) (each_in_force c sf fits)); wrote = rest; left = rest_left } in
    subst (λ (x : MuxDesc). WroteEntities (current (Mux x) ∷ (entities_in_force c sf ++ clock_in c sf)) s v) is
    (subst (λ (l : List Entity). WroteEntities (current (Mux d) ∷ (l ++ clock_in c sf)) s v) same (wrote_both one (wrote_both lines clock)))

-- entities have eight bits a byte
pub bits_length : (es : List Entity) → All EntityFits es → length (entity_bits es) ≡ 8 * total_size es
bits_length [] all = omega arith
bits_length (e ∷ es) all =
    let fits : EntityFits e = all 0 e (omega arith) in
    omega (arith, length-append (spelled (entity_fields e)) (entity_bits es), length-spelled (entity_fields e), widths-entity e fits.body, bits_length es (λ k d within. all (suc k) d (omega (arith, within))))
