-- Entities that are packed into super frames, by parts.
use Rattle.std.proofs.Common.{◌≡◌, ◌<◌, ◌≤◌, ◌+◌, ◌-◌, ◌*◌, ◌==◌, ℕ, suc, nat_le, nat_lt, Bool, true, false, List, [], ◌∷◌, ◌++◌, length, map, filter, drop, get_or, slice_index, cond, is_some, IsSome, Option, Some, None, option_map, if◌then◌else◌, refl, sym, ap, subst, ◌∙◌, arith, append_assoc}
use Rattle.std.proofs.lemmas.Bool.{leb-true, ltb-true, ltb-false, false≢true}
use Rattle.std.proofs.lemmas.List.{append-nil, map-append, get_or-drop}
use Rattle.std.proofs.lemmas.List.Elements.{All-nil, All-append}
use Rattle.drm_bits.specs.declared.bit_sink.BitSink.{BitSink}
use Rattle.drm_bits.specs.Fields.{spelled}
use Rattle.drm_bits.specs.Sink.{unwritten}
use Rattle.drm_sdc.specs.declared.entity.Entity.{Entity}
use Rattle.drm_sdc.specs.Entity.{EntityFits, entity_fields, entity_size}
use Rattle.drm_bits.specs.Sink.{WroteBits}
use Rattle.drm_sdc.specs.Writing.{entity_bits, total_size}
use Rattle.drm_bits.proofs.WroteLemmas.{then as behind, wrote_none}
use Rattle.plan_packing.specs.declared.packing.Spot.{Spot}
use Rattle.drm_schedule.specs.declared.announcement.Repeated.{Repeated}
use Rattle.drm_schedule.specs.SameLines.{is_of}
use Rattle.plan_packing.specs.Packing.{chain, first_that_holds, placed, packed, last_spot}
use Rattle.plan_packing.proofs.PackingLemmas.{last_is_packed, last_spot-append}
use Rattle.drm_timeline.specs.Announcing.{as_next, those_in, by_frames, packed_in, left_in}
use Rattle.drm_timeline.specs.Telling.{WroteEntities}

-- Where a size goes: into the super frame of the spot, behind what is taken there, or into a later one.
record Goes (size : ℕ) (frame taken : ℕ) (free : ℕ → ℕ) (next : Spot) : Type 0 where
  pub later : frame ≤ next.frame
  pub fits : next.taken ≤ free (next.frame - frame)
  pub same : next.frame ≡ frame → next.taken ≡ taken + size
  pub other : frame < next.frame → next.taken ≡ size

goes : (size frame taken : ℕ) (free : List ℕ) (next : Spot) → first_that_holds size frame taken free ≡ Some next → Goes size frame taken (slice_index free) next
goes size frame taken [] next is = absurd cc
goes size frame taken (room ∷ more) next is = by (goes size (frame + 1) 0 more next) (nat_le (taken + size) room) refl is
  where
    some_is : (a b : Spot) → Some a ≡ Some b → a ≡ b
    some_is a b same = cc

    shift : (n : ℕ) → frame < n → slice_index (room ∷ more) (n - frame) ≡ slice_index more (n - (frame + 1))
    shift n above = let one : n - frame ≡ suc (n - (frame + 1)) = omega (arith, above) in ap (λ k. slice_index (room ∷ more) k) one

    by : (first_that_holds size (frame + 1) 0 more ≡ Some next → Goes size (frame + 1) 0 (slice_index more) next) → (b : Bool) → nat_le (taken + size) room ≡ b
        → cond b (Some (record { frame = frame; taken = taken + size })) (first_that_holds size (frame + 1) 0 more) ≡ Some next → Goes size frame taken (slice_index (room ∷ more)) next
    by rest true test found =
        subst (λ (n : Spot). Goes size frame taken (slice_index (room ∷ more)) n) (some_is (record { frame = frame; taken = taken + size }) next found)
        (record {
          later = omega arith;
          fits = let zero_is : frame - frame ≡ 0 = omega arith in subst (λ k. taken + size ≤ slice_index (room ∷ more) k) (sym zero_is) (leb-true (taken + size) room test);
          same = λ e. refl;
          other = λ above. absurd (omega (arith, above));
        })
    by rest false test found =
        let r = rest found in
        record {
          later = omega (arith, r.later);
          fits = subst (λ n. next.taken ≤ n) (sym (shift next.frame (omega (arith, r.later)))) r.fits;
          same = λ e. absurd (omega (arith, r.later, e));
          other = λ above. at_next r.same r.other above;
        }
      where
        at_next : (next.frame ≡ frame + 1 → next.taken ≡ 0 + size) → (frame + 1 < next.frame → next.taken ≡ size) → frame < next.frame → next.taken ≡ size
        at_next same other above = choose (nat_lt (frame + 1) next.frame) refl
          where
            choose : (b : Bool) → nat_lt (frame + 1) next.frame ≡ b → next.taken ≡ size
            choose true test = other (ltb-true (frame + 1) next.frame test)
            choose false test = omega (arith, same (omega (arith, above, ltb-false (frame + 1) next.frame test)))

-- what is placed in the k-th super frame comes off what that one has left
pub room_step : (k : ℕ) (free : List ℕ) (spot next : Spot) (size : ℕ) → placed free spot size ≡ Some next → (if next.frame == k then size else 0) + left_in k free next ≤ left_in k free spot
room_step k free spot next size is = room (slice_index free k) fits g.later g.same g.other
  where
    g : Goes size spot.frame spot.taken (slice_index (drop spot.frame free)) next
    g = goes size spot.frame spot.taken (drop spot.frame free) next is

    fits : next.frame ≡ k → next.taken ≤ slice_index free k
    fits here =
        let place : spot.frame + (next.frame - spot.frame) ≡ k = omega (arith, g.later, here) in
        subst (λ n. next.taken ≤ n) (get_or-drop spot.frame free (next.frame - spot.frame) 0 ∙ ap (slice_index free) place) g.fits

    room : (n : ℕ) → (next.frame ≡ k → next.taken ≤ n) → spot.frame ≤ next.frame → (next.frame ≡ spot.frame → next.taken ≡ spot.taken + size) → (spot.frame < next.frame → next.taken ≡ size)
        → (if next.frame == k then size else 0) + (if nat_lt k next.frame then 0 else (if next.frame == k then n - next.taken else n)) ≤ (if nat_lt k spot.frame then 0 else (if spot.frame == k then n - spot.taken else n))
    room n fits later same other = grind arith

-- one entity
pub packed_one : (k : ℕ) (free : List ℕ) (spot next : Spot) (e : Entity) → placed free spot (entity_size e) ≡ Some next → packed_in k free spot (e ∷ []) ≡ (if next.frame == k then e ∷ [] else [])
unfolding packed_in
packed_one k free spot next e is = ap (λ (o : Option Spot). by_frames k (e ∷ []) (chain o (λ s. option_map (λ frames. s.frame ∷ frames) (Some [])))) is

-- some entities, and then others
is_some_from : (o : Option (List ℕ)) (s : Option Spot) → IsSome s → is_some o ≡ is_some s → (frames : List ℕ) × (o ≡ Some frames)
is_some_from None None some same = absurd (false≢true some)
is_some_from None (Some s) some same = absurd cc
is_some_from (Some frames) s some same = (frames, refl)

pub packed_cons : (k : ℕ) (free : List ℕ) (spot mid : Spot) (e : Entity) (es : List Entity) → placed free spot (entity_size e) ≡ Some mid → IsSome (last_spot free mid (map entity_size es))
    → packed_in k free spot (e ∷ es) ≡ (if mid.frame == k then e ∷ [] else []) ++ packed_in k free mid es
unfolding packed_in
packed_cons k free spot mid e es here some =
    let rest = is_some_from (packed free mid (map entity_size es)) (last_spot free mid (map entity_size es)) some (last_is_packed free mid (map entity_size es)) in
    ap (λ (o : Option Spot). by_frames k (e ∷ es) (chain o (λ s. option_map (λ frames. s.frame ∷ frames) (packed free s (map entity_size es))))) here
    ∙ ap (λ (o : Option (List ℕ)). by_frames k (e ∷ es) (option_map (λ frames. mid.frame ∷ frames) o)) rest.1
    ∙ by (mid.frame == k) rest.0
    ∙ ap (λ (o : Option (List ℕ)). (if mid.frame == k then e ∷ [] else []) ++ by_frames k es o) (sym rest.1)
  where
    by : (b : Bool) (frames : List ℕ) → cond b (e ∷ those_in k frames es) (those_in k frames es) ≡ cond b (e ∷ []) [] ++ those_in k frames es
    by true frames = refl
    by false frames = refl

pub some_next : {X Y : Type 0} (o : Option X) (f : X → Option Y) → IsSome (chain o f) → (x : X) × (o ≡ Some x) × IsSome (f x)
some_next None f some = absurd (false≢true some)
some_next (Some x) f some = (x, refl, some)

spot_is : (a b : Spot) → Some a ≡ Some b → a ≡ b
spot_is a b same = cc

pub packed_append : (k : ℕ) (free : List ℕ) (spot mid : Spot) (xs ys : List Entity) → last_spot free spot (map entity_size xs) ≡ Some mid → IsSome (last_spot free mid (map entity_size ys))
    → packed_in k free spot (xs ++ ys) ≡ packed_in k free spot xs ++ packed_in k free mid ys
unfolding packed_in
packed_append k free spot mid [] ys here some = ap (λ s. packed_in k free s ys) (spot_is spot mid here)
packed_append k free spot mid (x ∷ xs) ys here some =
    let first = some_next (placed free spot (entity_size x)) (λ s. last_spot free s (map entity_size xs)) (subst IsSome (sym here) refl) in
    let rest : last_spot free first.0 (map entity_size xs) ≡ Some mid = ap (λ (o : Option Spot). chain o (λ s. last_spot free s (map entity_size xs))) (sym first.1) ∙ here in
    let both : last_spot free first.0 (map entity_size (xs ++ ys)) ≡ last_spot free mid (map entity_size ys) =
    ap (last_spot free first.0) (map-append entity_size xs ys)
    ∙ last_spot-append free first.0 (map entity_size xs) (map entity_size ys)
    ∙ ap (λ (o : Option Spot). chain o (λ s. last_spot free s (map entity_size ys))) rest in
    let here_too : List Entity = if first.0.frame == k then x ∷ [] else [] in
    packed_cons k free spot first.0 x (xs ++ ys) first.1 (subst IsSome (sym both) some)
    ∙ ap (λ l. here_too ++ l) (packed_append k free first.0 mid xs ys rest some)
    ∙ sym (append_assoc here_too (packed_in k free first.0 xs) (packed_in k free mid ys))
    ∙ ap (λ l. l ++ packed_in k free mid ys) (sym (packed_cons k free spot first.0 x xs first.1 first.2))

-- the bytes of what is packed come off what is left
pub room_all : (k : ℕ) (free : List ℕ) (spot last : Spot) (es : List Entity) → last_spot free spot (map entity_size es) ≡ Some last → total_size (packed_in k free spot es) + left_in k free last ≤ left_in k free spot
unfolding packed_in
room_all k free spot last [] is = omega (arith, ap (left_in k free) (spot_is spot last is))
room_all k free spot last (e ∷ es) is =
    let first = some_next (placed free spot (entity_size e)) (λ s. last_spot free s (map entity_size es)) (subst IsSome (sym is) refl) in
    let rest : last_spot free first.0 (map entity_size es) ≡ Some last = ap (λ (o : Option Spot). chain o (λ s. last_spot free s (map entity_size es))) (sym first.1) ∙ is in
    let whole = packed_cons k free spot first.0 e es first.1 first.2 in
    omega (arith, ap total_size whole, room_step k free spot first.0 (entity_size e) first.1, room_all k free first.0 last es rest, size_of (first.0.frame == k) e (packed_in k free first.0 es))
  where
    size_of : (b : Bool) (e : Entity) (es : List Entity) → total_size ((if b then e ∷ [] else []) ++ es) ≡ (if b then entity_size e else 0) + total_size es
    size_of true e es = refl
    size_of false e es = omega arith

-- Entities that are written, and others behind them.
pub bits_append : (xs ys : List Entity) → entity_bits (xs ++ ys) ≡ entity_bits xs ++ entity_bits ys
bits_append [] ys = refl
bits_append (x ∷ xs) ys = ap (λ l. spelled (entity_fields x) ++ l) (bits_append xs ys) ∙ sym (append_assoc (spelled (entity_fields x)) (entity_bits xs) (entity_bits ys))

pub size_append : (xs ys : List Entity) → total_size (xs ++ ys) ≡ total_size xs + total_size ys
size_append [] ys = omega arith
size_append (x ∷ xs) ys = omega (arith, size_append xs ys)

pub wrote_none_of : (s : BitSink) → WroteEntities [] s s
wrote_none_of s = record { each = All-nil EntityFits; wrote = wrote_none s; left = omega arith }

pub wrote_both : {xs ys : List Entity} {s t u : BitSink} → WroteEntities xs s t → WroteEntities ys t u → WroteEntities (xs ++ ys) s u
wrote_both {xs} {ys} {s} {t} {u} a b = record {
  each = All-append EntityFits xs ys a.each b.each;
  wrote = subst (λ (l : List Bool). WroteBits l s u) (sym (bits_append xs ys)) (behind a.wrote b.wrote);
  left = omega (arith, a.left, b.left, size_append xs ys);
}

-- Some entities are packed from one spot up to another, and others are left.
pub record Packs (k : ℕ) (free : List ℕ) (from : Spot) (all : List Entity) (spot : Spot) (rest : List Entity) (old new : BitSink) : Type 0 where
  pub done : List Entity
  pub wrote : WroteEntities done old new
  pub whole : done ++ packed_in k free spot rest ≡ packed_in k free from all
  pub spots : last_spot free spot (map entity_size rest) ≡ last_spot free from (map entity_size all)
  pub some : IsSome (last_spot free spot (map entity_size rest))
  pub room : total_size done + left_in k free spot ≤ left_in k free from

pub packs_none : (k : ℕ) (free : List ℕ) (from : Spot) (all : List Entity) (s : BitSink) → IsSome (last_spot free from (map entity_size all)) → Packs k free from all from all s s
packs_none k free from all s some = record { done = []; wrote = wrote_none_of s; whole = refl; spots = refl; some = some; room = omega arith }

-- the first of those that are left
pub packs_first : {k : ℕ} {free : List ℕ} {from spot mid : Spot} {all : List Entity} (first rest : List Entity) {s t u : BitSink} → Packs k free from all spot (first ++ rest) s t → last_spot free spot (map entity_size first) ≡ Some mid → WroteEntities (packed_in k free spot first) t u
    → Packs k free from all mid rest s u
packs_first {k} {free} {from} {spot} {mid} {all} first rest {s} {t} {u} p here wrote =
    let both : last_spot free spot (map entity_size (first ++ rest)) ≡ last_spot free mid (map entity_size rest) =
    ap (last_spot free spot) (map-append entity_size first rest)
    ∙ last_spot-append free spot (map entity_size first) (map entity_size rest)
    ∙ ap (λ (o : Option Spot). chain o (λ s. last_spot free s (map entity_size rest))) here in
    let some : IsSome (last_spot free mid (map entity_size rest)) = subst IsSome both p.some in
    record {
      done = p.done ++ packed_in k free spot first;
      wrote = wrote_both p.wrote wrote;
      whole = append_assoc p.done (packed_in k free spot first) (packed_in k free mid rest) ∙ ap (λ l. p.done ++ l) (sym (packed_append k free spot mid first rest here some)) ∙ p.whole;
      spots = sym both ∙ p.spots;
      some = some;
      room = omega (arith, p.room, size_append p.done (packed_in k free spot first), room_all k free spot mid first here);
    }

-- there are none left
pub packs_all : {k : ℕ} {free : List ℕ} {from spot : Spot} {all : List Entity} {s t : BitSink} → Packs k free from all spot [] s t → (last_spot free from (map entity_size all) ≡ Some spot) × WroteEntities (packed_in k free from all) s t
unfolding packed_in
packs_all {k} {free} {from} {spot} {all} {s} {t} p = (sym p.spots, subst (λ (l : List Entity). WroteEntities l s t) (sym (append-nil p.done) ∙ p.whole) p.wrote)

pub placed_is : (free : List ℕ) (spot next : Spot) (size same : ℕ) (o : Option Spot) → size ≡ same → o ≡ placed free spot size → o ≡ Some next → placed free spot same ≡ Some next
placed_is free spot next size same o is here found = ap (placed free spot) (sym is) ∙ sym here ∙ found

-- an entity has as many bytes in the next configuration
pub sizes_as_next : (es : List Entity) → map entity_size (map as_next es) ≡ map entity_size es
sizes_as_next [] = refl
sizes_as_next (e ∷ es) = ap (λ l. entity_size e ∷ l) (sizes_as_next es)

-- the entities of one kind, by the first entity and the others
pub first_of_kind : (kind : Repeated) (e : Entity) (es : List Entity) → map as_next (filter (λ (x : Entity). is_of kind x.body) (e ∷ es)) ≡ map as_next (filter (λ (x : Entity). is_of kind x.body) (e ∷ [])) ++ map as_next (filter (λ (x : Entity). is_of kind x.body) es)
first_of_kind kind e es = by (is_of kind e.body) (filter (λ (x : Entity). is_of kind x.body) es)
  where
    by : (b : Bool) (rest : List Entity) → map as_next (cond b (e ∷ rest) rest) ≡ map as_next (cond b (e ∷ []) []) ++ map as_next rest
    by true rest = refl
    by false rest = refl

abbrev pub of_kind : Repeated → List Entity → List Entity
of_kind kind es = filter (λ (x : Entity). is_of kind x.body) es

-- one entity more of those that are left
pub packs_step : (k : ℕ) (free : List ℕ) (from spot mid : Spot) (all : List Entity) (kind : Repeated) (left : List Entity) (e : Entity) (s t u : BitSink) → 1 ≤ length left → e ≡ get_or left 0 e
    → Packs k free from all spot (map as_next (of_kind kind left)) s t → last_spot free spot (map entity_size (of_kind kind (e ∷ []))) ≡ Some mid → WroteEntities (packed_in k free spot (map as_next (of_kind kind (e ∷ [])))) t u
    → Packs k free from all mid (map as_next (of_kind kind (drop 1 left))) s u
packs_step k free from spot mid all kind [] e s t u some is p here wrote = absurd (omega (arith, some))
packs_step k free from spot mid all kind (x ∷ left) e s t u some is p here wrote =
    let whole : map as_next (of_kind kind (x ∷ left)) ≡ map as_next (of_kind kind (e ∷ [])) ++ map as_next (of_kind kind left) =
    first_of_kind kind x left ∙ ap (λ (y : Entity). map as_next (of_kind kind (y ∷ [])) ++ map as_next (of_kind kind left)) (sym is) in
    packs_first (map as_next (of_kind kind (e ∷ []))) (map as_next (of_kind kind left)) (subst (λ (l : List Entity). Packs k free from all spot l s t) whole p)
    (ap (last_spot free spot) (sizes_as_next (of_kind kind (e ∷ []))) ∙ here) wrote

-- before any of the entities is written, and as they are asked of here
pub packs_start : (k : ℕ) (free : List ℕ) (from : Spot) (es : List Entity) (s : BitSink) → IsSome (last_spot free from (map entity_size es)) → Packs k free from (map as_next es) from (map as_next es) s s
packs_start k free from es s some = packs_none k free from (map as_next es) s (subst IsSome (ap (last_spot free from) (sym (sizes_as_next es))) some)

pub packs_room : {k : ℕ} {free : List ℕ} {from spot : Spot} {all rest : List Entity} {s t : BitSink} → Packs k free from all spot rest s t → 8 * left_in k free from ≤ length (unwritten s) → 8 * left_in k free spot ≤ length (unwritten t)
packs_room p room = omega (arith, p.room, p.wrote.left, room)

pub packs_some : (free : List ℕ) (spot : Spot) (kind : Repeated) (left : List Entity) (e : Entity) → 1 ≤ length left → e ≡ get_or left 0 e → IsSome (last_spot free spot (map entity_size (map as_next (of_kind kind left))))
    → IsSome (last_spot free spot (map entity_size (of_kind kind (e ∷ []))))
packs_some free spot kind [] e some is all = absurd (omega (arith, some))
packs_some free spot kind (x ∷ left) e some is all =
    let first : List Entity = map as_next (of_kind kind (x ∷ [])) in
    let rest : List Entity = map as_next (of_kind kind left) in
    let whole : last_spot free spot (map entity_size (map as_next (of_kind kind (x ∷ left)))) ≡ chain (last_spot free spot (map entity_size first)) (λ s. last_spot free s (map entity_size rest)) =
    ap (λ (l : List Entity). last_spot free spot (map entity_size l)) (first_of_kind kind x left)
    ∙ ap (last_spot free spot) (map-append entity_size first rest)
    ∙ last_spot-append free spot (map entity_size first) (map entity_size rest) in
    let next = some_next (last_spot free spot (map entity_size first)) (λ s. last_spot free s (map entity_size rest)) (subst IsSome whole all) in
    let here : last_spot free spot (map entity_size (of_kind kind (e ∷ []))) ≡ Some next.0 =
    ap (λ (y : Entity). last_spot free spot (map entity_size (of_kind kind (y ∷ [])))) is
    ∙ ap (last_spot free spot) (sym (sizes_as_next (of_kind kind (x ∷ []))))
    ∙ next.1 in
    subst IsSome (sym here) refl

-- none is left
pub packs_end : (k : ℕ) (free : List ℕ) (from spot : Spot) (es left : List Entity) (kind : Repeated) (s t : BitSink) → length left < 1 → Packs k free from (map as_next es) spot (map as_next (of_kind kind left)) s t
    → (last_spot free from (map entity_size es) ≡ Some spot) × WroteEntities (packed_in k free from (map as_next es)) s t
packs_end k free from spot es [] kind s t none p = let all = packs_all p in (ap (last_spot free from) (sym (sizes_as_next es)) ∙ all.0, all.1)
packs_end k free from spot es (x ∷ left) kind s t none p = absurd (omega (arith, none))

-- one size, and where it stands
pub one_spot : (free : List ℕ) (spot next : Spot) (size : ℕ) → placed free spot size ≡ Some next → last_spot free spot (size ∷ []) ≡ Some next
one_spot free spot next size is = ap (λ (o : Option Spot). chain o (λ s. Some s)) is

-- an entity, and one more behind it
pub wrote_two : (k : ℕ) (free : List ℕ) (from mid last : Spot) (a b : Entity) (s t u : BitSink) → placed free from (entity_size a) ≡ Some mid → placed free mid (entity_size b) ≡ Some last
    → WroteEntities (packed_in k free from (a ∷ [])) s t → WroteEntities (packed_in k free mid (b ∷ [])) t u → WroteEntities (packed_in k free from (a ∷ b ∷ [])) s u
wrote_two k free from mid last a b s t u first second one other =
    subst (λ (l : List Entity). WroteEntities l s u)
    (sym (packed_append k free from mid (a ∷ []) (b ∷ []) (one_spot free from mid (entity_size a) first) (subst IsSome (sym (one_spot free mid last (entity_size b) second)) refl)))
    (wrote_both one other)

pub room_one : (k : ℕ) (free : List ℕ) (from mid : Spot) (e : Entity) (s t : BitSink) → placed free from (entity_size e) ≡ Some mid → 8 * left_in k free from ≤ length (unwritten s) → WroteEntities (packed_in k free from (e ∷ [])) s t
    → 8 * left_in k free mid ≤ length (unwritten t)
room_one k free from mid e s t here room wrote =
    omega (arith, room, wrote.left, room_all k free from mid (e ∷ []) (one_spot free from mid (entity_size e) here))
