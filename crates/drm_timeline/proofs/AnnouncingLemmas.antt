-- The announcement of a configuration, packed by its parts.
use Rattle.std.proofs.Common.{◌≡◌, ◌<◌, ◌≤◌, ◌+◌, ◌-◌, ◌*◌, ℕ, nat_le, nat_lt, true, take, slice_index, List, [], ◌∷◌, ◌++◌, length, map, IsSome, false, option_map, Option, Some, None, refl, sym, ap, subst, ◌∙◌, arith}
use Rattle.std.proofs.lemmas.Bool.{and_parts, leb-true, ltb-true}
use Rattle.std.proofs.lemmas.List.{append-nil, map-append}
use Rattle.std.proofs.lemmas.List.FromFn.{get_or-map-range_with_len}
use Rattle.drm_bits.specs.declared.bit_sink.BitSink.{BitSink}
use Rattle.drm_bits.specs.declared.description.MuxDesc.{MuxDesc}
use Rattle.drm_fac.specs.Mode.{mode_code}
use Rattle.drm_sdc.specs.declared.body.Body.{Body}
use Rattle.drm_sdc.specs.declared.body.Body.TheVariants.{Mux, Next}
use Rattle.drm_sdc.specs.declared.entity.Entity.{Entity}
use Rattle.drm_sdc.specs.Entity.{entity_size}
use Rattle.drm_sdc.specs.Writing.{total_size}
use Rattle.drm_schedule.specs.declared.config.Config.{Config}
use Rattle.plan_packing.specs.declared.packing.Spot.{Spot}
use Rattle.drm_schedule.specs.declared.announcement.Repeated.TheVariants.{Audio, App}
use Rattle.drm_schedule.specs.Sizes.{description_size, free_bytes}
use Rattle.plan_packing.specs.Packing.{chain, placed, last_spot, front}
use Rattle.drm_schedule.specs.Announcement.{repeated_of, announced, parameters_size, countdown_start, free_in_countdown, can_be_announced}
use Rattle.plan_packing.proofs.PackingLemmas.{last_spot-append, last_is_packed}
use Rattle.drm_timeline.specs.Standing.{is_counting}
use Rattle.drm_timeline.specs.FastAccess.{services_of}
use Rattle.drm_timeline.specs.Description.{description_of, parameters_of}
use Rattle.drm_timeline.specs.Announcing.{next, as_next, packed_in, announcement_of, left_in}
use Rattle.drm_timeline.specs.Telling.{WroteEntities, BlockAnnounces}
use Rattle.drm_timeline.proofs.PackedLemmas.{Packs, packs_none, packs_first, packs_all, room_all, some_next, sizes_as_next}

-- the description of the streams, as the code asks for it
pub head_here : (free : List ℕ) (f mid : Spot) (n m : ℕ) → f ≡ front → n ≡ m → placed free f (2 + 3 * n) ≡ Some mid → placed free front (2 + 3 * m) ≡ Some mid
head_here free f mid n m at same here = sym (ap (λ s. placed free s (2 + 3 * n)) at ∙ ap (λ k. placed free front (2 + 3 * k)) same) ∙ here

pub head_wrote : (k : ℕ) (free : List ℕ) (f : Spot) (d e : MuxDesc) (s t : BitSink) → f ≡ front → d ≡ e → WroteEntities (packed_in k free f (next (Mux d) ∷ [])) s t → WroteEntities (packed_in k free front (next (Mux e) ∷ [])) s t
head_wrote k free f d e s t at same wrote =
    subst (λ (l : List Entity). WroteEntities l s t) (ap (λ p. packed_in k free p (next (Mux d) ∷ [])) at ∙ ap (λ (x : MuxDesc). packed_in k free front (next (Mux x) ∷ [])) same) wrote

-- The whole announcement: what stands at its head, and the entities of both kinds.
abbrev pub whole_of : List Entity → List Entity → List Entity → List Entity
whole_of head audio apps = head ++ (map as_next audio ++ map as_next apps)

pub behind_head : (k : ℕ) (free : List ℕ) (mid : Spot) (head audio apps : List Entity) (s t : BitSink) → IsSome (last_spot free front (map entity_size (whole_of head audio apps))) → last_spot free front (map entity_size head) ≡ Some mid → WroteEntities (packed_in k free front head) s t
    → Packs k free front (whole_of head audio apps) mid (map as_next audio ++ map as_next apps) s t
behind_head k free mid head audio apps s t some here wrote =
    packs_first head (map as_next audio ++ map as_next apps) (packs_none k free front (whole_of head audio apps) s some) here wrote

pub behind_audio : {k : ℕ} {free : List ℕ} {mid last : Spot} {all : List Entity} (audio apps : List Entity) {s t u : BitSink} → Packs k free front all mid (map as_next audio ++ map as_next apps) s t → last_spot free mid (map entity_size audio) ≡ Some last
    → WroteEntities (packed_in k free mid (map as_next audio)) t u → Packs k free front all last (map as_next apps) s u
behind_audio {k} {free} {mid} audio apps p here wrote = packs_first (map as_next audio) (map as_next apps) p (ap (last_spot free mid) (sizes_as_next audio) ∙ here) wrote

pub behind_apps : {k : ℕ} {free : List ℕ} {mid last : Spot} {all : List Entity} (apps : List Entity) {s t u : BitSink} → Packs k free front all mid (map as_next apps) s t → last_spot free mid (map entity_size apps) ≡ Some last
    → WroteEntities (packed_in k free mid (map as_next apps)) t u → WroteEntities (packed_in k free front all) s u × (total_size (packed_in k free front all) ≤ left_in k free front)
behind_apps {k} {free} {mid} {last} {all} apps {s} {t} {u} p here wrote =
    let q = packs_first (map as_next apps) [] (subst (λ (l : List Entity). Packs k free front all mid l s t) (sym (append-nil (map as_next apps))) p) (ap (last_spot free mid) (sizes_as_next apps) ∙ here) wrote in
    let done = packs_all q in
    (done.1, omega (arith, room_all k free front last all done.0))

-- what is asked of the parts
pub some_audio : {k : ℕ} {free : List ℕ} {mid : Spot} {all : List Entity} (audio apps : List Entity) {s t : BitSink} → Packs k free front all mid (map as_next audio ++ map as_next apps) s t → IsSome (last_spot free mid (map entity_size audio))
some_audio {k} {free} {mid} audio apps p =
    let split : last_spot free mid (map entity_size (map as_next audio ++ map as_next apps)) ≡ chain (last_spot free mid (map entity_size audio)) (λ s. last_spot free s (map entity_size (map as_next apps))) =
    ap (last_spot free mid) (map-append entity_size (map as_next audio) (map as_next apps))
    ∙ last_spot-append free mid (map entity_size (map as_next audio)) (map entity_size (map as_next apps))
    ∙ ap (λ l. chain (last_spot free mid l) (λ s. last_spot free s (map entity_size (map as_next apps)))) (sizes_as_next audio) in
    let next = some_next (last_spot free mid (map entity_size audio)) (λ s. last_spot free s (map entity_size (map as_next apps))) (subst IsSome split p.some) in
    subst IsSome (sym next.1) refl

pub some_apps : {k : ℕ} {free : List ℕ} {mid : Spot} {all : List Entity} (apps : List Entity) {s t : BitSink} → Packs k free front all mid (map as_next apps) s t → IsSome (last_spot free mid (map entity_size apps))
some_apps {k} {free} {mid} apps p = subst IsSome (ap (last_spot free mid) (sizes_as_next apps)) p.some

-- the sizes of the whole announcement
pub sizes_whole : (head audio apps : List Entity) → map entity_size (whole_of head audio apps) ≡ map entity_size head ++ map entity_size (audio ++ apps)
sizes_whole head audio apps =
    map-append entity_size head (map as_next audio ++ map as_next apps)
    ∙ ap (λ l. map entity_size head ++ l)
    (map-append entity_size (map as_next audio) (map as_next apps) ∙ ap (λ l. l ++ map entity_size (map as_next apps)) (sizes_as_next audio) ∙ ap (λ l. map entity_size audio ++ l) (sizes_as_next apps) ∙ sym (map-append entity_size audio apps))

-- where all sizes are packed, the first ones are
pub head_packs : (free : List ℕ) (xs ys : List ℕ) → IsSome (last_spot free front (xs ++ ys)) → IsSome (last_spot free front xs)
head_packs free xs ys some =
    let next = some_next (last_spot free front xs) (λ s. last_spot free s ys) (subst IsSome (last_spot-append free front xs ys) some) in
    subst IsSome (sym next.1) refl

-- the description and the channel parameters
abbrev pub head_of : Config → Body → List Entity
head_of c parameters = next (Mux (description_of c)) ∷ next parameters ∷ []

abbrev pub announcement_with : Config → Body → List Entity
announcement_with c parameters = whole_of (head_of c parameters) (repeated_of Audio c) (repeated_of App c)

parameters_length : (c : Config) (p : Body) → parameters_of c ≡ Some p → entity_size (next p) ≡ parameters_size
parameters_length c p is = by (services_of c) is
  where
    by : (o : Option ℕ) → option_map (λ services. Next false (mode_code c.mode) c.occupancy c.short_depth c.msc c.qam4 services 0) o ≡ Some p → entity_size (next p) ≡ parameters_size
    by None is = absurd cc
    by (Some n) is = ap size_of (sym is)
      where
        size_of : Option Body → ℕ
        size_of None = 0
        size_of (Some b) = entity_size (next b)

sizes_are : (c : Config) (p : Body) → parameters_of c ≡ Some p → map entity_size (head_of c p) ≡ description_size (length c.streams) ∷ parameters_size ∷ []
sizes_are c p is = ap (λ n. description_size (length c.streams) ∷ n ∷ []) (parameters_length c p is)

-- what is known once the head is written
pub after_head : (c : Config) (p : Body) (k : ℕ) (free : List ℕ) (mid : Spot) (s t : BitSink) → IsSome (last_spot free front (announced c)) → parameters_of c ≡ Some p
    → last_spot free front (description_size (length c.streams) ∷ parameters_size ∷ []) ≡ Some mid → WroteEntities (packed_in k free front (head_of c p)) s t
    → Packs k free front (announcement_with c p) mid (map as_next (repeated_of Audio c) ++ map as_next (repeated_of App c)) s t
after_head c p k free mid s t some is here wrote =
    let audio : List Entity = repeated_of Audio c in
    let apps : List Entity = repeated_of App c in
    let sizes : map entity_size (announcement_with c p) ≡ announced c = sizes_whole (head_of c p) audio apps ∙ ap (λ l. l ++ map entity_size (audio ++ apps)) (sizes_are c p is) in
    behind_head k free mid (head_of c p) audio apps s t (subst IsSome (ap (last_spot free front) (sym sizes)) some) (ap (last_spot free front) (sizes_are c p is) ∙ here) wrote

pub is_announcement : (c : Config) (p : Body) → parameters_of c ≡ Some p → announcement_of c ≡ Some (announcement_with c p)
is_announcement c p is =
    ap (option_map (λ parameters. next (Mux (description_of c)) ∷ next parameters ∷ map as_next (repeated_of Audio c ++ repeated_of App c))) is
    ∙ ap (λ (l : List Entity). Some (next (Mux (description_of c)) ∷ next p ∷ l)) (map-append as_next (repeated_of Audio c) (repeated_of App c))

-- The super frame of a countdown.
pub counts_within : (sf : ℕ) (c : Config) → is_counting sf c ≡ true → (countdown_start c ≤ sf) × (sf - countdown_start c < c.countdown)
counts_within sf c counts =
    let parts = and_parts (nat_le (countdown_start c) sf) (nat_lt sf c.start) counts in
    let from : countdown_start c ≤ sf = leb-true (countdown_start c) sf parts.0 in
    (from, omega (arith, from, ltb-true sf c.start parts.1))

left_front : (k : ℕ) (free : List ℕ) → left_in k free front ≡ slice_index free k
left_front k free = grind arith

-- before anything is packed a super frame has left what it has free
room_here : (before c : Config) (sf : ℕ) → is_counting sf c ≡ true → left_in (sf - countdown_start c) (free_in_countdown before c) front ≡ free_bytes before sf
room_here before c sf counts =
    let within = counts_within sf c counts in
    let there : countdown_start c + (sf - countdown_start c) ≡ sf = omega (arith, within.0) in
    left_front (sf - countdown_start c) (free_in_countdown before c)
    ∙ get_or-map-range_with_len (free_bytes before) (countdown_start c) c.countdown (sf - countdown_start c) sf 0 within.1 there

-- What the code computes of a countdown.
pub record Computes (before c : Config) (sf n d : ℕ) (free : List ℕ) : Type 0 where
  pub count : n ≡ c.countdown
  pub first : d ≡ c.start - n
  pub is : take c.countdown free ≡ free_in_countdown before c
  pub counting : is_counting sf c ≡ true
  pub can : can_be_announced before c ≡ true

free_same : {before c : Config} {sf n d : ℕ} {free : List ℕ} → Computes before c sf n d free → take n free ≡ free_in_countdown before c
free_same {before} {c} {sf} {n} {d} {free} is = ap (λ m. take m free) is.count ∙ is.is

frame_same : {before c : Config} {sf n d : ℕ} {free : List ℕ} → Computes before c sf n d free → sf - d ≡ sf - countdown_start c
frame_same {before} {c} {sf} is = ap (λ m. sf - m) (is.first ∙ ap (λ m. c.start - m) is.count)

room_same : {before c : Config} {sf n d : ℕ} {free : List ℕ} → Computes before c sf n d free → left_in (sf - d) (take n free) front ≡ free_bytes before sf
room_same {before} {c} {sf} {n} {d} {free} is =
    ap (λ k. left_in k (take n free) front) (frame_same is) ∙ ap (λ l. left_in (sf - countdown_start c) l front) (free_same is) ∙ room_here before c sf is.counting

pub packs_whole : (before c : Config) (sf : ℕ) {n d : ℕ} {free : List ℕ} → Computes before c sf n d free → IsSome (last_spot (take n free) front (announced c))
packs_whole before c sf is = subst (λ l. IsSome (last_spot l front (announced c))) (sym (free_same is)) (sym (last_is_packed (free_in_countdown before c) front (announced c)) ∙ is.can)

pub room_whole : (before c : Config) (sf : ℕ) {n d : ℕ} {free : List ℕ} (bits : ℕ) → Computes before c sf n d free → 8 * free_bytes before sf ≤ bits → 8 * left_in (sf - d) (take n free) front ≤ bits
room_whole before c sf bits is room = omega (arith, room_same is, room)

pub tells_whole : (before c : Config) (sf : ℕ) {n d : ℕ} {free : List ℕ} (s t : BitSink) → Computes before c sf n d free
    → (w : (entities : List Entity) × (announcement_of c ≡ Some entities) × WroteEntities (packed_in (sf - d) (take n free) front entities) s t × (total_size (packed_in (sf - d) (take n free) front entities) ≤ left_in (sf - d) (take n free) front))
    → BlockAnnounces before sf (Some c) s t
tells_whole before c sf {n} {d} {free} s t is w =
    let here : List Entity = packed_in (sf - countdown_start c) (free_in_countdown before c) front w.0 in
    let same : packed_in (sf - d) (take n free) front w.0 ≡ here = ap (λ k. packed_in k (take n free) front w.0) (frame_same is) ∙ ap (λ l. packed_in (sf - countdown_start c) l front w.0) (free_same is) in
    record {
      entities = here;
      are = ap (option_map (packed_in (sf - countdown_start c) (free_in_countdown before c) front)) w.1;
      written = subst (λ (l : List Entity). WroteEntities l s t) same w.2;
      fit = omega (arith, w.3, room_same is, ap total_size same);
    }
