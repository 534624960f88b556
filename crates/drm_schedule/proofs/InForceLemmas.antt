-- Which entities are in force.
use Rattle.std.proofs.Common.{◌≡◌, ℕ, zero, suc, ◌+◌, ◌-◌, ◌<◌, ◌≤◌, ◌==◌, Bool, true, false, leb, List, [], ◌∷◌, ◌++◌, length, All, Some, None, if◌then◌else◌, refl, sym, ap, ◌∙◌, arith}
use Rattle.std.proofs.lemmas.Bool.{leb-true, leb-false, le-leb, lt-leb, or_parts, not-false, eqb-true}
use Rattle.drm_sdc.specs.declared.entity.Entity.{Entity}
use Rattle.drm_schedule.specs.declared.timed.Timed.{Timed}
use Rattle.drm_schedule.specs.declared.config.Config.{Config}
use Rattle.drm_schedule.specs.Ranges.{EntityInLines, TimedInLines}
use Rattle.drm_schedule.specs.Laws.{OneIsInForce}
use Rattle.drm_schedule.specs.InForce.{begun, entities_of_first, entities_of_last, first_entities, entities_in_force, AreInForce}
use Rattle.drm_schedule.specs.Valid.{BeginRightly, begins_wrongly, next_start}

-- what holds of the entities of each block, and of these, holds of those of the last one that has begun
pub last_begun : (P : List Entity → Type 0) (n : ℕ) (entities : List Entity) (blocks : List Timed) → P entities → All (λ (block : Timed). P block.entities) blocks
    → P (entities_of_last entities (begun n blocks))
last_begun P n entities [] here each = here
last_begun P n entities (block ∷ blocks) here each =
    by (leb block.from n)
    (last_begun P n block.entities blocks (each 0 block (omega arith)) (λ k d within. each (suc k) d (omega (arith, within))))
    (last_begun P n entities blocks here (λ k d within. each (suc k) d (omega (arith, within))))
  where
    by : (has : Bool) → P (entities_of_last block.entities (begun n blocks)) → P (entities_of_last entities (begun n blocks))
        → P (entities_of_last entities (if has then block ∷ begun n blocks else begun n blocks))
    by true a b = a
    by false a b = b

-- and of those of the first one, where there is one
pub of_first : (P : List Entity → Type 0) (blocks : List Timed) → 1 ≤ length blocks → All (λ (block : Timed). P block.entities) blocks → P (entities_of_first blocks)
of_first P [] some each = absurd (omega (arith, some))
of_first P (block ∷ blocks) some each = each 0 block (omega arith)

pub of_those_in_force : (P : List Entity → Type 0) (c : Config) (sf : ℕ) → 1 ≤ length c.blocks → All (λ (block : Timed). P block.entities) c.blocks → P (entities_in_force c sf)
of_those_in_force P c sf some each = last_begun P (sf - c.start) (first_entities c) c.blocks (of_first P c.blocks some each) each

-- what lines give
abbrev pub AreOfLines : List Entity → Type 0
AreOfLines entities = (length entities ≤ 64) × All EntityInLines entities

pub each_of_lines : (blocks : List Timed) → All TimedInLines blocks → All (λ (block : Timed). AreOfLines block.entities) blocks
each_of_lines blocks each k d within = ((each k d within).few_entities, (each k d within).each_entity)

-- ---- the last block that has begun is in force

module _ (start sf : ℕ) (within : start ≤ sf) where
  not_begun : (block : Timed) → sf < start + block.from → leb block.from (sf - start) ≡ false
  not_begun block waits = lt-leb block.from (sf - start) (omega (arith, within, waits))

  has_begun : (block : Timed) → start + block.from ≤ sf → leb block.from (sf - start) ≡ true
  has_begun block has = le-leb block.from (sf - start) (omega (arith, has))

  none_begun : (blocks : List Timed) → All (λ (b : Timed). sf < start + b.from) blocks → begun (sf - start) blocks ≡ []
  none_begun [] waiting = refl
  none_begun (b ∷ blocks) waiting =
      ap (λ t. if t then b ∷ begun (sf - start) blocks else begun (sf - start) blocks) (not_begun b (waiting 0 b (omega arith)))
      ∙ none_begun blocks (λ k d inside. waiting (suc k) d (omega (arith, inside)))

  last_split : (entities : List Entity) (earlier : List Timed) (block : Timed) (later : List Timed) → start + block.from ≤ sf
      → All (λ (b : Timed). sf < start + b.from) later → entities_of_last entities (begun (sf - start) (earlier ++ block ∷ later)) ≡ block.entities
  last_split entities [] block later has waiting =
      ap (λ t. entities_of_last entities (if t then block ∷ begun (sf - start) later else begun (sf - start) later)) (has_begun block has)
      ∙ ap (entities_of_last block.entities) (none_begun later waiting)
  last_split entities (e ∷ earlier) block later has waiting =
      by (leb e.from (sf - start)) (last_split e.entities earlier block later has waiting) (last_split entities earlier block later has waiting)
    where
      by : (t : Bool) → entities_of_last e.entities (begun (sf - start) (earlier ++ block ∷ later)) ≡ block.entities
          → entities_of_last entities (begun (sf - start) (earlier ++ block ∷ later)) ≡ block.entities
          → entities_of_last entities (if t then e ∷ begun (sf - start) (earlier ++ block ∷ later) else begun (sf - start) (earlier ++ block ∷ later)) ≡ block.entities
      by true a b = a
      by false a b = b

  -- where they stand in a row
  record Split (blocks : List Timed) : Type 0 where
    pub earlier : List Timed
    pub block : Timed
    pub later : List Timed
    pub is : blocks ≡ earlier ++ block ∷ later
    pub has : start + block.from ≤ sf
    pub waiting : All (λ (b : Timed). sf < start + b.from) later

  all_wait : (c : Config) (end : ℕ) (block : Timed) (rest : List Timed) → BeginRightly c end (Some block) rest → sf < start + block.from
      → All (λ (b : Timed). sf < start + b.from) (block ∷ rest)
  all_wait c end block rest begin waits zero d inside = waits
  all_wait c end block [] begin waits (suc k) d inside = absurd (omega (arith, inside))
  all_wait c end block (r ∷ rest) begin waits (suc k) d inside =
      all_wait c end r rest begin.1 (omega (arith, waits, leb-false r.from block.from (or_parts _ _ begin.0).0)) k d (omega (arith, inside))

  split : (c : Config) (end : ℕ) (block : Timed) (rest : List Timed) → BeginRightly c end (Some block) rest → start + block.from ≤ sf → Split (block ∷ rest)
  split c end block [] begin has = record { earlier = []; block = block; later = []; is = refl; has = has; waiting = λ k d inside. absurd (omega (arith, inside)) }
  split c end block (r ∷ rest) begin has = by (leb r.from (sf - start)) refl (split c end r rest begin.1)
    where
      by : (t : Bool) → leb r.from (sf - start) ≡ t → (start + r.from ≤ sf → Split (r ∷ rest)) → Split (block ∷ r ∷ rest)
      by true is more =
          let s = more (omega (arith, within, leb-true r.from (sf - start) is)) in
          record { earlier = block ∷ s.earlier; block = s.block; later = s.later; is = ap (λ l. block ∷ l) s.is; has = s.has; waiting = s.waiting }
      by false is more = record {
        earlier = [];
        block = block;
        later = r ∷ rest;
        is = refl;
        has = has;
        waiting = all_wait c end r rest begin.1 (omega (arith, within, leb-false r.from (sf - start) is));
      }

pub one_is_in_force : OneIsInForce
one_is_in_force plan before c more sf some faultless within = (are c.blocks some faultless.blocks_begin refl, only)
  where
    are : (blocks : List Timed) → 1 ≤ length blocks → BeginRightly c (next_start plan.length more) None blocks → c.blocks ≡ blocks → AreInForce c sf (entities_in_force c sf)
    are [] some begin is = absurd (omega (arith, some))
    are (block ∷ rest) some begin is =
        let s = split c.start sf within c (next_start plan.length more) block rest begin.1 (omega (arith, within, first_at block begin.0)) in
        record {
          earlier = s.earlier;
          block = s.block;
          later = s.later;
          blocks = is ∙ s.is;
          has_begun = s.has;
          waiting = s.waiting;
          are = ap (λ l. entities_of_last (first_entities c) (begun (sf - c.start) l)) (is ∙ s.is)
              ∙ last_split c.start sf within (first_entities c) s.earlier s.block s.later s.has s.waiting;
        }
      where
        first_at : (b : Timed) → begins_wrongly c (next_start plan.length more) None b ≡ false → b.from ≡ 0
        first_at b is = eqb-true b.from 0 (not-false (b.from == 0) is)

    only : (entities : List Entity) → AreInForce c sf entities → entities ≡ entities_in_force c sf
    only entities a =
        a.are ∙ sym (ap (λ l. entities_of_last (first_entities c) (begun (sf - c.start) l)) a.blocks
        ∙ last_split c.start sf within (first_entities c) a.earlier a.block a.later a.has_begun a.waiting)
