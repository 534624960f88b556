-- The blocks of lines, and then of more lines.
use Rattle.std.proofs.Common.{◌≡◌, ℕ, ◌+◌, ◌≤◌, zero, suc, Result, Ok, Err, List, [], ◌∷◌, ◌++◌, length, slice_index_or, slice_set, refl, ap, ◌∙◌, arith}
use Rattle.std.specs.Prelude.{All, OnOk}
use Rattle.std.proofs.lemmas.List.Elements.{All-nil, All-cons, All-head, All-tail}
use Rattle.drm_sdc.specs.declared.entity.Entity.{Entity}
use Rattle.drm_schedule.specs.declared.timed.Timed.{Timed}
use Rattle.drm_schedule.specs.Ranges.{EntityInLines, TimedInLines}
use Rattle.plan_grammar.specs.declared.line.Line.{Line}
use Rattle.plan_grammar.specs.declared.line.Line.TheVariants as lines
use Rattle.plan_rows.specs.declared.keyword.Keyword.TheVariants as keywords
use Rattle.plan_grammar.specs.Said.{keyword_said, LineInLines}
use Rattle.plan_rules.specs.declared.said.ParsedLine.{ParsedLine}
use Rattle.plan_rules.specs.ParsedLine.{count}
use Rattle.plan_rules.specs.Rules.{count_with}
use Rattle.plan_rules.specs.InLines.{AllInLines, AreFew}
use Rattle.plan_rules.proofs.KeywordLemmas.{entity_is_one, entity_is_no_block}
use Rattle.drm_plan.specs.Projection.{entities_until, timed_in}
use Rattle.drm_plan.specs.ConfigParts.{into_last, before_first}

-- what stands before the first block line
pub until_append : (said more : List ParsedLine) → entities_until (said ++ more) ≡ before_first (timed_in said) (entities_until said) (entities_until more)
until_append [] more = refl
until_append (s ∷ said) more = by s.line s.says (until_append said more)
  where
    by : (n : ℕ) (l : Line) → entities_until (said ++ more) ≡ before_first (timed_in said) (entities_until said) (entities_until more)
        → entities_until (record { line = n; says = l } ∷ (said ++ more))
        ≡ before_first (timed_in (record { line = n; says = l } ∷ said)) (entities_until (record { line = n; says = l } ∷ said)) (entities_until more)
    by n (lines.Block from) rest = refl
    by n (lines.Entity e) rest = ap (λ l. e ∷ l) rest ∙ at (timed_in said)
      where
        at : (blocks : List Timed) → e ∷ before_first blocks (entities_until said) (entities_until more) ≡ before_first blocks (e ∷ entities_until said) (entities_until more)
        at [] = refl
        at (b ∷ blocks) = refl
    by n _ rest = rest

begun : (from : ℕ) (blocks : List Timed) (entities later : List Entity)
    → record { from = from; entities = before_first blocks entities later } ∷ into_last later blocks ≡ into_last later (record { from = from; entities = entities } ∷ blocks)
begun from [] entities later = refl
begun from (b ∷ blocks) entities later = refl

-- the blocks: what stands before the first of the later ones goes into the last of the earlier ones
pub timed_append : (said more : List ParsedLine) → timed_in (said ++ more) ≡ into_last (entities_until more) (timed_in said) ++ timed_in more
timed_append [] more = refl
timed_append (s ∷ said) more = by s.line s.says (timed_append said more)
  where
    by : (n : ℕ) (l : Line) → timed_in (said ++ more) ≡ into_last (entities_until more) (timed_in said) ++ timed_in more
        → timed_in (record { line = n; says = l } ∷ (said ++ more)) ≡ into_last (entities_until more) (timed_in (record { line = n; says = l } ∷ said)) ++ timed_in more
    by n (lines.Block from) rest =
        ap (λ (e : List Entity). record { from = from; entities = e } ∷ timed_in (said ++ more)) (until_append said more)
        ∙ ap (λ (l : List Timed). record { from = from; entities = before_first (timed_in said) (entities_until said) (entities_until more) } ∷ l) rest
        ∙ ap (λ (l : List Timed). l ++ timed_in more) (begun from (timed_in said) (entities_until said) (entities_until more))
    by n _ rest = rest

-- nothing more changes nothing
pub none_into : (blocks : List Timed) → into_last [] blocks ≡ blocks
none_into [] = refl
none_into (b ∷ []) = ap (λ (e : List Entity). record { from = b.from; entities = e } ∷ []) (append_nil b.entities)
  where
    append_nil : (xs : List Entity) → xs ++ [] ≡ xs
    append_nil [] = refl
    append_nil (x ∷ xs) = ap (λ l. x ∷ l) (append_nil xs)
none_into (b ∷ c ∷ more) = ap (λ l. b ∷ l) (none_into (c ∷ more))

pub none_before : (blocks : List Timed) (entities : List Entity) → before_first blocks entities [] ≡ entities
none_before [] [] = refl
none_before [] (e ∷ entities) = ap (λ l. e ∷ l) (none_before [] entities)
none_before (b ∷ blocks) entities = refl

-- ---- what lines can give

-- behind each line stand at most 64 entities of one block
pub few_until : (n : ℕ) (said : List ParsedLine) → AreFew n said → length (entities_until said) + n ≤ 64
few_until n [] few = omega (arith, few)
few_until n (s ∷ said) few = by s.line s.says (λ (k : ℕ) (rest : AreFew k said). few_until k said rest) few.0 few.1
  where
    by : (m : ℕ) (l : Line) → ((k : ℕ) → AreFew k said → length (entities_until said) + k ≤ 64) → n ≤ 64 → AreFew (count_with n (keyword_said l)) said → length (entities_until (record { line = m; says = l } ∷ said)) + n ≤ 64
    by m (lines.Block from) again here more = omega (arith, here)
    by m (lines.Entity e) again here more =
        let rest : AreFew (n + 1) said = rw (entity_is_no_block e.body, entity_is_one e.body) at more in
        omega (arith, again (n + 1) rest)
    by m _ again here more = again n more

pub all_until : (said : List ParsedLine) → AllInLines said → All EntityInLines (entities_until said)
all_until [] fits = All-nil EntityInLines
all_until (s ∷ said) fits = by s.line s.says (All-head (λ x. LineInLines x.says) s said fits) (all_until said (All-tail (λ x. LineInLines x.says) s said fits))
  where
    by : (m : ℕ) (l : Line) → LineInLines l → All EntityInLines (entities_until said) → All EntityInLines (entities_until (record { line = m; says = l } ∷ said))
    by m (lines.Block from) here more = All-nil EntityInLines
    by m (lines.Entity e) here more = All-cons EntityInLines e (entities_until said) here more
    by m _ here more = more

pub timed_fit : (n : ℕ) (said : List ParsedLine) → AllInLines said → AreFew n said → All TimedInLines (timed_in said)
timed_fit n [] fits few = All-nil TimedInLines
timed_fit n (s ∷ said) fits few =
    by s.line s.says (λ (k : ℕ) (few : AreFew k said). timed_fit k said (All-tail (λ x. LineInLines x.says) s said fits) few)
    (All-head (λ x. LineInLines x.says) s said fits) few.1
  where
    rest : AllInLines said
    rest = All-tail (λ x. LineInLines x.says) s said fits

    by : (m : ℕ) (l : Line) → ((k : ℕ) → AreFew k said → All TimedInLines (timed_in said)) → LineInLines l → AreFew (count_with n (keyword_said l)) said → All TimedInLines (timed_in (record { line = m; says = l } ∷ said))
    by m (lines.Block from) again here more =
        All-cons TimedInLines (record { from = from; entities = entities_until said }) (timed_in said)
        (record { from_fits = here; few_entities = omega (arith, few_until 0 said more); each_entity = all_until said rest })
        (again 0 more)
    by m (lines.Entity e) again here more = again (count_with n (keyword_said (lines.Entity e))) more
    by m _ again here more = again n more

pub timed_counted : (said : List ParsedLine) → length (timed_in said) ≡ count keywords.Block said
timed_counted [] = refl
timed_counted (s ∷ said) = by s.line s.says (timed_counted said)
  where
    by : (m : ℕ) (l : Line) → length (timed_in said) ≡ count keywords.Block said → length (timed_in (record { line = m; says = l } ∷ said)) ≡ count keywords.Block (record { line = m; says = l } ∷ said)
    by m (lines.Block from) rest = ap suc rest
    by m (lines.Entity e) rest = rw (entity_is_no_block e.body) rest
    by m _ rest = rest

-- an entity put behind those of the last block
pub put_into : (blocks : List Timed) (k : ℕ) (e : Entity) (b : Timed) (entities : List Entity) → length blocks ≡ k + 1 → b ≡ slice_index_or blocks k b → entities ≡ b.entities ++ e ∷ []
    → slice_set blocks k (record { from = b.from; entities = entities }) ≡ into_last (e ∷ []) blocks
put_into [] k e b entities long is put = absurd (omega (arith, long))
put_into (x ∷ []) zero e b entities long is put = rw put (ap (λ (t : Timed). record { from = t.from; entities = t.entities ++ e ∷ [] } ∷ []) is)
put_into (x ∷ []) (suc k) e b entities long is put = absurd (omega (arith, long))
put_into (x ∷ y ∷ more) zero e b entities long is put = absurd (omega (arith, long))
put_into (x ∷ y ∷ more) (suc k) e b entities long is put = ap (λ (l : List Timed). x ∷ l) (put_into (y ∷ more) k e b entities (omega (arith, long)) is put)

pub not_before : (blocks : List Timed) (k : ℕ) (entities later : List Entity) → length blocks ≡ k + 1 → before_first blocks entities later ≡ entities
not_before [] k entities later long = absurd (omega (arith, long))
not_before (b ∷ blocks) k entities later long = refl

pub on_ok : {T E : Type 0} (result : Result T E) (A B : Type 0) → (A → B) → OnOk result A → OnOk result B
on_ok (Ok x) A B f a = f a
on_ok (Err e) A B f a = tt
