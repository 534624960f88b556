-- The lines of a configuration, written and read again, give the configuration.
use Rattle.std.proofs.Common.{◌≡◌, ℕ, ◌+◌, ◌≤◌, ◌<◌, suc, Bool, true, false, eqb, List, [], ◌∷◌, ◌++◌, Option, Some, None, length, map, filter, refl, sym, ap, subst, ◌∙◌, append_assoc, arith}
use Rattle.std.specs.Prelude.{All, nat_le, if◌then◌else◌}
use Rattle.std.specs.List.{flat_map}
use Rattle.std.proofs.lemmas.Bool.{ne_eqb}
use Rattle.std.proofs.lemmas.List.Concat.{flat_map-cons}
use Rattle.std.proofs.lemmas.Bool.Decides.{nat_tests}
use Rattle.std.proofs.lemmas.List.{append-nil, length-append}
use Rattle.std.proofs.lemmas.List.Elements.{filter-append, All-head, All-tail}
use Rattle.drm_fac.specs.declared.service.Service.{Service}
use Rattle.drm_sdc.specs.declared.body.Body.{Body}
use Rattle.drm_sdc.specs.declared.body.Body.TheVariants as bodies
use Rattle.drm_sdc.specs.declared.entity.Entity.{Entity}
use Rattle.drm_schedule.specs.declared.config.Clock.{Clock}
use Rattle.drm_schedule.specs.declared.config.Config.{Config}
use Rattle.drm_schedule.specs.declared.timed.Timed.{Timed}
use Rattle.drm_schedule.specs.Ranges.{TimedInLines}
use Rattle.drm_schedule.specs.declared.stream.Stream.{Stream}
use Rattle.plan_rows.specs.declared.keyword.Keyword.{Keyword}
use Rattle.plan_rows.specs.declared.keyword.Keyword.TheVariants as keywords
use Rattle.plan_grammar.specs.declared.line.Line.{Line}
use Rattle.plan_grammar.specs.declared.line.Line.TheVariants as lines
use Rattle.plan_rows.specs.Keywords.{same}
use Rattle.plan_grammar.specs.Said.{keyword_said, keyword_of_body}
use Rattle.plan_rules.specs.declared.said.ParsedLine.{ParsedLine}
use Rattle.plan_rules.specs.ParsedLine.{count}
use Rattle.plan_rules.specs.Rules.{is_entity, count_with, count_entities, is_out_of_order, is_second, is_too_many}
use Rattle.plan_writer.specs.Canonical.{service_lines, stream_lines, clock_lines, entity_lines, block_lines}
use Rattle.law_plan.proofs.AgainLemmas.{two, numbered, is_inner, InnerFine}
use Rattle.plan_rules.proofs.KeywordLemmas.{one, entity_is_one, entity_is_no_block}

pub numbered_append : (n : ℕ) (a b : List Line) → numbered n (a ++ b) ≡ numbered n a ++ numbered (n + length a) b
numbered_append n [] b =
    let same : n + 0 ≡ n = omega arith in
    rw same refl
numbered_append n (l ∷ a) b =
    let next : n + suc (length a) ≡ n + 1 + length a = omega arith in
    ap (λ s. record { line = n; says = l } ∷ s) (numbered_append (n + 1) a b ∙ ap (λ k. numbered (n + 1) a ++ numbered k b) (sym next))

pub inner_append : (said : List ParsedLine) (n : ℕ) (a b : List Line) → InnerFine said n a → InnerFine (said ++ numbered n a) (n + length a) b → InnerFine said n (a ++ b)
inner_append said n [] b first behind =
    let same : n + 0 ≡ n = omega arith in
    subst (λ (s : List ParsedLine). InnerFine s n b) (append-nil said) (subst (λ k. InnerFine (said ++ []) k b) same behind)
inner_append said n (l ∷ a) b first behind =
    let next : n + suc (length a) ≡ n + 1 + length a = omega arith in
    let moved : InnerFine ((said ++ record { line = n; says = l } ∷ []) ++ numbered (n + 1) a) (n + 1 + length a) b =
    subst (λ (s : List ParsedLine). InnerFine s (n + 1 + length a) b) (sym (append_assoc said (record { line = n; says = l } ∷ []) (numbered (n + 1) a))) (subst (λ k. InnerFine (said ++ record { line = n; says = l } ∷ numbered (n + 1) a) k b) next behind) in
    (first.0, first.1, first.2, first.3, inner_append (said ++ record { line = n; says = l } ∷ []) (n + 1) a b first.4 moved)

-- how many lines meet a test on their keywords
abbrev pub tested : (Keyword → Bool) → List ParsedLine → ℕ
tested test said = length (filter (λ s. test (keyword_said s.says)) said)

tested_append : (test : Keyword → Bool) (a b : List ParsedLine) → tested test (a ++ b) ≡ tested test a + tested test b
tested_append test a b =
    ap (λ (l : List ParsedLine). length l) (filter-append (λ s. test (keyword_said s.says)) a b) ∙ length-append (filter (λ s. test (keyword_said s.says)) a) (filter (λ s. test (keyword_said s.says)) b)

abbrev one_said : ℕ → Line → List ParsedLine
one_said n l = record { line = n; says = l } ∷ []

abbrev said_if : Bool → List ParsedLine → List ParsedLine
said_if b said = if b then said else []

tested_one : (test : Keyword → Bool) (n : ℕ) (l : Line) → tested test (one_said n l) ≡ one (test (keyword_said l))
tested_one test n l = by (test (keyword_said l))
  where
    by : (b : Bool) → length (said_if b (one_said n l)) ≡ one b
    by true = refl
    by false = refl

tested_push : (test : Keyword → Bool) (said : List ParsedLine) (n : ℕ) (l : Line) → tested test (said ++ record { line = n; says = l } ∷ []) ≡ tested test said + one (test (keyword_said l))
tested_push test said n l = tested_append test said (record { line = n; says = l } ∷ []) ∙ ap (λ k. tested test said + k) (tested_one test n l)

-- lines of one kind, none of which meets the test
tested_none : {X : Type 0} (test : Keyword → Bool) (f : X → Line) → ((x : X) → test (keyword_said (f x)) ≡ false) → (n : ℕ) (xs : List X) → tested test (numbered n (map f xs)) ≡ 0
tested_none test f none n [] = refl
tested_none test f none n (x ∷ xs) = rw (none x) (tested_none test f none (n + 1) xs)

-- behind lines of which none meets it
still : {X : Type 0} (test : Keyword → Bool) (f : X → Line) → ((x : X) → test (keyword_said (f x)) ≡ false) → (said : List ParsedLine) (n : ℕ) (xs : List X) → tested test said ≡ 0 → tested test (said ++ numbered n (map f xs)) ≡ 0
still test f none said n xs before = tested_append test said (numbered n (map f xs)) ∙ rw (before, tested_none test f none n xs) refl

-- a line from mode to clock stands before the first block line
no_block_yet : (k : Keyword) (said : List ParsedLine) → is_entity k ≡ false → count keywords.Block said ≡ 0 → is_out_of_order two k said ≡ false
no_block_yet k said other none = rw none other

-- and no line but a block line changes that
still_none : (said : List ParsedLine) (n : ℕ) (l : Line) → same (keyword_said l) keywords.Block ≡ false → count keywords.Block said ≡ 0 → count keywords.Block (said ++ record { line = n; says = l } ∷ []) ≡ 0
still_none said n l other none = tested_push (λ k. same k keywords.Block) said n l ∙ rw (none, other) refl

services_fine : (said : List ParsedLine) (n : ℕ) (services : List Service) → count keywords.Block said ≡ 0 → InnerFine said n (service_lines services)
unfolding is_second is_too_many
services_fine said n [] none = tt
services_fine said n (s ∷ services) none =
    (refl, no_block_yet keywords.Service said refl none, refl, refl, services_fine (said ++ record { line = n; says = lines.Service s } ∷ []) (n + 1) services (still_none said n (lines.Service s) refl none))

pub below : (most c : ℕ) → c < most → nat_le most c ≡ false
below most c few = grind (arith, nat_tests)

streams_fine : (said : List ParsedLine) (n : ℕ) (streams : List Stream) → count keywords.Stream said + length streams ≤ 4 → count keywords.Block said ≡ 0 → InnerFine said n (stream_lines streams)
unfolding is_second is_too_many
streams_fine said n [] few none = tt
streams_fine said n (s ∷ streams) few none =
    let pushed : count keywords.Stream (said ++ record { line = n; says = lines.Stream s } ∷ []) ≡ count keywords.Stream said + 1 = tested_push (λ k. same k keywords.Stream) said n (lines.Stream s) in (
      refl,
      no_block_yet keywords.Stream said refl none,
      refl,
      below 4 (count keywords.Stream said) (omega (arith, few)),
      streams_fine (said ++ record { line = n; says = lines.Stream s } ∷ []) (n + 1) streams (omega (arith, few, pushed)) (still_none said n (lines.Stream s) refl none),
    )

clock_fine : (said : List ParsedLine) (n : ℕ) (clock : Option Clock) → count keywords.Clock said ≡ 0 → count keywords.Block said ≡ 0 → InnerFine said n (clock_lines clock)
unfolding is_second is_too_many
clock_fine said n None none no_block = tt
clock_fine said n (Some c) none no_block = (refl, no_block_yet keywords.Clock said refl no_block, rw none refl, refl, tt)

entity_inner : (b : Body) → is_inner (keyword_of_body b) ≡ true
entity_inner (bodies.Mux desc) = refl
entity_inner _ = refl

entity_single : (b : Body) (said : List ParsedLine) → is_second (keyword_of_body b) said ≡ false
unfolding is_second
entity_single (bodies.Mux desc) said = refl
entity_single _ said = refl

entity_few : (b : Body) (said : List ParsedLine) → nat_le 64 (count_entities 0 said) ≡ false → is_too_many (keyword_of_body b) said ≡ false
unfolding is_too_many
entity_few (bodies.Mux desc) said few = few
entity_few _ said few = few

-- one more line behind the last block line
entities_push : (m : ℕ) (said : List ParsedLine) (n : ℕ) (l : Line) → count_entities m (said ++ record { line = n; says = l } ∷ []) ≡ count_with (count_entities m said) (keyword_said l)
entities_push m [] n l = refl
entities_push m (s ∷ said) n l = entities_push (count_with m (keyword_said s.says)) said n l

entity_counts : (c : ℕ) (b : Body) → count_with c (keyword_of_body b) ≡ c + 1
entity_counts c b = rw (entity_is_no_block b, entity_is_one b) refl

-- an entity line stands behind a block line
behind_block : (b : Body) (said : List ParsedLine) → 1 ≤ count keywords.Block said → is_out_of_order two (keyword_of_body b) said ≡ false
behind_block b said some = by b (ne_eqb (count keywords.Block said) 0 (λ e. omega (arith, some, e)))
  where
    by : (b : Body) → eqb (count keywords.Block said) 0 ≡ false → is_out_of_order two (keyword_of_body b) said ≡ false
    by (bodies.Mux desc) none = rw none refl
    by _ none = rw none refl

-- a block line may stand anywhere
block_anywhere : (said : List ParsedLine) → is_out_of_order two keywords.Block said ≡ false
block_anywhere said = by (eqb (count keywords.Block said) 0)
  where
    by : (none : Bool) → (if none then false else false) ≡ false
    by true = refl
    by false = refl

entities_fine : (said : List ParsedLine) (n : ℕ) (entities : List Entity) → 1 ≤ count keywords.Block said → count_entities 0 said + length entities ≤ 64 → InnerFine said n (entity_lines entities)
entities_fine said n [] some few = tt
entities_fine said n (e ∷ entities) some few =
    let one_more : count_entities 0 (said ++ record { line = n; says = lines.Entity e } ∷ []) ≡ count_entities 0 said + 1 = entities_push 0 said n (lines.Entity e) ∙ entity_counts (count_entities 0 said) e.body in
    let blocks : count keywords.Block (said ++ record { line = n; says = lines.Entity e } ∷ []) ≡ count keywords.Block said + one (same (keyword_of_body e.body) keywords.Block) = tested_push (λ k. same k keywords.Block) said n (lines.Entity e) in (
      entity_inner e.body,
      behind_block e.body said some,
      entity_single e.body said,
      entity_few e.body said (below 64 (count_entities 0 said) (omega (arith, few))),
      entities_fine (said ++ record { line = n; says = lines.Entity e } ∷ []) (n + 1) entities (omega (arith, some, blocks)) (omega (arith, few, one_more)),
    )

block_fine : (said : List ParsedLine) (n : ℕ) (b : Timed) → count keywords.Block said < 64 → length b.entities ≤ 64 → InnerFine said n (block_lines b)
unfolding is_second is_too_many
block_fine said n b few entities =
    let behind : List ParsedLine = said ++ record { line = n; says = lines.Block b.from } ∷ [] in
    let blocks : count keywords.Block behind ≡ count keywords.Block said + 1 = tested_push (λ k. same k keywords.Block) said n (lines.Block b.from) in
    let none : count_entities 0 behind ≡ 0 = entities_push 0 said n (lines.Block b.from) in
    (refl, block_anywhere said, refl, below 64 (count keywords.Block said) few, entities_fine behind (n + 1) b.entities (omega (arith, blocks)) (omega (arith, none, entities)))

-- the blocks, one after another
blocks_fine : (said : List ParsedLine) (n : ℕ) (blocks : List Timed) → count keywords.Block said + length blocks ≤ 64 → All TimedInLines blocks → InnerFine said n (flat_map block_lines blocks)
blocks_fine said n [] few fit = tt
blocks_fine said n (b ∷ blocks) few fit =
    let behind : List ParsedLine = said ++ numbered n (block_lines b) in
    let own : count keywords.Block (numbered n (block_lines b)) ≡ suc (count keywords.Block (numbered (n + 1) (entity_lines b.entities))) = refl in
    let none : count keywords.Block (numbered (n + 1) (entity_lines b.entities)) ≡ 0 = tested_none (λ k. same k keywords.Block) (λ (e : Entity). lines.Entity e) (λ e. entity_is_no_block e.body) (n + 1) b.entities in
    let counted : count keywords.Block behind ≡ count keywords.Block said + count keywords.Block (numbered n (block_lines b)) = tested_append (λ k. same k keywords.Block) said (numbered n (block_lines b)) in
    subst (λ (ls : List Line). InnerFine said n ls) (sym (flat_map-cons block_lines b blocks))
    (inner_append said n (block_lines b) (flat_map block_lines blocks) (block_fine said n b (omega (arith, few)) (All-head TimedInLines b blocks fit).few_entities)
    (blocks_fine behind (n + length (block_lines b)) blocks (omega (arith, few, counted, own, none)) (All-tail TimedInLines b blocks fit)))

-- the settings after the config line
abbrev pub rest_settings : Config → List Line
rest_settings c = lines.Mode c.mode ∷ lines.Occupancy c.occupancy ∷ lines.Depth c.short_depth ∷ lines.Msc c.msc ∷ lines.Sdc c.qam4 ∷ lines.Protection c.prot_a c.prot_b ∷ lines.Room c.room ∷ []

settings_fine : (n : ℕ) (c : Config) → InnerFine [] n (rest_settings c)
unfolding is_second is_too_many
settings_fine n c =
    (refl, refl, refl, refl, (refl, refl, refl, refl, (refl, refl, refl, refl, (refl, refl, refl, refl, (refl, refl, refl, refl, (refl, refl, refl, refl, (refl, refl, refl, refl, tt)))))))

-- the lines after the config line
abbrev pub inner_lines : Config → List Line
inner_lines c = rest_settings c ++ (service_lines c.services ++ (stream_lines c.streams ++ (clock_lines c.clock ++ flat_map block_lines c.blocks)))

clock_count : (test : Keyword → Bool) → test keywords.Clock ≡ false → (n : ℕ) (clock : Option Clock) → tested test (numbered n (clock_lines clock)) ≡ 0
clock_count test none n None = refl
clock_count test none n (Some c) = rw none refl

-- all lines after the config line
pub all_fine : (n : ℕ) (c : Config) → length c.streams ≤ 4 → length c.blocks ≤ 64 → All TimedInLines c.blocks → InnerFine [] n (inner_lines c)
all_fine n c streams blocks fit =
    let l1 : List ParsedLine = [] ++ numbered n (rest_settings c) in
    let n1 : ℕ = n + length (rest_settings c) in
    let l2 : List ParsedLine = l1 ++ numbered n1 (service_lines c.services) in
    let n2 : ℕ = n1 + length (service_lines c.services) in
    let l3 : List ParsedLine = l2 ++ numbered n2 (stream_lines c.streams) in
    let n3 : ℕ = n2 + length (stream_lines c.streams) in
    let l4 : List ParsedLine = l3 ++ numbered n3 (clock_lines c.clock) in
    let n4 : ℕ = n3 + length (clock_lines c.clock) in
    let stream_2 : count keywords.Stream l2 ≡ 0 = still (λ k. same k keywords.Stream) (λ s. lines.Service s) (λ s. refl) l1 n1 c.services refl in
    let clock_2 : count keywords.Clock l2 ≡ 0 = still (λ k. same k keywords.Clock) (λ s. lines.Service s) (λ s. refl) l1 n1 c.services refl in
    let clock_3 : count keywords.Clock l3 ≡ 0 = still (λ k. same k keywords.Clock) (λ s. lines.Stream s) (λ s. refl) l2 n2 c.streams clock_2 in
    let block_2 : count keywords.Block l2 ≡ 0 = still (λ k. same k keywords.Block) (λ s. lines.Service s) (λ s. refl) l1 n1 c.services refl in
    let block_3 : count keywords.Block l3 ≡ 0 = still (λ k. same k keywords.Block) (λ s. lines.Stream s) (λ s. refl) l2 n2 c.streams block_2 in
    let block_4 : count keywords.Block l4 ≡ 0 =
    tested_append (λ k. same k keywords.Block) l3 (numbered n3 (clock_lines c.clock)) ∙ rw (block_3, clock_count (λ k. same k keywords.Block) refl n3 c.clock) refl in
    inner_append [] n (rest_settings c) (service_lines c.services ++ (stream_lines c.streams ++ (clock_lines c.clock ++ flat_map block_lines c.blocks))) (settings_fine n c)
    (inner_append l1 n1 (service_lines c.services) (stream_lines c.streams ++ (clock_lines c.clock ++ flat_map block_lines c.blocks)) (services_fine l1 n1 c.services refl)
    (inner_append l2 n2 (stream_lines c.streams) (clock_lines c.clock ++ flat_map block_lines c.blocks) (streams_fine l2 n2 c.streams (omega (arith, streams, stream_2)) block_2)
    (inner_append l3 n3 (clock_lines c.clock) (flat_map block_lines c.blocks) (clock_fine l3 n3 c.clock clock_3 block_3)
    (blocks_fine l4 n4 c.blocks (omega (arith, blocks, block_4)) fit))))
