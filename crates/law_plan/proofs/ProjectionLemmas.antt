-- What the lines of a configuration give when they are read again.
use Rattle.std.proofs.Common.{◌≡◌, ℕ, ◌+◌, ◌≤◌, Bool, true, false, eqb, List, [], ◌∷◌, ◌++◌, Option, Some, None, length, map, filter, refl, sym, ap, ◌∙◌, arith}
use Rattle.std.specs.Prelude.{◌==◌, ◌||◌, if◌then◌else◌}
use Rattle.std.specs.List.{filter_map, cons_option, flat_map}
use Rattle.std.proofs.lemmas.Bool.{ne_eqb, or_from}
use Rattle.std.proofs.lemmas.List.{append-nil}
use Rattle.std.proofs.lemmas.List.Concat.{flat_map-cons}
use Rattle.std.proofs.Math.Dec.{eqb-suc-zero}
use Rattle.std.proofs.lemmas.List.Elements.{filter_map-append}
use Rattle.drm_sdc.specs.declared.body.Body.{Body}
use Rattle.drm_sdc.specs.declared.body.Body.TheVariants as bodies
use Rattle.drm_sdc.specs.declared.entity.Entity.{Entity}
use Rattle.drm_schedule.specs.declared.config.Clock.{Clock}
use Rattle.drm_schedule.specs.declared.config.Config.{Config}
use Rattle.drm_schedule.specs.declared.timed.Timed.{Timed}
use Rattle.plan_rows.specs.declared.keyword.Keyword.{Keyword}
use Rattle.plan_rows.specs.declared.keyword.Keyword.TheVariants as keywords
use Rattle.plan_grammar.specs.declared.line.Line.{Line}
use Rattle.plan_grammar.specs.declared.line.Line.TheVariants as lines
use Rattle.plan_rows.specs.Keywords.{same}
use Rattle.plan_grammar.specs.Said.{keyword_said, keyword_of_body}
use Rattle.plan_rules.specs.declared.said.ParsedLine.{ParsedLine}
use Rattle.plan_rules.specs.declared.said.ConfigLines.{ConfigLines}
use Rattle.plan_rules.specs.ParsedLine.{count}
use Rattle.plan_rules.specs.Rules.{lacks_a_line, is_incomplete}
use Rattle.plan_writer.specs.Canonical.{service_lines, stream_lines, clock_lines, entity_lines, block_lines}
use Rattle.drm_plan.specs.Projection.{first_said, content, first_line, clock_in, service_said, stream_said, services_in, streams_in, entities_until, timed_in, or_one, blocks_in, config_of}
use Rattle.drm_plan.proofs.BlockLemmas.{timed_counted}
use Rattle.law_plan.proofs.AgainLemmas.{two, numbered}
use Rattle.law_plan.proofs.ConfigLemmas.{inner_lines}

-- what is listed of lines, whatever their numbers
listed : {Y : Type 0} (h : Line → Option Y) (n : ℕ) (ls : List Line) → filter_map (λ s. h s.says) (numbered n ls) ≡ filter_map h ls
listed h n [] = refl
listed h n (l ∷ ls) = rw (listed h (n + 1) ls) refl

-- what lines list is listed again
listed_all : {X : Type 0} (h : Line → Option X) (f : X → Line) → ((x : X) → h (f x) ≡ Some x) → (xs : List X) → filter_map h (map f xs) ≡ xs
listed_all h f is [] = refl
listed_all h f is (x ∷ xs) = rw (is x) (ap (λ l. x ∷ l) (listed_all h f is xs))

listed_none : {X Y : Type 0} (h : Line → Option Y) (f : X → Line) → ((x : X) → h (f x) ≡ None) → (xs : List X) → filter_map h (map f xs) ≡ []
listed_none h f none [] = refl
listed_none h f none (x ∷ xs) = rw (none x) (listed_none h f none xs)

clock_listed : {Y : Type 0} (h : Line → Option Y) → ((c : Clock) → h (lines.Clock c) ≡ None) → (clock : Option Clock) → filter_map h (clock_lines clock) ≡ []
clock_listed h none None = refl
clock_listed h none (Some c) = rw (none c) refl

-- nothing else is listed of blocks
blocks_listed : {Y : Type 0} (h : Line → Option Y) → ((from : ℕ) → h (lines.Block from) ≡ None) → ((e : Entity) → h (lines.Entity e) ≡ None) → (blocks : List Timed) → filter_map h (flat_map block_lines blocks) ≡ []
blocks_listed h block entity [] = refl
blocks_listed h block entity (b ∷ blocks) =
    ap (filter_map h) (flat_map-cons block_lines b blocks)
    ∙ rw (block b.from) refl
    ∙ filter_map-append h (entity_lines b.entities) (flat_map block_lines blocks)
    ∙ rw (listed_none h (λ e. lines.Entity e) entity b.entities) (blocks_listed h block entity blocks)

-- what is listed of services and streams alone
listed_two : {Y : Type 0} (h : Line → Option Y) → ((k : Clock) → h (lines.Clock k) ≡ None) → ((from : ℕ) → h (lines.Block from) ≡ None) → ((e : Entity) → h (lines.Entity e) ≡ None) → (c : Config)
    → filter_map h (service_lines c.services ++ (stream_lines c.streams ++ (clock_lines c.clock ++ flat_map block_lines c.blocks))) ≡ filter_map h (service_lines c.services) ++ filter_map h (stream_lines c.streams)
listed_two h clock block entity c =
    let none : filter_map h (clock_lines c.clock ++ flat_map block_lines c.blocks) ≡ [] =
    filter_map-append h (clock_lines c.clock) (flat_map block_lines c.blocks) ∙ rw (clock_listed h clock c.clock) (blocks_listed h block entity c.blocks) in
    filter_map-append h (service_lines c.services) (stream_lines c.streams ++ (clock_lines c.clock ++ flat_map block_lines c.blocks))
    ∙ ap (λ l. filter_map h (service_lines c.services) ++ l) (filter_map-append h (stream_lines c.streams) (clock_lines c.clock ++ flat_map block_lines c.blocks)
    ∙ ap (λ l. filter_map h (stream_lines c.streams) ++ l) none ∙ append-nil (filter_map h (stream_lines c.streams)))

services_again : (n : ℕ) (c : Config) → services_in (numbered n (inner_lines c)) ≡ c.services
services_again n c =
    listed service_said n (inner_lines c) ∙ listed_two service_said (λ k. refl) (λ from. refl) (λ e. refl) c
    ∙ rw (listed_all service_said (λ s. lines.Service s) (λ s. refl) c.services, listed_none service_said (λ s. lines.Stream s) (λ s. refl) c.streams) (append-nil c.services)

streams_again : (n : ℕ) (c : Config) → streams_in (numbered n (inner_lines c)) ≡ c.streams
streams_again n c =
    listed stream_said n (inner_lines c) ∙ listed_two stream_said (λ k. refl) (λ from. refl) (λ e. refl) c
    ∙ rw (listed_none stream_said (λ s. lines.Service s) (λ s. refl) c.services) (listed_all stream_said (λ s. lines.Stream s) (λ s. refl) c.streams)

-- ---- the blocks

-- what lines don't change is read behind them
passes : {X Y : Type 0} (read : List ParsedLine → Y) (f : X → Line) → ((n : ℕ) (x : X) (rest : List ParsedLine) → read (record { line = n; says = f x } ∷ rest) ≡ read rest)
    → (xs : List X) (ls : List Line) (y : Y) → ((n : ℕ) → read (numbered n ls) ≡ y) → (n : ℕ) → read (numbered n (map f xs ++ ls)) ≡ y
passes read f other [] ls y behind n = behind n
passes read f other (x ∷ xs) ls y behind n = other n x (numbered (n + 1) (map f xs ++ ls)) ∙ passes read f other xs ls y behind (n + 1)

over_entities : (entities : List Entity) (ls : List Line) (blocks : List Timed) → ((n : ℕ) → (timed_in (numbered n ls) ≡ blocks) × (entities_until (numbered n ls) ≡ []))
    → (n : ℕ) → (timed_in (numbered n (entity_lines entities ++ ls)) ≡ blocks) × (entities_until (numbered n (entity_lines entities ++ ls)) ≡ entities)
over_entities [] ls blocks behind n = behind n
over_entities (e ∷ entities) ls blocks behind n =
    let more = over_entities entities ls blocks behind (n + 1) in
    (more.0, ap (λ (l : List Entity). e ∷ l) more.1)

-- blocks are read again, and before the first block line stands nothing
timed_blocks : (blocks : List Timed) (n : ℕ) → (timed_in (numbered n (flat_map block_lines blocks)) ≡ blocks) × (entities_until (numbered n (flat_map block_lines blocks)) ≡ [])
timed_blocks [] n = (refl, refl)
timed_blocks (b ∷ blocks) n =
    let flat = flat_map-cons block_lines b blocks in
    let own = over_entities b.entities (flat_map block_lines blocks) blocks (timed_blocks blocks) (n + 1) in (
      ap (λ (ls : List Line). timed_in (numbered n ls)) flat
          ∙ ap (λ (l : List Entity). record { from = b.from; entities = l } ∷ timed_in (numbered (n + 1) (entity_lines b.entities ++ flat_map block_lines blocks))) own.1
          ∙ ap (λ (l : List Timed). b ∷ l) own.0,
      ap (λ (ls : List Line). entities_until (numbered n ls)) flat,
    )

clock_timed : (clock : Option Clock) (blocks : List Timed) (n : ℕ) → timed_in (numbered n (clock_lines clock ++ flat_map block_lines blocks)) ≡ blocks
clock_timed None blocks n = (timed_blocks blocks n).0
clock_timed (Some c) blocks n = (timed_blocks blocks (n + 1)).0

timed_again : (n : ℕ) (c : Config) → timed_in (numbered n (inner_lines c)) ≡ c.blocks
timed_again n c =
    let behind : List Line = clock_lines c.clock ++ flat_map block_lines c.blocks in
    passes timed_in (λ s. lines.Service s) (λ k s rest. refl) c.services (stream_lines c.streams ++ behind) c.blocks
    (passes timed_in (λ s. lines.Stream s) (λ k s rest. refl) c.streams behind c.blocks (clock_timed c.clock c.blocks)) (n + 1 + 1 + 1 + 1 + 1 + 1 + 1)

blocks_again : (n : ℕ) (c : Config) → 1 ≤ length c.blocks → blocks_in (numbered n (inner_lines c)) ≡ c.blocks
blocks_again n c some =
    ap (λ (l : List Timed). or_one (entities_until (numbered n (inner_lines c))) l) (timed_again n c) ∙ by c.blocks some
  where
    by : (blocks : List Timed) → 1 ≤ length blocks → or_one (entities_until (numbered n (inner_lines c))) blocks ≡ blocks
    by [] some = absurd (omega (arith, some))
    by (b ∷ blocks) some = refl

entity_no_clock : (b : Body) → same (keyword_of_body b) keywords.Clock ≡ false
entity_no_clock (bodies.Mux desc) = refl
entity_no_clock _ = refl

no_clock : (blocks : List Timed) (n : ℕ) → first_said keywords.Clock (numbered n (flat_map block_lines blocks)) ≡ None
no_clock [] n = refl
no_clock (b ∷ blocks) n =
    ap (λ (ls : List Line). first_said keywords.Clock (numbered n ls)) (flat_map-cons block_lines b blocks)
    ∙ passes (first_said keywords.Clock) (λ e. lines.Entity e) (λ k e rest. rw (entity_no_clock e.body) refl) b.entities (flat_map block_lines blocks) None (no_clock blocks) (n + 1)

abbrev clock_read : List ParsedLine → Option Clock
clock_read said = clock_in (first_line keywords.Clock said)

clock_here : (clock : Option Clock) (blocks : List Timed) (n : ℕ) → clock_read (numbered n (clock_lines clock ++ flat_map block_lines blocks)) ≡ clock
clock_here None blocks n = ap (λ s. clock_in (content s)) (no_clock blocks n)
clock_here (Some c) blocks n = refl

clock_again : (n : ℕ) (c : Config) → clock_read (numbered n (inner_lines c)) ≡ c.clock
clock_again n c =
    let behind : List Line = clock_lines c.clock ++ flat_map block_lines c.blocks in
    passes clock_read (λ s. lines.Service s) (λ k s rest. refl) c.services (stream_lines c.streams ++ behind) c.clock
    (passes clock_read (λ s. lines.Stream s) (λ k s rest. refl) c.streams behind c.clock (clock_here c.clock c.blocks)) (n + 1 + 1 + 1 + 1 + 1 + 1 + 1)

-- the block of a configuration's lines
abbrev pub block_of : ℕ → Config → ConfigLines
block_of n c = record { line = n; start = c.start; countdown = c.countdown; lines = numbered (n + 1) (inner_lines c) }

pub config_again : (n : ℕ) (c : Config) → 1 ≤ length c.blocks → config_of (block_of n c) ≡ c
config_again n c some = rw (services_again (n + 1) c, streams_again (n + 1) c, blocks_again (n + 1) c some, clock_again (n + 1) c) refl

nine : (a b c d e f g h i : Bool) → a ≡ false → b ≡ false → c ≡ false → d ≡ false → e ≡ false → f ≡ false → g ≡ false → h ≡ false → i ≡ false → (a || (b || (c || (d || (e || (f || (g || (h || (i || false))))))))) ≡ false
nine a b c d e f g h i pa pb pc pd pe pf pg ph pi = rw (pa, pb, pc, pd, pe, pf, pg, ph, pi) refl

-- of no line of a keyword nothing is listed
unlisted : {X : Type 0} (h : Line → Option X) (k : Keyword) → ((l : Line) → same (keyword_said l) k ≡ false → h l ≡ None) → (said : List ParsedLine) → count k said ≡ 0 → filter_map (λ s. h s.says) said ≡ []
unlisted h k other [] none = refl
unlisted h k other (s ∷ said) none = by (same (keyword_said s.says) k) (other s.says) none (unlisted h k other said)
  where
    by : (is : Bool) → (is ≡ false → h s.says ≡ None) → length (if is then s ∷ filter (λ x. same (keyword_said x.says) k) said else filter (λ x. same (keyword_said x.says) k) said) ≡ 0
        → (count k said ≡ 0 → filter_map (λ x. h x.says) said ≡ []) → cons_option (h s.says) (filter_map (λ x. h x.says) said) ≡ []
    by true not none more = absurd cc
    by false not none more = rw (not refl) (more none)

some_counted : {X : Type 0} (h : Line → Option X) (k : Keyword) → ((l : Line) → same (keyword_said l) k ≡ false → h l ≡ None) → (said : List ParsedLine) (xs : List X) → filter_map (λ s. h s.says) said ≡ xs → 1 ≤ length xs → eqb (count k said) 0 ≡ false
some_counted {X = X} h k other said xs are some = ne_eqb (count k said) 0 (λ e.
    let none : length xs ≡ 0 = ap (λ (l : List X). length l) (sym are ∙ unlisted h k other said e) in
    omega (arith, none, some))

service_other : (l : Line) → same (keyword_said l) keywords.Service ≡ false → service_said l ≡ None
service_other (lines.Service service) other = absurd cc
service_other _ other = refl

stream_other : (l : Line) → same (keyword_said l) keywords.Stream ≡ false → stream_said l ≡ None
stream_other (lines.Stream stream) other = absurd cc
stream_other _ other = refl

lines_again : (n : ℕ) (c : Config) → 1 ≤ length c.services → 1 ≤ length c.streams → lacks_a_line (numbered n (inner_lines c)) ≡ false
unfolding lacks_a_line
lines_again n c services streams =
    let said : List ParsedLine = numbered n (inner_lines c) in
    nine (count keywords.Mode said == 0) (count keywords.Occupancy said == 0) (count keywords.Depth said == 0) (count keywords.Msc said == 0) (count keywords.Sdc said == 0) (count keywords.Protection said == 0) (count keywords.Room said == 0) (count keywords.Service said == 0) (count keywords.Stream said == 0)
    (eqb-suc-zero _) (eqb-suc-zero _) (eqb-suc-zero _) (eqb-suc-zero _) (eqb-suc-zero _) (eqb-suc-zero _) (eqb-suc-zero _)
    (some_counted service_said keywords.Service service_other said c.services (services_again n c) services)
    (some_counted stream_said keywords.Stream stream_other said c.streams (streams_again n c) streams)

-- a configuration with a service, a stream and a block lacks nothing
pub complete_again : (n : ℕ) (c : Config) → 1 ≤ length c.services → 1 ≤ length c.streams → 1 ≤ length c.blocks → is_incomplete two (numbered n (inner_lines c)) ≡ false
complete_again n c services streams blocks =
    let count_is : length (timed_in (numbered n (inner_lines c))) ≡ count keywords.Block (numbered n (inner_lines c)) = timed_counted (numbered n (inner_lines c)) in
    let same_length : length (timed_in (numbered n (inner_lines c))) ≡ length c.blocks = ap (λ (l : List Timed). length l) (timed_again n c) in
    or_from (lacks_a_line (numbered n (inner_lines c))) (eqb (count keywords.Block (numbered n (inner_lines c))) 0) (lines_again n c services streams)
    (ne_eqb (count keywords.Block (numbered n (inner_lines c))) 0 (λ e. omega (arith, count_is, same_length, blocks, e)))
