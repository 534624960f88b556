-- Lines that a text can have give a plan that a text can give.
use Rattle.std.proofs.Common.{◌≡◌, ℕ, ◌+◌, ◌≤◌, ◌<◌, ◌^◌, zero, suc, Bool, true, false, eqb, List, [], ◌∷◌, ◌++◌, Option, Some, None, length, map, filter, refl, sym, ap, subst, ◌∙◌, arith}
use Rattle.std.specs.Prelude.{All, IfSome, ◌==◌, ◌||◌, if◌then◌else◌}
use Rattle.std.specs.List.{filter_map, cons_option}
use Rattle.std.specs.Option.{option_to_list}
use Rattle.std.proofs.lemmas.List.{length-append, length-map}
use Rattle.std.proofs.lemmas.List.Elements.{All-nil, All-cons, All-head, All-tail, All-append}
use Rattle.drm_sdc.specs.declared.body.Body.{Body}
use Rattle.drm_sdc.specs.declared.body.Body.TheVariants as bodies
use Rattle.dcp_pft.specs.Carrying.{CarryFits}
use Rattle.drm_schedule.specs.Ranges.{StreamInLines, ServiceInLines, ClockInLines, TimedInLines, ConfigInLines, InLines}
use Rattle.drm_schedule.specs.declared.timed.Timed.{Timed}
use Rattle.plan_grammar.specs.declared.line.Line.{Line}
use Rattle.plan_grammar.specs.declared.line.Line.TheVariants as lines
use Rattle.plan_rows.specs.declared.keyword.Keyword.{Keyword}
use Rattle.plan_rows.specs.declared.keyword.Keyword.TheVariants as keywords
use Rattle.plan_grammar.specs.Said.{keyword_of_body, keyword_said, LineInLines}
use Rattle.plan_rows.specs.Keywords.{same}
use Rattle.plan_rules.specs.declared.said.ParsedLine.{ParsedLine}
use Rattle.plan_rules.specs.declared.said.ConfigLines.{ConfigLines}
use Rattle.plan_rules.specs.declared.said.ParsedText.{ParsedText}
use Rattle.plan_rules.specs.ParsedLine.{count}
use Rattle.plan_rules.specs.Rules.{lacks_a_line}
use Rattle.drm_plan.specs.Projection.{first_said, content, first_line, occupancy_in, msc_in, prot_a_in, prot_b_in, room_in, clock_in, carry_in, seq_in, dlfc_in, length_in, service_said, stream_said, services_in, streams_in, entities_until, timed_in, or_one, blocks_in, config_of, blocks_of, plan_of}
use Rattle.plan_rules.proofs.KeywordLemmas.{one, entity_is_no_stream}
use Rattle.plan_rules.specs.InLines.{AllInLines, AreFew, BlockInLines, EndedInLines, ReadInLines}
use Rattle.drm_plan.proofs.BlockLemmas.{few_until, all_until, timed_fit, timed_counted}

-- what the first line of a keyword says is one that a text can have
first_fits : (k : Keyword) (said : List ParsedLine) → AllInLines said → IfSome (first_line k said) LineInLines
first_fits k [] fits = tt
first_fits k (s ∷ said) fits = by (same (keyword_said s.says) k) (All-head (λ x. LineInLines x.says) s said fits) (first_fits k said (All-tail (λ x. LineInLines x.says) s said fits))
  where
    by : (b : Bool) → LineInLines s.says → IfSome (first_line k said) LineInLines → IfSome (content (if b then Some s else first_said k said)) LineInLines
    by true here more = here
    by false here more = more

-- a setting in its range, by what its line says
occupancy_fits : (o : Option Line) → IfSome o LineInLines → occupancy_in o < 6
occupancy_fits (Some (lines.Occupancy x)) fits = fits
occupancy_fits _ fits = omega arith

msc_fits : (o : Option Line) → IfSome o LineInLines → msc_in o < 2 ^ 2
msc_fits (Some (lines.Msc x)) fits = fits
msc_fits _ fits = omega arith

prot_a_fits : (o : Option Line) → IfSome o LineInLines → prot_a_in o < 2 ^ 2
prot_a_fits (Some (lines.Protection a b)) fits = fits.0
prot_a_fits _ fits = omega arith

prot_b_fits : (o : Option Line) → IfSome o LineInLines → prot_b_in o < 2 ^ 2
prot_b_fits (Some (lines.Protection a b)) fits = fits.1
prot_b_fits _ fits = omega arith

room_fits : (o : Option Line) → IfSome o LineInLines → room_in o < 2 ^ 10
room_fits (Some (lines.Room x)) fits = fits
room_fits _ fits = omega arith

clock_fits : (o : Option Line) → IfSome o LineInLines → IfSome (clock_in o) ClockInLines
clock_fits (Some (lines.Clock clock)) fits = fits
clock_fits _ fits = tt

carry_fits : (o : Option Line) → IfSome o LineInLines → CarryFits (carry_in o)
carry_fits (Some (lines.Carry carry)) fits = fits
carry_fits _ fits = tt

seq_fits : (o : Option Line) → IfSome o LineInLines → seq_in o < 2 ^ 16
seq_fits (Some (lines.First seq dlfc)) fits = fits.0
seq_fits _ fits = omega arith

dlfc_fits : (o : Option Line) → IfSome o LineInLines → dlfc_in o < 2 ^ 32
dlfc_fits (Some (lines.First seq dlfc)) fits = fits.1
dlfc_fits _ fits = omega arith

length_fits : (o : Option Line) → IfSome o LineInLines → (1 ≤ length_in o) × (length_in o ≤ 1000000)
length_fits (Some (lines.Length x)) fits = fits
length_fits _ fits = (omega arith, omega arith)

-- what lines list, each by what its line says
listed : {X : Type 0} (h : Line → Option X) (P : X → Type 0) → ((l : Line) → LineInLines l → IfSome (h l) P) → (said : List ParsedLine) → AllInLines said → All P (filter_map (λ s. h s.says) said)
listed {X = X} h P each [] fits = All-nil P
listed {X = X} h P each (s ∷ said) fits = by (h s.says) (each s.says (All-head (λ x. LineInLines x.says) s said fits)) (listed h P each said (All-tail (λ x. LineInLines x.says) s said fits))
  where
    by : (o : Option X) → IfSome o P → All P (filter_map (λ x. h x.says) said) → All P (cons_option o (filter_map (λ x. h x.says) said))
    by None here more = more
    by (Some y) here more = All-cons P y (filter_map (λ x. h x.says) said) here more

service_listed : (l : Line) → LineInLines l → IfSome (service_said l) ServiceInLines
service_listed (lines.Service service) fits = fits
service_listed _ fits = tt

stream_listed : (l : Line) → LineInLines l → IfSome (stream_said l) StreamInLines
stream_listed (lines.Stream stream) fits = fits
stream_listed _ fits = tt

counted : {X : Type 0} (h : Line → Option X) (test : Line → Bool) → ((l : Line) → length (option_to_list (h l)) ≡ one (test l)) → (said : List ParsedLine) → length (filter_map (λ s. h s.says) said) ≡ length (filter (λ s. test s.says) said)
counted {X = X} h test each [] = refl
counted {X = X} h test each (s ∷ said) = by (h s.says) (test s.says) (each s.says) (counted h test each said)
  where
    by : (o : Option X) (b : Bool) → length (option_to_list o) ≡ one b → length (filter_map (λ x. h x.says) said) ≡ length (filter (λ x. test x.says) said)
        → length (cons_option o (filter_map (λ x. h x.says) said)) ≡ length (if b then s ∷ filter (λ x. test x.says) said else filter (λ x. test x.says) said)
    by None true e more = absurd cc
    by None false e more = more
    by (Some y) true e more = ap suc more
    by (Some y) false e more = absurd cc

entity_is_no_service : (b : Body) → same (keyword_of_body b) keywords.Service ≡ false
entity_is_no_service (bodies.Mux desc) = refl
entity_is_no_service _ = refl

service_one : (l : Line) → length (option_to_list (service_said l)) ≡ one (same (keyword_said l) keywords.Service)
service_one (lines.Service service) = refl
service_one (lines.Entity entity) = sym (ap one (entity_is_no_service entity.body))
service_one _ = refl

stream_one : (l : Line) → length (option_to_list (stream_said l)) ≡ one (same (keyword_said l) keywords.Stream)
stream_one (lines.Stream stream) = refl
stream_one (lines.Entity entity) = sym (ap one (entity_is_no_stream entity.body))
stream_one _ = refl

services_counted : (said : List ParsedLine) → length (services_in said) ≡ count keywords.Service said
services_counted said = counted service_said (λ l. same (keyword_said l) keywords.Service) service_one said

streams_counted : (said : List ParsedLine) → length (streams_in said) ≡ count keywords.Stream said
streams_counted said = counted stream_said (λ l. same (keyword_said l) keywords.Stream) stream_one said

-- the last two of nine
last_two : (a b c d e f g h i : Bool) → (a || (b || (c || (d || (e || (f || (g || (h || (i || false))))))))) ≡ false → (h ≡ false) × (i ≡ false)
last_two false false false false false false false false false none = (refl, refl)
last_two false false false false false false false false true none = absurd cc
last_two false false false false false false false true i none = absurd cc
last_two false false false false false false true h i none = absurd cc
last_two false false false false false true g h i none = absurd cc
last_two false false false false true f g h i none = absurd cc
last_two false false false true e f g h i none = absurd cc
last_two false false true d e f g h i none = absurd cc
last_two false true c d e f g h i none = absurd cc
last_two true b c d e f g h i none = absurd cc

some_of : (keyword : Keyword) (said : List ParsedLine) → eqb (count keyword said) 0 ≡ false → 1 ≤ count keyword said
some_of keyword said e = by (count keyword said) e
  where
    by : (n : ℕ) → eqb n 0 ≡ false → 1 ≤ n
    by zero e = absurd cc
    by (suc n) e = omega arith

record HasBoth (said : List ParsedLine) : Type 0 where
  service : 1 ≤ count keywords.Service said
  stream : 1 ≤ count keywords.Stream said

has_both : (said : List ParsedLine) → lacks_a_line said ≡ false → HasBoth said
unfolding lacks_a_line
has_both said e =
    let lacks = λ (k : Keyword). count k said == 0 in
    let both = last_two (lacks keywords.Mode) (lacks keywords.Occupancy) (lacks keywords.Depth) (lacks keywords.Msc) (lacks keywords.Sdc) (lacks keywords.Protection) (lacks keywords.Room) (lacks keywords.Service) (lacks keywords.Stream) e in
    record { service = some_of keywords.Service said both.0; stream = some_of keywords.Stream said both.1 }

-- there is a block, and each is one that lines can give
record BlocksFit (blocks : List Timed) : Type 0 where
  some : 1 ≤ length blocks
  few : length blocks ≤ 64
  each : All TimedInLines blocks

blocks_fit : (said : List ParsedLine) → AllInLines said → AreFew 0 said → count keywords.Block said ≤ 64 → BlocksFit (blocks_in said)
blocks_fit said fits few count_few = by (timed_in said) (timed_fit 0 said fits few) (timed_counted said)
  where
    by : (blocks : List Timed) → All TimedInLines blocks → length blocks ≡ count keywords.Block said → BlocksFit (or_one (entities_until said) blocks)
    by [] each is = record {
      some = omega arith;
      few = omega arith;
      each = All-cons TimedInLines (record { from = 0; entities = entities_until said }) []
          (record { from_fits = omega arith; few_entities = omega (arith, few_until 0 said few); each_entity = all_until said fits }) (All-nil TimedInLines);
    }
    by (b ∷ blocks) each is = record { some = omega arith; few = omega (arith, is, count_few); each = each }

config_fits : (b : ConfigLines) → BlockInLines b → lacks_a_line b.lines ≡ false → ConfigInLines (config_of b)
config_fits b fits whole =
    let both = has_both b.lines whole in
    let found = λ (k : Keyword). first_fits k b.lines fits.each_line in
    let blocks = blocks_fit b.lines fits.each_line fits.few_entities fits.few_blocks in
    record {
      start_fits = fits.start_fits;
      countdown_fits = fits.countdown_fits;
      occupancy_fits = occupancy_fits (first_line keywords.Occupancy b.lines) (found keywords.Occupancy);
      msc_fits = msc_fits (first_line keywords.Msc b.lines) (found keywords.Msc);
      prot_a_fits = prot_a_fits (first_line keywords.Protection b.lines) (found keywords.Protection);
      prot_b_fits = prot_b_fits (first_line keywords.Protection b.lines) (found keywords.Protection);
      room_fits = room_fits (first_line keywords.Room b.lines) (found keywords.Room);
      some_service = rw (services_counted b.lines) both.service;
      each_service = listed service_said ServiceInLines service_listed b.lines fits.each_line;
      some_stream = rw (streams_counted b.lines) both.stream;
      few_streams = rw (streams_counted b.lines) fits.few_streams;
      each_stream = listed stream_said StreamInLines stream_listed b.lines fits.each_line;
      clock_fits = clock_fits (first_line keywords.Clock b.lines) (found keywords.Clock);
      some_block = blocks.some;
      few_blocks = blocks.few;
      each_block = blocks.each;
    }

configs_fit : (blocks : List ConfigLines) → All EndedInLines blocks → All ConfigInLines (map config_of blocks)
configs_fit [] fit = All-nil ConfigInLines
configs_fit (b ∷ blocks) fit =
    let here = All-head EndedInLines b blocks fit in
    All-cons ConfigInLines (config_of b) (map config_of blocks) (config_fits b here.in_lines here.complete) (configs_fit blocks (All-tail EndedInLines b blocks fit))

-- with the last configuration complete
pub plan_fits : (read : ParsedText) (b : ConfigLines) → ReadInLines read → read.current ≡ Some b → lacks_a_line b.lines ≡ false → InLines (plan_of read)
plan_fits read b fits current whole =
    let found = λ (k : Keyword). first_fits k read.front fits.front in
    let last : BlockInLines b = subst (λ (o : Option ConfigLines). IfSome o BlockInLines) current fits.current in
    let blocks : blocks_of read ≡ read.closed ++ b ∷ [] = ap (λ (o : Option ConfigLines). read.closed ++ option_to_list o) current in
    let ended : EndedInLines b = record { in_lines = last; complete = whole } in
    let all : All EndedInLines (blocks_of read) = rw blocks (All-append EndedInLines read.closed (b ∷ []) fits.closed (All-cons EndedInLines b [] ended (All-nil EndedInLines))) in
    let count : length (map config_of (blocks_of read)) ≡ length read.closed + 1 = length-map (blocks_of read) config_of ∙ ap (λ (l : List ConfigLines). length l) blocks ∙ length-append read.closed (b ∷ []) in
    let length_is = length_fits (first_line keywords.Length read.front) (found keywords.Length) in
    record {
      carry_fits = carry_fits (first_line keywords.Carry read.front) (found keywords.Carry);
      seq_fits = seq_fits (first_line keywords.First read.front) (found keywords.First);
      dlfc_fits = dlfc_fits (first_line keywords.First read.front) (found keywords.First);
      some_frames = length_is.0;
      few_frames = length_is.1;
      some_config = omega (arith, count);
      few_configs = omega (arith, count, fits.few_closed);
      each_config = configs_fit (blocks_of read) all;
    }
