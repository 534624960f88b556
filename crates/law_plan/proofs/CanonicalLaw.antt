-- The lines of a plan, one configuration after another, are read again.
use Rattle.std.proofs.Common.{◌≡◌, ℕ, ◌+◌, ◌≤◌, ◌<◌, Bool, true, false, eqb, List, [], ◌∷◌, ◌++◌, Some, None, Ok, length, map, refl, sym, ap, subst, ◌∙◌, append_assoc, arith}
use Rattle.std.specs.Prelude.{All, if◌then◌else◌}
use Rattle.std.specs.List.{flat_map}
use Rattle.std.specs.Option.{option_to_list}
use Rattle.std.proofs.lemmas.List.{append-nil, length-append, map_push}
use Rattle.std.proofs.lemmas.List.Concat.{flat_map-cons}
use Rattle.std.proofs.lemmas.List.Elements.{All-head, All-tail}
use Rattle.drm_schedule.specs.declared.config.Config.{Config}
use Rattle.drm_schedule.specs.declared.plan.Plan.{Plan}
use Rattle.drm_schedule.specs.Ranges.{ConfigInLines}
use Rattle.plan_rows.specs.declared.keyword.Keyword.TheVariants as keywords
use Rattle.plan_grammar.specs.declared.line.Line.{Line}
use Rattle.plan_rules.specs.declared.said.ParsedLine.{ParsedLine}
use Rattle.plan_rules.specs.declared.said.ConfigLines.{ConfigLines}
use Rattle.plan_rules.specs.declared.said.ParsedText.{ParsedText}
use Rattle.plan_rules.specs.ParsedLine.{nothing, begin, count}
use Rattle.plan_rules.specs.Rules.{version_in, is_one, is_incomplete, is_second, is_too_many, ends_incomplete}
use Rattle.plan_rules.specs.Steps.{check_rows, check_of}
use Rattle.plan_writer.specs.Canonical.{front_lines, config_lines, plan_lines}
use Rattle.drm_plan.specs.Projection.{config_of, plan_of}
use Rattle.law_plan.proofs.AgainLemmas.{two, adds, Fine, adds_append, fine_append, numbered, inner_fine, inner_adds}
use Rattle.law_plan.proofs.ConfigLemmas.{below, inner_lines, all_fine}
use Rattle.law_plan.proofs.ProjectionLemmas.{block_of, config_again, complete_again}

-- what is read, with this configuration as the last one
abbrev pub full : List ParsedLine → List ConfigLines → ConfigLines → ParsedText
full front closed block = record { front = front; closed = closed; current = Some block }

abbrev pub fronted : List ParsedLine → ParsedText
fronted front = record { front = front; closed = []; current = None }

next_check : (front : List ParsedLine) (closed : List ConfigLines) (b : ConfigLines) (n : ℕ) → version_in front ≡ two → length closed < 15 → check_of (full front closed b) n keywords.Config ≡ Ok tt
unfolding check_of is_second is_too_many
next_check front closed b n version few = rw (version, below 15 (length closed) few) (in_place (eqb (count keywords.Block b.lines) 0) n)
  where
    in_place : (none : Bool) (n : ℕ) → check_rows (if none then false else false) false false n ≡ Ok tt
    in_place true n = refl
    in_place false n = refl

next_whole : (front : List ParsedLine) (closed : List ConfigLines) (b : ConfigLines) → version_in front ≡ two → is_incomplete two b.lines ≡ false → ends_incomplete (full front closed b) keywords.Config ≡ false
next_whole front closed b version whole = subst (λ v. is_incomplete v b.lines ≡ false) (sym version) whole

-- a configuration where it may begin
config_adds : (read : ParsedText) (n : ℕ) (c : Config) → ConfigInLines c → adds n (config_lines c) read ≡ full read.front (read.closed ++ option_to_list read.current) (block_of n c)
config_adds read n c fits =
    inner_adds (begin n c.start c.countdown read) (record { line = n; start = c.start; countdown = c.countdown; lines = [] }) [] (n + 1) (inner_lines c) (all_fine (n + 1) c fits.few_streams fits.few_blocks fits.each_block)

config_fine : (read : ParsedText) (n : ℕ) (c : Config) → version_in read.front ≡ two → ends_incomplete read keywords.Config ≡ false → check_of read n keywords.Config ≡ Ok tt → ConfigInLines c → Fine read n (config_lines c)
config_fine read n c version whole found fits = (
  ap is_one version,
  whole,
  found,
  inner_fine (begin n c.start c.countdown read) (record { line = n; start = c.start; countdown = c.countdown; lines = [] }) [] (n + 1) (inner_lines c) version (all_fine (n + 1) c fits.few_streams fits.few_blocks fits.each_block),
)

-- configurations behind others
record ClosesConfigs (front : List ParsedLine) (closed : List ConfigLines) (b : ConfigLines) (n : ℕ) (cs : List Config) : Type 0 where
  fine : Fine (full front closed b) n (flat_map config_lines cs)
  closed_then : List ConfigLines
  last : ConfigLines
  is : adds n (flat_map config_lines cs) (full front closed b) ≡ full front closed_then last
  whole : is_incomplete two last.lines ≡ false
  configs : map config_of (closed_then ++ last ∷ []) ≡ map config_of (closed ++ b ∷ []) ++ cs

closes_configs : (front : List ParsedLine) (closed : List ConfigLines) (b : ConfigLines) (n : ℕ) (cs : List Config) → version_in front ≡ two → is_incomplete two b.lines ≡ false → length closed + length cs ≤ 15 → All ConfigInLines cs → ClosesConfigs front closed b n cs
closes_configs front closed b n [] version whole few fit = record { fine = tt; closed_then = closed; last = b; is = refl; whole = whole; configs = sym (append-nil (map config_of (closed ++ b ∷ []))) }
closes_configs front closed b n (c ∷ cs) version whole few fit =
    let fits = All-head ConfigInLines c cs fit in
    let flat : flat_map config_lines (c ∷ cs) ≡ config_lines c ++ flat_map config_lines cs = flat_map-cons config_lines c cs in
    let count : length (closed ++ b ∷ []) ≡ length closed + 1 = length-append closed (b ∷ []) in
    let here = config_adds (full front closed b) n c fits in
    let more = closes_configs front (closed ++ b ∷ []) (block_of n c) (n + length (config_lines c)) cs version (complete_again (n + 1) c fits.some_service fits.some_stream fits.some_block) (omega (arith, few, count)) (All-tail ConfigInLines c cs fit) in
    let behind : Fine (adds n (config_lines c) (full front closed b)) (n + length (config_lines c)) (flat_map config_lines cs) = rw here more.fine in
    record {
      fine = subst (λ (ls : List Line). Fine (full front closed b) n ls) (sym flat) (fine_append (full front closed b) n (config_lines c) (flat_map config_lines cs) (config_fine (full front closed b) n c version (next_whole front closed b version whole) (next_check front closed b n version (omega (arith, few))) fits) behind);
      closed_then = more.closed_then;
      last = more.last;
      is = ap (λ (ls : List Line). adds n ls (full front closed b)) flat
          ∙ adds_append n (config_lines c) (flat_map config_lines cs) (full front closed b)
          ∙ ap (adds (n + length (config_lines c)) (flat_map config_lines cs)) here
          ∙ more.is;
      whole = more.whole;
      configs = more.configs
          ∙ ap (λ l. l ++ cs) (map_push config_of (closed ++ b ∷ []) (block_of n c) ∙ ap (λ k. map config_of (closed ++ b ∷ []) ++ k ∷ []) (config_again n c fits.some_block))
          ∙ append_assoc (map config_of (closed ++ b ∷ [])) (c ∷ []) cs;
    }

-- the four first lines
front_fine : (plan : Plan) → Fine nothing 1 (front_lines plan)
unfolding check_of
front_fine plan = (refl, refl, refl, (refl, refl, refl, (refl, refl, refl, (refl, refl, refl, tt))))

first_check : (plan : Plan) → check_of (fronted (numbered 1 (front_lines plan))) 5 keywords.Config ≡ Ok tt
unfolding check_of
first_check plan = refl

-- all lines of a plan
pub record PlanRead (plan : Plan) : Type 0 where
  pub read : ParsedText
  pub fine : Fine nothing 1 (plan_lines plan)
  pub is : adds 1 (plan_lines plan) nothing ≡ read
  pub block : ConfigLines
  pub last : read.current ≡ Some block
  pub version : version_in read.front ≡ two
  pub whole : is_incomplete two block.lines ≡ false
  pub gives : plan_of read ≡ plan

plan_read_of : (plan : Plan) (c : Config) (cs : List Config) → plan.configs ≡ c ∷ cs → length (c ∷ cs) ≤ 16 → All ConfigInLines (c ∷ cs) → PlanRead plan
plan_read_of plan c cs are few fit =
    let front : List ParsedLine = numbered 1 (front_lines plan) in
    let fits = All-head ConfigInLines c cs fit in
    let flat : flat_map config_lines plan.configs ≡ config_lines c ++ flat_map config_lines cs = ap (flat_map config_lines) are ∙ flat_map-cons config_lines c cs in
    let n : ℕ = 5 + length (config_lines c) in
    let more = closes_configs front [] (block_of 5 c) n cs refl (complete_again (5 + 1) c fits.some_service fits.some_stream fits.some_block) (omega (arith, few)) (All-tail ConfigInLines c cs fit) in
    let here = config_adds (fronted front) 5 c fits in
    let behind : Fine (adds 5 (config_lines c) (fronted front)) n (flat_map config_lines cs) = rw here more.fine in
    let configs_fine : Fine (fronted front) 5 (flat_map config_lines plan.configs) =
    subst (λ (ls : List Line). Fine (fronted front) 5 ls) (sym flat) (fine_append (fronted front) 5 (config_lines c) (flat_map config_lines cs) (config_fine (fronted front) 5 c refl refl (first_check plan) fits) behind) in
    record {
      read = full front more.closed_then more.last;
      fine = fine_append nothing 1 (front_lines plan) (flat_map config_lines plan.configs) (front_fine plan) configs_fine;
      is = adds_append 1 (front_lines plan) (flat_map config_lines plan.configs) nothing
          ∙ ap (λ (ls : List Line). adds 5 ls (fronted front)) flat
          ∙ adds_append 5 (config_lines c) (flat_map config_lines cs) (fronted front)
          ∙ ap (adds n (flat_map config_lines cs)) here
          ∙ more.is;
      block = more.last;
      last = refl;
      version = refl;
      whole = more.whole;
      gives =
          ap (λ l. record { carry = plan.carry; seq = plan.seq; dlfc = plan.dlfc; length = plan.length; configs = l })
          (more.configs ∙ ap (λ k. k ∷ cs) (config_again 5 c fits.some_block) ∙ sym are);
    }

pub plan_read : (plan : Plan) → 1 ≤ length plan.configs → length plan.configs ≤ 16 → All ConfigInLines plan.configs → PlanRead plan
plan_read plan some few fit = by plan.configs refl some few fit
  where
    by : (cs : List Config) → plan.configs ≡ cs → 1 ≤ length cs → length cs ≤ 16 → All ConfigInLines cs → PlanRead plan
    by [] are some few fit = absurd (omega (arith, some))
    by (c ∷ cs) are some few fit = plan_read_of plan c cs are few fit
