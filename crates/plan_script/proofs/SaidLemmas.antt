-- The feeds of lines, as each line adds to them.
use Rattle.std.proofs.Common.{◌≡◌, ℕ, ◌+◌, Bool, true, false, List, [], ◌∷◌, ◌++◌, length, map, drop, Option, Some, None, Result, Ok, Err, refl, sym, ap, ◌∙◌}
use Rattle.std.specs.Prelude.{◌==◌, if◌then◌else◌, slice_index}
use Rattle.std.specs.List.{flat_map, slice_split, onto_first}
use Rattle.std.proofs.lemmas.List.{append-nil, map-append}
use Rattle.std.proofs.lemmas.Grind.{flat_map-append}
use Rattle.text_lines.specs.Lines.{words_of}
use Rattle.drm_schedule.specs.declared.plan.Plan.{Plan}
use Rattle.plan_script.specs.declared.delivery.Delivery.{Delivery}
use Rattle.plan_script.specs.declared.fault.ScriptFault.{ScriptFault}
use Rattle.plan_script.specs.declared.fault.ScriptFault.TheVariants as faults
use Rattle.plan_script.specs.declared.line.ScriptLine.{ScriptLine}
use Rattle.plan_script.specs.declared.line.ScriptLine.TheVariants as lines
use Rattle.text_lines.specs.Faults.{first_fault, ok_unless, ◌>>=◌, lines_say}
use Rattle.plan_script.specs.Script.{ScriptTextFault, rows, is_feed, line_delivers, feeds_of, lacks_feed, is_too_long, line_said, said_after, said_words, said_from, ended, script_of}
use Rattle.plan_script.specs.Steps.{FailsAs, to_last, with_line, feeds_after, words_after, line_after, lines_after}

-- one more line for the last part
abbrev last_part : ScriptLine → List (List ScriptLine) → List (List ScriptLine)
last_part x [] = []
last_part x (part ∷ []) = (part ++ x ∷ []) ∷ []
last_part x (part ∷ next ∷ parts) = part ∷ last_part x (next ∷ parts)

-- there is a first part
record HasFirst (parts : List (List ScriptLine)) : Type 0 where
  first : List ScriptLine
  more : List (List ScriptLine)
  are : parts ≡ first ∷ more

split_first : (said : List ScriptLine) → HasFirst (slice_split is_feed said)
split_first [] = record { first = []; more = []; are = refl }
split_first (l ∷ said) = by (is_feed l) (split_first said)
  where
    by : (x : Bool) → HasFirst (slice_split is_feed said) → HasFirst (if x then [] ∷ slice_split is_feed said else onto_first l (slice_split is_feed said))
    by true has = record { first = []; more = slice_split is_feed said; are = refl }
    by false has = record { first = l ∷ has.first; more = has.more; are = rw has.are refl }

onto_append : (l : ScriptLine) (parts : List (List ScriptLine)) (new : List (List ScriptLine)) → HasFirst parts → onto_first l (parts ++ new) ≡ onto_first l parts ++ new
onto_append l parts new has = rw has.are refl

onto_last : (l x : ScriptLine) (parts : List (List ScriptLine)) → HasFirst parts → onto_first l (last_part x parts) ≡ last_part x (onto_first l parts)
onto_last l x parts has = rw has.are (by has.first has.more)
  where
    by : (first : List ScriptLine) (more : List (List ScriptLine)) → onto_first l (last_part x (first ∷ more)) ≡ last_part x (onto_first l (first ∷ more))
    by first [] = refl
    by first (next ∷ more) = refl

split_feed : (said : List ScriptLine) → slice_split is_feed (said ++ lines.Feed ∷ []) ≡ slice_split is_feed said ++ [] ∷ []
split_feed [] = refl
split_feed (l ∷ said) = rw (split_feed said) (by (is_feed l))
  where
    by : (x : Bool) → (if x then [] ∷ (slice_split is_feed said ++ [] ∷ []) else onto_first l (slice_split is_feed said ++ [] ∷ []))
        ≡ (if x then [] ∷ slice_split is_feed said else onto_first l (slice_split is_feed said)) ++ [] ∷ []
    by true = refl
    by false = onto_append l (slice_split is_feed said) ([] ∷ []) (split_first said)

split_other : (said : List ScriptLine) (x : ScriptLine) → is_feed x ≡ false → slice_split is_feed (said ++ x ∷ []) ≡ last_part x (slice_split is_feed said)
split_other [] x other = rw other refl
split_other (l ∷ said) x other = rw (split_other said x other) (by (is_feed l) (split_first said))
  where
    by : (b : Bool) → HasFirst (slice_split is_feed said) → (if b then [] ∷ last_part x (slice_split is_feed said) else onto_first l (last_part x (slice_split is_feed said)))
        ≡ last_part x (if b then [] ∷ slice_split is_feed said else onto_first l (slice_split is_feed said))
    by true has = rw has.are refl
    by false has = onto_last l x (slice_split is_feed said) has

-- the deliveries of the lines of a feed
abbrev all_in : Plan → List ScriptLine → List Delivery
all_in plan said = flat_map (line_delivers plan) said

one_part : (plan : Plan) (part : List ScriptLine) (x : ScriptLine) → all_in plan (part ++ x ∷ []) ≡ all_in plan part ++ line_delivers plan x
one_part plan part x = flat_map-append (line_delivers plan) part (x ∷ []) ∙ ap (λ (ds : List Delivery). all_in plan part ++ ds) (append-nil (line_delivers plan x))

last_delivers : (plan : Plan) (x : ScriptLine) (parts : List (List ScriptLine)) → map (all_in plan) (last_part x parts) ≡ to_last (line_delivers plan x) (map (all_in plan) parts)
last_delivers plan x [] = refl
last_delivers plan x (part ∷ []) = ap (λ (ds : List Delivery). ds ∷ []) (one_part plan part x)
last_delivers plan x (part ∷ next ∷ parts) = ap (λ (fs : List (List Delivery)). all_in plan part ∷ fs) (last_delivers plan x (next ∷ parts))

behind_last : (x : ScriptLine) (parts : List (List ScriptLine)) → drop 1 (last_part x parts) ≡ last_part x (drop 1 parts)
behind_last x [] = refl
behind_last x (part ∷ []) = refl
behind_last x (part ∷ next ∷ parts) = refl

behind_first : (parts new : List (List ScriptLine)) → HasFirst parts → drop 1 (parts ++ new) ≡ drop 1 parts ++ new
behind_first parts new has = rw has.are refl

-- one more line
line_more : (plan : Plan) (said : List ScriptLine) (x : ScriptLine) → feeds_of plan (said ++ x ∷ []) ≡ with_line plan x (feeds_of plan said)
unfolding feeds_of
line_more plan said lines.Feed =
    ap (λ (ps : List (List ScriptLine)). map (all_in plan) (drop 1 ps)) (split_feed said)
    ∙ ap (map (all_in plan)) (behind_first (slice_split is_feed said) ([] ∷ []) (split_first said))
    ∙ map-append (all_in plan) (drop 1 (slice_split is_feed said)) ([] ∷ [])
line_more plan said (lines.Deliver d) =
    ap (λ (ps : List (List ScriptLine)). map (all_in plan) (drop 1 ps)) (split_other said (lines.Deliver d) refl)
    ∙ ap (map (all_in plan)) (behind_last (lines.Deliver d) (slice_split is_feed said))
    ∙ last_delivers plan (lines.Deliver d) (drop 1 (slice_split is_feed said))

-- what lines say, as the feeds that they give
abbrev given : Plan → Result (List ScriptLine) ScriptTextFault → Result (List (List Delivery)) ScriptTextFault
given plan said = said >>= λ all. Ok (feeds_of plan all)

unless_given : (plan : Plan) (f : Option ScriptTextFault) (all : List ScriptLine) → given plan (ok_unless f all) ≡ ok_unless f (feeds_of plan all)
unless_given plan None all = refl
unless_given plan (Some f) all = refl

line_given : (plan : Plan) (said : List ScriptLine) (n : ℕ) (line : ScriptLine) → given plan (said_after plan said n line) ≡ feeds_after plan (feeds_of plan said) n line
unfolding said_after feeds_after
line_given plan said n line =
    unless_given plan (first_fault (rows n (lacks_feed (feeds_of plan said) line) (is_too_long plan (feeds_of plan (said ++ line ∷ []))))) (said ++ line ∷ [])
    ∙ ap (λ (fs : List (List Delivery)). ok_unless (first_fault (rows n (lacks_feed (feeds_of plan said) line) (is_too_long plan fs))) fs) (line_more plan said line)

words_given : (plan : Plan) (said : List ScriptLine) (n : ℕ) (line : List ℕ) (words : List (List ℕ)) → given plan (said_words plan said n line words) ≡ words_after plan (feeds_of plan said) n line words
words_given plan said n line [] = refl
words_given plan said n line (first ∷ words) = by (slice_index first 0 == 35) (line_said plan n line first words)
  where
    by : (x : Bool) (r : Result ScriptLine ScriptTextFault) → given plan (if x then Ok said else (r >>= said_after plan said n)) ≡ (if x then Ok (feeds_of plan said) else (r >>= feeds_after plan (feeds_of plan said) n))
    by true r = refl
    by false (Ok l) = line_given plan said n l
    by false (Err e) = refl

lines_given : (plan : Plan) (said : List ScriptLine) (n : ℕ) (lines : List (List ℕ)) → given plan (said_from plan said n lines) ≡ lines_after plan (feeds_of plan said) n lines
unfolding lines_say
lines_given plan said n [] = refl
lines_given plan said n (line ∷ lines) = by (said_words plan said n line (words_of line)) (words_given plan said n line (words_of line)) (λ more. lines_given plan more (n + 1) lines)
  where
    by : (r : Result (List ScriptLine) ScriptTextFault) → given plan r ≡ line_after plan (feeds_of plan said) n line
        → ((more : List ScriptLine) → given plan (said_from plan more (n + 1) lines) ≡ lines_after plan (feeds_of plan more) (n + 1) lines)
        → given plan (r >>= λ more. said_from plan more (n + 1) lines) ≡ (line_after plan (feeds_of plan said) n line >>= λ more. lines_after plan more (n + 1) lines)
    by (Ok more) is rest = rest more ∙ rw (sym is) refl
    by (Err e) is rest = rw (sym is) refl

then_ended : (plan : Plan) (n : ℕ) (r : Result (List ScriptLine) ScriptTextFault) → (given plan r >>= ended n) ≡ (r >>= λ all. ended n (feeds_of plan all))
then_ended plan n (Ok all) = refl
then_ended plan n (Err e) = refl

no_line : (plan : Plan) → feeds_of plan [] ≡ []
unfolding feeds_of
no_line plan = refl

-- the feeds of a text's lines are what its lines give one after another
pub script_is : (plan : Plan) (lines : List (List ℕ)) → script_of plan lines ≡ (lines_after plan [] 1 lines >>= ended (length lines))
unfolding script_of
script_is plan lines =
    sym (then_ended plan (length lines) (said_from plan [] 1 lines))
    ∙ ap (λ (r : Result (List (List Delivery)) ScriptTextFault). r >>= ended (length lines)) (lines_given plan [] 1 lines ∙ ap (λ (fs : List (List Delivery)). lines_after plan fs 1 lines) (no_line plan))

abbrev after_all : Result (List (List Delivery)) ScriptTextFault → ℕ → Result (List (List Delivery)) ScriptTextFault
after_all r n = r >>= ended n

-- a fault before the end
pub script_fails : (p : ScriptFault) (plan : Plan) (lines : List (List ℕ)) → FailsAs p (lines_after plan [] 1 lines) → FailsAs p (script_of plan lines)
script_fails faults.NoMemory plan lines e = tt
script_fails (faults.Line l r) plan lines e = script_is plan lines ∙ ap (λ (x : Result (List (List Delivery)) ScriptTextFault). after_all x (length lines)) e

-- the end of lines without a fault
pub script_ends : (plan : Plan) (lines : List (List ℕ)) (feeds : List (List Delivery)) → lines_after plan [] 1 lines ≡ Ok feeds → script_of plan lines ≡ ended (length lines) feeds
script_ends plan lines feeds e = script_is plan lines ∙ ap (λ (x : Result (List (List Delivery)) ScriptTextFault). after_all x (length lines)) e
