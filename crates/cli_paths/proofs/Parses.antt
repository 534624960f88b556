-- What a parse of the command gives.
use Rattle.std.proofs.Common.{◌≡◌, List, [], ◌∷◌, Bool, true, false, cond, ◌||◌, Option, Some, None, is_some, refl, ap, ◌∙◌, sym, codes}
use Rattle.std.specs.Prelude.{fold, not, option_map, option_and_then}
use Rattle.std.specs.List.{AllByRecursion}
use Rattle.std.specs.Str.{bytes_eq}
use Rattle.clap.specs.Kinds.{Kinds, or_else}
use Rattle.clap.specs.Faults.{fault_of, built_fault, is_simple_and_free, settle_fault, walk_fault, defaults_fault, check_fault, entered_fault}
use Rattle.clap.specs.Simple.{App, matches_of, entered, names_of}
use Rattle.clap.specs.Takes.{is_given}
use Rattle.clap.specs.Walk.{idle, Rule, Row, Text, first_of, with_default, has_row, walk_from, nothing_held, settled, finished, rows_after}
use Rattle.cli_paths.specs.Command.{paths}
use Rattle.cli_paths.specs.Uses.{Use, Idle, plain, has_use, run}
use Rattle.cli_paths.specs.CommandTexts.{CommandTexts, value_of, texts_with, texts_of, text_of, parse_of}
use Rattle.clap.specs.declared.error.kind.ErrorKind.TheVariants.{MissingRequiredArgument}
use Rattle.cli_paths.proofs.Rules.{rules}
use Rattle.cli_paths.proofs.Arguments.{rows_at, keeps_none}
use Rattle.cli_paths.proofs.Walking.{top, parsed, is_parsed, at, after, Meets}
use Rattle.cli_paths.proofs.Claims.{claims}

pub paths_simple : is_simple_and_free paths ≡ true
paths_simple = refl

start : (words : List Text) → Meets (at [] None idle 1 false) words (run words Idle [])
start words = (claims words).idles [] [] None (keeps_none [])

-- ---- no argument has a default

abbrev NoDefaults : List Rule → Type 0
NoDefaults rs = AllByRecursion (λ r. r.defaults ≡ []) rs

none_there : NoDefaults rules
unfolding rules
none_there = (refl, (refl, (refl, (refl, (refl, (refl, (refl, tt)))))))

same_either : {A : Type 0} (b : Bool) (x : A) → cond b x x ≡ x
same_either true x = refl
same_either false x = refl

or_true : (b : Bool) → (b || true) ≡ true
or_true true = refl
or_true false = refl

no_default_rows : (rs : List Rule) (rows : List Row) → NoDefaults rs → fold with_default rows rs ≡ rows
no_default_rows [] rows h = refl
no_default_rows (r ∷ rs) rows h = rw (h.0, same_either (has_row r.id rows) rows) (no_default_rows rs rows h.1)

no_default_fault : (rs : List Rule) (rows : List Row) → NoDefaults rs → defaults_fault rows rs ≡ []
unfolding defaults_fault
no_default_fault [] rows h = refl
no_default_fault (r ∷ rs) rows h = rw (h.0, or_true (has_row r.id rows), same_either (has_row r.id rows) rows) (no_default_fault rs rows h.1)

-- ---- what is told is in the rows

given_by : (id : Text) (u : Use) (us : List Use) (b : Bool) → bytes_eq u.0 id ≡ b → is_given id (rows_at us) ≡ has_use id us → is_given id (rows_at (u ∷ us)) ≡ has_use id (u ∷ us)
given_by id u us true e more = rw e refl
given_by id u us false e more = rw e more

given_is : (id : Text) (done : List Use) → is_given id (rows_at done) ≡ has_use id done
given_is id [] = refl
given_is id (u ∷ us) = given_by id u us (bytes_eq u.0 id) refl (given_is id us)

first_by : (id : Text) (u : Use) (us : List Use) (b : Bool) → bytes_eq u.0 id ≡ b → first_of id (rows_at us) ≡ value_of id us → first_of id (rows_at (u ∷ us)) ≡ value_of id (u ∷ us)
first_by id u us true e more = rw e refl
first_by id u us false e more = rw e more

first_is : (id : Text) (done : List Use) → first_of id (rows_at done) ≡ value_of id done
first_is id [] = refl
first_is id (u ∷ us) = first_by id u us (bytes_eq u.0 id) refl (first_is id us)

used_by : (id : Text) (u : Use) (us : List Use) (b : Bool) → bytes_eq u.0 id ≡ b → is_some (value_of id us) ≡ has_use id us → is_some (value_of id (u ∷ us)) ≡ has_use id (u ∷ us)
used_by id u us true e more = rw e refl
used_by id u us false e more = rw e more

pub value_used : (id : Text) (done : List Use) → is_some (value_of id done) ≡ has_use id done
value_used id [] = refl
value_used id (u ∷ us) = used_by id u us (bytes_eq u.0 id) refl (value_used id us)

-- ---- the whole parse

-- the words are refused, or taken with these texts
abbrev pub Parsed : List Text → Option CommandTexts → Type 0
Parsed words None = fault_of paths words ≡ [] → ⊥
Parsed words (Some t) = (fault_of paths words ≡ []) × (text_of plain words ≡ Some t.addresses) × (text_of (codes "window") words ≡ t.window)
    × (text_of (codes "reach") words ≡ t.reach) × (text_of (codes "first") words ≡ t.first)
    × (text_of (codes "frames") words ≡ t.frames) × (text_of (codes "idle") words ≡ t.idle) × (text_of (codes "limit") words ≡ t.limit)

-- the command with its rules looked up
fault_is : (words : List Text) → fault_of paths words ≡ built_fault parsed nothing_held words
fault_is words = ap (λ (a : App). built_fault a nothing_held words) is_parsed

matches_are : (words : List Text) → matches_of paths words ≡ finished rules (after (walk_from nothing_held) words).held
matches_are words = ap (λ (a : App). rows_after a.top.rules (names_of a) words) is_parsed

-- the parts of the fault
abbrev part_walk : List Text → Kinds
part_walk words = walk_fault top [] (walk_from nothing_held) words

abbrev part_below : List Text → Kinds
part_below words = entered_fault parsed (after (walk_from nothing_held) words).stopped

abbrev part_end : List Text → Kinds
part_end words = settle_fault rules false (after (walk_from nothing_held) words).held

abbrev part_defaults : List Text → Kinds
part_defaults words = defaults_fault (settled rules (after (walk_from nothing_held) words).held).rows rules

abbrev part_checks : List Text → Kinds
part_checks words = check_fault top (finished rules (after (walk_from nothing_held) words).held) (is_some (entered parsed (after (walk_from nothing_held) words).stopped))

outer : (a b c d : Kinds) → or_else a (or_else b (or_else c d)) ≡ [] → or_else a c ≡ []
outer [] [] [] d e = refl
outer [] [] (k ∷ ks) d e = absurd cc
outer [] (k ∷ ks) c d e = absurd cc
outer (k ∷ ks) b c d e = absurd cc

last : (a b c d f : Kinds) → or_else a (or_else b (or_else c (or_else d f))) ≡ [] → f ≡ []
last [] [] [] [] f e = e
last [] [] [] (k ∷ ks) f e = absurd cc
last [] [] (k ∷ ks) d f e = absurd cc
last [] (k ∷ ks) c d f e = absurd cc
last (k ∷ ks) b c d f e = absurd cc

all_none : (a b c d f : Kinds) → or_else a c ≡ [] → b ≡ [] → d ≡ [] → f ≡ [] → or_else a (or_else b (or_else c (or_else d f))) ≡ []
all_none [] b c d f e g h i = rw (e, g, h, i) refl
all_none (k ∷ ks) b c d f e g h i = absurd cc

check_is : (done : List Use) → check_fault top (rows_at done) false ≡ cond (has_use plain done) [] (MissingRequiredArgument ∷ [])
unfolding rules
check_is done = rw (given_is plain done) (by (has_use plain done))
  where
    by : (b : Bool) → cond (not b || false) (MissingRequiredArgument ∷ []) [] ≡ cond b [] (MissingRequiredArgument ∷ [])
    by true = refl
    by false = refl

module _ (words : List Text) (done : List Use) (meets : Meets (walk_from nothing_held) words (Some done)) where
  rows_end : finished rules (after (walk_from nothing_held) words).held ≡ rows_at done
  rows_end = ap (λ (rows : List Row). fold with_default rows rules) meets.1 ∙ no_default_rows rules (rows_at done) none_there

  text_is : (id : Text) → text_of id words ≡ value_of id done
  text_is id = ap (first_of id) (matches_are words ∙ rows_end) ∙ first_is id done

  checks : check_fault top (finished rules (after (walk_from nothing_held) words).held) (is_some (entered parsed (after (walk_from nothing_held) words).stopped)) ≡ cond (has_use plain done) [] (MissingRequiredArgument ∷ [])
  checks = rw (meets.2, rows_end) (check_is done)

  by_value : (t : Option Text) → value_of plain done ≡ t → Parsed words (option_map (texts_with done) t)
  by_value None e = λ h.
      let u : has_use plain done ≡ false = sym (value_used plain done) ∙ ap is_some e in
      let none = last (part_walk words) (part_below words) (part_end words) (part_defaults words) (part_checks words) (sym (fault_is words) ∙ h) in
      let missing : cond (has_use plain done) [] (MissingRequiredArgument ∷ []) ≡ [] = sym checks ∙ none in
      no (sym (ap (λ (b : Bool). cond b [] (MissingRequiredArgument ∷ [])) u) ∙ missing)
    where
      no : MissingRequiredArgument ∷ [] ≡ [] → ⊥
      no e = cc
  by_value (Some text) e =
      let u : has_use plain done ≡ true = sym (value_used plain done) ∙ ap is_some e in (
        fault_is words ∙ all_none (part_walk words) (part_below words) (part_end words) (part_defaults words) (part_checks words) meets.0 (ap (entered_fault parsed) meets.2) (no_default_fault rules _ none_there) (checks ∙ ap (λ (b : Bool). cond b [] (MissingRequiredArgument ∷ [])) u),
        text_is plain ∙ e,
        text_is (codes "window"),
        text_is (codes "reach"),
        text_is (codes "first"),
        text_is (codes "frames"),
        text_is (codes "idle"),
        text_is (codes "limit"),
      )

by_run : (words : List Text) (o : Option (List Use)) → Meets (walk_from nothing_held) words o → Parsed words (option_and_then texts_of o)
by_run words None meets = λ h. meets (outer (part_walk words) (part_below words) (part_end words) (or_else (part_defaults words) (part_checks words)) (sym (fault_is words) ∙ h))
by_run words (Some done) meets = by_value words done meets (value_of plain done) refl

pub parses : (words : List Text) → Parsed words (parse_of words)
unfolding parse_of
parses words = by_run words (run words Idle []) (start words)
