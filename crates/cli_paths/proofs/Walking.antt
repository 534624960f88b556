-- clap's walk over the words reads what is read of them.
use Rattle.std.proofs.Common.{◌≡◌, ℕ, List, [], ◌∷◌, Bool, true, false, Option, Some, None, refl, ap, ◌∙◌, sym, codes}
use Rattle.std.specs.Prelude.{fold}
use Rattle.clap.specs.Kinds.{Kinds, or_else}
use Rattle.clap.specs.Simple.{App, Shape, built}
use Rattle.clap.specs.Walk.{Row, Text, Walk, Waiting, walked, settled}
use Rattle.clap.specs.Faults.{settle_fault, turn_fault, walk_fault}
use Rattle.cli_paths.specs.Command.{paths}
use Rattle.cli_paths.specs.Uses.{Use}
use Rattle.cli_paths.proofs.Rules.{rules}
use Rattle.cli_paths.proofs.Arguments.{rows_at, held}

-- the command as it is parsed
abbrev pub top : Shape
top = record {
  name = codes "drmpaths";
  aliases = [];
  rules = rules;
  is_plain = true;
  is_leaf = true;
  no_binary_name = true;
  disable_help_flag = true;
  disable_help_subcommand = true;
  disable_version_flag = false;
  propagate_version = false;
  has_version = false;
  has_long_version = false;
  args_override_self = false;
  arg_required_else_help = false;
  subcommand_required = false;
  subcommand_negates_reqs = false;
  is_built = true;
}

abbrev pub parsed : App
parsed = record { top = top; subs = [] }

pub is_parsed : built paths ≡ parsed
unfolding rules
is_parsed = refl

-- where the walk stands between two words
abbrev pub at : List Row → Option (Text × List Text) → Waiting → ℕ → Bool → Walk
at rows pending waiting position behind = record {
  held = held rows pending;
  waiting = waiting;
  position = position;
  is_trailing = behind;
  stopped = None;
}

abbrev pub after : Walk → List Text → Walk
after w words = fold (walked rules []) w words

-- the faults of the walk, and of what is held at its end
abbrev pub total : Walk → List Text → Kinds
total w words = or_else (walk_fault top [] w words) (settle_fault rules false (after w words).held)

-- the walk comes to these uses, or to a fault
abbrev pub Meets : Walk → List Text → Option (List Use) → Type 0
Meets w words None = total w words ≡ [] → ⊥
Meets w words (Some done) = (total w words ≡ []) × ((settled rules (after w words).held).rows ≡ rows_at done) × ((after w words).stopped ≡ None)

or_else-assoc : (a b c : Kinds) → or_else (or_else a b) c ≡ or_else a (or_else b c)
or_else-assoc [] b c = refl
or_else-assoc (k ∷ ks) b c = refl

total-more : (w : Walk) (word : Text) (rest : List Text) → total w (word ∷ rest) ≡ or_else (turn_fault top [] w word) (total (walked rules [] w word) rest)
unfolding walk_fault
total-more w word rest = or_else-assoc (turn_fault top [] w word) (walk_fault top [] (walked rules [] w word) rest) _

pub faulty : (w : Walk) (word : Text) (rest : List Text) (k : Kinds) (o : Option (List Use)) → turn_fault top [] w word ≡ k → (k ≡ [] → ⊥) → o ≡ None → Meets w (word ∷ rest) o
faulty w word rest [] o e some is = absurd (some refl)
faulty w word rest (k ∷ ks) (Some x) e some is = absurd cc
faulty w word rest (k ∷ ks) None e some is = λ h. no (sym (total-more w word rest ∙ ap (λ (f : Kinds). or_else f (total (walked rules [] w word) rest)) e) ∙ h)
  where
    no : k ∷ ks ≡ [] → ⊥
    no f = cc

pub moves : (w new : Walk) (word : Text) (rest : List Text) (o : Option (List Use)) → turn_fault top [] w word ≡ [] → walked rules [] w word ≡ new → Meets new rest o → Meets w (word ∷ rest) o
moves w new word rest None fine is meets = λ h. meets (ap (λ (v : Walk). total v rest) (sym is) ∙ ap (λ (f : Kinds). or_else f (total (walked rules [] w word) rest)) (sym fine) ∙ sym (total-more w word rest) ∙ h)
moves w new word rest (Some done) fine is meets = (
  total-more w word rest ∙ ap (λ (f : Kinds). or_else f (total (walked rules [] w word) rest)) fine ∙ ap (λ (v : Walk). total v rest) is ∙ meets.0,
  ap (λ (v : Walk). (settled rules (after v rest).held).rows) is ∙ meets.1,
  ap (λ (v : Walk). (after v rest).stopped) is ∙ meets.2,
)
