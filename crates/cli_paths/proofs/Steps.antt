-- What clap makes of one word.
use Rattle.std.proofs.Common.{◌≡◌, ℕ, zero, suc, List, [], ◌∷◌, ◌++◌, Bool, true, false, cond, ◌&&◌, Option, Some, None, refl, ap, ◌∙◌, sym, length, arith}
use Rattle.std.specs.Prelude.{slice_get}
use Rattle.std.specs.Str.{bytes_eq, chars}
use Rattle.std.proofs.lemmas.Slice.Eq.{bytes_eq-Decides}
use Rattle.std.proofs.lemmas.Str.{chars-nil}
use Rattle.clap.specs.Kinds.{Kinds, or_else}
use Rattle.clap.specs.Lexer.{long_of, short_of}
use Rattle.clap.specs.Walk.{Row, Text, Held, Waiting, idle, option, walked, bundle_met, plain as no_flag, plain_word, word_met, is_pending, settled_rows}
use Rattle.clap.specs.Faults.{use_fault, settle_fault, turn_fault, flags_fault, word_fault}
use Rattle.clap.specs.declared.error.kind.ErrorKind.TheVariants as kind
use Rattle.cli_paths.specs.Uses.{Use, is_known, plain, has_use}
use Rattle.cli_paths.proofs.Rules.{rules, option_full, addresses_full, short_none, first_plain, second_plain, known_found, unknown}
use Rattle.cli_paths.proofs.Arguments.{rows_at, held, Keeps, is_option, has_row_at, rows_more}
use Rattle.cli_paths.proofs.Walking.{top, at}

abbrev pub position_at : Bool → ℕ
position_at u = cond u 2 1

abbrev pub position_of : List Use → ℕ
position_of done = position_at (has_use plain done)

and_false : (b : Bool) → (b && false) ≡ false
and_false true = refl
and_false false = refl

or_else-none : (k : Kinds) → or_else k [] ≡ k
or_else-none [] = refl
or_else-none (k ∷ ks) = refl

pub first_none : (a b : Kinds) → or_else a b ≡ [] → a ≡ []
first_none [] b e = refl
first_none (k ∷ ks) b e = absurd cc

-- ---- a word for the positional

module _ (rows : List Row) (pending : Option (Text × List Text)) (word : Text) where
  pub behind_stray : (waiting : Waiting) → turn_fault top [] (at rows pending waiting 2 true) word ≡ kind.UnknownArgument ∷ []
  behind_stray waiting = rw second_plain refl

  pub behind_fault : (waiting : Waiting) → turn_fault top [] (at rows pending waiting 1 true) word ≡ settle_fault rules false (held rows pending)
  behind_fault waiting = rw (first_plain, and_false (is_pending addresses_full pending)) refl

  pub behind_walked : (done : List Use) (waiting : Waiting) → Keeps done rows pending → walked rules [] (at rows pending waiting 1 true) word ≡ at (rows_at done) (Some (plain, word ∷ [])) idle 2 true
  unfolding walked
  behind_walked done waiting k = rw (first_plain, and_false (is_pending addresses_full pending), k.whole) refl

-- ---- flags

module _ (h : Held) (flags : Text) where
  odd_fault : (k : ℕ) → slice_get (chars flags) 0 ≡ None → flags_fault rules false k flags 0 h ≡ []
  unfolding flags_fault
  odd_fault zero e = refl
  odd_fault (suc k) e = rw e refl

  odd_met : (k : ℕ) → slice_get (chars flags) 0 ≡ None → bundle_met rules k flags 0 no_flag h ≡ (h, no_flag)
  unfolding bundle_met
  odd_met zero e = refl
  odd_met (suc k) e = rw e refl

  flags_by : (x : ℕ) (k : ℕ) → length flags ≡ k → slice_get (chars flags) 0 ≡ Some x → flags_fault rules false k flags 0 h ≡ kind.UnknownArgument ∷ []
  unfolding flags_fault
  flags_by x zero n e = absurd (none flags n e)
    where
      none : (flags : Text) → length flags ≡ 0 → slice_get (chars flags) 0 ≡ Some x → ⊥
      none [] n e = let f : slice_get (chars []) 0 ≡ None = rw chars-nil refl in cc
      none (y ∷ ys) n e = absurd (omega arith)
  flags_by x (suc k) n e = rw (e, short_none x) refl

-- ---- the word is `--`

module _ (rows : List Row) (pending : Option (Text × List Text)) (position : ℕ) (word : Text) (is : bytes_eq word (45 ∷ 45 ∷ []) ≡ true) where
  pub dashes_fault : turn_fault top [] (at rows pending idle position false) word ≡ []
  dashes_fault = rw is refl

  pub dashes_walked : walked rules [] (at rows pending idle position false) word ≡ at rows pending idle position true
  unfolding walked
  dashes_walked = rw is refl

  pub dashes_value_fault : (id : Text) → turn_fault top [] (at rows pending (option id) position false) word ≡ []
  dashes_value_fault id = rw is refl

  pub dashes_value_walked : (id : Text) → walked rules [] (at rows pending (option id) position false) word ≡ at rows pending (option id) position true
  unfolding walked
  dashes_value_walked id = rw is refl

-- ---- the word is no flag

module _ (rows : List Row) (pending : Option (Text × List Text)) (word : Text) (other : bytes_eq word (45 ∷ 45 ∷ []) ≡ false) (long : long_of word ≡ None) where
  abbrev pub IsBare : Type 0
  IsBare = ((word_fault top [] false idle word (held rows pending) ≡ []) × ((position : ℕ) → word_met rules [] false idle position word (held rows pending) ≡ plain_word rules idle word (held rows pending)))
      × ((id : Text) → (word_fault top [] false (option id) word (held rows pending) ≡ []) × ((position : ℕ) → word_met rules [] false (option id) position word (held rows pending) ≡ plain_word rules (option id) word (held rows pending)))

  pub bare_none : short_of word ≡ None → IsBare
  bare_none short = ((rw (other, long, short) refl, λ position. rw (other, long, short) refl), λ id. (rw (other, long, short) refl, λ position. rw (other, long, short) refl))

  pub bare_odd : (flags : Text) → short_of word ≡ Some flags → slice_get (chars flags) 0 ≡ None → IsBare
  bare_odd flags short odd =
      let f = odd_fault (held rows pending) flags (length flags) odd in
      let m = odd_met (held rows pending) flags (length flags) odd in
      ((rw (other, long, short, f) refl, λ position. rw (other, long, short, m) refl), λ id. (rw (other, long, short, f) refl, λ position. rw (other, long, short, m) refl))

  pub stray_fault : (flags : Text) (x : ℕ) (position : ℕ) → short_of word ≡ Some flags → slice_get (chars flags) 0 ≡ Some x → turn_fault top [] (at rows pending idle position false) word ≡ kind.UnknownArgument ∷ []
  stray_fault flags x position short e =
      let f = flags_by (held rows pending) flags x (length flags) refl e in
      rw (other, long, short, f) refl

  pub stray_value_fault : (flags : Text) (x : ℕ) (position : ℕ) (id : Text) → short_of word ≡ Some flags → slice_get (chars flags) 0 ≡ Some x → turn_fault top [] (at rows pending (option id) position false) word ≡ kind.UnknownArgument ∷ []
  stray_value_fault flags x position id short e =
      let f = flags_by (held rows pending) flags x (length flags) refl e in
      rw (other, long, short, f) refl

-- ---- a word that is no flag, where nothing waits, goes to the positional; else it is the value

module _ (rows : List Row) (pending : Option (Text × List Text)) (word : Text) where
  abbrev pub Word : Waiting → Type 0
  Word waiting = (word_fault top [] false waiting word (held rows pending) ≡ [])
      × ((position : ℕ) → word_met rules [] false waiting position word (held rows pending) ≡ plain_word rules waiting word (held rows pending))

  pub bare_stray : Word idle → turn_fault top [] (at rows pending idle 2 false) word ≡ kind.UnknownArgument ∷ []
  bare_stray b = rw (b.0, b.1 2, second_plain) refl

  pub bare_fault : Word idle → turn_fault top [] (at rows pending idle 1 false) word ≡ settle_fault rules false (held rows pending)
  bare_fault b = rw (b.0, b.1 1, first_plain, and_false (is_pending addresses_full pending)) refl

  pub bare_walked : (done : List Use) → Word idle → Keeps done rows pending → walked rules [] (at rows pending idle 1 false) word ≡ at (rows_at done) (Some (plain, word ∷ [])) idle 2 false
  unfolding walked
  bare_walked done b k = rw (b.1 1, first_plain, and_false (is_pending addresses_full pending), k.whole) refl

module _ (rows : List Row) (name word : Text) (position : ℕ) (known : is_known name ≡ true) (b : Word rows (Some (name, [])) word (option name)) where
  pub value_fault : turn_fault top [] (at rows (Some (name, [])) (option name) position false) word ≡ []
  value_fault = rw (b.0, b.1 position) refl

  pub value_walked : walked rules [] (at rows (Some (name, [])) (option name) position false) word ≡ at rows (Some (name, word ∷ [])) idle position false
  unfolding walked
  value_walked = rw (b.1 position, (known_found name known).1, (bytes_eq-Decides name name).1 refl) refl

-- ---- the word is an option

module _ (rows : List Row) (pending : Option (Text × List Text)) (position : ℕ) (word name : Text) (other : bytes_eq word (45 ∷ 45 ∷ []) ≡ false) where
  pub unknown_fault : (value : Option Text) → long_of word ≡ Some (name, value) → is_known name ≡ false → turn_fault top [] (at rows pending idle position false) word ≡ kind.UnknownArgument ∷ []
  unknown_fault value long u = rw (other, long, unknown name u) refl

  pub unknown_value_fault : (value : Option Text) (id : Text) → long_of word ≡ Some (name, value) → is_known name ≡ false → turn_fault top [] (at rows pending (option id) position false) word ≡ kind.UnknownArgument ∷ []
  unknown_value_fault value id long u = rw (other, long, unknown name u) refl

  pub apart_fault : long_of word ≡ Some (name, None) → is_known name ≡ true → turn_fault top [] (at rows pending idle position false) word ≡ settle_fault rules false (held rows pending)
  apart_fault long k = rw (other, long, (known_found name k).0) (or_else-none _)

  pub apart_walked : (done : List Use) → long_of word ≡ Some (name, None) → is_known name ≡ true → Keeps done rows pending
      → walked rules [] (at rows pending idle position false) word ≡ at (rows_at done) (Some (name, [])) (option name) position false
  unfolding walked
  apart_walked done long k keeps = rw (other, long, (known_found name k).0, keeps.whole) refl

  pub apart_value_fault : (id : Text) → long_of word ≡ Some (name, None) → is_known name ≡ true → turn_fault top [] (at rows pending (option id) position false) word ≡ settle_fault rules false (held rows pending)
  apart_value_fault id long k = rw (other, long, (known_found name k).0) (or_else-none _)

  -- an option with its value first settles what is pending
  abbrev Joined_fault : Text → Kinds
  Joined_fault value = or_else (settle_fault rules false (held rows pending)) (use_fault false (option_full name) (value ∷ []) (settled_rows rules pending rows))

  pub joined_fault : (value : Text) → long_of word ≡ Some (name, Some value) → is_known name ≡ true → turn_fault top [] (at rows pending idle position false) word ≡ Joined_fault value
  joined_fault value long k = rw (other, long, (known_found name k).0) (or_else-none _)

  pub joined_value_fault : (value id : Text) → long_of word ≡ Some (name, Some value) → is_known name ≡ true → turn_fault top [] (at rows pending (option id) position false) word ≡ Joined_fault value
  joined_value_fault value id long k = rw (other, long, (known_found name k).0) (or_else-none _)

  pub joined_walked : (done : List Use) (value : Text) → long_of word ≡ Some (name, Some value) → is_known name ≡ true → has_use name done ≡ false → Keeps done rows pending
      → walked rules [] (at rows pending idle position false) word ≡ at (rows_at (done ++ (name, value) ∷ [])) None idle position false
  unfolding walked
  joined_walked done value long k once keeps =
      let gives = (is_option name k).gives value (rows_at done) (has_row_at name done ∙ once) ∙ sym (rows_more done (name, value)) in
      rw (other, long, (known_found name k).0, keeps.whole) (ap (λ (l : List Row). at l None idle position false) gives)
