-- The walk reads what is read of the words.
use Rattle.std.proofs.Common.{◌≡◌, ℕ, List, [], ◌∷◌, ◌++◌, Bool, true, false, cond, Option, Some, None, refl, ap, ◌∙◌, sym, subst}
use Rattle.std.specs.Prelude.{slice_get}
use Rattle.std.specs.Str.{bytes_eq, chars}
use Rattle.clap.specs.Kinds.{Kinds, or_else}
use Rattle.clap.specs.Lexer.{long_of, short_of}
use Rattle.clap.specs.Walk.{Row, Text, idle, option, settled_rows}
use Rattle.clap.specs.Faults.{use_fault, settle_fault, walk_fault}
use Rattle.cli_paths.specs.Uses.{Use, Idle, Value, Dashes, option_sort, flags_sort, short_sort, long_sort, is_known, plain, has_use, trailed, run, stepped}
use Rattle.cli_paths.proofs.Rules.{rules, option_full, addresses_full}
use Rattle.cli_paths.proofs.Arguments.{rows_at, held, is_option, is_plain, Keeps, keeps_none, keeps_one, repeated, unvalued, plain_used, option_used, has_row_at}
use Rattle.cli_paths.proofs.Walking.{at, Meets, faulty, moves}
use Rattle.cli_paths.proofs.Steps.{position_at, position_of, first_none, behind_stray, behind_fault, behind_walked, dashes_fault, dashes_walked, dashes_value_fault, dashes_value_walked, Word, bare_none, bare_odd, stray_fault, stray_value_fault, bare_stray, bare_fault, bare_walked, value_fault, value_walked, unknown_fault, unknown_value_fault, apart_fault, apart_walked, apart_value_fault, joined_fault, joined_value_fault, joined_walked}
use Rattle.cli_paths.proofs.Dooms.{some_kind, doom_end, doom_behind, doom}

pub record Claims (rest : List Text) : Type 0 where
  pub idles : (done : List Use) (rows : List Row) (pending : Option (Text × List Text)) → Keeps done rows pending → Meets (at rows pending idle (position_of done) false) rest (run rest Idle done)
  pub values : (done : List Use) (name : Text) → is_known name ≡ true → Meets (at (rows_at done) (Some (name, [])) (option name) (position_of done) false) rest (run rest (Value name) done)
  pub behinds : (done : List Use) (rows : List Row) (pending : Option (Text × List Text)) → Keeps done rows pending → Meets (at rows pending idle (position_of done) true) rest (trailed rest done)

-- a dangling option
waits : (rows : List Row) (name : Text) → is_known name ≡ true → settle_fault rules false (held rows (Some (name, []))) ≡ [] → ⊥
waits rows name k h = some_kind _ _ (sym (unvalued rows name (option_full name) (is_option name k)) ∙ h)

-- a second use
again : (done : List Use) (name text : Text) → is_known name ≡ true → has_use name done ≡ true → settle_fault rules false (held (rows_at done) (Some (name, text ∷ []))) ≡ [] → ⊥
again done name text k u h = some_kind _ _ (sym (repeated done name text (option_full name) (is_option name k) u) ∙ h)

module _ (word : Text) (rest : List Text) (c : Claims rest) where
  module _ (done : List Use) (rows : List Row) (pending : Option (Text × List Text)) (keeps : Keeps done rows pending) where
    behind_by : (u : Bool) → has_use plain done ≡ u → Meets (at rows pending idle (position_at u) true) (word ∷ rest) (cond u None (trailed rest (done ++ (plain, word) ∷ [])))
    behind_by true e = faulty _ word rest _ None (behind_stray rows pending word idle) (some_kind _ _) refl
    behind_by false e =
        let later = c.behinds (done ++ (plain, word) ∷ []) (rows_at done) (Some (plain, word ∷ [])) (keeps_one done plain word addresses_full is_plain e) in
        moves _ _ word rest _ (behind_fault rows pending word idle ∙ keeps.fine) (behind_walked rows pending word done idle keeps)
        (subst (λ (u : Bool). Meets (at (rows_at done) (Some (plain, word ∷ [])) idle (position_at u) true) rest (trailed rest (done ++ (plain, word) ∷ []))) (plain_used done word) later)

    bare_by : Word rows pending word idle → (u : Bool) → has_use plain done ≡ u → Meets (at rows pending idle (position_at u) false) (word ∷ rest) (cond u None (run rest Idle (done ++ (plain, word) ∷ [])))
    bare_by b true e = faulty _ word rest _ None (bare_stray rows pending word b) (some_kind _ _) refl
    bare_by b false e =
        let later = c.idles (done ++ (plain, word) ∷ []) (rows_at done) (Some (plain, word ∷ [])) (keeps_one done plain word addresses_full is_plain e) in
        moves _ _ word rest _ (bare_fault rows pending word b ∙ keeps.fine) (bare_walked rows pending word done b keeps)
        (subst (λ (u : Bool). Meets (at (rows_at done) (Some (plain, word ∷ [])) idle (position_at u) false) rest (run rest Idle (done ++ (plain, word) ∷ []))) (plain_used done word) later)

    module _ (other : bytes_eq word (45 ∷ 45 ∷ []) ≡ false) where
      idle_joined : (name value : Text) → long_of word ≡ Some (name, Some value) → is_known name ≡ true → (u : Bool) → has_use name done ≡ u
          → Meets (at rows pending idle (position_of done) false) (word ∷ rest) (cond u None (run rest Idle (done ++ (name, value) ∷ [])))
      idle_joined name value long k true e =
          faulty _ word rest _ None (joined_fault rows pending (position_of done) word name other value long k ∙ ap (λ (l : Kinds). or_else l (use_fault false (option_full name) (value ∷ []) (settled_rows rules pending rows))) keeps.fine ∙ ap (use_fault false (option_full name) (value ∷ [])) keeps.whole
          ∙ (is_option name k).again value (rows_at done) (has_row_at name done ∙ e)) (some_kind _ _) refl
      idle_joined name value long k false e =
          let fine = joined_fault rows pending (position_of done) word name other value long k ∙ ap (λ (l : Kinds). or_else l (use_fault false (option_full name) (value ∷ []) (settled_rows rules pending rows))) keeps.fine ∙ ap (use_fault false (option_full name) (value ∷ [])) keeps.whole
          ∙ (is_option name k).fresh value (rows_at done) (has_row_at name done ∙ e) in
          moves _ _ word rest _ fine (joined_walked rows pending (position_of done) word name other done value long k e keeps)
          (subst (λ (u : Bool). Meets (at (rows_at (done ++ (name, value) ∷ [])) None idle (position_at u) false) rest (run rest Idle (done ++ (name, value) ∷ []))) (option_used done name value k)
          (c.idles (done ++ (name, value) ∷ []) (rows_at (done ++ (name, value) ∷ [])) None (keeps_none (done ++ (name, value) ∷ []))))

      idle_known : (name : Text) (value : Option Text) → long_of word ≡ Some (name, value) → (k : Bool) → is_known name ≡ k
          → Meets (at rows pending idle (position_of done) false) (word ∷ rest) (stepped Idle (option_sort name value) word done (run rest) (trailed rest))
      idle_known name None long true k =
          rw k (moves _ _ word rest _ (apart_fault rows pending (position_of done) word name other long k ∙ keeps.fine) (apart_walked rows pending (position_of done) word name other done long k keeps) (c.values done name k))
      idle_known name (Some value) long true k = rw k (idle_joined name value long k (has_use name done) refl)
      idle_known name None long false k = rw k (faulty _ word rest _ None (unknown_fault rows pending (position_of done) word name other None long k) (some_kind _ _) refl)
      idle_known name (Some value) long false k = rw k (faulty _ word rest _ None (unknown_fault rows pending (position_of done) word name other (Some value) long k) (some_kind _ _) refl)

      idle_flags : long_of word ≡ None → (flags : Text) → short_of word ≡ Some flags → (x : Option ℕ) → slice_get (chars flags) 0 ≡ x
          → Meets (at rows pending idle (position_of done) false) (word ∷ rest) (stepped Idle (flags_sort x) word done (run rest) (trailed rest))
      idle_flags long flags short None e = bare_by (bare_odd rows pending word other long flags short e).0 (has_use plain done) refl
      idle_flags long flags short (Some x) e = faulty _ word rest _ None (stray_fault rows pending word other long flags x (position_of done) short e) (some_kind _ _) refl

      idle_short : long_of word ≡ None → (s : Option Text) → short_of word ≡ s
          → Meets (at rows pending idle (position_of done) false) (word ∷ rest) (stepped Idle (short_sort s) word done (run rest) (trailed rest))
      idle_short long None short = bare_by (bare_none rows pending word other long short).0 (has_use plain done) refl
      idle_short long (Some flags) short = idle_flags long flags short (slice_get (chars flags) 0) refl

      idle_long : (l : Option (Text × Option Text)) → long_of word ≡ l
          → Meets (at rows pending idle (position_of done) false) (word ∷ rest) (stepped Idle (long_sort word l) word done (run rest) (trailed rest))
      idle_long None long = idle_short long (short_of word) refl
      idle_long (Some (name, value)) long = idle_known name value long (is_known name) refl

    idle_by : (b : Bool) → bytes_eq word (45 ∷ 45 ∷ []) ≡ b
        → Meets (at rows pending idle (position_of done) false) (word ∷ rest) (stepped Idle (cond b Dashes (long_sort word (long_of word))) word done (run rest) (trailed rest))
    idle_by true e = moves _ _ word rest _ (dashes_fault rows pending (position_of done) word e) (dashes_walked rows pending (position_of done) word e) (c.behinds done rows pending keeps)
    idle_by false e = idle_long e (long_of word) refl

  module _ (done : List Use) (name : Text) (known : is_known name ≡ true) where
    value_bare : Word (rows_at done) (Some (name, [])) word (option name) → (u : Bool) → has_use name done ≡ u
        → Meets (at (rows_at done) (Some (name, [])) (option name) (position_of done) false) (word ∷ rest) (cond u None (run rest Idle (done ++ (name, word) ∷ [])))
    value_bare b true e =
        moves _ _ word rest None (value_fault (rows_at done) name word (position_of done) known b) (value_walked (rows_at done) name word (position_of done) known b)
        (doom (rows_at done) (Some (name, word ∷ [])) (again done name word known e) (has_use plain done) rest)
    value_bare b false e =
        moves _ _ word rest _ (value_fault (rows_at done) name word (position_of done) known b) (value_walked (rows_at done) name word (position_of done) known b)
        (subst (λ (u : Bool). Meets (at (rows_at done) (Some (name, word ∷ [])) idle (position_at u) false) rest (run rest Idle (done ++ (name, word) ∷ []))) (option_used done name word known)
        (c.idles (done ++ (name, word) ∷ []) (rows_at done) (Some (name, word ∷ [])) (keeps_one done name word (option_full name) (is_option name known) e)))

    module _ (other : bytes_eq word (45 ∷ 45 ∷ []) ≡ false) where
      value_known : (found : Text) (value : Option Text) → long_of word ≡ Some (found, value) → (k : Bool) → is_known found ≡ k
          → Meets (at (rows_at done) (Some (name, [])) (option name) (position_of done) false) (word ∷ rest) (stepped (Value name) (option_sort found value) word done (run rest) (trailed rest))
      value_known found None long true k =
          faulty _ word rest _ _ (apart_value_fault (rows_at done) (Some (name, [])) (position_of done) word found other name long k) (waits (rows_at done) name known) refl
      value_known found (Some value) long true k =
          faulty _ word rest _ _ (joined_value_fault (rows_at done) (Some (name, [])) (position_of done) word found other value name long k) (λ h. waits (rows_at done) name known (first_none _ _ h)) refl
      value_known found None long false k = faulty _ word rest _ _ (unknown_value_fault (rows_at done) (Some (name, [])) (position_of done) word found other None name long k) (some_kind _ _) refl
      value_known found (Some value) long false k = faulty _ word rest _ _ (unknown_value_fault (rows_at done) (Some (name, [])) (position_of done) word found other (Some value) name long k) (some_kind _ _) refl

      value_flags : long_of word ≡ None → (flags : Text) → short_of word ≡ Some flags → (x : Option ℕ) → slice_get (chars flags) 0 ≡ x
          → Meets (at (rows_at done) (Some (name, [])) (option name) (position_of done) false) (word ∷ rest) (stepped (Value name) (flags_sort x) word done (run rest) (trailed rest))
      value_flags long flags short None e = value_bare ((bare_odd (rows_at done) (Some (name, [])) word other long flags short e).1 name) (has_use name done) refl
      value_flags long flags short (Some x) e = faulty _ word rest _ _ (stray_value_fault (rows_at done) (Some (name, [])) word other long flags x (position_of done) name short e) (some_kind _ _) refl

      value_short : long_of word ≡ None → (s : Option Text) → short_of word ≡ s
          → Meets (at (rows_at done) (Some (name, [])) (option name) (position_of done) false) (word ∷ rest) (stepped (Value name) (short_sort s) word done (run rest) (trailed rest))
      value_short long None short = value_bare ((bare_none (rows_at done) (Some (name, [])) word other long short).1 name) (has_use name done) refl
      value_short long (Some flags) short = value_flags long flags short (slice_get (chars flags) 0) refl

      value_long : (l : Option (Text × Option Text)) → long_of word ≡ l
          → Meets (at (rows_at done) (Some (name, [])) (option name) (position_of done) false) (word ∷ rest) (stepped (Value name) (long_sort word l) word done (run rest) (trailed rest))
      value_long None long = value_short long (short_of word) refl
      value_long (Some (found, value)) long = value_known found value long (is_known found) refl

    value_by : (b : Bool) → bytes_eq word (45 ∷ 45 ∷ []) ≡ b
        → Meets (at (rows_at done) (Some (name, [])) (option name) (position_of done) false) (word ∷ rest) (stepped (Value name) (cond b Dashes (long_sort word (long_of word))) word done (run rest) (trailed rest))
    value_by true e =
        moves _ _ word rest None (dashes_value_fault (rows_at done) (Some (name, [])) (position_of done) word e name) (dashes_value_walked (rows_at done) (Some (name, [])) (position_of done) word e name)
        (doom_behind (rows_at done) (Some (name, [])) (waits (rows_at done) name known) (has_use plain done) (option name) rest)
    value_by false e = value_long e (long_of word) refl

  more : Claims (word ∷ rest)
  unfolding run trailed
  more = record {
    idles = λ done rows pending keeps. idle_by done rows pending keeps (bytes_eq word (45 ∷ 45 ∷ [])) refl;
    values = λ done name known. value_by done name known (bytes_eq word (45 ∷ 45 ∷ [])) refl;
    behinds = λ done rows pending keeps. behind_by done rows pending keeps (has_use plain done) refl;
  }

ended : Claims []
unfolding run trailed walk_fault
ended = record {
  idles = λ done rows pending keeps. (keeps.fine, keeps.whole, refl);
  values = λ done name known. doom_end (rows_at done) (Some (name, [])) (waits (rows_at done) name known) (option name) (position_of done) false;
  behinds = λ done rows pending keeps. (keeps.fine, keeps.whole, refl);
}

pub claims : (words : List Text) → Claims words
claims [] = ended
claims (word ∷ rest) = more word rest (claims rest)
