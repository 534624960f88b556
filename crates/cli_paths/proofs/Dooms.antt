-- What is held and can't be settled comes to a fault, whatever the words.
use Rattle.std.proofs.Common.{◌≡◌, ℕ, List, [], ◌∷◌, Bool, true, false, Option, Some, None, refl}
use Rattle.std.specs.Prelude.{slice_get}
use Rattle.std.specs.Str.{bytes_eq, chars}
use Rattle.clap.specs.Kinds.{Kinds}
use Rattle.clap.specs.Lexer.{long_of, short_of}
use Rattle.clap.specs.Walk.{Row, Text, Waiting, idle}
use Rattle.clap.specs.Faults.{settle_fault, walk_fault}
use Rattle.clap.specs.declared.error.kind.ErrorKind.{ErrorKind}
use Rattle.cli_paths.specs.Uses.{is_known}
use Rattle.cli_paths.proofs.Rules.{rules}
use Rattle.cli_paths.proofs.Arguments.{held}
use Rattle.cli_paths.proofs.Walking.{at, Meets, faulty, moves}
use Rattle.cli_paths.proofs.Steps.{position_at, first_none, behind_stray, behind_fault, dashes_fault, dashes_walked, Word, bare_none, bare_odd, stray_fault, bare_stray, bare_fault, unknown_fault, apart_fault, joined_fault}

pub some_kind : (k : ErrorKind) (ks : Kinds) → k ∷ ks ≡ [] → ⊥
some_kind k ks e = cc

module _ (rows : List Row) (pending : Option (Text × List Text)) (bad : settle_fault rules false (held rows pending) ≡ [] → ⊥) where
  pub doom_end : (waiting : Waiting) (position : ℕ) (behind : Bool) → Meets (at rows pending waiting position behind) [] None
  unfolding walk_fault
  doom_end waiting position behind = λ h. bad h

  pub doom_behind : (u : Bool) (waiting : Waiting) (words : List Text) → Meets (at rows pending waiting (position_at u) true) words None
  doom_behind u waiting [] = doom_end waiting (position_at u) true
  doom_behind true waiting (word ∷ rest) = faulty _ word rest _ None (behind_stray rows pending word waiting) (some_kind _ _) refl
  doom_behind false waiting (word ∷ rest) = faulty _ word rest _ None (behind_fault rows pending word waiting) bad refl

  module _ (word : Text) (rest : List Text) where
    bare : (u : Bool) → Word rows pending word idle → Meets (at rows pending idle (position_at u) false) (word ∷ rest) None
    bare true b = faulty _ word rest _ None (bare_stray rows pending word b) (some_kind _ _) refl
    bare false b = faulty _ word rest _ None (bare_fault rows pending word b) bad refl

    module _ (u : Bool) (other : bytes_eq word (45 ∷ 45 ∷ []) ≡ false) where
      by_flags : long_of word ≡ None → (flags : Text) → short_of word ≡ Some flags → (x : Option ℕ) → slice_get (chars flags) 0 ≡ x → Meets (at rows pending idle (position_at u) false) (word ∷ rest) None
      by_flags long flags short None e = bare u (bare_odd rows pending word other long flags short e).0
      by_flags long flags short (Some x) e = faulty _ word rest _ None (stray_fault rows pending word other long flags x (position_at u) short e) (some_kind _ _) refl

      by_short : long_of word ≡ None → (s : Option Text) → short_of word ≡ s → Meets (at rows pending idle (position_at u) false) (word ∷ rest) None
      by_short long None e = bare u (bare_none rows pending word other long e).0
      by_short long (Some flags) e = by_flags long flags e (slice_get (chars flags) 0) refl

      by_known : (name : Text) (value : Option Text) → long_of word ≡ Some (name, value) → (k : Bool) → is_known name ≡ k → Meets (at rows pending idle (position_at u) false) (word ∷ rest) None
      by_known name value e false k = faulty _ word rest _ None (unknown_fault rows pending (position_at u) word name other value e k) (some_kind _ _) refl
      by_known name None e true k = faulty _ word rest _ None (apart_fault rows pending (position_at u) word name other e k) bad refl
      by_known name (Some value) e true k = faulty _ word rest _ None (joined_fault rows pending (position_at u) word name other value e k) (λ h. bad (first_none _ _ h)) refl

      by_long : (l : Option (Text × Option Text)) → long_of word ≡ l → Meets (at rows pending idle (position_at u) false) (word ∷ rest) None
      by_long None e = by_short e (short_of word) refl
      by_long (Some (name, value)) e = by_known name value e (is_known name) refl

    by_dashes : (u b : Bool) → bytes_eq word (45 ∷ 45 ∷ []) ≡ b → Meets (at rows pending idle (position_at u) false) (word ∷ rest) None
    by_dashes u true e = moves _ _ word rest None (dashes_fault rows pending (position_at u) word e) (dashes_walked rows pending (position_at u) word e) (doom_behind u idle rest)
    by_dashes u false e = by_long u e (long_of word) refl

  pub doom : (u : Bool) (words : List Text) → Meets (at rows pending idle (position_at u) false) words None
  doom u [] = doom_end idle (position_at u) false
  doom u (word ∷ rest) = by_dashes word rest u (bytes_eq word (45 ∷ 45 ∷ [])) refl
