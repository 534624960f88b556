-- What the answer of a parse says of the words.
use Rattle.std.proofs.Common.{◌≡◌, ◌≢◌, ◌⊎◌, inl, inr, List, [], Option, Some, None, true, refl, ap, ◌∙◌, sym, subst, codes}
use Rattle.std.proofs.lemmas.Option.{same_Some}
use Rattle.clap.specs.Kinds.{IsAmong, Kinds}
use Rattle.clap.specs.Faults.{fault_of, is_simple_and_free}
use Rattle.clap.specs.Simple.{App, is_simple, matches_of}
use Rattle.clap.specs.Matches.{first_value}
use Rattle.clap.specs.Walk.{Text, first_of, rows_of}
use Rattle.clap.specs.declared.error.kind.ErrorKind.{ErrorKind}
use Rattle.clap.specs.declared.error.kind.ErrorKind.TheVariants.{OutOfMemory}
use Rattle.clap.specs.declared.parser.matches.Found.{Found}
use Rattle.clap.proofs.WalkLemmas.{first_value-rows}
use Rattle.cli_paths.specs.Command.{paths}
use Rattle.cli_paths.specs.Uses.{plain}
use Rattle.cli_paths.specs.CommandTexts.{CommandTexts, parse_of, text_of}
use Rattle.cli_syntax.specs.Gives.{GivesBy}
use Rattle.cli_paths.specs.Said.{texts_said}
use Rattle.cli_syntax.specs.declared.fault.WordsFault.{WordsFault}
use Rattle.cli_syntax.specs.declared.fault.WordsFault.TheVariants.{Words, NoMemory}
use Rattle.cli_paths.proofs.Parses.{paths_simple, Parsed, parses}
use Rattle.std.specs.Prelude.{Err, ◌↔◌}

fault_at : (a : App) (words : List Text) (k : Kinds) → a ≡ paths → (is_simple_and_free a ≡ true → fault_of a words ≡ k) → fault_of paths words ≡ k
fault_at a words k e h = subst (λ (x : App). fault_of x words ≡ k) e (h (ap is_simple_and_free e ∙ paths_simple))

same_texts : (x t : CommandTexts) → x.addresses ≡ t.addresses → x.window ≡ t.window → x.reach ≡ t.reach → x.first ≡ t.first → x.frames ≡ t.frames → x.idle ≡ t.idle → x.limit ≡ t.limit → Some x ≡ Some t
same_texts x t a b c d g h i = rw (← a, ← b, ← c) (rw (← d, ← g, ← h, ← i) refl)

module _ (a : App) (words : List Text) (f : Found) (e : a ≡ paths) (fine : is_simple_and_free a ≡ true → fault_of a words ≡ []) (rows : is_simple a ≡ true → rows_of f ≡ matches_of a words) where
  given : (id : Text) (o : Option Text) → o ≡ first_value f id → text_of id words ≡ o
  given id o read = sym (read ∙ first_value-rows f id ∙ ap (first_of id) (rows (ap is_simple e) ∙ ap (λ (x : App). matches_of x words) e))

  -- the plain word has to be there
  pub not_none : None ≡ first_value f plain → parse_of words ≡ None
  not_none read = by (parse_of words) (parses words)
    where
      by : (p : Option CommandTexts) → Parsed words p → p ≡ None
      by None h = refl
      by (Some t) h = let bad = sym (given plain None read) ∙ h.1 in absurd cc

  pub all_given : (t : CommandTexts) → Some t.addresses ≡ first_value f plain → t.window ≡ first_value f (codes "window") → t.reach ≡ first_value f (codes "reach") → t.first ≡ first_value f (codes "first") → t.frames ≡ first_value f (codes "frames") → t.idle ≡ first_value f (codes "idle") → t.limit ≡ first_value f (codes "limit") → parse_of words ≡ Some t
  all_given t p w re fi fr i l = by (parse_of words) (parses words)
    where
      by : (o : Option CommandTexts) → Parsed words o → o ≡ Some t
      by None h = absurd (h (fault_at a words [] e fine))
      by (Some x) h =
          let a1 : x.addresses ≡ t.addresses = same_Some _ _ (sym h.1 ∙ given plain (Some t.addresses) p) in
          let a2 : x.window ≡ t.window = sym h.2 ∙ given (codes "window") t.window w in
          let a3 : x.reach ≡ t.reach = sym h.3 ∙ given (codes "reach") t.reach re in
          let a4 : x.first ≡ t.first = sym h.4 ∙ given (codes "first") t.first fi in
          let a5 : x.frames ≡ t.frames = sym h.5 ∙ given (codes "frames") t.frames fr in
          let a6 : x.idle ≡ t.idle = sym h.6 ∙ given (codes "idle") t.idle i in
          let a7 : x.limit ≡ t.limit = sym h.7 ∙ given (codes "limit") t.limit l in
          same_texts x t a1 a2 a3 a4 a5 a6 a7

-- a parse that fails for another cause than memory has a fault
pub failed : (a : App) (words : List Text) (e : a ≡ paths) (k : ErrorKind) (fault : WordsFault) → (is_simple_and_free a ≡ true → (k ≡ OutOfMemory) ⊎ IsAmong k (fault_of a words))
    → ((fault ≡ Words) ↔ (k ≢ OutOfMemory)) → GivesBy texts_said (Err fault) (parse_of words)
failed a words e k NoMemory h is = tt
failed a words e k Words h is = by (parse_of words) (parses words)
  where
    no_fault : IsAmong k (fault_of a words) → fault_of paths words ≡ [] → ⊥
    no_fault among none = subst (λ (ks : Kinds). IsAmong k ks) (ap (λ (x : App). fault_of x words) e ∙ none) among

    by : (o : Option CommandTexts) → Parsed words o → o ≡ None
    by None p = refl
    by (Some t) p = elim (h (ap is_simple_and_free e ∙ paths_simple)) [ inl memory ↦ absurd (is.0 refl memory) | inr among ↦ absurd (no_fault among p.0) ]
