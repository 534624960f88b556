-- What clap makes of one use of an argument.
use Rattle.std.proofs.Common.{◌≡◌, List, [], ◌∷◌, ◌++◌, Bool, true, false, ◌||◌, Option, Some, None, refl, ap, ◌∙◌, sym, subst, map}
use Rattle.std.specs.Str.{bytes_eq}
use Rattle.std.proofs.lemmas.Slice.Eq.{bytes_eq-Decides}
use Rattle.clap.specs.Walk.{Rule, Row, Text, Held, arg_by_id, has_row, used, without, at_row, settled_rows, more_values}
use Rattle.clap.specs.Faults.{use_fault, settle_fault}
use Rattle.clap.specs.declared.error.kind.ErrorKind.TheVariants as kind
use Rattle.clap.specs.declared.parser.matches.ValueSource.TheVariants.{CommandLine}
use Rattle.clap.specs.declared.builder.value_parser.Reading.TheVariants.{AsWritten}
use Rattle.cli_paths.specs.Uses.{Use, is_known, plain, has_use}
use Rattle.cli_paths.proofs.Rules.{rules, option_full, addresses_full, plain_id, known_found}

abbrev pub row_at : Use → Row
row_at u = record { id = u.0; values = u.1 ∷ []; count = None; source = Some CommandLine; reading = AsWritten }

abbrev pub rows_at : List Use → List Row
rows_at done = map row_at done

abbrev pub held : List Row → Option (Text × List Text) → Held
held rows pending = record { rows = rows; pending = pending; skip = 0 }

pub has_row_at : (id : Text) (done : List Use) → has_row id (rows_at done) ≡ has_use id done
has_row_at id [] = refl
has_row_at id (u ∷ us) = ap (λ (b : Bool). bytes_eq u.0 id || b) (has_row_at id us)

pub any_false : (a b : Bool) → (a || b) ≡ false → (a ≡ false) × (b ≡ false)
any_false false false e = (refl, refl)
any_false true b e = absurd cc
any_false false true e = absurd cc

put_at_end : (id : Text) (change : Row → List Row) (missing rows : List Row) → has_row id rows ≡ false → at_row id change missing rows ≡ rows ++ missing
put_at_end id change missing [] e = refl
put_at_end id change missing (r ∷ rs) e =
    let p = any_false (bytes_eq r.id id) (has_row id rs) e in
    rw p.0 (ap (λ (l : List Row). r ∷ l) (put_at_end id change missing rs p.1))

append_none : (rows : List Row) → rows ++ [] ≡ rows
append_none [] = refl
append_none (r ∷ rs) = ap (λ (l : List Row). r ∷ l) (append_none rs)

pub record IsArgument (id : Text) (a : Rule) : Type 0 where
  pub by_id : arg_by_id rules id ≡ Some a
  pub fresh : (text : Text) (rows : List Row) → has_row id rows ≡ false → use_fault false a (text ∷ []) rows ≡ []
  pub again : (text : Text) (rows : List Row) → has_row id rows ≡ true → use_fault false a (text ∷ []) rows ≡ kind.ArgumentConflict ∷ []
  pub empty : (rows : List Row) → use_fault false a [] rows ≡ kind.InvalidValue ∷ []
  pub gives : (text : Text) (rows : List Row) → has_row id rows ≡ false → used a (text ∷ []) rows ≡ rows ++ row_at (id, text) ∷ []

pub is_option : (name : Text) → is_known name ≡ true → IsArgument name (option_full name)
is_option name known = record {
  by_id = (known_found name known).1;
  fresh = λ text rows e. rw e refl;
  again = λ text rows e. rw e refl;
  empty = λ rows. refl;
  gives = λ text rows e. gone text rows e;
}
  where
    gone : (text : Text) (rows : List Row) → has_row name rows ≡ false → used (option_full name) (text ∷ []) rows ≡ rows ++ row_at (name, text) ∷ []
    gone text rows e =
        let w : without name rows ≡ rows = put_at_end name (λ _. []) [] rows e ∙ append_none rows in
        rw w (put_at_end name (more_values CommandLine (text ∷ [])) (row_at (name, text) ∷ []) rows e)

pub is_plain : IsArgument plain addresses_full
is_plain = record {
  by_id = plain_id;
  fresh = λ text rows e. rw e refl;
  again = λ text rows e. rw e refl;
  empty = λ rows. refl;
  gives = λ text rows e. gone text rows e;
}
  where
    gone : (text : Text) (rows : List Row) → has_row plain rows ≡ false → used addresses_full (text ∷ []) rows ≡ rows ++ row_at (plain, text) ∷ []
    gone text rows e =
        let w : without plain rows ≡ rows = put_at_end plain (λ _. []) [] rows e ∙ append_none rows in
        rw w (put_at_end plain (more_values CommandLine (text ∷ [])) (row_at (plain, text) ∷ []) rows e)

-- what is held is settled without a fault, and is then these uses
pub record Keeps (done : List Use) (rows : List Row) (pending : Option (Text × List Text)) : Type 0 where
  pub fine : settle_fault rules false (held rows pending) ≡ []
  pub whole : settled_rows rules pending rows ≡ rows_at done

pub keeps_none : (done : List Use) → Keeps done (rows_at done) None
keeps_none done = record { fine = refl; whole = refl }

pub rows_more : (done : List Use) (u : Use) → rows_at (done ++ u ∷ []) ≡ rows_at done ++ row_at u ∷ []
rows_more [] u = refl
rows_more (x ∷ xs) u = ap (λ (l : List Row). row_at x ∷ l) (rows_more xs u)

pub keeps_one : (done : List Use) (id text : Text) (a : Rule) → IsArgument id a → has_use id done ≡ false → Keeps (done ++ (id, text) ∷ []) (rows_at done) (Some (id, text ∷ []))
keeps_one done id text a is e =
    let f : has_row id (rows_at done) ≡ false = has_row_at id done ∙ e in
    record {
      fine = rw is.by_id (is.fresh text (rows_at done) f);
      whole = rw is.by_id (is.gives text (rows_at done) f ∙ sym (rows_more done (id, text)));
    }

-- a second use is refused
pub repeated : (done : List Use) (id text : Text) (a : Rule) → IsArgument id a → has_use id done ≡ true → settle_fault rules false (held (rows_at done) (Some (id, text ∷ []))) ≡ kind.ArgumentConflict ∷ []
repeated done id text a is e = rw is.by_id (is.again text (rows_at done) (has_row_at id done ∙ e))

pub unvalued : (rows : List Row) (id : Text) (a : Rule) → IsArgument id a → settle_fault rules false (held rows (Some (id, []))) ≡ kind.InvalidValue ∷ []
unvalued rows id a is = rw is.by_id (is.empty rows)

-- ---- uses

pub has_use_more : (id : Text) (done : List Use) (u : Use) → has_use id (done ++ u ∷ []) ≡ (has_use id done || bytes_eq u.0 id)
has_use_more id [] u = last (bytes_eq u.0 id)
  where
    last : (b : Bool) → (b || false) ≡ b
    last true = refl
    last false = refl
has_use_more id (x ∷ xs) u = ap (λ (b : Bool). bytes_eq x.0 id || b) (has_use_more id xs u) ∙ assoc (bytes_eq x.0 id) (has_use id xs) (bytes_eq u.0 id)
  where
    assoc : (a b c : Bool) → (a || (b || c)) ≡ ((a || b) || c)
    assoc true b c = refl
    assoc false b c = refl

or_true : (b : Bool) → (b || true) ≡ true
or_true true = refl
or_true false = refl

or_false : (b : Bool) → (b || false) ≡ b
or_false true = refl
or_false false = refl

pub plain_used : (done : List Use) (text : Text) → has_use plain (done ++ (plain, text) ∷ []) ≡ true
plain_used done text = has_use_more plain done (plain, text) ∙ or_true (has_use plain done)

known_by : (name : Text) (b : Bool) → bytes_eq name plain ≡ b → is_known name ≡ true → b ≡ false
known_by name false e h = refl
known_by name true e h =
    let f : is_known plain ≡ true = subst (λ (t : Text). is_known t ≡ true) ((bytes_eq-Decides name plain).0 e) h in
    absurd cc

pub known_differs : (name : Text) → is_known name ≡ true → bytes_eq name plain ≡ false
known_differs name h = known_by name (bytes_eq name plain) refl h

pub option_used : (done : List Use) (name text : Text) → is_known name ≡ true → has_use plain (done ++ (name, text) ∷ []) ≡ has_use plain done
option_used done name text h = has_use_more plain done (name, text) ∙ rw (known_differs name h) (or_false (has_use plain done))
