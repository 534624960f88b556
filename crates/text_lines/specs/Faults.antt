-- The first fault of a text, whatever its lines say.
use Rattle.std.specs.Prelude.{ℕ, ◌≡◌, ◌+◌, ◌==◌, Bool, List, [], ◌∷◌, slice_index, Option, Some, None, Result, Ok, Err, if◌then◌else◌}

-- a fault of a text: its line, from 1, and what is wrong with it
pub record FaultOf (R : Type 0) : Type 0 where
  pub line : ℕ
  pub reason : R

abbrev pub fault : {R : Type 0} → ℕ → R → FaultOf R
fault line reason = record { line = line; reason = reason }

-- the fault of the first row that holds
abbrev pub first_fault : {F : Type 0} → List (Bool × F) → Option F
first_fault [] = None
first_fault (row ∷ rows) = if row.0 then Some row.1 else first_fault rows

abbrev pub ok_unless : {F X : Type 0} → Option F → X → Result X F
ok_unless None x = Ok x
ok_unless (Some f) x = Err f

infixl 10 ◌>>=◌
abbrev pub ◌>>=◌ : {A B F : Type 0} → Result A F → (A → Result B F) → Result B F
Ok x >>= f = f x
Err e >>= f = Err e

-- what these words say after what was said: none, or a comment, says nothing
abbrev pub words_say : {S F : Type 0} → S → (List ℕ → List (List ℕ) → Result S F) → List (List ℕ) → Result S F
words_say said says [] = Ok said
words_say said says (first ∷ words) = if slice_index first 0 == 35 then Ok said else says first words

-- what the lines from line n on say after what was said, where `says` is what one line says: the first fault is the text's
unfoldable pub lines_say : {S F : Type 0} → (S → ℕ → List ℕ → Result S F) → S → ℕ → List (List ℕ) → Result S F
lines_say says said n [] = Ok said
lines_say says said n (line ∷ lines) = do
  more ← says said n line
  lines_say says more (n + 1) lines

-- a call fails at this fault, if its own is one of the text; want of memory is none
abbrev pub FailsAt : {F X : Type 0} → Option F → Result X F → Type 0
FailsAt None said = Unit {0}
FailsAt (Some f) said = said ≡ Err f

-- a call gives what the text says, or fails at its first fault, unless memory ran out; `line_fault` is a call's fault as one of the text
abbrev pub GivesSaid : {P F X : Type 0} → (P → Option F) → Result X P → Result X F → Type 0
GivesSaid line_fault (Ok x) said = said ≡ Ok x
GivesSaid line_fault (Err p) said = FailsAt (line_fault p) said

-- the same of a call that changes what it was given: what it left is what the text says
abbrev pub LeavesSaid : {P F X : Type 0} → (P → Option F) → Result (Unit {0}) P → X → Result X F → Type 0
LeavesSaid line_fault (Ok done) new said = said ≡ Ok new
LeavesSaid line_fault (Err p) new said = FailsAt (line_fault p) said
