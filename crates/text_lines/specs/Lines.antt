-- A text as lines, and a line as words.
use Rattle.std.specs.Prelude.{ℕ, ◌+◌, ◌==◌, not, List, [], ◌∷◌, length, filter, take, count_by, if◌then◌else◌}
use Rattle.std.specs.List.{slice_split, after_first}
use Rattle.std.specs.Str.Lossy.{utf8_valid_len}

-- a last part, which is a line unless it is empty
abbrev pub last_line : List ℕ → List (List ℕ)
last_line [] = []
last_line (b ∷ bs) = (b ∷ bs) ∷ []

-- a part that is empty and the last one is no line
abbrev pub without_last_empty : List (List ℕ) → List (List ℕ)
without_last_empty [] = []
without_last_empty (line ∷ []) = last_line line
without_last_empty (line ∷ next ∷ more) = line ∷ without_last_empty (next ∷ more)

-- the lines of a text: each ends with a line feed, which the last may lack
abbrev pub lines_of : List ℕ → List (List ℕ)
lines_of text = without_last_empty (slice_split (λ b. b == 10) text)

-- the words of a line, at runs of spaces
abbrev pub words_of : List ℕ → List (List ℕ)
words_of line = filter (λ word. not (length word == 0)) (slice_split (λ b. b == 32) line)

-- the line of the first byte at which a text is no UTF-8, from 1
abbrev pub bad_line_of : List ℕ → ℕ
bad_line_of text = 1 + count_by (λ b. b == 10) (take (utf8_valid_len text) text)

-- a line behind the spaces in front
abbrev pub after_spaces : List ℕ → List ℕ
after_spaces [] = []
after_spaces (b ∷ bs) = if b == 32 then after_spaces bs else b ∷ bs

-- a line behind its first word and one space
abbrev pub behind_word : List ℕ → List ℕ
behind_word line = after_first (λ b. b == 32) (after_spaces line)

-- a line behind its first two words and one space
abbrev pub behind_two : List ℕ → List ℕ
behind_two line = behind_word (behind_word line)
