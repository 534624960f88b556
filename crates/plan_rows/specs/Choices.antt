-- Sets of words, of which one stands at a place of a line.
use Rattle.std.specs.Prelude.{ℕ, ◌+◌, List, [], ◌∷◌, Option, Some, None, if◌then◌else◌, codes}
use Rattle.std.specs.Str.{bytes_eq}
use Rattle.plan_rows.specs.declared.choice.Choice.{Choice}
use Rattle.plan_rows.specs.declared.choice.Choice.TheVariants.{Version, Carry, Mode, Depth, Kind, Content, Form}

-- the words of a set
abbrev pub names : Choice → List (List ℕ)
names Version = codes "1" ∷ codes "2" ∷ []
names Carry = codes "plain" ∷ codes "pft" ∷ []
names Mode = codes "A" ∷ codes "B" ∷ codes "C" ∷ codes "D" ∷ []
names Depth = codes "long" ∷ codes "short" ∷ []
names Kind = codes "audio" ∷ codes "data" ∷ []
names Content = codes "fill" ∷ codes "file" ∷ []
names Form = codes "sync" ∷ codes "packet" ∷ []

-- the place of a word in a list, counted from k
abbrev pub place_from : ℕ → List (List ℕ) → List ℕ → Option ℕ
place_from k [] word = None
place_from k (first ∷ more) word = if bytes_eq word first then Some k else place_from (k + 1) more word
