-- The lines of `unpack` and `texts`.
use Rattle.std.specs.Prelude.{ℕ, ◌==◌, ◌||◌, ◌&&◌, nat_lt, Bool, true, false, if◌then◌else◌, List, [], ◌∷◌, ◌++◌, codes, decimal}
use Rattle.std.specs.List.{flat_map, concat}
use Rattle.hex.specs.Hex.{encode_lower}
use Rattle.drm_data.specs.Joining.{JoinerAnswer, Silent, Whole, CutOff, CutWhole, Refuses}
use Rattle.cmd_unpack.specs.declared.counts.Counts.{Counts}

-- the bytes of a unit; an empty one has a dash
abbrev pub unit_digits : List ℕ → List ℕ
unit_digits [] = codes "-"
unit_digits bytes = encode_lower bytes

abbrev pub unit_line : List ℕ → List ℕ
unit_line bytes = codes "unit " ++ (unit_digits bytes ++ codes "\n")

abbrev pub cut_line : Bool → List ℕ
cut_line true = codes "cut\n"
cut_line false = []

-- what is printed of an answer: a cut, and then a unit
abbrev pub answer_text : JoinerAnswer → List ℕ
answer_text Silent = []
answer_text (Whole unit) = unit_line unit
answer_text CutOff = cut_line true
answer_text (CutWhole unit) = cut_line true ++ unit_line unit
answer_text (Refuses fault cut) = cut_line cut

abbrev pub answers_text : List JoinerAnswer → List ℕ
answers_text answers = flat_map answer_text answers

-- A control character below 20, 7f and a backslash are two hex digits behind \x.
abbrev pub is_escaped : ℕ → Bool
is_escaped byte = nat_lt byte 32 || ((byte == 127) || (byte == 92))

abbrev pub escaped : ℕ → List ℕ
escaped byte = if is_escaped byte then codes "\\x" ++ encode_lower (byte ∷ []) else byte ∷ []

abbrev pub text_line : List ℕ → List ℕ
text_line message = codes "text " ++ (flat_map escaped message ++ codes "\n")

-- the last lines, by the digits of their numbers
abbrev pub units_end_text : List ℕ → List ℕ → List ℕ → List ℕ → List ℕ
units_end_text given cut bad missing =
    concat (codes "end units " ∷ given ∷ codes " cut " ∷ cut ∷ codes " bad " ∷ bad ∷ codes " missing " ∷ missing ∷ codes "\n" ∷ [])

abbrev pub texts_end_text : List ℕ → List ℕ → List ℕ → List ℕ
texts_end_text given missing bad =
    concat (codes "end texts " ∷ given ∷ codes " missing " ∷ missing ∷ codes " bad " ∷ bad ∷ codes "\n" ∷ [])

abbrev pub units_end : Counts → List ℕ
units_end counts = units_end_text (decimal counts.given) (decimal counts.cut) (decimal counts.bad) (decimal counts.missing)

abbrev pub texts_end : Counts → List ℕ
texts_end counts = texts_end_text (decimal counts.given) (decimal counts.missing) (decimal counts.bad)

-- nothing is cut, bad or missing
abbrev pub is_clean : Counts → Bool
is_clean counts = (counts.cut == 0) && ((counts.bad == 0) && (counts.missing == 0))
