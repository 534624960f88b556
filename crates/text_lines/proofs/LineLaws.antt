-- Lines that are ended are the lines again.
use Rattle.std.proofs.Common.{◌≡◌, ℕ, ◌<◌, ◌^◌, eqb, true, List, [], ◌∷◌, ◌++◌, refl, ap, ◌∙◌, append_assoc, arith}
use Rattle.std.specs.Prelude.{decimal}
use Rattle.std.specs.List.{slice_split, join_with_byte, flat_map, AllByRecursion}
use Rattle.std.proofs.lemmas.List.Concat.{flat_map-cons}
use Rattle.std.proofs.lemmas.List.Splits.{slice_split_at}
use Rattle.hex.specs.Hex.{encode_lower, lower_digits}
use Rattle.text_lines.specs.Lines.{lines_of, without_last_empty}
use Rattle.text_lines.proofs.Lacking.{lacks, all_other, lacks_both, decimal_lacks, hex_lacks}
use Rattle.text_lines.proofs.LineLemmas.{drops_last}

-- a line has no line feed
abbrev pub IsLine : List ℕ → Type 0
IsLine line = lacks 10 line ≡ true

parts_again : (ls : List (List ℕ)) → AllByRecursion IsLine ls → slice_split (λ b. eqb b 10) (flat_map (λ l. l ++ 10 ∷ []) ls) ≡ ls ++ [] ∷ []
parts_again [] are = refl
parts_again (l ∷ ls) are =
    let regrouped : flat_map (λ l. l ++ 10 ∷ []) (l ∷ ls) ≡ l ++ 10 ∷ flat_map (λ l. l ++ 10 ∷ []) ls = flat_map-cons (λ (x : List ℕ). x ++ 10 ∷ []) l ls ∙ append_assoc l (10 ∷ []) (flat_map (λ x. x ++ 10 ∷ []) ls) in
    ap (slice_split (λ b. eqb b 10)) regrouped
    ∙ slice_split_at (λ b. eqb b 10) l 10 (flat_map (λ x. x ++ 10 ∷ []) ls) (all_other 10 l are.0) refl
    ∙ ap (λ (r : List (List ℕ)). l ∷ r) (parts_again ls are.1)

-- lines that each end with a line feed are the lines again
pub lines_again : (ls : List (List ℕ)) → AllByRecursion IsLine ls → lines_of (flat_map (λ l. l ++ 10 ∷ []) ls) ≡ ls
lines_again ls are = ap without_last_empty (parts_again ls are) ∙ drops_last ls

-- words with spaces between them are a line, where each is one
pub joined_is_line : (ws : List (List ℕ)) → AllByRecursion IsLine ws → IsLine (join_with_byte 32 ws)
joined_is_line [] are = refl
joined_is_line (w ∷ []) are = are.0
joined_is_line (w ∷ v ∷ ws) are = lacks_both 10 w (32 ∷ join_with_byte 32 (v ∷ ws)) are.0 (joined_is_line (v ∷ ws) are.1)

pub decimal_is_line : (n : ℕ) → n < 2 ^ 64 → IsLine (decimal n)
decimal_is_line n small = decimal_lacks 10 n small (λ r. omega (arith, r))

pub hex_is_line : (bs : List ℕ) → IsLine (encode_lower bs)
hex_is_line bs = hex_lacks 10 lower_digits bs refl refl
