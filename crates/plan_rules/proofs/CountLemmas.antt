-- Lines of a keyword, looked for from the front, and entity lines, counted from behind.
use Rattle.std.proofs.Common.{◌≡◌, ℕ, ◌+◌, ◌-◌, ◌≤◌, Bool, true, false, List, [], ◌∷◌, ◌++◌, length, take, get_or, refl, sym, ap, ◌∙◌, arith}
use Rattle.std.specs.Prelude.{◌==◌, ◌||◌, not, filter, if◌then◌else◌}
use Rattle.std.specs.List.{list_any}
use Rattle.std.proofs.lemmas.List.{take_all, take_more}
use Rattle.std.proofs.Math.Dec.{eqb-suc-zero}
use Rattle.plan_rows.specs.declared.keyword.Keyword.{Keyword}
use Rattle.plan_rows.specs.Keywords.{same}
use Rattle.plan_grammar.specs.Said.{keyword_said}
use Rattle.plan_rules.specs.declared.said.ParsedLine.{ParsedLine}
use Rattle.plan_rules.specs.ParsedLine.{count}
use Rattle.plan_rules.specs.Rules.{count_with, count_entities}

pub none_is : (k : Keyword) (said : List ParsedLine) → not (list_any (λ s. same (keyword_said s.says) k) said) ≡ (count k said == 0)
none_is k [] = refl
none_is k (s ∷ said) = by (same (keyword_said s.says) k) (none_is k said)
  where
    by : (x : Bool) → not (list_any (λ l. same (keyword_said l.says) k) said) ≡ (count k said == 0) → not (x || list_any (λ l. same (keyword_said l.says) k) said)
        ≡ (length (if x then s ∷ filter (λ l. same (keyword_said l.says) k) said else filter (λ l. same (keyword_said l.says) k) said) == 0)
    by true more = sym (eqb-suc-zero (count k said))
    by false more = more

entities_push : (n : ℕ) (said : List ParsedLine) (s : ParsedLine) → count_entities n (said ++ s ∷ []) ≡ count_with (count_entities n said) (keyword_said s.says)
entities_push n [] s = refl
entities_push n (x ∷ said) s = entities_push (count_with n (keyword_said x.says)) said s

-- the last line, of this keyword, comes to what those before have
pub last_counts : (said : List ParsedLine) (last : ParsedLine) (k : Keyword) → 1 ≤ length said → last ≡ get_or said (length said - 1) last → k ≡ keyword_said last.says
    → count_entities 0 said ≡ count_with (count_entities 0 (take (length said - 1) said)) k
last_counts said last k some is keyword =
    let front : List ParsedLine = take (length said - 1) said in
    let whole : said ≡ front ++ last ∷ [] =
    sym (take_all (length said - 1 + 1) said (omega (arith, some)))
    ∙ take_more said (length said - 1) last (omega (arith, some))
    ∙ ap (λ (s : ParsedLine). front ++ s ∷ []) (sym is) in
    ap (count_entities 0) whole ∙ entities_push 0 front last ∙ ap (count_with (count_entities 0 front)) (sym keyword)
