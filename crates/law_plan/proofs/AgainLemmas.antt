-- Lines that are written are read again, one after another.
use Rattle.std.proofs.Common.{◌≡◌, ℕ, ◌+◌, suc, Bool, true, false, List, [], ◌∷◌, ◌++◌, Option, Some, Ok, length, map, refl, sym, ap, subst, ◌∙◌, append_assoc, arith}
use Rattle.std.specs.Prelude.{◌==◌, slice_index}
use Rattle.std.specs.List.{AllByRecursion}
use Rattle.std.proofs.lemmas.List.{append-nil}
use Rattle.text_lines.specs.Lines.{words_of}
use Rattle.drm_sdc.specs.declared.body.Body.{Body}
use Rattle.drm_sdc.specs.declared.body.Body.TheVariants as bodies
use Rattle.plan_rows.specs.declared.keyword.Keyword.{Keyword}
use Rattle.plan_rows.specs.declared.keyword.Keyword.TheVariants as keywords
use Rattle.plan_grammar.specs.declared.version.Version.{Version}
use Rattle.plan_grammar.specs.declared.version.Version.TheVariants.{Two}
use Rattle.plan_grammar.specs.declared.line.Line.{Line}
use Rattle.plan_grammar.specs.declared.line.Line.TheVariants as lines
use Rattle.plan_rows.specs.Keywords.{keyword_text, same}
use Rattle.plan_rows.specs.Tables as tables
use Rattle.plan_grammar.specs.declared.table.TheConstants.{TABLE}
use Rattle.plan_grammar.specs.Said.{keyword_of_body, keyword_said, canonical}
use Rattle.plan_grammar.specs.Says.{line_said}
use Rattle.plan_rules.specs.declared.said.ParsedLine.{ParsedLine}
use Rattle.plan_rules.specs.declared.said.ConfigLines.{ConfigLines}
use Rattle.plan_rules.specs.declared.said.ParsedText.{ParsedText}
use Rattle.plan_rules.specs.ParsedLine.{add}
use Rattle.text_lines.specs.Faults.{lines_say}
use Rattle.plan_rules.specs.Rules.{version_in, is_one, keyword_in, is_out_of_order, ends_incomplete, is_front, is_second, is_too_many, said_line, said_from}
use Rattle.plan_rules.specs.Steps.{check_of}
use Rattle.plan_rules.proofs.StepLemmas.{goes_on}

-- A canonical line is cut into its words, and reads as what it says.
pub record LineAgain (l : Line) : Type 0 where
  pub words : List (List ℕ)
  pub cut : words_of (canonical l) ≡ keyword_text (keyword_said l) ∷ words
  pub reads : line_said Two (keyword_said l) (canonical l) words ≡ Ok l

-- in a text that isn't of version 1 the keyword of each line is known
known_again : (version : Option Version) (l : Line) → is_one version ≡ false → keyword_in version (keyword_text (keyword_said l)) ≡ Some (keyword_said l)
unfolding keyword_in
known_again version (lines.Entity e) later = rw later (by e.body)
  where
    by : (b : Body) → tables.keyword_in TABLE 2 (keyword_text (keyword_of_body b)) ≡ Some (keyword_of_body b)
    by (bodies.Mux desc) = refl
    by _ = refl
known_again version _ later = rw later refl

no_comment : (k : Keyword) → (slice_index (keyword_text k) 0 == 35) ≡ false
no_comment keywords.Drmplan = refl
no_comment _ = refl

pub read_as_said : (read : ParsedText) (n : ℕ) (l : Line) → LineAgain l → is_one (version_in read.front) ≡ false → ends_incomplete read (keyword_said l) ≡ false → check_of read n (keyword_said l) ≡ Ok tt → said_line read n (canonical l) ≡ Ok (add n l read)
unfolding said_line
read_as_said read n l again later whole found =
    rw (again.cut, no_comment (keyword_said l), known_again (version_in read.front) l later, later)
    (goes_on read (add n l read) n (keyword_said l) (line_said Two (keyword_said l) (canonical l) again.words) l (Ok tt) whole again.reads (sym found) refl refl)

-- lines put one behind another
abbrev pub adds : ℕ → List Line → ParsedText → ParsedText
adds n [] read = read
adds n (l ∷ ls) read = adds (n + 1) ls (add n l read)

-- no row holds for any of these lines
abbrev pub Fine : ParsedText → ℕ → List Line → Type 0
Fine read n [] = Unit {0}
Fine read n (l ∷ ls) = (is_one (version_in read.front) ≡ false) × (ends_incomplete read (keyword_said l) ≡ false) × (check_of read n (keyword_said l) ≡ Ok tt) × Fine (add n l read) (n + 1) ls

pub lines_said : (read : ParsedText) (n : ℕ) (ls : List Line) → AllByRecursion LineAgain ls → Fine read n ls → said_from read n (map canonical ls) ≡ Ok (adds n ls read)
unfolding lines_say
lines_said read n [] again fine = refl
lines_said read n (l ∷ ls) again fine = rw (read_as_said read n l again.0 fine.0 fine.1 fine.2) (lines_said (add n l read) (n + 1) ls again.1 fine.3)

pub adds_append : (n : ℕ) (a b : List Line) (read : ParsedText) → adds n (a ++ b) read ≡ adds (n + length a) b (adds n a read)
adds_append n [] b read =
    let same : n + 0 ≡ n = omega arith in
    rw same refl
adds_append n (l ∷ a) b read =
    let next : n + suc (length a) ≡ n + 1 + length a = omega arith in
    adds_append (n + 1) a b (add n l read) ∙ ap (λ k. adds k b (adds (n + 1) a (add n l read))) (sym next)

pub fine_append : (read : ParsedText) (n : ℕ) (a b : List Line) → Fine read n a → Fine (adds n a read) (n + length a) b → Fine read n (a ++ b)
fine_append read n [] b first behind =
    let same : n + 0 ≡ n = omega arith in
    subst (λ k. Fine read k b) same behind
fine_append read n (l ∷ a) b first behind =
    let next : n + suc (length a) ≡ n + 1 + length a = omega arith in
    (first.0, first.1, first.2, fine_append (add n l read) (n + 1) a b first.3 (subst (λ k. Fine (adds (n + 1) a (add n l read)) k b) next behind))

-- these lines, numbered
abbrev pub numbered : ℕ → List Line → List ParsedLine
numbered n [] = []
numbered n (l ∷ ls) = record { line = n; says = l } ∷ numbered (n + 1) ls

-- a keyword of a line within a configuration
abbrev pub is_inner : Keyword → Bool
is_inner keywords.Drmplan = false
is_inner keywords.Carry = false
is_inner keywords.First = false
is_inner keywords.Length = false
is_inner keywords.Config = false
is_inner _ = true

-- the version that has blocks
abbrev pub two : Option Version
two = Some Two

-- the lines of a configuration behind these, in a text of version 2
abbrev pub InnerFine : List ParsedLine → ℕ → List Line → Type 0
InnerFine said n [] = Unit {0}
InnerFine said n (l ∷ ls) = (is_inner (keyword_said l) ≡ true) × (is_out_of_order two (keyword_said l) said ≡ false) × (is_second (keyword_said l) said ≡ false) × (is_too_many (keyword_said l) said ≡ false) × InnerFine (said ++ record { line = n; says = l } ∷ []) (n + 1) ls

-- a read text whose last configuration has these lines
abbrev pub with_lines : ParsedText → ConfigLines → List ParsedLine → ParsedText
with_lines read block said = record { front = read.front; closed = read.closed; current = Some (record block { lines = said }) }

not_config : (k : Keyword) → is_inner k ≡ true → same k keywords.Config ≡ false
not_config keywords.Config inner = absurd cc
not_config keywords.Drmplan inner = refl
not_config _ inner = refl

not_front : (k : Keyword) → is_inner k ≡ true → is_front k ≡ false
not_front keywords.Drmplan inner = absurd cc
not_front keywords.Carry inner = absurd cc
not_front keywords.First inner = absurd cc
not_front keywords.Length inner = absurd cc
not_front _ inner = refl

inner_add : (read : ParsedText) (block : ConfigLines) (said : List ParsedLine) (n : ℕ) (l : Line) → is_inner (keyword_said l) ≡ true → add n l (with_lines read block said) ≡ with_lines read block (said ++ record { line = n; says = l } ∷ [])
inner_add read block said n (lines.Config start countdown) inner = absurd cc
inner_add read block said n (lines.Version version) inner = absurd cc
inner_add read block said n _ inner = refl

inner_check : (read : ParsedText) (block : ConfigLines) (said : List ParsedLine) (n : ℕ) (k : Keyword) → version_in read.front ≡ two → is_inner k ≡ true → is_out_of_order two k said ≡ false → is_second k said ≡ false → is_too_many k said ≡ false → check_of (with_lines read block said) n k ≡ Ok tt
unfolding check_of
inner_check read block said n k version inner order second many =
    rw (version, order, not_front k inner, second, many, not_config k inner) refl

inner_whole : (read : ParsedText) (block : ConfigLines) (said : List ParsedLine) (k : Keyword) → is_inner k ≡ true → ends_incomplete (with_lines read block said) k ≡ false
inner_whole read block said k inner = rw (not_config k inner) refl

pub inner_fine : (read : ParsedText) (block : ConfigLines) (said : List ParsedLine) (n : ℕ) (ls : List Line) → version_in read.front ≡ two → InnerFine said n ls → Fine (with_lines read block said) n ls
inner_fine read block said n [] version fine = tt
inner_fine read block said n (l ∷ ls) version fine = (
  ap is_one version,
  inner_whole read block said (keyword_said l) fine.0,
  inner_check read block said n (keyword_said l) version fine.0 fine.1 fine.2 fine.3,
  rw (inner_add read block said n l fine.0) (inner_fine read block (said ++ record { line = n; says = l } ∷ []) (n + 1) ls version fine.4),
)

pub inner_adds : (read : ParsedText) (block : ConfigLines) (said : List ParsedLine) (n : ℕ) (ls : List Line) → InnerFine said n ls → adds n ls (with_lines read block said) ≡ with_lines read block (said ++ numbered n ls)
inner_adds read block said n [] fine = ap (λ l. with_lines read block l) (sym (append-nil said))
inner_adds read block said n (l ∷ ls) fine =
    ap (adds (n + 1) ls) (inner_add read block said n l fine.0)
    ∙ inner_adds read block (said ++ record { line = n; says = l } ∷ []) (n + 1) ls fine.4
    ∙ ap (λ s. with_lines read block s) (append_assoc said (record { line = n; says = l } ∷ []) (numbered (n + 1) ls))
