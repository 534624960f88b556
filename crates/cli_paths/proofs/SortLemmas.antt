-- What kind of word a word is.
use Rattle.std.proofs.Common.{◌≡◌, ◌≢◌, ℕ, zero, suc, Bool, true, false, cond, eqb, List, [], ◌∷◌, ◌++◌, Option, Some, None, refl, ap, sym, subst, arith}
use Rattle.std.specs.List.{AllByRecursion}
use Rattle.std.specs.Str.{bytes_eq, chars}
use Rattle.std.proofs.lemmas.Bool.Decides.{nat_tests}
use Rattle.std.proofs.lemmas.Slice.Eq.{bytes_eq-Decides}
use Rattle.clap.specs.Lexer.{long_of, long_of_rest, short_of, name_and_value}
use Rattle.clap.proofs.CutLemmas.{before_first-Lacks, before_first-at, after_first-at, list_any-Lacks, list_any-at, Lacks as LacksAt}
use Rattle.cli_syntax.specs.Spelling.{IsPlain, IsOptionName, dashes, joined}
use Rattle.cli_paths.specs.Uses.{ArgKind, Dashes, Plain, Joined, Apart, Stray, sort_of, long_sort, short_sort, option_sort, flags_sort}
use Rattle.std.proofs.lemmas.Option.{same_Some}
use Rattle.std.specs.Prelude.{slice_get}
use Rattle.cli_syntax.specs.Addressing.{cut}
use Rattle.cli_syntax.proofs.CutLemmas.{cut_is, lacks_by_cut}

lacks_by : (c x : ℕ) (xs : List ℕ) → x ≢ c → LacksAt c xs → LacksAt c (x ∷ xs)
lacks_by c x xs first more zero lt = first
lacks_by c x xs first more (suc i) lt = more i (omega arith)

lacks_at : (c : ℕ) (xs : List ℕ) → AllByRecursion (λ b. b ≢ c) xs → LacksAt c xs
lacks_at c [] h = λ i lt. absurd (omega arith)
lacks_at c (x ∷ xs) h = lacks_by c x xs h.0 (lacks_at c xs h.1)

-- ---- a word of a kind is sorted so

not_dashes : (word : List ℕ) → word ≢ dashes → bytes_eq word (45 ∷ 45 ∷ []) ≡ false
not_dashes word h = by (bytes_eq word (45 ∷ 45 ∷ [])) refl
  where
    by : (t : Bool) → bytes_eq word (45 ∷ 45 ∷ []) ≡ t → t ≡ false
    by true e = absurd (h ((bytes_eq-Decides word (45 ∷ 45 ∷ [])).0 e))
    by false e = refl

pub sort-dashes : (word : List ℕ) → word ≡ dashes → sort_of word ≡ Dashes
sort-dashes word e = rw ((bytes_eq-Decides word (45 ∷ 45 ∷ [])).1 e) refl

undashed : (b : ℕ) (bs : List ℕ) → eqb b 45 ≡ false → sort_of (b ∷ bs) ≡ Plain
undashed b bs e = rw (not_dashes (b ∷ bs) (λ f. no b bs e f), e, e) refl
  where
    no : (b : ℕ) (bs : List ℕ) → eqb b 45 ≡ false → b ∷ bs ≡ 45 ∷ 45 ∷ [] → ⊥
    no b bs e f = let same : b ≡ 45 = cc in let yes : eqb b 45 ≡ true = ap (λ (x : ℕ). eqb x 45) same in cc

pub sort-plain : (word : List ℕ) → IsPlain word → sort_of word ≡ Plain
sort-plain [] h = refl
sort-plain (b ∷ bs) h = by (eqb b 45) refl
  where
    by : (t : Bool) → eqb b 45 ≡ t → sort_of (b ∷ bs) ≡ Plain
    by true e = let same : b ≡ 45 = grind (arith, nat_tests) in rw (h same, same) refl
    by false e = undashed b bs e

pub sort-joined : (name value : List ℕ) → IsOptionName name → sort_of (joined name value) ≡ Joined name value
sort-joined [] value h = rw (before_first-at 61 [] value (lacks_at 61 [] tt), after_first-at 61 [] value (lacks_at 61 [] tt)) refl
sort-joined (b ∷ bs) value h =
    rw (before_first-at 61 (b ∷ bs) value (lacks_at 61 (b ∷ bs) h), after_first-at 61 (b ∷ bs) value (lacks_at 61 (b ∷ bs) h), list_any-at 61 (b ∷ bs) value) refl

pub sort-apart : (name : List ℕ) → IsOptionName name → name ≢ [] → sort_of (dashes ++ name) ≡ Apart name
sort-apart [] h some = absurd (some refl)
sort-apart (b ∷ bs) h some =
    rw (before_first-Lacks 61 (b ∷ bs) (lacks_at 61 (b ∷ bs) h), list_any-Lacks 61 (b ∷ bs) (lacks_at 61 (b ∷ bs) h)) refl

-- ---- what the sort of a word says of it

abbrev pub IsSort : List ℕ → ArgKind → Type 0
IsSort word Dashes = word ≡ dashes
IsSort word Plain = Unit {0}
IsSort word (Joined name value) = IsOptionName name × (word ≡ joined name value)
IsSort word (Apart name) = IsOptionName name × (word ≡ dashes ++ name)
IsSort word Stray = Unit {0}

option_is : (text : List ℕ) (o : Option (List ℕ × List ℕ)) → cut 61 text ≡ o → IsSort (dashes ++ text) (option_sort (name_and_value text).0 (name_and_value text).1)
option_is text None e =
    let l = lacks_by_cut 61 text e in
    rw (before_first-Lacks 61 text (lacks_at 61 text l), list_any-Lacks 61 text (lacks_at 61 text l)) (l, refl)
option_is text (Some (name, value)) e =
    let c = cut_is 61 text name value e in
    let l = lacks_at 61 name c.first in
    rw (c.whole, before_first-at 61 name value l) (rw (after_first-at 61 name value l, list_any-at 61 name value) (c.first, refl))

record IsLong (word : List ℕ) (p : List ℕ × Option (List ℕ)) : Type 0 where
  text : List ℕ
  spelled : word ≡ dashes ++ text
  parts : name_and_value text ≡ p

long_two : (ds : List ℕ) (p : List ℕ × Option (List ℕ)) → long_of_rest ds ≡ Some p → IsLong (45 ∷ 45 ∷ ds) p
long_two [] p e = absurd cc
long_two (x ∷ xs) p e = record { text = x ∷ xs; spelled = refl; parts = same_Some (name_and_value (x ∷ xs)) p e }

long_is : (word : List ℕ) (p : List ℕ × Option (List ℕ)) → long_of word ≡ Some p → IsLong word p
long_is [] p e = absurd cc
long_is (b ∷ bs) p e = by (eqb b 45) refl bs e
  where
    by_next : (t : Bool) (d : ℕ) (ds : List ℕ) → eqb d 45 ≡ t → long_of (45 ∷ d ∷ ds) ≡ Some p → IsLong (45 ∷ d ∷ ds) p
    by_next true d ds f e =
        let same : d ≡ 45 = grind (arith, nat_tests) in
        subst (λ (x : ℕ). IsLong (45 ∷ x ∷ ds) p) (sym same) (long_two ds p (rw same at e))
    by_next false d ds f e = absurd (let bad : None ≡ Some p = rw f at e in cc)

    by : (t : Bool) → eqb b 45 ≡ t → (bs : List ℕ) → long_of (b ∷ bs) ≡ Some p → IsLong (b ∷ bs) p
    by false f bs e = absurd (let bad : None ≡ Some p = rw f at e in cc)
    by true f bs e =
        let same : b ≡ 45 = grind (arith, nat_tests) in
        subst (λ (x : ℕ). IsLong (x ∷ bs) p) (sym same) (behind bs (subst (λ (x : ℕ). long_of (x ∷ bs) ≡ Some p) same e))
      where
        behind : (bs : List ℕ) → long_of (45 ∷ bs) ≡ Some p → IsLong (45 ∷ bs) p
        behind [] e = absurd cc
        behind (d ∷ ds) e = by_next (eqb d 45) d ds refl e

short_is : (word : List ℕ) (s : Option (List ℕ)) → IsSort word (short_sort s)
short_is word None = tt
short_is word (Some flags) = by (slice_get (chars flags) 0)
  where
    by : (x : Option ℕ) → IsSort word (flags_sort x)
    by None = tt
    by (Some x) = tt

long_by : (word : List ℕ) (l : Option (List ℕ × Option (List ℕ))) → long_of word ≡ l → IsSort word (long_sort word l)
long_by word None e = short_is word (short_of word)
long_by word (Some p) e =
    let l = long_is word p e in
    subst (λ (w : List ℕ). IsSort w (option_sort p.0 p.1)) (sym l.spelled)
    (subst (λ (q : List ℕ × Option (List ℕ)). IsSort (dashes ++ l.text) (option_sort q.0 q.1)) l.parts (option_is l.text (cut 61 l.text) refl))

pub sort_is : (word : List ℕ) → IsSort word (sort_of word)
sort_is word = by (bytes_eq word (45 ∷ 45 ∷ [])) refl
  where
    by : (t : Bool) → bytes_eq word (45 ∷ 45 ∷ []) ≡ t → IsSort word (cond t Dashes (long_sort word (long_of word)))
    by true e = (bytes_eq-Decides word (45 ∷ 45 ∷ [])).0 e
    by false e = long_by word (long_of word) refl
