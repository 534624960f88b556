-- What a clean line says is what a line can say, and is a line of its keyword.
use Rattle.std.proofs.Common.{◌≡◌, ℕ, ◌≤◌, zero, suc, Bool, true, false, List, [], ◌∷◌, length, get_or, Result, Ok, Err, refl, sym, ap, subst, ◌∙◌, inl, inr, arith}
use Rattle.std.specs.Prelude.{◌==◌, if◌then◌else◌}
use Rattle.std.specs.Result.{result_ok}
use Rattle.std.proofs.lemmas.Bool.Decides.{nat_tests}
use Rattle.std.proofs.lemmas.Option.{same_Some}
use Rattle.drm_schedule.specs.Ranges.{IsName, IsLabel, BytesInLines}
use Rattle.drm_schedule.specs.declared.invalid.Reason.{Reason}
use Rattle.drm_schedule.specs.declared.invalid.Reason.TheVariants as reasons
use Rattle.dcp_pft.specs.declared.carry.Carry.TheVariants.{Plain, Pft}
use Rattle.drm_schedule.specs.declared.stream.Content.TheVariants.{Fill, File}
use Rattle.drm_sdc.specs.declared.body.Body.{Body}
use Rattle.plan_grammar.specs.declared.version.Version.{Version}
use Rattle.plan_grammar.specs.declared.version.Version.TheVariants.{One, Two}
use Rattle.plan_grammar.specs.declared.line.Line.{Line}
use Rattle.plan_grammar.specs.declared.line.Line.TheVariants as lines
use Rattle.plan_grammar.specs.Said.{keyword_of_body, keyword_said, LineInLines}
use Rattle.plan_rows.specs.declared.keyword.Keyword.{Keyword}
use Rattle.plan_rows.specs.declared.keyword.Keyword.TheVariants as keywords
use Rattle.plan_grammar.specs.declared.table.TheConstants.{TABLE}
use Rattle.plan_rows.specs.declared.field.LineField.{LineField}
use Rattle.plan_rows.specs.declared.value.LineValue.{LineValue}
use Rattle.plan_rows.specs.declared.value.LineValue.TheVariants as values
use Rattle.plan_rows.specs.declared.fault.Wrong.{Wrong}
use Rattle.plan_rows.specs.Values.{byte_at, short_at, bytes_at}
use Rattle.plan_rows.specs.Law as row_law
use Rattle.plan_rows.specs.Tables.{line_reads}
use Rattle.plan_rows.specs.Fits.{IsCleanLine, rows_of, AreGiven, AreGivenBy}
use Rattle.plan_rows.proofs.GivenLemmas.{table_gives}
use Rattle.plan_grammar.specs.Says.{says, current, allowed, said_by, line_said, number_of}

its_name : (name : List ℕ) → row_law.IsName 255 name → IsName name
its_name name is = record { utf8 = is.utf8; unspaced = is.unspaced; one_line = is.one_line; some = is.some; few = is.few }

its_text : (text : List ℕ) → row_law.IsText 16 64 text → IsLabel text
its_text text is = record { utf8 = is.utf8; one_line = is.one_line; seen = is.seen; few = is.few; short = is.short }

past : (vs : List LineValue) (k : ℕ) (d : LineValue) → length vs ≤ k → get_or vs k d ≡ d
past [] k d le = refl
past (v ∷ vs) zero d le = absurd (omega (arith, le))
past (v ∷ vs) (suc k) d le = past vs k d (omega (arith, le))

-- no bytes stand behind the last value
no_octets : (vs : List LineValue) (k : ℕ) → length vs ≤ k → BytesInLines 125 (bytes_at vs k)
no_octets vs k le = rw (past vs k (values.Byte 0) le) (omega arith, λ i. omega arith)

-- what follows of values of each of these rows
abbrev Each : List (List LineField) → List LineValue → Type 0 → Type 0
Each [] v P = Unit {0}
Each (fs ∷ rows) v P = ((length v ≡ length fs) × AreGiven fs 0 v → P) × Each rows v P

by_rows : (rows : List (List LineField)) (v : List LineValue) (P : Type 0) → Each rows v P → AreGivenBy rows v → P
by_rows [] v P each given = absurd given
by_rows (fs ∷ rows) v P each (inl g) = each.0 g
by_rows (fs ∷ rows) v P each (inr more) = by_rows rows v P each.1 more

-- of each row of a keyword
fits : (k : Keyword) (v : List LineValue) → allowed k v ≡ true → Each (rows_of TABLE 2 k) v (LineInLines (says k v))
fits keywords.Drmplan v all = (λ g. tt, tt)
fits keywords.Carry v all = (λ g. rw g.1.0 tt, (λ g. rw g.1.0 (g.1.1.0.1, g.1.1.1.0.0, g.1.1.1.0.1), tt))
fits keywords.First v all = (λ g. (omega (arith, g.1.0.1), omega (arith, g.1.1.0.1)), tt)
fits keywords.Length v all = (λ g. (g.1.0.0, g.1.0.1), tt)
fits keywords.Config v all = (λ g. (omega (arith, g.1.0.1), omega (arith, g.1.1.0.1)), tt)
fits keywords.Mode v all = (λ g. tt, tt)
fits keywords.Occupancy v all = (λ g. omega (arith, g.1.0.1), tt)
fits keywords.Depth v all = (λ g. tt, tt)
fits keywords.Msc v all = (λ g. omega (arith, g.1.0.1), tt)
fits keywords.Sdc v all = (λ g. tt, tt)
fits keywords.Protection v all = (λ g. (omega (arith, g.1.0.1), omega (arith, g.1.1.0.1)), tt)
fits keywords.Room v all = (λ g. omega (arith, g.1.0.1), tt)
fits keywords.Service v all =
    (λ g. record { id_fits = g.1.0; short_fits = omega (arith, g.1.1.0.1); language_fits = omega (arith, g.1.1.1.1.0.1); descriptor_fits = omega (arith, g.1.1.1.1.1.1.0.1); last_is_zero = refl }, tt)
fits keywords.Stream v all = (
  λ g. rw g.1.1.1.0 (record { a_fits = omega (arith, g.1.0.1); b_fits = omega (arith, g.1.1.0.1); not_empty = grind (arith, nat_tests); contents = g.1.1.1.1.0 }),
  (λ g. rw g.1.1.1.0 (record { a_fits = omega (arith, g.1.0.1); b_fits = omega (arith, g.1.1.0.1); not_empty = grind (arith, nat_tests); contents = its_name _ g.1.1.1.1.0 }), tt),
)
fits keywords.Clock v all = (λ g. record { mjd_fits = g.1.0.1; hours_fit = omega (arith, g.1.1.0.1); minutes_fit = omega (arith, g.1.1.1.0.1) }, tt)
fits keywords.Block v all = (λ g. omega (arith, g.1.0.1), tt)
fits keywords.Label v all = (λ g. record { version_fits = refl; body_fits = (omega (arith, g.1.0.1), refl, its_text _ g.1.1.0) }, tt)
fits keywords.Freq v all = (λ g. record { version_fits = refl; body_fits = (g.1.1.1.0, g.1.1.1.1.0, g.1.1.1.1.1.0.0, g.1.1.1.1.1.0.1, g.1.1.1.1.1.0.2) }, tt)
fits keywords.When v all =
    (λ g. record { version_fits = refl; body_fits = (omega (arith, g.1.0.1), omega (arith, g.1.1.0.1), omega (arith, g.1.1.1.0.1), omega (arith, g.1.1.1.1.0.1)) }, tt)
fits keywords.App v all = (
  λ g. rw g.1.1.1.0 (record { version_fits = refl; body_fits = (omega (arith, g.1.0.1), omega (arith, g.1.1.0.1), omega (arith, g.1.1.1.1.1.0.1), (refl, g.1.1.1.1.1.1.0)) }),
  (λ g. rw g.1.1.1.0 (record { version_fits = refl; body_fits = (omega (arith, g.1.0.1), omega (arith, g.1.1.0.1), omega (arith, g.1.1.1.1.1.1.1.0.1), (omega (arith, g.1.1.1.1.1.0.1), omega (arith, g.1.1.1.1.1.1.1.1.0.1), g.1.1.1.1.1.1.1.1.1.0)) }), tt),
)
fits keywords.Audio v all = (
  λ g. record { version_fits = refl; body_fits = (omega (arith, g.1.0.1), omega (arith, g.1.1.0.1), omega (arith, g.1.1.1.0.1), omega (arith, g.1.1.1.1.1.0.1), omega (arith, g.1.1.1.1.1.1.0.1), omega (arith, g.1.1.1.1.1.1.1.1.1.0.1), refl, no_octets v 9 (let nine : length v ≡ 9 = g.0 in omega (arith, nine))) },
  (λ g. record { version_fits = refl; body_fits = (omega (arith, g.1.0.1), omega (arith, g.1.1.0.1), omega (arith, g.1.1.1.0.1), omega (arith, g.1.1.1.1.1.0.1), omega (arith, g.1.1.1.1.1.1.0.1), omega (arith, g.1.1.1.1.1.1.1.1.1.0.1), refl, g.1.1.1.1.1.1.1.1.1.1.0) }, tt),
)
fits keywords.Language v all = (λ g. record { version_fits = refl; body_fits = (omega (arith, g.1.0.1), refl, g.1.1.0, g.1.1.1.0) }, tt)
fits keywords.Raw v all = (λ g. record { version_fits = tt; body_fits = (g.1.0, omega (arith, g.1.1.1.0.1), g.1.1.1.1.0) }, tt)
fits _ v all = tt

abbrev good : Line → Result Line Reason
good l = Ok l

line_is : (a b : Line) → good a ≡ good b → a ≡ b
line_is a b e = same_Some a b (ap result_ok e)

-- the values of which a line was made
record Origin (k : Keyword) (read : Result (List LineValue) Wrong) (l : Line) : Type 0 where
  values : List LineValue
  are : read ≡ Ok values
  allow : allowed k values ≡ true
  say : says k values ≡ l

origin : (k : Keyword) (read : Result (List LineValue) Wrong) (l : Line) → said_by k read ≡ good l → Origin k read l
origin k (Err wrong) l e = absurd cc
origin k (Ok v) l e = by (allowed k v) refl e
  where
    by : (x : Bool) → x ≡ allowed k v → (if x then good (says k v) else Err reasons.Range) ≡ good l → Origin k (Ok v) l
    by true all e = record { values = v; are = refl; allow = sym all; say = line_is (says k v) l e }
    by false all e = absurd cc

-- the rows of version 1 are those of version 2, but for a block line's
fits_in : (version : Version) (k : Keyword) (v : List LineValue) → allowed k v ≡ true → Each (rows_of TABLE (number_of version) k) v (LineInLines (says k v))
fits_in Two k v all = fits k v all
fits_in One keywords.Block v all = tt
fits_in One k v all = fits k v all

pub line_fits : (version : Version) (k : Keyword) (line : List ℕ) (ws : List (List ℕ)) (l : Line) → IsCleanLine line ws → line_said version k line ws ≡ Ok l → LineInLines l
unfolding line_said
line_fits version k line ws l clean e =
    let from = origin k (line_reads TABLE (number_of version) k line ws) l e in
    subst LineInLines from.say (by_rows _ from.values _ (fits_in version k from.values from.allow) (table_gives TABLE (number_of version) refl k line ws from.values clean from.are))

-- what values say is a line of the keyword that gave them
says_keyword : (version : ℕ) (k : Keyword) (line : List ℕ) (ws : List (List ℕ)) (v : List LineValue) → line_reads TABLE version k line ws ≡ Ok v → keyword_said (says k v) ≡ k
says_keyword version keywords.Carry line ws v e = by (byte_at v 0 == 0)
  where
    by : (x : Bool) → keyword_said (if x then lines.Carry Plain else lines.Carry (Pft (byte_at v 1) (short_at v 2))) ≡ keywords.Carry
    by true = refl
    by false = refl
says_keyword version keywords.Stream line ws v e = by (byte_at v 2 == 0)
  where
    by : (x : Bool) → keyword_said (if x then lines.Stream (record { a = short_at v 0; b = short_at v 1; content = Fill (byte_at v 3) }) else lines.Stream (record { a = short_at v 0; b = short_at v 1; content = File (bytes_at v 3) [] })) ≡ keywords.Stream
    by true = refl
    by false = refl
says_keyword version keywords.App line ws v e = by (byte_at v 2 == 0) _ _ refl refl
  where
    by : (x : Bool) (a b : Body) → keyword_of_body a ≡ keywords.App → keyword_of_body b ≡ keywords.App → keyword_said (if x then current a else current b) ≡ keywords.App
    by true a b one two = one
    by false a b one two = two
says_keyword version keywords.Feed line ws v e = absurd cc
says_keyword version keywords.Take line ws v e = absurd cc
says_keyword version keywords.Packet line ws v e = absurd cc
says_keyword version keywords.Packets line ws v e = absurd cc
says_keyword version keywords.Back line ws v e = absurd cc
says_keyword version _ line ws v e = refl

-- what is read is a line of its keyword
pub keyword_read : (version : Version) (k : Keyword) (line : List ℕ) (ws : List (List ℕ)) (l : Line) → line_said version k line ws ≡ Ok l → keyword_said l ≡ k
unfolding line_said
keyword_read version k line ws l e =
    let from = origin k (line_reads TABLE (number_of version) k line ws) l e in
    ap keyword_said (sym from.say) ∙ says_keyword (number_of version) k line ws from.values from.are
