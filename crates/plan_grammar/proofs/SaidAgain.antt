-- The values of what a line says fit their row, and say it again.
use Rattle.std.proofs.Common.{◌≡◌, ℕ, ◌≤◌, ◌<◌, ◌+◌, ◌^◌, suc, Bool, true, false, List, [], ◌∷◌, Option, Some, None, refl, sym, ap, subst, ◌∙◌, arith}
use Rattle.std.specs.Prelude.{All, ◌&&◌, nat_le, unwrap_or}
use Rattle.std.proofs.lemmas.Bool.Decides.{nat_tests}
use Rattle.std.specs.List.{AllByRecursion, join_with_byte}
use Rattle.std.proofs.lemmas.Bool.{le-leb}
use Rattle.drm_fac.specs.declared.mode.Mode.TheVariants.{A, B, C, D}
use Rattle.dcp_pft.specs.declared.carry.Carry.TheVariants.{Plain, Pft}
use Rattle.drm_schedule.specs.declared.stream.Content.{Content}
use Rattle.drm_schedule.specs.declared.stream.Content.TheVariants.{Fill, File}
use Rattle.drm_schedule.specs.Ranges.{BodyInLines, VersionInLines, ContentInLines, IsName, IsLabel}
use Rattle.drm_sdc.specs.declared.body.Body.{Body}
use Rattle.drm_sdc.specs.declared.body.Body.TheVariants as bodies
use Rattle.drm_sdc.specs.declared.body.AppMode.TheVariants.{Sync, Packet}
use Rattle.plan_grammar.specs.declared.version.Version.TheVariants.{One, Two}
use Rattle.plan_grammar.specs.declared.line.Line.{Line}
use Rattle.plan_grammar.specs.declared.line.Line.TheVariants as lines
use Rattle.plan_grammar.specs.Said.{keyword_said, LineInLines, detached}
use Rattle.plan_rows.specs.declared.field.LineField.{LineField}
use Rattle.plan_grammar.specs.declared.table.TheConstants.{TABLE}
use Rattle.plan_rows.specs.declared.value.LineValue.{LineValue}
use Rattle.plan_rows.specs.Keywords.{keyword_text}
use Rattle.plan_rows.specs.Tables.{row_for, line_written}
use Rattle.plan_rows.specs.Rows.{words_written}
use Rattle.drm_sdc.specs.declared.channels.Channel15.{Channel15}
use Rattle.std.proofs.lemmas.List.Elements.{All-head, All-tail}
use Rattle.plan_rows.proofs.FrequencyLaws.{Fits15}
use Rattle.plan_rows.specs.Law.{AllFit, LineIsAgain}
use Rattle.plan_rows.specs.Law as row_law
use Rattle.plan_rows.proofs.LinesAgain.{table_written}
use Rattle.plan_grammar.specs.Says.{says, allowed, said_by, line_said, values_of}
use Rattle.plan_grammar.specs.Law.{IsSaidAgain}

-- values that fit the row that takes them
abbrev FitRow : Option (List LineField) → List LineValue → Type 0
FitRow None vs = ⊥
FitRow (Some fs) vs = AllFit fs vs

-- a line whose values fit their row, can stand together, and say it again
abbrev IsRow : Line → Type 0
IsRow l = FitRow (row_for TABLE 2 (keyword_said l) (values_of l)) (values_of l) × (allowed (keyword_said l) (values_of l) ≡ true) × (says (keyword_said l) (values_of l) ≡ detached l)

-- a number below a bound fits a field and its width
below : {n bound most width : ℕ} → n < bound → (nat_le bound (suc most) && nat_le bound width) ≡ true → (0 ≤ n) × (n ≤ most) × (n < width)
below less both = (omega arith, grind (arith, nat_tests), grind (arith, nat_tests))

row_name : (name : List ℕ) → IsName name → row_law.IsName 255 name
row_name name is = record { utf8 = is.utf8; unspaced = is.unspaced; one_line = is.one_line; some = is.some; few = is.few }

row_text : (text : List ℕ) → IsLabel text → row_law.IsText 16 64 text
row_text text is = record { utf8 = is.utf8; one_line = is.one_line; seen = is.seen; few = is.few; short = is.short }

fit_all : (cs : List Channel15) → All (λ (c : Channel15). c.number < 2 ^ 15) cs → AllByRecursion Fits15 cs
fit_all [] fits = tt
fit_all (c ∷ cs) fits = (All-head (λ (c : Channel15). c.number < 2 ^ 15) c cs fits, fit_all cs (All-tail (λ (c : Channel15). c.number < 2 ^ 15) c cs fits))

service_row : (id short : ℕ) (ca : Bool) (language : ℕ) (is_data : Bool) (descriptor : ℕ) (data_ca : Bool) (last : ℕ) → id < 2 ^ 24 → short < 2 ^ 2 → language < 2 ^ 4 → descriptor < 2 ^ 5 → last ≡ 0
    → IsRow (lines.Service (record { id = id; short = short; ca = ca; language = language; is_data = is_data; descriptor = descriptor; data_ca = data_ca; last = last }))
service_row id short ca language true descriptor data_ca last i s l d none = ((i, (below s refl, (tt, (below l refl, (omega arith, (below d refl, (tt, tt))))))), refl, rw none refl)
service_row id short ca language false descriptor data_ca last i s l d none = ((i, (below s refl, (tt, (below l refl, (omega arith, (below d refl, (tt, tt))))))), refl, rw none refl)

stream_row : (a b : ℕ) (content : Content) → a < 2 ^ 12 → b < 2 ^ 12 → 1 ≤ a + b → ContentInLines content → IsRow (lines.Stream (record { a = a; b = b; content = content }))
stream_row a b (Fill byte) fits_a fits_b some small = ((below fits_a refl, (below fits_b refl, ((refl, omega arith), (small, tt)))), le-leb 1 (a + b) some, refl)
stream_row a b (File name bytes) fits_a fits_b some is = ((below fits_a refl, (below fits_b refl, ((refl, omega arith), (row_name name is, tt)))), le-leb 1 (a + b) some, refl)

body_row : (version : Bool) (body : Body) → VersionInLines version body → BodyInLines body → IsRow (lines.Entity (record { version = version; body = body }))
body_row version (bodies.Mux desc) current fits = absurd fits
body_row version (bodies.Time mjd hours minutes extra) current fits = absurd fits
body_row version (bodies.Next enhancement mode occupancy short_depth msc qam4 services last) current fits = absurd fits
body_row version (bodies.Freq sync layer restriction region list) current fits =
    ((tt, (tt, (fits.0, (fits.1, ((fits.2, fits.3, fit_all list fits.4), tt))))), refl, rw current refl)
body_row version (bodies.Label short spare text) current fits = ((below fits.0 refl, (row_text text fits.2, tt)), refl, rw (current, fits.1) refl)
body_row version (bodies.When id day start duration) current fits =
    ((below fits.0 refl, (below fits.1 refl, (below fits.2 refl, (below fits.3 refl, tt)))), refl, rw current refl)
body_row version (bodies.App short stream (Sync spare) enhancement domain bytes) current fits =
    ((below fits.0 refl, (below fits.1 refl, ((refl, omega arith), (tt, (below fits.2 refl, (fits.3.1, tt)))))), refl, rw (current, fits.3.0) refl)
body_row version (bodies.App short stream (Packet unit pid length) enhancement domain bytes) current fits =
    ((below fits.0 refl, (below fits.1 refl, ((refl, omega arith), (tt, (below fits.3.0 refl, (tt, (below fits.2 refl, (below fits.3.1 refl, (fits.3.2, tt))))))))), refl, rw current refl)
body_row version (bodies.Audio short stream coding sbr mode rate text enhancement coder spare []) current fits =
    ((below fits.0 refl, (below fits.1 refl, (below fits.2 refl, (tt, (below fits.3 refl, (below fits.4 refl, (tt, (tt, (below fits.5 refl, tt))))))))), refl, rw (current, fits.6) refl)
body_row version (bodies.Audio short stream coding sbr mode rate text enhancement coder spare (b ∷ bs)) current fits =
    ((below fits.0 refl, (below fits.1 refl, (below fits.2 refl, (tt, (below fits.3 refl, (below fits.4 refl, (tt, (tt, (below fits.5 refl, (fits.7, tt)))))))))), refl, rw (current, fits.6) refl)
body_row version (bodies.Language short spare language country) current fits = ((below fits.0 refl, (fits.2, (fits.3, tt))), refl, rw (current, fits.1) refl)
body_row version (bodies.Raw kind nibble bytes) current fits = ((fits.0, (tt, (below fits.1 refl, (fits.2, tt)))), refl, refl)

row : (l : Line) → LineInLines l → IsRow l
row (lines.Version One) fits = ((omega arith, tt), refl, refl)
row (lines.Version Two) fits = ((omega arith, tt), refl, refl)
row (lines.Carry Plain) fits = (((refl, omega arith), tt), refl, refl)
row (lines.Carry (Pft m mtu)) fits = (((refl, omega arith), ((omega arith, fits.0, omega (arith, fits.0)), ((fits.1, fits.2, omega (arith, fits.2)), tt))), refl, refl)
row (lines.First seq dlfc) fits = ((below fits.0 refl, (below fits.1 refl, tt)), refl, refl)
row (lines.Length n) fits = (((fits.0, fits.1, omega (arith, fits.1)), tt), refl, refl)
row (lines.Config start countdown) fits = ((below fits.0 refl, (below fits.1 refl, tt)), refl, refl)
row (lines.Mode A) fits = ((omega arith, tt), refl, refl)
row (lines.Mode B) fits = ((omega arith, tt), refl, refl)
row (lines.Mode C) fits = ((omega arith, tt), refl, refl)
row (lines.Mode D) fits = ((omega arith, tt), refl, refl)
row (lines.Occupancy n) fits = ((below fits refl, tt), refl, refl)
row (lines.Depth true) fits = ((omega arith, tt), refl, refl)
row (lines.Depth false) fits = ((omega arith, tt), refl, refl)
row (lines.Msc n) fits = ((below fits refl, tt), refl, refl)
row (lines.Sdc qam4) fits = ((tt, tt), refl, refl)
row (lines.Protection a b) fits = ((below fits.0 refl, (below fits.1 refl, tt)), refl, refl)
row (lines.Room n) fits = ((below fits refl, tt), refl, refl)
row (lines.Block from) fits = ((below fits refl, tt), refl, refl)
row (lines.Service s) fits = service_row s.id s.short s.ca s.language s.is_data s.descriptor s.data_ca s.last fits.id_fits fits.short_fits fits.language_fits fits.descriptor_fits fits.last_is_zero
row (lines.Stream s) fits = stream_row s.a s.b s.content fits.a_fits fits.b_fits fits.not_empty fits.contents
row (lines.Clock c) fits = (((omega arith, fits.mjd_fits, let day = fits.mjd_fits in omega (arith, day)), (below fits.hours_fit refl, (below fits.minutes_fit refl, tt))), refl, refl)
row (lines.Entity e) fits = body_row e.version e.body fits.version_fits fits.body_fits

-- the line that is written by a row
abbrev by_row : Line → Option (List LineField) → List ℕ
by_row l o = join_with_byte 32 (keyword_text (keyword_said l) ∷ words_written (unwrap_or o []) (values_of l))

pub said_again : (l : Line) → LineInLines l → IsSaidAgain l
unfolding line_said line_written
said_again l fits = by (row_for TABLE 2 (keyword_said l) (values_of l)) refl (row l fits).0
  where
    by : (o : Option (List LineField)) → row_for TABLE 2 (keyword_said l) (values_of l) ≡ o → FitRow o (values_of l) → IsSaidAgain l
    by None found fit = absurd fit
    by (Some fs) found fit =
        let r = row l fits in
        let again = subst (LineIsAgain TABLE 2 (keyword_said l) (values_of l)) (ap (by_row l) (sym found)) (table_written TABLE 2 refl refl (keyword_said l) (values_of l) fs found fit) in
        record {
          one_line = again.one_line;
          utf8 = again.utf8;
          words = again.words;
          cut = again.cut;
          said = ap (said_by (keyword_said l)) again.reads ∙ rw (r.1, r.2) refl;
        }
