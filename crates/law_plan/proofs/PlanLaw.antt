-- Reading the canonical text of a plan gives the plan again, but for the bytes of its files.
use Rattle.std.proofs.Common.{◌≡◌, ℕ, false, List, [], ◌∷◌, ◌++◌, Option, Some, None, Ok, map, refl, sym, ap, subst, ◌∙◌, arith}
use Rattle.std.specs.Prelude.{All, IfSome, IsUtf8}
use Rattle.std.specs.List.{flat_map, AllByRecursion}
use Rattle.std.proofs.lemmas.List.{length-map}
use Rattle.std.proofs.lemmas.List.Concat.{flat_map-cons}
use Rattle.std.proofs.lemmas.List.Elements.{All-nil, All-cons, All-head, All-tail}
use Rattle.std.proofs.lemmas.Str.{IsUtf8-nil, IsUtf8-append, IsUtf8-from_ascii}
use Rattle.std.proofs.lemmas.Str.Ascii.{IsAscii-nil, IsAscii-cons}
use Rattle.drm_schedule.specs.declared.config.Clock.{Clock}
use Rattle.drm_schedule.specs.declared.timed.Timed.{Timed}
use Rattle.drm_schedule.specs.declared.config.Config.{Config}
use Rattle.drm_schedule.specs.declared.stream.Content.{Content}
use Rattle.drm_schedule.specs.declared.stream.Content.TheVariants.{Fill, File}
use Rattle.drm_schedule.specs.declared.stream.Stream.{Stream}
use Rattle.drm_schedule.specs.declared.plan.Plan.{Plan}
use Rattle.drm_schedule.specs.Ranges.{ContentInLines, StreamInLines, ServiceInLines, ClockInLines, EntityInLines, TimedInLines, ConfigInLines, InLines}
use Rattle.text_lines.specs.Lines.{lines_of}
use Rattle.text_lines.proofs.LineLaws.{IsLine, lines_again}
use Rattle.plan_grammar.specs.declared.version.Version.TheVariants.{Two}
use Rattle.plan_grammar.specs.declared.line.Line.{Line}
use Rattle.plan_grammar.specs.declared.line.Line.TheVariants as lines
use Rattle.plan_grammar.specs.Said.{canonical as line_of, line_text, detached, LineInLines}
use Rattle.plan_grammar.proofs.SaidAgain.{said_again}
use Rattle.plan_rows.proofs.TokenLemmas.{lacks_from}
use Rattle.plan_rules.specs.declared.said.ConfigLines.{ConfigLines}
use Rattle.plan_rules.specs.declared.said.ParsedText.{ParsedText}
use Rattle.plan_rules.specs.ParsedLine.{nothing}
use Rattle.plan_rules.specs.Rules.{version_in, ended, is_incomplete, said_from, said}
use Rattle.plan_writer.specs.Canonical.{front_lines, settings_lines, service_lines, stream_lines, clock_lines, block_lines, config_lines, plan_lines, text_of, canonical}
use Rattle.drm_plan.specs.Files.{emptied, without_bytes, config_without_bytes, without_files}
use Rattle.law_plan.specs.Texts.{IsReadAgain}
use Rattle.drm_plan.specs.Projection.{DraftContents, drafted}
use Rattle.drm_plan.specs.Text.{lines_give}
use Rattle.law_plan.proofs.AgainLemmas.{two, LineAgain, lines_said}
use Rattle.law_plan.proofs.CanonicalLaw.{plan_read}
use Rattle.law_plan.proofs.GivenLaw.{ok_is}
use Rattle.drm_plan.proofs.TextLemmas.{text_gives}
use Rattle.plan_writer.proofs.TextLemmas.{text_append, no_text}
use Rattle.drm_plan.proofs.FileLemmas.{with_streams}

-- A line that has no bytes of a file, is written as one line of UTF-8, and reads as itself.
record Clean (l : Line) : Type 0 where
  again : LineAgain l
  line : IsLine (line_of l)
  utf8 : IsUtf8 (line_of l)

clean : (l : Line) → LineInLines l → detached l ≡ l → Clean l
clean l fits same =
    let said = said_again l fits in
    record {
      again = record { words = said.words; cut = said.cut; reads = said.said ∙ ap (λ (x : Line). Ok x) same };
      line = lacks_from 10 (line_of l) said.one_line;
      utf8 = said.utf8;
    }

both : (a b : List Line) → AllByRecursion Clean a → AllByRecursion Clean b → AllByRecursion Clean (a ++ b)
both [] b first behind = behind
both (l ∷ a) b first behind = (first.0, both a b first.1 behind)

each : {X : Type 0} (f : X → Line) (P : X → Type 0) → ((x : X) → P x → Clean (f x)) → (xs : List X) → All P xs → AllByRecursion Clean (map f xs)
each f P is [] all = tt
each f P is (x ∷ xs) all = (is x (All-head P x xs all), each f P is xs (All-tail P x xs all))

content_fits : (content : Content) → ContentInLines content → ContentInLines (emptied content)
content_fits (Fill byte) fits = fits
content_fits (File name bytes) fits = fits

stream_fits : (s : Stream) → StreamInLines s → StreamInLines (without_bytes s)
stream_fits s fits = record { a_fits = fits.a_fits; b_fits = fits.b_fits; not_empty = fits.not_empty; contents = content_fits s.content fits.contents }

stream_clean : (s : Stream) → StreamInLines s → Clean (lines.Stream (without_bytes s))
stream_clean s fits = clean (lines.Stream (without_bytes s)) (stream_fits s fits) (ap (λ (k : Content). lines.Stream (record { a = s.a; b = s.b; content = k })) (by s.content))
  where
    detach : Content → Content
    detach (Fill byte) = Fill byte
    detach (File name bytes) = File name []

    by : (content : Content) → detach (emptied content) ≡ emptied content
    by (Fill byte) = refl
    by (File name bytes) = refl

all_mapped : {X Y : Type 0} (P : X → Type 0) (Q : Y → Type 0) (f : X → Y) → ((x : X) → P x → Q (f x)) → (xs : List X) → All P xs → All Q (map f xs)
all_mapped P Q f gives [] all = All-nil Q
all_mapped P Q f gives (x ∷ xs) all = All-cons Q (f x) (map f xs) (gives x (All-head P x xs all)) (all_mapped P Q f gives xs (All-tail P x xs all))

clock_clean : (clock : Option Clock) → IfSome clock ClockInLines → AllByRecursion Clean (clock_lines clock)
clock_clean None fits = tt
clock_clean (Some c) fits = (clean (lines.Clock c) fits refl, tt)

settings_clean : (c : Config) → ConfigInLines c → AllByRecursion Clean (settings_lines c)
settings_clean c fits = (
  clean (lines.Config c.start c.countdown) (fits.start_fits, fits.countdown_fits) refl,
  (
    clean (lines.Mode c.mode) tt refl,
    (
      clean (lines.Occupancy c.occupancy) fits.occupancy_fits refl,
      (
        clean (lines.Depth c.short_depth) tt refl,
        (
          clean (lines.Msc c.msc) fits.msc_fits refl,
          (
            clean (lines.Sdc c.qam4) tt refl,
            (
              clean (lines.Protection c.prot_a c.prot_b) (fits.prot_a_fits, fits.prot_b_fits) refl,
              (clean (lines.Room c.room) fits.room_fits refl, tt),
            ),
          ),
        ),
      ),
    ),
  ),
)

block_clean : (b : Timed) → TimedInLines b → AllByRecursion Clean (block_lines b)
block_clean b fits = (clean (lines.Block b.from) fits.from_fits refl, each (λ e. lines.Entity e) EntityInLines (λ e is. clean (lines.Entity e) is refl) b.entities fits.each_entity)

blocks_clean : (blocks : List Timed) → All TimedInLines blocks → AllByRecursion Clean (flat_map block_lines blocks)
blocks_clean [] fit = tt
blocks_clean (b ∷ blocks) fit =
    subst (λ (ls : List Line). AllByRecursion Clean ls) (sym (flat_map-cons block_lines b blocks))
    (both (block_lines b) (flat_map block_lines blocks) (block_clean b (All-head TimedInLines b blocks fit)) (blocks_clean blocks (All-tail TimedInLines b blocks fit)))

config_clean : (c : Config) → ConfigInLines c → AllByRecursion Clean (config_lines (config_without_bytes c))
config_clean c fits =
    let streams : AllByRecursion Clean (stream_lines (map without_bytes c.streams)) =
    each (λ s. lines.Stream s) (λ s. Clean (lines.Stream s)) (λ s is. is) (map without_bytes c.streams) (all_mapped StreamInLines (λ s. Clean (lines.Stream s)) without_bytes stream_clean c.streams fits.each_stream) in
    both (settings_lines c) (service_lines c.services ++ (stream_lines (map without_bytes c.streams) ++ (clock_lines c.clock ++ flat_map block_lines c.blocks))) (settings_clean c fits)
    (both (service_lines c.services) (stream_lines (map without_bytes c.streams) ++ (clock_lines c.clock ++ flat_map block_lines c.blocks)) (each (λ s. lines.Service s) ServiceInLines (λ s is. clean (lines.Service s) is refl) c.services fits.each_service)
    (both (stream_lines (map without_bytes c.streams)) (clock_lines c.clock ++ flat_map block_lines c.blocks) streams
    (both (clock_lines c.clock) (flat_map block_lines c.blocks) (clock_clean c.clock fits.clock_fits) (blocks_clean c.blocks fits.each_block))))

configs_clean : (cs : List Config) → All ConfigInLines cs → AllByRecursion Clean (flat_map config_lines (map config_without_bytes cs))
configs_clean [] fit = tt
configs_clean (c ∷ cs) fit =
    subst (λ (ls : List Line). AllByRecursion Clean ls) (sym (flat_map-cons config_lines (config_without_bytes c) (map config_without_bytes cs)))
    (both (config_lines (config_without_bytes c)) (flat_map config_lines (map config_without_bytes cs)) (config_clean c (All-head ConfigInLines c cs fit)) (configs_clean cs (All-tail ConfigInLines c cs fit)))

plan_clean : (plan : Plan) → InLines plan → AllByRecursion Clean (plan_lines (without_files plan))
plan_clean plan fits =
    both (front_lines plan) (flat_map config_lines (map config_without_bytes plan.configs))
    (clean (lines.Version Two) tt refl, (clean (lines.Carry plan.carry) fits.carry_fits refl, (clean (lines.First plan.seq plan.dlfc) (fits.seq_fits, fits.dlfc_fits) refl, (clean (lines.Length plan.length) (fits.some_frames, fits.few_frames) refl, tt))))
    (configs_clean plan.configs fits.each_config)

-- the ranges stay
config_stays : (c : Config) → ConfigInLines c → ConfigInLines (config_without_bytes c)
config_stays c fits = with_streams c (map without_bytes c.streams) (length-map c.streams without_bytes) (all_mapped StreamInLines StreamInLines without_bytes stream_fits c.streams fits.each_stream) fits

-- the bytes of files stand in no line
stream_text : (s : Stream) → line_text (lines.Stream (without_bytes s)) ≡ line_text (lines.Stream s)
stream_text s = by s.a s.b s.content
  where
    by : (a b : ℕ) (content : Content) → line_text (lines.Stream (record { a = a; b = b; content = emptied content })) ≡ line_text (lines.Stream (record { a = a; b = b; content = content }))
    by a b (Fill byte) = refl
    by a b (File name bytes) = refl

text_cons : (l : Line) (ls : List Line) → text_of (l ∷ ls) ≡ line_text l ++ text_of ls
unfolding text_of
text_cons l ls = flat_map-cons line_text l ls

streams_text : (streams : List Stream) → text_of (stream_lines (map without_bytes streams)) ≡ text_of (stream_lines streams)
streams_text [] = refl
streams_text (s ∷ streams) =
    text_cons (lines.Stream (without_bytes s)) (stream_lines (map without_bytes streams))
    ∙ ap (λ t. t ++ text_of (stream_lines (map without_bytes streams))) (stream_text s)
    ∙ ap (λ t. line_text (lines.Stream s) ++ t) (streams_text streams)
    ∙ sym (text_cons (lines.Stream s) (stream_lines streams))

text_both : (a b c d : List Line) → text_of a ≡ text_of b → text_of c ≡ text_of d → text_of (a ++ c) ≡ text_of (b ++ d)
text_both a b c d front behind = text_append a c ∙ ap (λ t. t ++ text_of c) front ∙ ap (λ t. text_of b ++ t) behind ∙ sym (text_append b d)

config_text : (c : Config) → text_of (config_lines (config_without_bytes c)) ≡ text_of (config_lines c)
config_text c =
    let rest : List Line = clock_lines c.clock ++ flat_map block_lines c.blocks in
    let bare : List Line = stream_lines (map without_bytes c.streams) in
    text_both (settings_lines c) (settings_lines c) (service_lines c.services ++ (bare ++ rest)) (service_lines c.services ++ (stream_lines c.streams ++ rest)) refl
    (text_both (service_lines c.services) (service_lines c.services) (bare ++ rest) (stream_lines c.streams ++ rest) refl
    (text_both bare (stream_lines c.streams) rest rest (streams_text c.streams) refl))

configs_text : (cs : List Config) → text_of (flat_map config_lines (map config_without_bytes cs)) ≡ text_of (flat_map config_lines cs)
configs_text [] = refl
configs_text (c ∷ cs) =
    ap text_of (flat_map-cons config_lines (config_without_bytes c) (map config_without_bytes cs))
    ∙ text_both (config_lines (config_without_bytes c)) (config_lines c) (flat_map config_lines (map config_without_bytes cs)) (flat_map config_lines cs) (config_text c) (configs_text cs)
    ∙ ap text_of (sym (flat_map-cons config_lines c cs))

pub same_text : (plan : Plan) → canonical (without_files plan) ≡ canonical plan
same_text plan = text_both (front_lines plan) (front_lines plan) (flat_map config_lines (map config_without_bytes plan.configs)) (flat_map config_lines plan.configs) refl (configs_text plan.configs)

-- the lines of a text of lines
all_again : (ls : List Line) → AllByRecursion Clean ls → AllByRecursion LineAgain ls
all_again [] are = tt
all_again (l ∷ ls) are = (are.0.again, all_again ls are.1)

all_lines : (ls : List Line) → AllByRecursion Clean ls → AllByRecursion IsLine (map line_of ls)
all_lines [] are = tt
all_lines (l ∷ ls) are = (are.0.line, all_lines ls are.1)

text_is : (ls : List Line) → text_of ls ≡ flat_map (λ (x : List ℕ). x ++ 10 ∷ []) (map line_of ls)
unfolding text_of
text_is [] = refl
text_is (l ∷ ls) = flat_map-cons line_text l ls ∙ ap (λ t. line_text l ++ t) (text_is ls) ∙ sym (flat_map-cons (λ (x : List ℕ). x ++ 10 ∷ []) (line_of l) (map line_of ls))

-- a whole text that has been read
said_whole : (ls : List (List ℕ)) (read : ParsedText) (b : ConfigLines) → said_from nothing 1 ls ≡ Ok read → read.current ≡ Some b → version_in read.front ≡ two → is_incomplete two b.lines ≡ false → said ls ≡ Ok read
unfolding said ended
said_whole ls read b e last version whole =
    let lacking : is_incomplete (version_in read.front) b.lines ≡ false = subst (λ v. is_incomplete v b.lines ≡ false) (sym version) whole in
    rw (e, last, lacking) refl

-- the canonical text of a plan gives the plan again
pub read_again : (plan : Plan) → InLines plan → IsReadAgain plan
read_again plan fits =
    let bare : Plan = without_files plan in
    let count = length-map plan.configs config_without_bytes in
    let read = plan_read bare (rw count fits.some_config) (rw count fits.few_configs) (all_mapped ConfigInLines ConfigInLines config_without_bytes config_stays plan.configs fits.each_config) in
    let are = plan_clean plan fits in
    let ls : List (List ℕ) = map line_of (plan_lines bare) in
    let lines_are : lines_of (canonical plan) ≡ ls = ap lines_of (sym (same_text plan) ∙ text_is (plan_lines bare)) ∙ lines_again ls (all_lines (plan_lines bare) are) in
    let from_start : said_from nothing 1 ls ≡ Ok read.read = lines_said nothing 1 (plan_lines bare) (all_again (plan_lines bare) are) read.fine ∙ ap (λ (r : ParsedText). Ok r) read.is in
    let all : said ls ≡ Ok read.read = said_whole ls read.read read.block from_start read.last read.version read.whole in
    record {
      draft = drafted read.read;
      lines = ap lines_give lines_are ∙ text_gives ls read.read all;
      same = read.gives;
    }

-- two plans with one text
pub one_text : (a b : Plan) → InLines a → InLines b → canonical a ≡ canonical b → without_files a ≡ without_files b
one_text a b fits_a fits_b same =
    let first = read_again a fits_a in
    let second = read_again b fits_b in
    let drafts : first.draft ≡ second.draft = ok_is first.draft second.draft (sym first.lines ∙ ap (λ (t : List ℕ). lines_give (lines_of t)) same ∙ second.lines) in
    sym first.same ∙ ap (λ (d : DraftContents). d.plan) drafts ∙ second.same

pub one_plan : (a b : Plan) → without_files a ≡ without_files b → canonical a ≡ canonical b
one_plan a b same = sym (same_text a) ∙ ap canonical same ∙ same_text b

text_utf8 : (ls : List Line) → AllByRecursion Clean ls → IsUtf8 (text_of ls)
text_utf8 [] are = subst IsUtf8 (sym no_text) IsUtf8-nil
text_utf8 (l ∷ ls) are =
    let fed : IsUtf8 (10 ∷ []) = IsUtf8-from_ascii (10 ∷ []) (IsAscii-cons 10 [] (omega arith) IsAscii-nil) in
    subst IsUtf8 (sym (text_cons l ls)) (IsUtf8-append (line_text l) (text_of ls) (IsUtf8-append (line_of l) (10 ∷ []) are.0.utf8 fed) (text_utf8 ls are.1))

-- the canonical text of a plan is UTF-8
pub canonical_utf8 : (plan : Plan) → InLines plan → IsUtf8 (canonical plan)
canonical_utf8 plan fits = subst IsUtf8 (same_text plan) (text_utf8 (plan_lines (without_files plan)) (plan_clean plan fits))
