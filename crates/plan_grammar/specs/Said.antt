-- What a line says, and its canonical line: numbers without leading zeros, hex in lower case, one space between words.
use Rattle.std.specs.Prelude.{ℕ, ◌≤◌, ◌<◌, ◌^◌, ◌++◌, Bool, List, [], ◌∷◌}
use Rattle.dcp_pft.specs.Carrying.{CarryFits}
use Rattle.drm_sdc.specs.declared.body.Body.{Body}
use Rattle.drm_sdc.specs.declared.body.Body.TheVariants as bodies
use Rattle.drm_schedule.specs.declared.stream.Content.{Content}
use Rattle.drm_schedule.specs.declared.stream.Content.TheVariants.{Fill, File}
use Rattle.drm_schedule.specs.Ranges.{StreamInLines, ServiceInLines, ClockInLines, EntityInLines}
use Rattle.plan_rows.specs.declared.keyword.Keyword.{Keyword}
use Rattle.plan_rows.specs.declared.keyword.Keyword.TheVariants as keywords
use Rattle.plan_rows.specs.Tables.{line_written}
use Rattle.plan_grammar.specs.declared.line.Line.{Line}
use Rattle.plan_grammar.specs.declared.line.Line.TheVariants as lines
use Rattle.plan_grammar.specs.declared.table.TheConstants.{TABLE}
use Rattle.plan_grammar.specs.Says.{body_values, values_of}

-- the keyword of the line that gives an entity with this body
abbrev pub keyword_of_body : Body → Keyword
keyword_of_body (bodies.Label short spare text) = keywords.Label
keyword_of_body (bodies.Freq sync layer restriction region list) = keywords.Freq
keyword_of_body (bodies.When id day start duration) = keywords.When
keyword_of_body (bodies.App short stream packet enhancement domain bytes) = keywords.App
keyword_of_body (bodies.Audio short stream coding sbr mode rate text enhancement coder spare config) = keywords.Audio
keyword_of_body (bodies.Language short spare language country) = keywords.Language
keyword_of_body _ = keywords.Raw

-- the keyword of a line that says this
abbrev pub keyword_said : Line → Keyword
keyword_said (lines.Version version) = keywords.Drmplan
keyword_said (lines.Carry carry) = keywords.Carry
keyword_said (lines.First seq dlfc) = keywords.First
keyword_said (lines.Length n) = keywords.Length
keyword_said (lines.Config start countdown) = keywords.Config
keyword_said (lines.Mode mode) = keywords.Mode
keyword_said (lines.Occupancy n) = keywords.Occupancy
keyword_said (lines.Depth short) = keywords.Depth
keyword_said (lines.Msc n) = keywords.Msc
keyword_said (lines.Sdc qam4) = keywords.Sdc
keyword_said (lines.Protection a b) = keywords.Protection
keyword_said (lines.Room n) = keywords.Room
keyword_said (lines.Service service) = keywords.Service
keyword_said (lines.Stream stream) = keywords.Stream
keyword_said (lines.Clock clock) = keywords.Clock
keyword_said (lines.Block from) = keywords.Block
keyword_said (lines.Entity entity) = keyword_of_body entity.body

-- the canonical line of what is said, without a line feed
abbrev pub canonical : Line → List ℕ
canonical line = line_written TABLE 2 (keyword_said line) (values_of line)

-- the canonical line with its line feed
abbrev pub line_text : Line → List ℕ
line_text line = canonical line ++ 10 ∷ []

-- the canonical line of an entity, with its line feed
abbrev pub entity_text : Bool → Body → List ℕ
entity_text version body = line_written TABLE 2 (keyword_of_body body) (body_values version body) ++ 10 ∷ []

-- a stream as its line says it: of a file there is only the name
abbrev pub detached : Line → Line
detached (lines.Stream stream) = lines.Stream (record { a = stream.a; b = stream.b; content = of stream.content })
  where
    of : Content → Content
    of (Fill byte) = Fill byte
    of (File name bytes) = File name []
detached line = line

-- what a line can say
abbrev pub LineInLines : Line → Type 0
LineInLines (lines.Version version) = Unit {0}
LineInLines (lines.Carry carry) = CarryFits carry
LineInLines (lines.First seq dlfc) = (seq < 2 ^ 16) × (dlfc < 2 ^ 32)
LineInLines (lines.Length n) = (1 ≤ n) × (n ≤ 1000000)
LineInLines (lines.Config start countdown) = (start < 1000000) × (countdown < 2 ^ 3)
LineInLines (lines.Mode mode) = Unit {0}
LineInLines (lines.Occupancy n) = n < 6
LineInLines (lines.Depth short) = Unit {0}
LineInLines (lines.Msc n) = n < 2 ^ 2
LineInLines (lines.Sdc qam4) = Unit {0}
LineInLines (lines.Protection a b) = (a < 2 ^ 2) × (b < 2 ^ 2)
LineInLines (lines.Room n) = n < 2 ^ 10
LineInLines (lines.Service service) = ServiceInLines service
LineInLines (lines.Stream stream) = StreamInLines stream
LineInLines (lines.Clock clock) = ClockInLines clock
LineInLines (lines.Block from) = from < 1000000
LineInLines (lines.Entity entity) = EntityInLines entity
