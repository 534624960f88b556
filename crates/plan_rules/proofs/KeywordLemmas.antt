-- What a line of an entity counts as.
use Rattle.std.proofs.Common.{◌≡◌, ℕ, Bool, true, false, refl}
use Rattle.drm_sdc.specs.declared.body.Body.{Body}
use Rattle.drm_sdc.specs.declared.body.Body.TheVariants as bodies
use Rattle.plan_rows.specs.declared.keyword.Keyword.TheVariants as keywords
use Rattle.plan_grammar.specs.Said.{keyword_of_body}
use Rattle.plan_rows.specs.Keywords.{same}
use Rattle.plan_rules.specs.Rules.{is_entity}

-- how many there are of what lines list
abbrev pub one : Bool → ℕ
one true = 1
one false = 0

pub entity_is_no_stream : (b : Body) → same (keyword_of_body b) keywords.Stream ≡ false
entity_is_no_stream (bodies.Mux desc) = refl
entity_is_no_stream _ = refl

pub entity_is_one : (b : Body) → is_entity (keyword_of_body b) ≡ true
entity_is_one (bodies.Mux desc) = refl
entity_is_one _ = refl

pub entity_is_no_block : (b : Body) → same (keyword_of_body b) keywords.Block ≡ false
entity_is_no_block (bodies.Label short spare text) = refl
entity_is_no_block (bodies.Freq sync layer restriction region list) = refl
entity_is_no_block (bodies.When id day start duration) = refl
entity_is_no_block (bodies.App short stream packet enhancement domain bytes) = refl
entity_is_no_block (bodies.Audio short stream coding sbr mode rate text enhancement coder spare config) = refl
entity_is_no_block (bodies.Language short spare language country) = refl
entity_is_no_block _ = refl
