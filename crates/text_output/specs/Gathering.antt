-- Texts that are gathered on their way out.
use Rattle.std.specs.Prelude.{ℕ, ◌≡◌, List, [], ◌++◌, Result, OnOk, OnErr, IsOk, IsErr}
use Rattle.drm_links.specs.Known.{Known, HasCause}
use Rattle.drm_links.specs.Sink.{Output, OutputsText, IsPrefix, WritesWhole}

-- A text was put behind those that were gathered: what was written and what is gathered now are all of them. Or a write failed, and
-- a front of them was written.
pub record PutsText {E : Type 0} (result : Result (Unit {0}) E) (old new : List ℕ) (before after : Known Output) (text : List ℕ) : Type 0 where
  pub put : OnOk result (OutputsText before after (λ written. written ++ new ≡ old ++ text))
  pub front : OnErr result (OutputsText before after (IsPrefix (old ++ text)))
  pub cause : HasCause before after (IsErr result)

-- All that was gathered was written, and nothing is any more. Or a write failed, and a front of it was written. Where nothing was
-- gathered the sink isn't asked.
pub record FlushesText {E : Type 0} (result : Result (Unit {0}) E) (old new : List ℕ) (before after : Known Output) : Type 0 where
  pub writes : WritesWhole result before after old
  pub none : OnOk result (new ≡ [])
  pub nothing : old ≡ [] → IsOk result × (after ≡ before)
