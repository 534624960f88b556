-- A source in memory.
use Rattle.std.specs.Prelude.{ℕ, ◌≡◌, ◌<◌, List, [], ◌++◌, length, take, drop, min, Contains}
use Rattle.drm_links.specs.Known.{Known, one_more, contents_for}
use Rattle.drm_links.specs.Source.{Input}
use Rattle.drm_links.specs.declared.source.ReadOut.{ReadOut}
use Rattle.drm_links.specs.declared.source.ReadOut.TheVariants.{Got, End, Failed}

-- the bytes left, the numbers of the calls, from 0, that are to fail, the most bytes that a call gives, the number of
-- calls so far, and how many of them failed
pub record SourceState : Type 0 where
  pub left : List ℕ
  pub failing : List ℕ
  pub piece : ℕ
  pub calls : ℕ
  pub faults : ℕ

abbrev pub source_known : SourceState → Known Input
source_known source =
    record { faults = source.faults; contents = contents_for source.calls (record { left = source.left; calls = source.calls }) }

-- A call fails exactly where its number is to fail, and then takes nothing. Any other call is the end exactly where
-- no byte is left. Else it gives as many of the next bytes as the buffer, the piece and what is left allow, and the
-- rest of the buffer is as before.
abbrev pub MemSourceReads : ReadOut → List ℕ → List ℕ → SourceState → SourceState → Type 0
MemSourceReads (Got n) old new before after =
    (Contains before.failing before.calls → ⊥)
    × (0 < length before.left)
    × (n ≡ min (min (length old) before.piece) (length before.left))
    × (new ≡ take n before.left ++ drop n old)
    × (after ≡ record before { left = drop n before.left; calls = one_more before.calls })
MemSourceReads End old new before after =
    (Contains before.failing before.calls → ⊥)
    × (before.left ≡ [])
    × (new ≡ old)
    × (after ≡ record before { calls = one_more before.calls })
MemSourceReads Failed old new before after =
    Contains before.failing before.calls
    × (new ≡ old)
    × (after ≡ record before { calls = one_more before.calls; faults = one_more before.faults })
