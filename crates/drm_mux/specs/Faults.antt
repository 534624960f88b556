-- When a description and what it describes don't agree.
use Rattle.std.specs.Prelude.{ℕ, ◌≡◌, ◌≢◌, ◌<◌, List, slice_index}
use Rattle.drm_bits.specs.declared.description.MuxDesc.{MuxDesc}
use Rattle.drm_mux.specs.declared.fault.MuxFault.{MuxFault}
use Rattle.drm_mux.specs.declared.fault.MuxFault.TheVariants.{SdciLength, SdciFront, StreamLength, FrameLength}
use Rattle.drm_mux.specs.declared.frame.Spans.{Spans}
use Rattle.drm_mux.specs.Frame.{stream_length}
use Rattle.drm_mux.specs.Sdci.{IsSdciLength, HasZeroFront}

-- so many bits and these bytes are no value, and this is why
abbrev pub IsSdciFault : ℕ → List ℕ → MuxFault → Type 0
IsSdciFault bits bytes (SdciLength stands) = (stands ≡ bits) × (¬ IsSdciLength bits)
IsSdciFault bits bytes SdciFront = IsSdciLength bits × (¬ HasZeroFront bytes)
IsSdciFault bits bytes (StreamLength stream stands described) = ⊥
IsSdciFault bits bytes (FrameLength stands described) = ⊥

-- Stream k is the first described one that has another length.
pub record IsFirstWrong (d : MuxDesc) (spans : Spans) (k : ℕ) : Type 0 where
  pub described : k < d.count
  pub wrong : slice_index spans.len k ≢ stream_length d k
  pub first : (j : ℕ) → j < k → slice_index spans.len j ≡ stream_length d j

abbrev pub wrong_length : MuxDesc → Spans → ℕ → MuxFault
wrong_length d spans k = StreamLength k (slice_index spans.len k) (stream_length d k)

-- the fault names the first wrong length
abbrev pub NamesFirstWrong : MuxDesc → Spans → MuxFault → Type 0
NamesFirstWrong d spans fault = (k : ℕ) × IsFirstWrong d spans k × (fault ≡ wrong_length d spans k)
