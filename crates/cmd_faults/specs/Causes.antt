-- What failed of the outside in a run, by how the run ended.
use Rattle.std.specs.Prelude.{◌≡◌, ◌⊎◌}
use Rattle.drm_links.specs.Known.{Known, HasFailed}

-- One call failed of one of two objects where this happened, and else none of either.
pub record OneFailed {X Y : Type 0} (one one' : Known X) (other other' : Known Y) (Happened : Type 0) : Type 0 where
  pub once : Happened → (HasFailed one one' × (other'.faults ≡ other.faults)) ⊎ (HasFailed other other' × (one'.faults ≡ one.faults))
  pub same : (Happened → ⊥) → (one'.faults ≡ one.faults) × (other'.faults ≡ other.faults)

-- No call failed, or one did and the run ended so: a link couldn't be opened. Where an open link fails, the dock counts nothing.
abbrev pub OpeningFailed : {X : Type 0} → Known X → Known X → Type 0 → Type 0
OpeningFailed before after Ended = (after.faults ≡ before.faults) ⊎ (Ended × HasFailed before after)
