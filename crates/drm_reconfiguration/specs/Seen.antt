-- What a receiver sees of a logical frame.
use Rattle.std.specs.Prelude.{ℕ, ◌+◌, ◌-◌, ◌*◌, ◌<◌, ◌==◌, Bool, if◌then◌else◌, Option, Some, None}
use Rattle.drm_bits.specs.declared.description.MuxDesc.{MuxDesc}
use Rattle.drm_fac.specs.declared.channel.Channel.{Channel}
use Rattle.drm_fac.specs.declared.mode.Mode.{Mode}
use Rattle.drm_reconfiguration.specs.declared.seen.Seen.{Seen}
use Rattle.drm_reconfiguration.specs.declared.seen.Signature.{Signature}
use Rattle.drm_reconfiguration.specs.contracts.seen.SignaturePartialEq.TheImpl.{ghosts}

-- the signature of a frame: identity, index and last two bits of its channel parameters are set to 0
abbrev pub signature_of : Mode → Channel → MuxDesc → Signature
signature_of mode channel mux =
    record { mode = mode; channel = record channel { identity = 0; index = 0; last = 0 }; mux = mux }

-- whether two signatures are equal
abbrev pub is_same : Signature → Signature → Bool
is_same = ghosts.eq

-- one of the three places of a super frame, and an index of three bits
abbrev pub IsSeenInRange : Seen → Type 0
IsSeenInRange seen = (seen.position < 3) × (seen.index < 8)

-- the frame that a frame with this number names: with an index above 0, the first one of the super frame so many ahead
abbrev pub named_by : ℕ → Seen → Option ℕ
named_by frame seen =
    if seen.index == 0 then None else Some ((frame + 3 * seen.index) - seen.position)
