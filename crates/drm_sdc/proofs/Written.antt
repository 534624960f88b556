-- Octets and frequencies that are written one behind another.
use Rattle.std.proofs.Common.{◌≡◌, ℕ, zero, suc, ◌+◌, List, [], ◌∷◌, ◌++◌, Bool, refl, sym, ◌∙◌, ap, subst, arith, append_assoc, replicate}
use Rattle.std.proofs.lemmas.List.{append-nil}
use Rattle.drm_bits.specs.Bits.{digits, bits_of}
use Rattle.std.specs.Int.{from_bool}
use Rattle.drm_bits.specs.Fields.{spelled}
use Rattle.drm_bits.specs.Sink.{WroteBits}
use Rattle.drm_bits.specs.declared.bit_sink.BitSink.{BitSink}
use Rattle.drm_bits.proofs.WroteLemmas.{each}
use Rattle.drm_sdc.specs.declared.channels.Channel15.{Channel15}
use Rattle.drm_sdc.specs.Bodies.{octets, channel_fields}

pub octets_bits : (bytes : List ℕ) → bits_of bytes ≡ spelled (octets bytes)
octets_bits [] = refl
octets_bits (b ∷ bytes) = ap (λ l. digits 8 b ++ l) (octets_bits bytes)

pub wrote_octets : {s t : BitSink} (bytes : List ℕ) → WroteBits (bits_of bytes) s t → WroteBits (spelled (octets bytes)) s t
wrote_octets {s} {t} bytes x = subst (λ (l : List Bool). WroteBits l s t) (octets_bits bytes) x

pub bytes_each : (bytes : List ℕ) → each (digits 8) bytes ≡ bits_of bytes
bytes_each [] = refl
bytes_each (b ∷ bytes) = ap (λ l. digits 8 b ++ l) (bytes_each bytes)

zeros_next : (n : ℕ) → bits_of (replicate n 0) ++ digits 8 0 ≡ bits_of (replicate (suc n) 0)
zeros_next zero = sym (append-nil (digits 8 0))
zeros_next (suc n) = append_assoc (digits 8 0) (bits_of (replicate n 0)) (digits 8 0) ∙ ap (λ l. digits 8 0 ++ l) (zeros_next n)

pub zeros_more : (n : ℕ) → bits_of (replicate n 0) ++ digits 8 0 ≡ bits_of (replicate (n + 1) 0)
zeros_more n = let next : suc n ≡ n + 1 = omega arith in zeros_next n ∙ ap (λ m. bits_of (replicate m 0)) next

abbrev pub channel_bits : Channel15 → List Bool
channel_bits c = digits 1 (from_bool c.first) ++ digits 15 c.number

pub channels_each : (cs : List Channel15) → each channel_bits cs ≡ spelled (channel_fields cs)
channels_each [] = refl
channels_each (c ∷ cs) =
    append_assoc (digits 1 (from_bool c.first)) (digits 15 c.number) (each channel_bits cs)
    ∙ ap (λ l. digits 1 (from_bool c.first) ++ (digits 15 c.number ++ l)) (channels_each cs)
