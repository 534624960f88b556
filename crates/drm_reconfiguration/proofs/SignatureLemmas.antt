-- The test of two signatures is their equality.
use Rattle.std.proofs.Common.{rules, ◌≡◌, Bool, true, false, ◌&&◌, refl, subst, List, eqb, arith}
use Rattle.std.specs.Bool.{Decides}
use Rattle.std.specs.Cmp.Lexicographic.{pointwise}
use Rattle.std.proofs.lemmas.Slice.Eq.{slice_eq-Decides}
use Rattle.drm_bits.specs.declared.description.MuxDesc.{MuxDesc}
use Rattle.drm_bits.specs.declared.description.Part.{Part}
use Rattle.drm_bits.specs.contracts.description.MuxDescPartialEq.TheImpl as description
use Rattle.drm_bits.specs.contracts.description.PartPartialEq.TheImpl as part
use Rattle.drm_bits.specs.contracts.description.PartEq.TheImpl.Laws as part_laws
use Rattle.drm_fac.specs.declared.channel.Channel.{Channel}
use Rattle.drm_fac.specs.contracts.channel.ChannelPartialEq.TheImpl as channel
use Rattle.drm_fac.specs.declared.mode.Mode.{Mode}
use Rattle.drm_fac.specs.contracts.mode.ModePartialEq.TheImpl as mode
use Rattle.drm_reconfiguration.specs.declared.seen.Signature.{Signature}
use Rattle.drm_reconfiguration.specs.contracts.seen.SignatureEq.TheImpl.Laws as signature_laws
use Rattle.drm_reconfiguration.specs.Seen.{is_same}

mode_same : (a b : Mode) → mode.ghosts.eq a b ≡ true → a ≡ b
mode_same a b h = search rules

channel_same : (a b : Channel) → channel.ghosts.eq a b ≡ true → a ≡ b
channel_same a b h = search rules

part_same : (a b : Part) → Decides (part.ghosts.eq a b) (a ≡ b)
part_same a b = (search rules, λ e. subst (λ (x : Part). part.ghosts.eq a x ≡ true) e (part_laws.laws-law.refl a))

parts_same : (a b : List Part) → pointwise part.ghosts.eq a b ≡ true → a ≡ b
parts_same a b = (slice_eq-Decides part_same a b _ refl).0

both : (s t : Bool) → (s && t) ≡ true → (s ≡ true) × (t ≡ true)
both true t h = (refl, h)
both false t h = grind arith

description_same : (a b : MuxDesc) → description.ghosts.eq a b ≡ true → a ≡ b
description_same a b h =
    let parts : Bool = pointwise part.ghosts.eq a.parts b.parts in
    let prot_a = both (eqb a.prot_a b.prot_a) (eqb a.prot_b b.prot_b && (eqb a.count b.count && parts)) h in
    let prot_b = both (eqb a.prot_b b.prot_b) (eqb a.count b.count && parts) prot_a.1 in
    let count = both (eqb a.count b.count) parts prot_b.1 in
    let same = parts_same a.parts b.parts count.1 in
    search rules

by_fields : (a b : Signature) → a.mode ≡ b.mode → a.channel ≡ b.channel → a.mux ≡ b.mux → a ≡ b
by_fields a b mode_is channel_is mux_is = λ i. record { mode = mode_is i; channel = channel_is i; mux = mux_is i }

-- equal by the test are equal
pub is_same-equal : (a b : Signature) → is_same a b ≡ true → a ≡ b
is_same-equal a b h =
    let others : Bool = channel.ghosts.eq a.channel b.channel && description.ghosts.eq a.mux b.mux in
    let first = both (mode.ghosts.eq a.mode b.mode) others h in
    let rest = both (channel.ghosts.eq a.channel b.channel) (description.ghosts.eq a.mux b.mux) first.1 in
    by_fields a b (mode_same a.mode b.mode first.0) (channel_same a.channel b.channel rest.0) (description_same a.mux b.mux rest.1)

-- and equal are equal by the test
pub is_same-refl : (a b : Signature) → a ≡ b → is_same a b ≡ true
is_same-refl a b e = subst (λ (x : Signature). is_same a x ≡ true) e (signature_laws.laws-law.refl a)
