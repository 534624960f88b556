use Rattle.std.proofs.Common.{◌≡◌, ℕ, true, false, Bool, List, drop, sym, ◌∙◌, subst}
use Rattle.std.specs.Prelude.{IfOk}
use Rattle.drm_bits.specs.Bits.{front, bit}
use Rattle.drm_sdc.specs.declared.body.Body.{Body}
use Rattle.drm_sdc.specs.Reading.{app_from, packet_from, sync_from}
use Rattle.drm_sdc.proofs.application.read_application.Goals as goal

in_packets : (b0 b1 b2 b3 : List Bool) (short stream : ℕ) (bytes : List ℕ)
    → b1 ≡ drop 2 b0 → b2 ≡ drop 2 b1 → b3 ≡ drop 1 b2 → short ≡ front 2 b0 → stream ≡ front 2 b1 → bit b2 ≡ true
    → packet_from short stream b3 bytes ≡ app_from b0 bytes
in_packets b0 b1 b2 b3 short stream bytes d1 d2 d3 e1 e2 e3 = cc

in_stream : (b0 b1 b2 b3 : List Bool) (short stream : ℕ) (bytes : List ℕ)
    → b1 ≡ drop 2 b0 → b2 ≡ drop 2 b1 → b3 ≡ drop 1 b2 → short ≡ front 2 b0 → stream ≡ front 2 b1 → bit b2 ≡ false
    → sync_from short stream b3 bytes ≡ app_from b0 bytes
in_stream b0 b1 b2 b3 short stream bytes d1 d2 d3 e1 e2 e3 = cc

pub returns-then-take_flag : goal.returns-then-take_flag
returns-then-take_flag c =
    let same = in_packets _ _ _ _ _ _ c.args.bytes.now c.take_u8-short.ensures.rest c.take_u8-stream.ensures.rest c.take_flag.ensures.rest
    c.take_u8-short.ensures.number c.take_u8-stream.ensures.number (sym c.take_flag.ensures.bit ∙ c.if-take_flag.true) in
    subst (λ (body : Body). IfOk c.read_packet.result (λ b. b ≡ body)) same c.read_packet.ensures

pub returns-else-take_flag : goal.returns-else-take_flag
returns-else-take_flag c =
    let same = in_stream _ _ _ _ _ _ c.args.bytes.now c.take_u8-short.ensures.rest c.take_u8-stream.ensures.rest c.take_flag.ensures.rest
    c.take_u8-short.ensures.number c.take_u8-stream.ensures.number (sym c.take_flag.ensures.bit ∙ c.if-take_flag.false) in
    subst (λ (body : Body). IfOk c.read_sync.result (λ b. b ≡ body)) same c.read_sync.ensures
