use Rattle.std.proofs.Common.{◌++◌, ◌∷◌, sym, subst}
use Rattle.drm_bits.specs.Fields.{field, flag, spelled}
use Rattle.drm_sdc.specs.declared.body.AppMode.{AppMode}
use Rattle.drm_sdc.specs.Bodies.{mode_fields, mode_length}
use Rattle.drm_bits.specs.Sink.{WroteBits}
use Rattle.drm_bits.proofs.WroteLemmas.{then, last}
use Rattle.drm_sdc.proofs.write_service.write_mode.Goals as goal

pub returns-in-Sync-clause-wrote : goal.returns-in-Sync-clause-wrote
returns-in-Sync-clause-wrote c =
    subst (λ (m : AppMode). WroteBits (spelled (mode_fields m ++ (flag c.args.enhancement ∷ field 3 c.args.domain ∷ mode_length m))) c.args.sink.now c.put_u8-in-Sync.new.self) (sym c.in-Sync.is)
    (then c.put_flag.ensures.wrote (then c.put_u8.ensures.wrote (then c.put_flag-in-Sync.ensures.wrote (last c.put_u8-in-Sync.ensures.wrote))))

pub returns-in-Packet-clause-wrote : goal.returns-in-Packet-clause-wrote
returns-in-Packet-clause-wrote c =
    subst (λ (m : AppMode). WroteBits (spelled (mode_fields m ++ (flag c.args.enhancement ∷ field 3 c.args.domain ∷ mode_length m))) c.args.sink.now c.put_u8-in-Packet-3.new.self) (sym c.in-Packet.is)
    (then c.put_flag-in-Packet.ensures.wrote (then c.put_flag-in-Packet-2.ensures.wrote (then c.put_u8-in-Packet.ensures.wrote (then c.put_flag-in-Packet-3.ensures.wrote (then c.put_u8-in-Packet-2.ensures.wrote (last c.put_u8-in-Packet-3.ensures.wrote))))))
