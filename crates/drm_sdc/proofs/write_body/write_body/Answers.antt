use Rattle.std.proofs.Common.{sym, subst}
use Rattle.drm_bits.specs.Fields.{spelled}
use Rattle.drm_sdc.specs.declared.body.Body.{Body}
use Rattle.drm_sdc.specs.Bodies.{body_fields}
use Rattle.drm_bits.specs.Sink.{WroteBits}
use Rattle.drm_sdc.proofs.write_body.write_body.Goals as goal

pub returns-in-Raw-clause-wrote : goal.returns-in-Raw-clause-wrote
returns-in-Raw-clause-wrote c =
    subst (λ (b : Body). WroteBits (spelled (body_fields b)) c.args.sink.now c.write_raw.new.sink) (sym c.in-Raw.is) (c.write_raw.ensures.wrote c.in-Raw.kind)
