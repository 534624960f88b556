use Rattle.std.proofs.Common.{List, ◌++◌, subst, is_some}
use Rattle.drm_bits.specs.Fields.{spelled}
use Rattle.drm_sdc.specs.declared.channels.Channel15.{Channel15}
use Rattle.drm_sdc.specs.Bodies.{optional, channel_fields}
use Rattle.drm_bits.specs.Sink.{WroteBits}
use Rattle.drm_bits.proofs.WroteLemmas.{then, join, wrote_flag}
use Rattle.drm_sdc.proofs.write_body.write_frequencies.Goals as goal

pub returns-clause-wrote : goal.returns-clause-wrote
returns-clause-wrote c =
    let list : List Channel15 = c.args.list.now in
    let channels = subst (λ (l : List Channel15). WroteBits (spelled (channel_fields l)) c.put_optional-2.new.sink c.write_channels.new.sink) c.as_slice.ensures c.write_channels.ensures.wrote in
    let behind = join (optional c.args.region) (channel_fields list) (then c.put_optional-2.ensures.wrote channels) in
    let rest = join (optional c.args.restriction) (optional c.args.region ++ channel_fields list) (then c.put_optional.ensures.wrote behind) in
    let restriction = wrote_flag c.is_some.result (is_some c.args.restriction) c.is_some.ensures c.put_flag-3.ensures.wrote in
    let region = wrote_flag c.is_some-2.result (is_some c.args.region) c.is_some-2.ensures c.put_flag-4.ensures.wrote in
    then c.put_flag.ensures.wrote (then c.put_flag-2.ensures.wrote (then restriction (then region rest)))
