use Rattle.std.proofs.Common.{◌+◌, ◌*◌, ◌++◌, List, ℕ, take, ◌∙◌, ap, arith}
use lib.Lanes.{put_chunk}
use Rattle.hex.specs.Hex.{encode_lower}
use Rattle.text_output.proofs.Pairs.{two_written}
use Rattle.text_output.proofs.digits.put_sixteen.Goals as goal

pub returns-clause-put : goal.returns-clause-put
returns-clause-put c =
    let at : ℕ = c.args.at in
    let old : List ℕ = c.args.digits.now in
    ap (take (2 * at + 32)) (c.write_lanes-2.ensures ∙ ap (λ (l : List ℕ). put_chunk (2 * at + 16) l c.digits_of.result.1) c.write_lanes.ensures)
    ∙ (two_written at old c.digits_of.result.0 c.digits_of.result.1 c.digits_of.ensures.length.0 c.digits_of.ensures.length.1 (omega (arith, c.requires.within, c.requires.room))
    ∙ ap (λ l. take (2 * at) old ++ l) (c.digits_of.ensures.digits ∙ ap encode_lower c.lanes_from-lanes.ensures))
