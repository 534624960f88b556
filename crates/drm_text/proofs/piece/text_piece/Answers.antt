use Rattle.std.proofs.Common.{ℕ, List, [], ◌∷◌, Some, None, take, subst, arith}
use Rattle.drm_text.specs.Message.{IsPieceOf}
use Rattle.drm_text.specs.Writing.{segment_of}
use Rattle.drm_text.proofs.Pieces.{piece_is, first_piece, later_piece, no_piece}
use Rattle.drm_text.proofs.piece.text_piece.Goals as goal

pub returns-then-place-eq0 : goal.returns-then-place-eq0
returns-then-place-eq0 c =
    subst (λ (m : List ℕ). IsPieceOf c.args.toggle m c.args.k (Some (255 ∷ 255 ∷ 255 ∷ 255 ∷ []))) c.as_bytes-bytes.ensures.value
    (piece_is c.args.toggle c.as_bytes-bytes.result.now c.args.k (segment_of c.part_at.result) (take c.write_segment-len.result c.write_segment-len.new.into) _ c.if-number-bytes.false
    (omega (arith, c.as_bytes-bytes.ensures.len, c.requires.at_least_one)) c.part_at.ensures c.write_segment-len.ensures.segment
    (first_piece (take c.write_segment-len.result c.write_segment-len.new.into) _ c.if-place-eq0.true))

pub returns-then-at-len : goal.returns-then-at-len
returns-then-at-len c =
    let few = c.write_segment-len.ensures.segment.1.few in
    subst (λ (m : List ℕ). IsPieceOf c.args.toggle m c.args.k (Some c.four.result)) c.as_bytes-bytes.ensures.value
    (piece_is c.args.toggle c.as_bytes-bytes.result.now c.args.k (segment_of c.part_at.result) (take c.write_segment-len.result c.write_segment-len.new.into) (Some c.four.result) c.if-number-bytes.false
    (omega (arith, c.as_bytes-bytes.ensures.len, c.requires.at_least_one)) c.part_at.ensures c.write_segment-len.ensures.segment
    (later_piece c.write_segment-len.new.into c.write_segment-len.result _ c.four.result (omega (arith, few, c.write_segment-len.ensures.end)) c.if-place-eq0.false c.if-at-len.true
    (omega (arith, c.write_segment-len.ensures.end)) c.four.ensures))

pub returns-else-at-len : goal.returns-else-at-len
returns-else-at-len c =
    let few = c.write_segment-len.ensures.segment.1.few in
    subst (λ (m : List ℕ). IsPieceOf c.args.toggle m c.args.k None) c.as_bytes-bytes.ensures.value
    (piece_is c.args.toggle c.as_bytes-bytes.result.now c.args.k (segment_of c.part_at.result) (take c.write_segment-len.result c.write_segment-len.new.into) None c.if-number-bytes.false
    (omega (arith, c.as_bytes-bytes.ensures.len, c.requires.at_least_one)) c.part_at.ensures c.write_segment-len.ensures.segment
    (no_piece c.write_segment-len.new.into c.write_segment-len.result _ (omega (arith, few, c.write_segment-len.ensures.end)) c.if-place-eq0.false c.if-at-len.false))
