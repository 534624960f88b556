use Rattle.std.proofs.Common.{ℕ, ◌≡◌, ◌%◌, ◌≤◌, ◌++◌, List, take, Option, IfSome, sym, ap, subst, ◌∙◌, arith, rules}
use Rattle.drm_text.specs.Joining.{is_complete}
use Rattle.drm_text.specs.Buffers.{front_of, segment_in}
use Rattle.drm_text.proofs.Gathers.{with_piece, grows}
use Rattle.drm_text.proofs.gather.SegmentBuffer.take.Goals as goal

pub returns-else-is_complete-clause-gathered : goal.returns-else-is_complete-clause-gathered
returns-else-is_complete-clause-gathered c =
    let room : List ℕ = c.args.self.now.bytes in
    let bytes : List ℕ = take c.in-Some.len room in
    let P : Option ℕ → Type 0 = λ o. IfSome o (λ n. (n ≤ 16) × (n % 4 ≡ 0)) in
    let w = subst P c.in-Some.is c.requires.within in
    let behind = with_piece room c.put_at.new.into c.args.piece c.in-Some.len (first_of (omega arith, search rules)) (omega (arith, w.0, c.requires.room)) c.put_at.ensures.put in (
      bytes ++ c.args.piece,
      grows (segment_in c.args.self.now) bytes c.args.piece (ap (front_of room) c.in-Some.is) (sym c.is_start.ensures ∙ c.if-is_start.false)
          (sym (ap is_complete behind) ∙ (sym c.is_complete.ensures ∙ c.if-is_complete.false)),
    )
