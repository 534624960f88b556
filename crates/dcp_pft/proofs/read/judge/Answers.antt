use Rattle.std.proofs.Common.{◌≡◌, ℕ, ◌+◌, ◌/◌, ◌≤◌, Option, None, Some, [], ◌∷◌, sym, refl, ◌∙◌, arith, length-drop, inl, inr}
use Rattle.std.specs.Prelude.{IfSome, IsSomeAnd}
use Rattle.std.proofs.lemmas.Grind.{common_steps}
use Rattle.std.proofs.lemmas.Result.{err_from_is_err_and}
use Rattle.dcp_pft.specs.declared.shape.Rs.{Rs}
use Rattle.dcp_pft.specs.declared.fault.PftFault.TheVariants.{Count, Index, PlenMismatch, RsK, RsZ, TooMany, TooLarge, Chunks}
use Rattle.dcp_pft.specs.Faults.{code, head_size, NoneOf}
use Rattle.dcp_pft.specs.Reading.{number_rows}
use Rattle.dcp_pft.proofs.Table.{first_behind, none_both, code_first, code_right, handed}
use Rattle.dcp_pft.proofs.read.judge.Goals as goal

-- so many bytes have a chunk
no_chunk : (o : Option Rs) (size : ℕ) → IfSome o (λ rs. rs.k + 48 ≤ size) → IsSomeAnd o (λ rs. size / (rs.k + 48) ≡ 0) → ⊥
no_chunk None size room none = none
no_chunk (Some rs) size room none =
    let one : 1 ≤ size / (rs.k + 48) = grind (arith, common_steps, room) in
    omega (arith, one, none)

pub returns-in_err-judge_code-clause-fault : goal.returns-in_err-judge_code-clause-fault
returns-in_err-judge_code-clause-fault c =
    let p = err_from_is_err_and c.from_residual.result c.from_residual.ensures.1 in
    let fault = c.in_err-judge_code.field-0.0 in
    let head = c.requires.head in
    let none : NoneOf (Count ∷ Index ∷ PlenMismatch ∷ []) c.args.datagram.now = (λ row. absurd (omega arith), (λ row. absurd (omega arith), (λ row. row (omega (arith, length-drop (head_size c.args.datagram.now) c.args.datagram.now)), tt))) in
    handed c.from_residual.result p.0 fault number_rows c.args.datagram.now p.1 p.2 (code_first fault c.args.head.now.rs c.args.datagram.now none head.rs c.in_err-judge_code.ensures)

pub returns-then-head-eq0-clause-fault : goal.returns-then-head-eq0-clause-fault
returns-then-head-eq0-clause-fault c = inl (sym c.requires.head.count ∙ c.if-head-eq0.true, refl)

pub returns-then-head-clause-fault : goal.returns-then-head-clause-fault
returns-then-head-clause-fault c =
    let head = c.requires.head in
    inr (λ row. absurd (omega arith), inl (omega arith, refl))

pub returns-then-from-datagram-clause-fault : goal.returns-then-from-datagram-clause-fault
returns-then-from-datagram-clause-fault c =
    let head = c.requires.head in
    inr (λ row. absurd (omega arith), inr (λ row. absurd (omega arith), inl (λ same. absurd (omega (arith, length-drop (head_size c.args.datagram.now) c.args.datagram.now)), refl)))

pub returns-then-head-gt-MOST_FRAGMENTS-clause-fault : goal.returns-then-head-gt-MOST_FRAGMENTS-clause-fault
returns-then-head-gt-MOST_FRAGMENTS-clause-fault c =
    let head = c.requires.head in
    let none : NoneOf (Count ∷ Index ∷ PlenMismatch ∷ []) c.args.datagram.now = (λ row. absurd (omega arith), (λ row. absurd (omega arith), (λ row. row (omega (arith, length-drop (head_size c.args.datagram.now) c.args.datagram.now)), tt))) in
    first_behind (Count ∷ Index ∷ PlenMismatch ∷ []) (RsK ∷ RsZ ∷ TooMany ∷ TooLarge ∷ Chunks ∷ []) _ c.args.datagram.now none
    (first_behind (RsK ∷ RsZ ∷ []) (TooMany ∷ TooLarge ∷ Chunks ∷ []) _ c.args.datagram.now (code_right c.args.head.now.rs c.args.datagram.now head.rs c.in_ok-judge_code.ensures) (inl (omega arith, refl)))

pub returns-then-size-gt-MOST_CARRIED-clause-fault : goal.returns-then-size-gt-MOST_CARRIED-clause-fault
returns-then-size-gt-MOST_CARRIED-clause-fault c =
    let head = c.requires.head in
    let none : NoneOf (Count ∷ Index ∷ PlenMismatch ∷ []) c.args.datagram.now = (λ row. absurd (omega arith), (λ row. absurd (omega arith), (λ row. row (omega (arith, length-drop (head_size c.args.datagram.now) c.args.datagram.now)), tt))) in
    first_behind (Count ∷ Index ∷ PlenMismatch ∷ []) (RsK ∷ RsZ ∷ TooMany ∷ TooLarge ∷ Chunks ∷ []) _ c.args.datagram.now none
    (first_behind (RsK ∷ RsZ ∷ []) (TooMany ∷ TooLarge ∷ Chunks ∷ []) _ c.args.datagram.now (code_right c.args.head.now.rs c.args.datagram.now head.rs c.in_ok-judge_code.ensures) (inr (λ row. absurd (omega arith), inl (rw (c.from-2.ensures, head.len, head.count) at c.if-size-gt-MOST_CARRIED.true, refl))))

pub returns-then-has_no_chunk-clause-fault : goal.returns-then-has_no_chunk-clause-fault
returns-then-has_no_chunk-clause-fault c =
    let head = c.requires.head in
    let few = rw (c.from-2.ensures, head.len, head.count) at c.if-size-gt-MOST_CARRIED.false in
    let chunks = rw (c.from-2.ensures, head.len, head.count, head.rs) at c.if-has_no_chunk.ensures in
    let none : NoneOf (Count ∷ Index ∷ PlenMismatch ∷ []) c.args.datagram.now = (λ row. absurd (omega arith), (λ row. absurd (omega arith), (λ row. row (omega (arith, length-drop (head_size c.args.datagram.now) c.args.datagram.now)), tt))) in
    first_behind (Count ∷ Index ∷ PlenMismatch ∷ []) (RsK ∷ RsZ ∷ TooMany ∷ TooLarge ∷ Chunks ∷ []) _ c.args.datagram.now none
    (first_behind (RsK ∷ RsZ ∷ []) (TooMany ∷ TooLarge ∷ Chunks ∷ []) _ c.args.datagram.now (code_right c.args.head.now.rs c.args.datagram.now head.rs c.in_ok-judge_code.ensures)
    (inr (λ row. absurd (omega arith), inr (λ row. absurd (omega (arith, few, row)), inl (chunks, refl)))))

pub returns-clause-right : goal.returns-clause-right
returns-clause-right c =
    let head = c.requires.head in
    let few = rw (c.from-2.ensures, head.len, head.count) at c.if-size-gt-MOST_CARRIED.false in
    let chunks = rw (c.from-2.ensures, head.len, head.count, head.rs) at c.if-has_no_chunk.ensures in
    let none : NoneOf (Count ∷ Index ∷ PlenMismatch ∷ []) c.args.datagram.now = (λ row. absurd (omega arith), (λ row. absurd (omega arith), (λ row. row (omega (arith, length-drop (head_size c.args.datagram.now) c.args.datagram.now)), tt))) in
    none_both (Count ∷ Index ∷ PlenMismatch ∷ []) (RsK ∷ RsZ ∷ TooMany ∷ TooLarge ∷ Chunks ∷ []) c.args.datagram.now none
    (none_both (RsK ∷ RsZ ∷ []) (TooMany ∷ TooLarge ∷ Chunks ∷ []) c.args.datagram.now (code_right c.args.head.now.rs c.args.datagram.now head.rs c.in_ok-judge_code.ensures)
    (λ row. absurd (omega arith), (λ row. absurd (omega (arith, few, row)), (λ row. no_chunk (code c.args.datagram.now) _ chunks row, tt))))
