use Rattle.std.proofs.Common.{Result, Ok, Err, inl, inr, OnOk, IfErr}
use Rattle.std.proofs.lemmas.Result.{err_from_is_err_and}
use Rattle.mdi_items.proofs.streams.check_streams.Goals as goal

ok_more : {T E : Type 0} (r : Result T E) (P Q : Type 0) → (P → Q) → OnOk r P → OnOk r Q
ok_more (Ok x) P Q more is = more is
ok_more (Err e) P Q more is = tt

err_more : {T E : Type 0} (r : Result T E) (P Q : E → Type 0) → ((e : E) → P e → Q e) → IfErr r P → IfErr r Q
err_more (Ok x) P Q more is = tt
err_more (Err e) P Q more is = more e is

pub returns-in_err-check_stream-clause-right : goal.returns-in_err-check_stream-clause-right
returns-in_err-check_stream-clause-right c = let p = err_from_is_err_and c.from_residual.result c.from_residual.ensures.1 in rw p.1 tt

pub returns-in_err-check_stream-clause-fault : goal.returns-in_err-check_stream-clause-fault
returns-in_err-check_stream-clause-fault c =
    let p = err_from_is_err_and c.from_residual.result c.from_residual.ensures.1 in
    rw (p.1, p.2) (inl c.in_err-check_stream.ensures.fault)

pub returns-in_err-check_stream-2-clause-right : goal.returns-in_err-check_stream-2-clause-right
returns-in_err-check_stream-2-clause-right c = let p = err_from_is_err_and c.from_residual-in_err-check_stream-2.result c.from_residual-in_err-check_stream-2.ensures.1 in rw p.1 tt

pub returns-in_err-check_stream-2-clause-fault : goal.returns-in_err-check_stream-2-clause-fault
returns-in_err-check_stream-2-clause-fault c =
    let p = err_from_is_err_and c.from_residual-in_err-check_stream-2.result c.from_residual-in_err-check_stream-2.ensures.1 in
    rw (p.1, p.2) (inr (c.in_ok-check_stream.ensures.right, inl c.in_err-check_stream-2.ensures.fault))

pub returns-in_err-check_stream-3-clause-right : goal.returns-in_err-check_stream-3-clause-right
returns-in_err-check_stream-3-clause-right c = let p = err_from_is_err_and c.from_residual-in_err-check_stream-3.result c.from_residual-in_err-check_stream-3.ensures.1 in rw p.1 tt

pub returns-in_err-check_stream-3-clause-fault : goal.returns-in_err-check_stream-3-clause-fault
returns-in_err-check_stream-3-clause-fault c =
    let p = err_from_is_err_and c.from_residual-in_err-check_stream-3.result c.from_residual-in_err-check_stream-3.ensures.1 in
    rw (p.1, p.2) (inr (c.in_ok-check_stream.ensures.right, inr (c.in_ok-check_stream-2.ensures.right, inl c.in_err-check_stream-3.ensures.fault)))

pub returns-clause-right : goal.returns-clause-right
returns-clause-right c =
    ok_more c.check_stream-4.result _ _ (λ right. (c.in_ok-check_stream.ensures.right, c.in_ok-check_stream-2.ensures.right, c.in_ok-check_stream-3.ensures.right, right)) c.check_stream-4.ensures.right

pub returns-clause-fault : goal.returns-clause-fault
returns-clause-fault c =
    err_more c.check_stream-4.result _ _
    (λ f fault. inr (c.in_ok-check_stream.ensures.right, inr (c.in_ok-check_stream-2.ensures.right, inr (c.in_ok-check_stream-3.ensures.right, fault)))) c.check_stream-4.ensures.fault
