use Rattle.std.proofs.Common.{◌%◌, ◌/◌, ◌++◌, ℕ, Bool, Some, List, refl, sym, subst, ap, ◌∙◌, eq-eqb}
use Rattle.std.proofs.lemmas.List.{append-nil}
use Rattle.mdi_items.specs.Written.{written, spelled, block_piece}
use Rattle.drm_server.specs.Frames.{HasBlockWhere}
use Rattle.drm_server.proofs.payload.write_block_where.Goals as goal

pub returns-then-t-eq0-clause-written : goal.returns-then-t-eq0-clause-written
returns-then-t-eq0-clause-written c =
    let w = c.write_block.ensures.written in (
      Some w.0,
      subst (λ (b : Bool). HasBlockWhere b c.args.plan.now (c.args.t / 3) c.args.config.now.room (Some w.0)) (sym (eq-eqb (c.args.t % 3) 0 c.if-t-eq0.true)) (w.0, refl, w.1),
      w.2 ∙ ap (λ (l : List ℕ). written c.args.writer.now ++ l) (sym (append-nil (spelled (block_piece w.0.bits w.0.value)))),
    )
