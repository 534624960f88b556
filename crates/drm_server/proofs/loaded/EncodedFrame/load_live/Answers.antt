use Rattle.std.proofs.Common.{◌≡◌, ◌++◌, ◌∙◌, ℕ, List, take, drop, length, sym, ap, subst, arith, rules}
use Rattle.std.proofs.lemmas.List.{take_at}
use Rattle.drm_schedule.specs.declared.plan.Plan.{Plan}
use Rattle.live_streams.specs.Live.{live_schedule}
use Rattle.drm_server.specs.Datagrams.{CarriesFrame}
use Rattle.drm_server.specs.Frames.{IsPacketAt}
use Rattle.drm_server.specs.ServerState.{only_at}
use Rattle.drm_server.proofs.loaded.EncodedFrame.load_live.Goals as goal

pub invariant_of-self : goal.invariant_of-self
invariant_of-self c =
    let s = c.self.inside in
    let v = c.self.invariant in
    let w = c.write_front-self-inside in
    let e = c.encode-self-inside in
    let plan : List ℕ → Plan = λ piece. live_schedule c.args.live.now (only_at c.args.t piece) s.plan.now in
    let buffer : take s.buffer.len (e.new.into ++ drop (length e.new.into) s.buffer.items) ≡ e.new.into =
    take_at e.new.into (drop (length e.new.into) s.buffer.items) s.buffer.len (omega (arith, e.ensures.room, v.1, s.buffer.ok.0)) in
    let piece : take s.piece.len (w.new.into ++ drop (length w.new.into) s.piece.items) ≡ w.new.into =
    take_at w.new.into (drop (length w.new.into) s.piece.items) s.piece.len (omega (arith, w.ensures.same_length, v.6, s.piece.ok.0)) in
    let came : c.args.piece.now ≡ take w.result (take s.piece.len (w.new.into ++ drop (length w.new.into) s.piece.items)) = sym (ap (take w.result) piece ∙ w.ensures.front) in
    let packet : IsPacketAt (plan c.args.piece.now) c.args.t (take e.result (take s.buffer.len (e.new.into ++ drop (length e.new.into) s.buffer.items))) = rw buffer e.ensures.packet in (
      search rules,
      ap length buffer ∙ e.ensures.room,
      e.ensures.within,
      subst (λ p. IsPacketAt (plan p) c.args.t (take e.result (take s.buffer.len (e.new.into ++ drop (length e.new.into) s.buffer.items)))) came packet,
      e.ensures.len,
      e.ensures.in_range,
      ap length piece ∙ omega (arith, w.ensures.same_length, v.6),
      subst (λ p. CarriesFrame (plan p) c.args.t e.new.datagrams) came e.ensures.datagrams,
    )
