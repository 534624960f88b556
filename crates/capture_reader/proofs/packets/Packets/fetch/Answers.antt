use Rattle.std.proofs.Common.{◌≡◌, ◌≤◌, ◌+◌, ◌-◌, length, take, min, ap, ◌∙◌, arith}
use Rattle.capture_reader.specs.Walking.{WalkerState, after_put}
use Rattle.capture_reader.proofs.FetchingLemmas.{front_same, fetch_got, fetch_long}
use Rattle.capture_reader.proofs.packets.Packets.fetch.Goals as goal

pub returns-in-Got-clause-fetches : goal.returns-in-Got-clause-fetches
returns-in-Got-clause-fetches g c =
    fetch_long c.args.self.now c.self.inside.walker (g.I.Source.known c.args.input.now) (g.I.Source.known c.read_some.new.input) c.in-Got.field-0 c.taken-left.result c.read_some.new.scratch
    c.self.view_is c.taken-left.ensures c.if-left-eq0.true c.self.invariant.1 c.in-Got.ensures.moves_bytes.0 c.in-Got.ensures.moves_bytes.1 (c.in-Got.ensures.cause.same (λ failed. cc)) c.in-Got.ensures.bytes c.in-Got.ensures.counts_call

pub returns-in-Got-2-clause-fetches : goal.returns-in-Got-2-clause-fetches
returns-in-Got-2-clause-fetches g c =
    let same_at : c.self.inside.walker.at ≡ c.args.self.now.at = ap (λ (w : WalkerState). w.at) c.self.view_is in
    let same_held : c.self.inside.walker.held ≡ c.args.self.now.held = ap (λ (w : WalkerState). w.held) c.self.view_is in
    let size : c.args.self.now.at + length c.args.self.now.held + (4294967295 - c.taken-left.result) ≡ 4294967295 =
    omega (arith, c.taken-left.ensures, c.self.invariant.1, same_at, ap length same_held) in
    let room : c.in-Got.field-0 ≤ 65536 = omega (arith, c.read_some.auto.scratch, ap length c.deref_mut.ensures.value, c.self.invariant.0, c.in-Got.ensures.moves_bytes.1) in
    let written : c.in-Got.field-0 ≤ c.self.inside.scratch.len = omega (arith, c.read_some.auto.scratch, c.deref_mut.ensures.len, c.in-Got.ensures.moves_bytes.1) in
    fetch_got c.args.self.now c.put.new.self (g.I.Source.known c.args.input.now) (g.I.Source.known c.read_some.new.input) c.in-Got.field-0 c.put.result (4294967295 - c.taken-left.result) c.read_some.new.scratch c.deref.result.now
    c.requires.cut size c.in-Got.ensures.moves_bytes.0 c.in-Got.ensures.moves_bytes.1 room c.in-Got.ensures.within_limit c.if-left-eq0.false
    (front_same c.in-Got.field-0 c.self.inside.scratch.len c.deref.result.now c.read_some.new.scratch _ c.deref.ensures.value written c.in-Got.ensures.moves_bytes.1)
    (c.in-Got.ensures.cause.same (λ failed. cc))
    (c.put.ensures.count ∙ ap (λ (w : WalkerState). min (length (take c.in-Got.field-0 c.deref.result.now)) (131072 - length w.held)) c.self.view_is)
    (c.put.ensures.after ∙ ap (λ (w : WalkerState). after_put (take c.put.result (take c.in-Got.field-0 c.deref.result.now)) w) c.self.view_is)
    c.in-Got.ensures.bytes c.in-Got.ensures.counts_call
