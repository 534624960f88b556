use Rattle.std.proofs.Common.{◌∙◌, ℕ, suc, List, add-one}
use Rattle.drm_links.specs.History.{GroupEvent}
use Rattle.drm_links.specs.Calls.{Call, each, sends, CallsMake}
use Rattle.drm_links.proofs.CallLemmas.{Make-then}
use Rattle.dcp_sender.proofs.sender.send_each.Goals as goal

pub loop-k-preserved : goal.loop-k-preserved
loop-k-preserved g c =
    let k = c.loop-k.k in
    let u = g.O.Outlets.up c.args.outlets.now in
    let v = g.O.Outlets.up c.loop-k.outlets in
    let w = g.O.Outlets.up c.send.new.outlets in
    let a = c.args.outlets.now in
    let m = c.loop-k.outlets in
    let b = c.send.new.outlets in
    let earlier : List GroupEvent → Type 0 = λ events. g.O.Outlets.happened events a m in
    let late : List GroupEvent → Type 0 = λ events. g.O.Outlets.happened events m b in
    let now : List GroupEvent → Type 0 = λ events. g.O.Outlets.happened events a b in
    let calls : ℕ → List Call = λ j. sends j c.args.datagrams.now in
    let all : CallsMake (each calls (suc k)) u w now = Make-then (each calls k) (calls k) u v w earlier late now (λ x y. g.met.O.Outlets.joins x y a m b) c.loop-k.invariant.1 c.send.ensures.made in
    (c.send.ensures.same_count ∙ c.loop-k.invariant.0, rw add-one all)
