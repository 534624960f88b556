use Rattle.std.proofs.Common.{◌≡◌, ◌∙◌, ◌+◌, ℕ, List, [], ◌∷◌, ◌++◌, sym, subst, ap, take, arith}
use Rattle.std.proofs.lemmas.Grind.{take_at_read}
use Rattle.std.proofs.lemmas.List.{map-append}
use Rattle.drm_links.specs.History.{GroupEvent}
use Rattle.drm_links.specs.Calls.{Call, Send, sends, CallsMake}
use Rattle.drm_links.proofs.CallLemmas.{Make-then}
use Rattle.dcp_sender.proofs.datagrams.CutPacket.send.Goals as goal

pub loop-i-preserved : goal.loop-i-preserved
loop-i-preserved g c =
    let i = c.loop-i.i in
    let k = c.args.k in
    let datagrams = c.args.self.now in
    let one : List ℕ = c.get.result.now in
    let u = g.O.Outlets.up c.args.outlets.now in
    let v = g.O.Outlets.up c.loop-i.outlets in
    let w = g.O.Outlets.up c.send_datagram.new.outlets in
    let a = c.args.outlets.now in
    let m = c.loop-i.outlets in
    let b = c.send_datagram.new.outlets in
    let before : List GroupEvent → Type 0 = λ events. g.O.Outlets.happened events a m in
    let here : List GroupEvent → Type 0 = λ events. g.O.Outlets.happened events m b in
    let now : List GroupEvent → Type 0 = λ events. g.O.Outlets.happened events a b in
    let all : CallsMake (sends k (take i datagrams) ++ Send k one ∷ []) u w now =
    Make-then (sends k (take i datagrams)) (Send k one ∷ []) u v w before here now (λ x y. g.met.O.Outlets.joins x y a m b) c.loop-i.invariant.1 c.send_datagram.ensures.made in
    let more : take (i + 1) datagrams ≡ take i datagrams ++ one ∷ [] =
    (take_at_read datagrams i [] (omega (arith, c.count-i-end.ensures.number, c.loop-i-test.true, c.loop-i.auto.i-end))).1 ∙ ap (λ d. take i datagrams ++ d ∷ []) (sym (c.get.ensures.datagram [])) in
    let calls : sends k (take (i + 1) datagrams) ≡ sends k (take i datagrams) ++ Send k one ∷ [] =
    ap (sends k) more ∙ map-append (λ (bytes : List ℕ). Send k bytes) (take i datagrams) (one ∷ []) in
    (c.send_datagram.ensures.same_count ∙ c.loop-i.invariant.0, subst (λ (l : List Call). CallsMake l u w now) (sym calls) all)
