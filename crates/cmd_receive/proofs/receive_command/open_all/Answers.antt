use Rattle.std.proofs.Common.{◌≡◌, ℕ, ◌+◌, ◌<◌, ◌≤◌, inl, inr, refl, sym, subst, slice_index_or, ◌∙◌, ap, arith, length, length-append, [], ◌∷◌, Err}
use Rattle.std.proofs.lemmas.Result.{err_from_is_err_and}
use Rattle.drm_links.specs.Known.{Known, KnownThrough}
use Rattle.drm_links.specs.Dock.{DockContents, DockKnownThrough, HasLink}
use Rattle.drm_links.specs.declared.dock.Address.{Address}
use Rattle.drm_links.proofs.KnownLemmas.{counts_none, then_counts, Tells-nothing, Tells-weaker}
use Rattle.drm_links.proofs.Places.{each_more}
use Rattle.recv_report.specs.declared.receiver.Receiver.{Receiver}
use Rattle.cmd_faults.specs.declared.fault.Fault.{Fault}
use Rattle.cmd_faults.specs.declared.fault.Fault.TheVariants as faults
use Rattle.drm_links.specs.Binding.{BindsFew, StopsBehind}
use Rattle.cmd_receive.specs.Opening.{StopsOpening}
use Rattle.recv_report.specs.Receivers.{IsReceiver}
use Rattle.drm_links.proofs.OpeningLemmas.{Opened, found_now, opened_now, opened_all, docked_any, docked_still}
use Rattle.cmd_receive.proofs.HearingLemmas.{link_in}
use Rattle.drm_links.proofs.BindLemmas.{HaveFirst, missed_now, stopped_few, failed_few, all_links}
use Rattle.cmd_receive.proofs.OpeningLemmas.{same_fault_counts}
use Rattle.cmd_receive.proofs.receive_command.open_all.Goals as goal

pub returns-in_err-receivers-clause-stopped : goal.returns-in_err-receivers-clause-stopped
returns-in_err-receivers-clause-stopped g c =
    let p = err_from_is_err_and c.from_residual.result c.from_residual.ensures.1 in
    rw (p.1 ∙ ap Err p.2)
    (Tells-nothing (StopsOpening c.args.addresses.now c.in_err-receivers.field-0.0) (g.D.Dock.known c.args.dock.now)
    (λ x. inl (c.in_err-receivers.ensures.ends, record { k = 0; within = omega arith; contents = refl })))

pub loop-k-preserved : goal.loop-k-preserved
loop-k-preserved g c =
    let i = c.loop-k.invariant in
    let k : ℕ = c.loop-k.k in
    let at : Address = c.get.result.now in
    let within : k < length c.args.addresses.now = (let less = c.loop-k-test.true in let end = c.len-k-end.ensures in omega (arith, less, end)) in
    let a = g.D.Dock.known c.args.dock.now in
    let b = g.D.Dock.known c.loop-k.dock in
    let d = g.D.Dock.known c.open_one.new.dock in
    let contents = c.in-Ok.ensures.counts_call (λ e. cc) in
    let size : length c.loop-k.receivers.items ≡ k = i.1 in
    let P : ℕ → Receiver g.row.D-L.Denot → Type 0 = λ n receiver. IsReceiver c.args.rules.now (n + 1) receiver in
    let Q : ℕ → Receiver g.row.D-L.Denot → Type 0 = λ n receiver. (e : Address) → DockKnownThrough a d (λ contents. HasLink g.D.L.Link.known contents n (slice_index_or c.args.addresses.now n e) receiver.link) in
    let old : (n : ℕ) (j : Receiver g.row.D-L.Denot) → n < k → Q n (slice_index_or c.loop-k.receivers.items n j)
    = λ n j less e. docked_still (λ contents. HasLink g.D.L.Link.known contents n (slice_index_or c.args.addresses.now n e) (slice_index_or c.loop-k.receivers.items n j).link) a b d (i.5 n j less e) contents in
    let many : length c.push_reserved.new.self.items ≡ k + 1 = ap length c.push_reserved.ensures.items ∙ length-append c.loop-k.receivers.items (c.in-Ok.receiver ∷ []) ∙ omega (arith, size) in (
      (let len = c.push_reserved.ensures.len in let before = i.0 in omega (arith, len, before)),
      many,
      c.in-Ok.ensures.cause.same (λ failed. cc) ∙ i.2,
      opened_now c.args.addresses.now k at within c.get.ensures g.D.L.Link.known c.in-Ok.receiver.link a b d i.3 c.in-Ok.ensures.opened contents,
      each_more P c.loop-k.receivers.items c.push_reserved.new.self.items c.in-Ok.receiver k size c.push_reserved.ensures.items i.4 c.in-Ok.ensures.receiver,
      each_more Q c.loop-k.receivers.items c.push_reserved.new.self.items c.in-Ok.receiver k size c.push_reserved.ensures.items old
          (λ e. found_now c.args.addresses.now k at within c.get.ensures g.D.L.Link.known c.in-Ok.receiver.link a b d c.requires.listed.different i.3 c.in-Ok.ensures.opened contents e),
      (let room = c.push_reserved.ensures.capacity in let before = i.6 in omega (arith, room, before)),
    )

pub returns-in-Err-clause-stopped : goal.returns-in-Err-clause-stopped
returns-in-Err-clause-stopped g c =
    let i = c.loop-k.invariant in
    let k : ℕ = c.loop-k.k in
    let ats = c.args.addresses.now in
    let at : Address = c.get.result.now in
    let within : k < length ats = (let less = c.loop-k-test.true in let end = c.len-k-end.ensures in omega (arith, less, end)) in
    let a = g.D.Dock.known c.args.dock.now in
    let b = g.D.Dock.known c.loop-k.dock in
    let d = g.D.Dock.known c.open_one.new.dock in
    let e = g.D.Dock.known c.close_all.new.dock in
    let known = g.D.L.Link.known in
    let receivers = c.loop-k.receivers.items in
    let fault : Fault = c.in-Err.fault in
    let first : DockKnownThrough a b (HaveFirst link_in known ats receivers k) = all_links link_in known ats receivers k a b (docked_any _ a b i.3) i.5 in
    let by_memory : fault ≡ faults.NoMemory → KnownThrough a e (StopsOpening ats fault) = λ memory.
    let still : d ≡ b = ap g.D.Dock.known (c.in-Err.ensures.untouched (ap Err memory)) in
    Tells-weaker (StopsBehind ats) (StopsOpening ats fault) a e
    (stopped_few link_in known ats receivers k i.1 a d e (omega (arith, within)) (subst (λ (m : Known DockContents). DockKnownThrough a m (HaveFirst link_in known ats receivers k)) (sym still) first)
    (subst (λ (m : Known DockContents). KnownThrough a m (Opened ats k)) (sym still) i.3) c.close_all.ensures.closed)
    (λ x y stops. inl (memory, stops)) in
    let by_link : fault ≡ faults.Link → KnownThrough a e (StopsOpening ats fault) = λ link.
    let contents = c.in-Err.ensures.counts_call (λ memory. let one : fault ≡ faults.NoMemory = cc in let other : faults.Link ≡ faults.NoMemory = sym link ∙ one in cc) in
    Tells-weaker (BindsFew ats) (StopsOpening ats fault) a e
    (failed_few link_in known ats receivers k i.1 a d e within (docked_still (HaveFirst link_in known ats receivers k) a b d first contents)
    (missed_now ats k at within c.get.ensures known a b d c.requires.listed.different i.3 (c.in-Err.ensures.failed (ap Err link)) contents) c.close_all.ensures.closed)
    (λ x y few. inr (link, few)) in
    elim c.in-Err.ensures.ends [ inl memory ↦ by_memory memory | inr link ↦ by_link link ]

pub returns-in-Err-clause-cause : goal.returns-in-Err-clause-cause
returns-in-Err-clause-cause g c = then_counts (same_fault_counts c.in-Err.fault faults.Link c.loop-k.invariant.2 c.in-Err.ensures.cause) c.close_all.ensures.cause

pub returns-clause-links : goal.returns-clause-links
returns-clause-links g c =
    let all : length c.args.addresses.now ≤ c.loop-k.k = (let last = c.loop-k-test.false in let end = c.len-k-end.ensures in omega (arith, last, end)) in
    let a = g.D.Dock.known c.args.dock.now in
    let b = g.D.Dock.known c.loop-k.dock in
    Tells-weaker _ _ a b (all_links link_in g.D.L.Link.known c.args.addresses.now c.loop-k.receivers.items c.loop-k.k a b (docked_any _ a b c.loop-k.invariant.3) c.loop-k.invariant.5)
    (λ x y first k at none within. first k at none (omega (arith, within, all)))

pub returns-clause-opened : goal.returns-clause-opened
returns-clause-opened g c =
    let all : length c.args.addresses.now ≤ c.loop-k.k = (let last = c.loop-k-test.false in let end = c.len-k-end.ensures in omega (arith, last, end)) in
    opened_all c.args.addresses.now c.loop-k.k (g.D.Dock.known c.args.dock.now) (g.D.Dock.known c.loop-k.dock) all c.loop-k.invariant.3

pub returns-clause-cause : goal.returns-clause-cause
returns-clause-cause g c = counts_none (λ is. cc) c.loop-k.invariant.2
