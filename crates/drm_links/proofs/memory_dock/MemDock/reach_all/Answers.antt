use Rattle.std.proofs.Common.{◌≡◌, ℕ, ◌+◌, ◌<◌, ◌≤◌, refl, slice_index_or, ◌∙◌, ap, arith, length, length-append, [], ◌∷◌, ◌++◌, true, subst, sym, All}
use Rattle.std.proofs.lemmas.List.Elements.{All-push}
use Rattle.drm_links.specs.declared.dock.Address.{Address}
use Rattle.drm_links.proofs.KnownLemmas.{Tells-weaker, counts_one, once_then}
use Rattle.drm_links.proofs.Places.{each_more}
use Rattle.drm_links.specs.Dock.{DockKnownThrough, HasLink, IsNewLink}
use Rattle.drm_links.specs.declared.member.Member.{Member}
use Rattle.drm_links.proofs.OpeningLemmas.{docked_still, docked_any}
use Rattle.drm_links.proofs.ReachLemmas.{Reached, HaveFirst, found_reach, reached_now, missed_now, all_links, few_reached}
use Rattle.drm_links.specs.MemoryLink.{LinkState, link_known}
use Rattle.drm_links.specs.MemoryDock.{dock_known}
use Rattle.drm_links.proofs.memory_dock.MemDock.reach_all.Goals as goal

pub returns-in-Failed-clause-failed : goal.returns-in-Failed-clause-failed
returns-in-Failed-clause-failed c =
    let i = c.loop-k.invariant in
    let k : ℕ = c.loop-k.k in
    let ats = c.args.addresses.now in
    let within : k < length ats = (let less = c.loop-k-test.true in let end = c.len-k-end.ensures in omega (arith, less, end)) in
    let a = dock_known c.args.self.now in
    let b = dock_known c.loop-k.self in
    let d = dock_known c.open_reached.new.self in
    let known = link_known in
    few_reached known ats c.loop-k.members.items k a d (dock_known c.close_all.new.self) within i.1
    (docked_still (HaveFirst (λ (m : Member LinkState). m.link) known ats c.loop-k.members.items k) a b d
    (all_links (λ (m : Member LinkState). m.link) known ats c.loop-k.members.items k a b (docked_any (Reached ats k) a b i.5) i.6) c.in-Failed.ensures.counts_call)
    (missed_now ats k c.get.result.now within c.get.ensures known a b d c.requires.different i.5 c.in-Failed.ensures.opened c.in-Failed.ensures.counts_call)
    c.close_all.ensures.closed

pub returns-in-Failed-clause-cause : goal.returns-in-Failed-clause-cause
returns-in-Failed-clause-cause c =
    let i = c.loop-k.invariant in
    counts_one refl (c.close_all.ensures.cause ∙ once_then i.4 (c.in-Failed.ensures.cause.once tt))

pub loop-k-preserved : goal.loop-k-preserved
loop-k-preserved c =
    let i = c.loop-k.invariant in
    let k : ℕ = c.loop-k.k in
    let ats = c.args.addresses.now in
    let at : Address = c.get.result.now in
    let within : k < length ats = (let less = c.loop-k-test.true in let end = c.len-k-end.ensures in omega (arith, less, end)) in
    let a = dock_known c.args.self.now in
    let b = dock_known c.loop-k.self in
    let d = dock_known c.open_reached.new.self in
    let known = link_known in
    let member : Member LinkState = record { link = c.in-Link.link; up = true } in
    let size : length c.loop-k.members.items ≡ k = i.1 in
    let Q : ℕ → Member LinkState → Type 0 = λ n m. (e : Address) → DockKnownThrough a d (λ contents. HasLink known contents n (slice_index_or ats n e) m.link) in
    let old : (n : ℕ) (j : Member LinkState) → n < k → Q n (slice_index_or c.loop-k.members.items n j)
    = λ n j less e. docked_still (λ contents. HasLink known contents n (slice_index_or ats n e) (slice_index_or c.loop-k.members.items n j).link) a b d (i.6 n j less e) c.in-Link.ensures.counts_call in
    let more : c.push.new.self.items ≡ c.loop-k.members.items ++ member ∷ [] = c.in-Ok.ensures.items in
    let many : length c.push.new.self.items ≡ k + 1 = ap length more ∙ length-append c.loop-k.members.items (member ∷ []) ∙ omega (arith, size) in (
      (let len = c.in-Ok.ensures.len in let before = i.0 in omega (arith, len, before)),
      many,
      (let room = c.in-Ok.ensures.capacity in let before = i.2 in omega (arith, room, before)),
      subst (λ ms. All (λ (m : Member LinkState). m.up ≡ true) ms) (sym more) (All-push (λ (m : Member LinkState). m.up ≡ true) c.loop-k.members.items member i.3 refl),
      c.in-Link.ensures.cause.same (λ failed. failed) ∙ i.4,
      reached_now ats k at within c.get.ensures known c.in-Link.link a b d i.5 c.in-Link.ensures.opened c.in-Link.ensures.counts_call,
      each_more Q c.loop-k.members.items c.push.new.self.items member k size more old
          (λ e. found_reach ats k at within c.get.ensures known c.in-Link.link a b d c.requires.different i.5 c.in-Link.ensures.opened c.in-Link.ensures.counts_call e),
      (let New : Member LinkState → Type 0 = λ m. IsNewLink known (λ (l : LinkState). l.idles) m.link in
          subst (λ ms. All New ms) (sym more) (All-push New c.loop-k.members.items member i.7 c.in-Link.ensures.fresh)),
    )

pub returns-clause-links : goal.returns-clause-links
returns-clause-links c =
    let i = c.loop-k.invariant in
    let all : length c.args.addresses.now ≤ c.loop-k.k = (let last = c.loop-k-test.false in let end = c.len-k-end.ensures in omega (arith, last, end)) in
    let a = dock_known c.args.self.now in
    let b = dock_known c.loop-k.self in
    Tells-weaker _ _ a b (all_links (λ (m : Member LinkState). m.link) link_known c.args.addresses.now c.loop-k.members.items c.loop-k.k a b (docked_any (Reached c.args.addresses.now c.loop-k.k) a b i.5) i.6)
    (λ x y first k at none within. first k at none (omega (arith, within, all)))
