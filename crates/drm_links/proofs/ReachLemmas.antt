-- Openings by `reach`, one after another, and the closings after one that failed.
use Rattle.std.proofs.Common.{◌≡◌, ℕ, ◌+◌, ◌<◌, List, [], ◌∷◌, length, take, replicate, slice_index_or, Option, None, Some, refl, sym, ◌∙◌, ap, subst, arith}
use Rattle.std.proofs.lemmas.List.{get_or-replicate, length-replicate}
use Rattle.drm_links.specs.Known.{Known, IfBothKnown, CountsCall, Throughout, KnownThrough}
use Rattle.drm_links.specs.Link.{Traffic}
use Rattle.drm_links.specs.Dock.{DockContents, Over, over_of, DockReaches, with_reach, after_opening, after_failure, first_traffic, AreDifferent, DockKnownThrough, FindsNone, HasLink, after_openings}
use Rattle.drm_links.specs.declared.dock.Address.{Address}
use Rattle.drm_links.specs.declared.dock.Opened.TheVariants as opened
use Rattle.drm_links.proofs.KnownLemmas.{Tells-then, Tells-both}
use Rattle.drm_links.specs.Gathering.{ReachesFew, with_reaches, after_closes, nothing}
use Rattle.drm_links.specs.Members.{HaveGone}
use Rattle.drm_links.specs.declared.member.Member.{Member}
use Rattle.drm_links.proofs.OpeningLemmas.{Opened, docks_more, found, next, not_found_at}

-- ---- the count of openings by `reach`

reach_through : (addresses : List Address) (contents : DockContents) → with_reach (after_openings addresses contents) ≡ after_openings addresses (with_reach contents)
reach_through [] contents = refl
reach_through (at ∷ addresses) contents = reach_through addresses (after_opening at contents)

one_more_reach : (k : ℕ) (contents : DockContents) → with_reach (with_reaches k contents) ≡ with_reaches (k + 1) contents
one_more_reach k contents =
    let sum : contents.reaches + k + 1 ≡ contents.reaches + (k + 1) = omega arith in
    ap (λ n. record contents { reaches = n }) sum

-- the dock tells what it does after the first k openings
abbrev pub Reached : List Address → ℕ → DockContents → DockContents → Type 0
Reached addresses k before after = after ≡ after_openings (take k addresses) (with_reaches k before)

-- ---- one more opening

-- the opening at this address that comes after the first k failed
abbrev pub Missed : List Address → ℕ → DockContents → DockContents → Type 0
Missed addresses k before after =
    ((at : Address) → FindsNone before k (slice_index_or addresses k at))
    × (after ≡ after_failure (after_openings (take k addresses) (with_reaches (k + 1) before)))

module _ (addresses : List Address) (k : ℕ) (at : Address) (within : k < length addresses) (is : at ≡ slice_index_or addresses k at) where
  counted : (x y : DockContents) → Reached addresses k x y → Opened addresses k (with_reaches (k + 1) x) (with_reach y)
  counted x y before =
      ap with_reach before ∙ (reach_through (take k addresses) (with_reaches k x) ∙ ap (after_openings (take k addresses)) (one_more_reach k x))

  found_link : {L : Type 0} (known : L → Known Traffic) (link : L) (x y z : DockContents) → AreDifferent addresses
      → Reached addresses k x y → DockReaches known at (opened.Link link) y z → (d : Address) → HasLink known x k (slice_index_or addresses k d) link
  found_link known link x y z different before now d =
      let there = found addresses k at within is known link (with_reaches (k + 1) x) (with_reach y) z different (counted x y before) now d in
      (there.0, record { allowed = there.1.allowed; stands = there.1.stands }, there.2)

  pub found_reach : {L : Type 0} (known : L → Known Traffic) (link : L) (a b c : Known DockContents) → AreDifferent addresses
      → KnownThrough a b (Reached addresses k) → IfBothKnown b c (DockReaches known at (opened.Link link)) → CountsCall (λ (d : DockContents). d.calls) b c
      → (d : Address) → DockKnownThrough a c (λ contents. HasLink known contents k (slice_index_or addresses k d) link)
  found_reach known link a b c different before now counts d =
      docks_more (Reached addresses k) (DockReaches known at (opened.Link link)) (λ x _. HasLink known x k (slice_index_or addresses k d) link) a b c before now counts
      (λ x y z p q. found_link known link x y z different p q d)

  pub reached_now : {L : Type 0} (known : L → Known Traffic) (link : L) (a b c : Known DockContents)
      → KnownThrough a b (Reached addresses k) → IfBothKnown b c (DockReaches known at (opened.Link link)) → CountsCall (λ (d : DockContents). d.calls) b c
      → KnownThrough a c (Reached addresses (k + 1))
  reached_now known link a b c before now counts =
      docks_more (Reached addresses k) (DockReaches known at (opened.Link link)) (Reached addresses (k + 1)) a b c before now counts
      (λ x y z p q. next addresses k at within is (with_reaches (k + 1) x) (with_reach y) z (counted x y p) q.2)

  pub missed_now : {L : Type 0} (known : L → Known Traffic) (a b c : Known DockContents) → AreDifferent addresses
      → KnownThrough a b (Reached addresses k) → IfBothKnown b c (DockReaches known at opened.Failed) → CountsCall (λ (d : DockContents). d.calls) b c
      → KnownThrough a c (Missed addresses k)
  missed_now known a b c different before now counts =
      docks_more (Reached addresses k) (DockReaches known at opened.Failed) (Missed addresses k) a b c before now counts
      (λ x y z p q. not_found_at addresses k at within is known (with_reaches (k + 1) x) (with_reach y) z different (counted x y p) q)

-- ---- several links at once

-- the first k have the links of the first k addresses
abbrev pub HaveFirst : {X L : Type 0} → (X → L) → (L → Known Traffic) → List Address → List X → ℕ → DockContents → Type 0
HaveFirst {X} {L} link_of known addresses xs k contents =
    (n : ℕ) (at : Address) (d : X) → n < k → HasLink known contents n (slice_index_or addresses n at) (link_of (slice_index_or xs n d))

pub all_links : {X L : Type 0} (link_of : X → L) (known : L → Known Traffic) (addresses : List Address) (xs : List X) (n : ℕ) (a b : Known DockContents) → DockKnownThrough a b (λ _. Unit {0})
    → ((k : ℕ) (d : X) → k < n → (at : Address) → DockKnownThrough a b (λ contents. HasLink known contents k (slice_index_or addresses k at) (link_of (slice_index_or xs k d))))
    → DockKnownThrough a b (HaveFirst link_of known addresses xs n)
all_links {X} link_of known addresses xs n a b = linked a.contents b.contents
  where
    linked : (a b : Option DockContents) → Throughout a b (λ _ _. Unit {0})
        → ((k : ℕ) (d : X) → k < n → (at : Address) → Throughout a b (λ contents _. HasLink known contents k (slice_index_or addresses k at) (link_of (slice_index_or xs k d))))
        → Throughout a b (λ contents _. HaveFirst link_of known addresses xs n contents)
    linked a None any each = tt
    linked None (Some y) any each = any
    linked (Some x) (Some y) any each = λ k at d within. each k d within at

-- over links that were only opened nothing has gone
pub nothing_gone : {L : Type 0} (known : L → Known Traffic) (contents : DockContents) (addresses : List Address) (members : List (Member L)) (n : ℕ) → length members ≡ n
    → HaveFirst (λ (m : Member L). m.link) known addresses members n contents → HaveGone known members (replicate n nothing)
nothing_gone {L} known contents addresses members n size first = record {
  as_many = length-replicate n nothing ∙ sym size;
  each = λ k d none within.
      let at : Address = record { ip = []; port = 0 } in
      let less : k < n = omega (arith, within, size) in
      let there = first k at d less in
      let is : slice_index_or (replicate n nothing) k none ≡ nothing = get_or-replicate n k nothing none less in
      let P : Over → Type 0 = λ over. (traffic : Traffic) × ((known (slice_index_or members k d).link).contents ≡ Some traffic) × (over_of traffic ≡ over) in
      subst P (sym is) (first_traffic there.0, there.2, refl);
}

-- those that were opened are closed
pub few_reached : {L : Type 0} (known : L → Known Traffic) (addresses : List Address) (members : List (Member L)) (k : ℕ) (a b c : Known DockContents) → k < length addresses → length members ≡ k
    → DockKnownThrough a b (HaveFirst (λ (m : Member L). m.link) known addresses members k) → KnownThrough a b (Missed addresses k)
    → KnownThrough b c (λ before after. (overs : List Over) → HaveGone known members overs → after ≡ after_closes overs addresses before)
    → KnownThrough a c (ReachesFew addresses)
few_reached {L} known addresses members k a b c within size links missed closed =
    Tells-then _ _ (ReachesFew addresses) a b c (Tells-both (λ x _. HaveFirst (λ (m : Member L). m.link) known addresses members k x) (Missed addresses k) a b links missed) closed
    (λ x y z p q. record {
      k = k;
      within = within;
      fails = p.1.0;
      contents = q (replicate k nothing) (nothing_gone known x addresses members k size p.0) ∙ ap (after_closes (replicate k nothing) addresses) p.1.1;
    })
