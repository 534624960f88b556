-- Closings, one after another.
use Rattle.std.proofs.Common.{◌≡◌, ℕ, ◌+◌, ◌-◌, ◌<◌, ◌≤◌, List, [], ◌∷◌, length, drop, slice_index_or, Some, refl, sym, ◌∙◌, ap, subst, arith}
use Rattle.std.proofs.lemmas.List.{drop_more, drop_all, length-drop}
use Rattle.drm_links.specs.Known.{Known, IfBothKnown, CountsCall, KnownThrough}
use Rattle.drm_links.specs.Link.{Traffic}
use Rattle.drm_links.specs.Dock.{DockContents, Over, DockCloses, over_of, after_close}
use Rattle.drm_links.specs.declared.dock.Address.{Address}
use Rattle.drm_links.proofs.KnownLemmas.{Tells-nothing, Tells-weaker}
use Rattle.drm_links.specs.Gathering.{after_closes, nothing}
use Rattle.drm_links.specs.Members.{HaveGone}
use Rattle.drm_links.specs.declared.member.Member.{Member}
use Rattle.drm_links.proofs.OpeningLemmas.{docks_more}

-- what is left of a list begins with the element at that place
pub next_left : {X : Type 0} (xs more : List X) (k : ℕ) (x : X) → x ∷ more ≡ drop k xs
    → (k < length xs) × ((d : X) → slice_index_or xs k d ≡ x) × (more ≡ drop (k + 1) xs)
next_left {X} xs more k x is =
    let size : length (x ∷ more) ≡ length xs - k = ap length is ∙ length-drop k xs in
    let within : k < length xs = omega (arith, size) in
    let both : (d : X) → x ∷ more ≡ slice_index_or xs k d ∷ drop (k + 1) xs = λ d. is ∙ drop_more xs k d within in (
      within,
      λ d. let b = both d in cc,
      (let b = both x in cc),
    )

-- the links behind the first k are still to be closed
abbrev pub Closing : {L : Type 0} → (L → Known Traffic) → List (Member L) → List Address → ℕ → DockContents → DockContents → Type 0
Closing known members addresses k before after =
    (overs : List Over) → HaveGone known members overs → after_closes (drop k overs) (drop k addresses) after ≡ after_closes overs addresses before

module _ {L : Type 0} (known : L → Known Traffic) (members : List (Member L)) (addresses : List Address) where
  pub closing_first : (a : Known DockContents) → KnownThrough a a (Closing known members addresses 0)
  closing_first a = Tells-nothing (Closing known members addresses 0) a (λ x overs gone. refl)

  close_one : (k : ℕ) (at : Address) (link : L) → k < length members → k < length addresses → at ≡ slice_index_or addresses k at → ((d : Member L) → (slice_index_or members k d).link ≡ link)
      → Member L → (x y z : DockContents) → Closing known members addresses k x y → DockCloses (known link).contents at y z → Closing known members addresses (k + 1) x z
  close_one k at link there within is links any x y z before now overs gone =
      let over : Over = slice_index_or overs k nothing in
      let many = gone.as_many in
      let has = gone.each k any nothing there in
      let contents : (known link).contents ≡ Some has.0 = ap (λ l. (known l).contents) (sym (links any)) ∙ has.1 in
      let closed : z ≡ after_close at (over_of has.0) y = subst (λ t. DockCloses t at y z) contents now in
      let so : z ≡ after_close at over y = closed ∙ ap (λ o. after_close at o y) has.2 in
      let all_overs : drop k overs ≡ over ∷ drop (k + 1) overs = drop_more overs k nothing (omega (arith, many, there)) in
      let all_addresses : drop k addresses ≡ at ∷ drop (k + 1) addresses = drop_more addresses k at within ∙ ap (λ e. e ∷ drop (k + 1) addresses) (sym is) in
      ap (after_closes (drop (k + 1) overs) (drop (k + 1) addresses)) so
      ∙ (sym (λ i. after_closes (all_overs i) (all_addresses i) y) ∙ before overs gone)

  pub close_more : (k : ℕ) (at : Address) (link : L) → k < length members → k < length addresses → at ≡ slice_index_or addresses k at → ((d : Member L) → (slice_index_or members k d).link ≡ link)
      → Member L → (a b c : Known DockContents) → KnownThrough a b (Closing known members addresses k) → IfBothKnown b c (DockCloses (known link).contents at) → CountsCall (λ (d : DockContents). d.calls) b c
      → KnownThrough a c (Closing known members addresses (k + 1))
  close_more k at link there within is links any a b c before now counts =
      docks_more (Closing known members addresses k) (DockCloses (known link).contents at) (Closing known members addresses (k + 1)) a b c before now counts
      (λ x y z p q. close_one k at link there within is links any x y z p q)

  pub closed_all : (k : ℕ) (a b : Known DockContents) → length members ≤ k → KnownThrough a b (Closing known members addresses k)
      → KnownThrough a b (λ before after. (overs : List Over) → HaveGone known members overs → after ≡ after_closes overs addresses before)
  closed_all k a b last closing =
      Tells-weaker (Closing known members addresses k) _ a b closing
      (λ x y is overs gone.
      let many = gone.as_many in
      let none : drop k overs ≡ [] = drop_all k overs (omega (arith, many, last)) in
      sym (ap (λ os. after_closes os (drop k addresses) y) none) ∙ is overs gone)
