-- Openings, one after another.
use Rattle.std.proofs.Common.{◌≡◌, ℕ, zero, suc, ◌+◌, ◌<◌, ◌≤◌, inl, inr, Bool, true, false, cond, List, [], ◌∷◌, ◌++◌, length, take, slice_index_or, Option, None, Some, IsNone, Contains, refl, sym, ◌∙◌, ap, subst, arith}
use Rattle.std.specs.Prelude.{◌≢◌}
use Rattle.std.specs.List.{AllByRecursion}
use Rattle.std.specs.FinMap as map
use Rattle.std.specs.FinMap.{get-remove}
use Rattle.std.specs.Ordering.{nat_cmp, eq_by_cmp}
use Rattle.std.specs.Cmp.Lexicographic.{slice_cmp, nat_list_cmp_total}
use Rattle.std.proofs.lemmas.Map.Views.{tells_apart}
use Rattle.std.proofs.lemmas.Grind.{take_at_read}
use Rattle.std.proofs.lemmas.List.{take_all, get_or_default, same_from_push}
use Rattle.drm_links.specs.Known.{Known, IfBothKnown, CountsCall, IfBoth, CountsOneCall, Throughout, KnownThrough}
use Rattle.drm_links.specs.Link.{Traffic}
use Rattle.drm_links.specs.Dock.{DockContents, DockOpens, after_opening, after_failure, address_key, AreDifferent, DockKnownThrough, FindsNone, after_openings, HasLink}
use Rattle.drm_links.specs.declared.dock.Address.{Address}
use Rattle.drm_links.specs.declared.dock.Opened.TheVariants as opened
use Rattle.drm_links.proofs.KnownLemmas.{Opens-started, Tells-then, Tells-weaker, Tells-both, Tells-one}

-- ---- addresses that are different

pub one_address : (a b : Address) → address_key a ≡ address_key b → a ≡ b
one_address a b is =
    let same = same_from_push a.ip b.ip a.port b.port is in
    λ i. record { ip = same.0 i; port = same.1 i }

all_at : {X : Type 0} (P : X → Type 0) (xs : List X) (k : ℕ) (none : X) → AllByRecursion P xs → k < length xs → P (slice_index_or xs k none)
all_at P [] k none all within = absurd (omega arith)
all_at P (x ∷ xs) zero none all within = all.0
all_at P (x ∷ xs) (suc k) none all within = all_at P xs k none all.1 (omega arith)

apart : (addresses : List Address) → AreDifferent addresses → (i j : ℕ) (d e : Address) → i < j → j < length addresses
    → slice_index_or addresses i d ≡ slice_index_or addresses j e → ⊥
apart [] different i j d e before within is = absurd (omega arith)
apart (a ∷ others) different i zero d e before within is = absurd (omega arith)
apart (a ∷ others) different zero (suc j) d e before within is =
    all_at (λ other. other ≢ a) others j e different.0 (omega arith) (sym is)
apart (a ∷ others) different (suc i) (suc j) d e before within is = apart others different.1 i j d e (omega arith) (omega arith) is

-- ---- what a dock tells, over several calls

pub docks_more : (P S Q : DockContents → DockContents → Type 0) (a b c : Known DockContents) → KnownThrough a b P → IfBothKnown b c S → CountsCall (λ (d : DockContents). d.calls) b c
    → ((x y z : DockContents) → P x y → S y z → Q x z) → KnownThrough a c Q
docks_more P S Q a b c first second counts both =
    Tells-then P S Q a b c first (Tells-one (λ (d : DockContents). d.calls) S b c counts second) both

throughout_weaker : (P Q : DockContents → DockContents → Type 0) (a b : Option DockContents) → Throughout a b P → ((x y : DockContents) → P x y → Q x y) → IfBoth a b Q
throughout_weaker P Q None b first weaker = tt
throughout_weaker P Q (Some x) None first weaker = tt
throughout_weaker P Q (Some x) (Some y) first weaker = weaker x y first

pub docks_while : (P Q : DockContents → DockContents → Type 0) (a b : Known DockContents) → KnownThrough a b P → ((x y : DockContents) → P x y → Q x y) → IfBothKnown a b Q
docks_while P Q a b = throughout_weaker P Q a.contents b.contents

pub docked_weaker : (P Q : DockContents → Type 0) (a b : Known DockContents) → DockKnownThrough a b P → ((x : DockContents) → P x → Q x) → DockKnownThrough a b Q
docked_weaker P Q a b first weaker = Tells-weaker (λ x _. P x) (λ x _. Q x) a b first (λ x y. weaker x)

pub docked_both : (P Q : DockContents → Type 0) (a b : Known DockContents) → DockKnownThrough a b P → DockKnownThrough a b Q → DockKnownThrough a b (λ contents. P contents × Q contents)
docked_both P Q a b = Tells-both (λ x _. P x) (λ x _. Q x) a b

-- what held, after one more call
pub docked_still : (P : DockContents → Type 0) (a b c : Known DockContents) → DockKnownThrough a b P → CountsCall (λ (d : DockContents). d.calls) b c → DockKnownThrough a c P
docked_still P a b c = still a.contents b.contents c.contents
  where
    still : (a b c : Option DockContents) → Throughout a b (λ x _. P x) → CountsOneCall (λ (d : DockContents). d.calls) b c → Throughout a c (λ x _. P x)
    still a b None first counts = tt
    still a None (Some z) first counts = cc
    still None (Some y) (Some z) first counts = absurd first
    still (Some x) (Some y) (Some z) first counts = first

-- ---- the dock after the openings at the first k addresses

-- one more opening
openings_more : (addresses : List Address) (at : Address) (contents : DockContents) → after_openings (addresses ++ at ∷ []) contents ≡ after_opening at (after_openings addresses contents)
openings_more [] at contents = refl
openings_more (a ∷ addresses) at contents = openings_more addresses at (after_opening a contents)

take_next : (addresses : List Address) (k : ℕ) (d : Address) → k < length addresses → take (k + 1) addresses ≡ take k addresses ++ slice_index_or addresses k d ∷ []
take_next addresses k d within = (take_at_read addresses k d within).1

openings_next : (addresses : List Address) (k : ℕ) (at : Address) (contents : DockContents) → k < length addresses → at ≡ slice_index_or addresses k at
    → after_openings (take (k + 1) addresses) contents ≡ after_opening at (after_openings (take k addresses) contents)
openings_next addresses k at contents within is =
    ap (λ l. after_openings l contents) (take_next addresses k at within ∙ ap (λ a. take k addresses ++ a ∷ []) (sym is))
    ∙ openings_more (take k addresses) at contents

record AreOpened (addresses : List Address) (k : ℕ) (before after : DockContents) : Type 0 where
  pub openings : after.openings ≡ before.openings + k
  pub failing : after.failing ≡ before.failing
  pub links : (q : List ℕ) → ((i : ℕ) (at : Address) → i < k → address_key (slice_index_or addresses i at) ≡ q → ⊥)
      → map.get after.links q ≡ map.get before.links q

opened_none : (addresses : List Address) (contents : DockContents) → AreOpened addresses 0 contents contents
opened_none addresses contents = record { openings = omega arith; failing = refl; links = λ q none. refl }

other_key_by : (q key : List ℕ) (b : Bool) → eq_by_cmp (slice_cmp nat_cmp) q key ≡ b → (q ≡ key → ⊥) → eq_by_cmp (slice_cmp nat_cmp) q key ≡ false
other_key_by q key true is other = absurd (other (tells_apart (map.slice_cmp-IsAntisymmetric map.nat_cmp-IsAntisymmetric) q key is))
other_key_by q key false is other = is

pub other_key : (q key : List ℕ) → (q ≡ key → ⊥) → eq_by_cmp (slice_cmp nat_cmp) q key ≡ false
other_key q key other = other_key_by q key (eq_by_cmp (slice_cmp nat_cmp) q key) refl other

opened_more : (addresses : List Address) (k : ℕ) (at : Address) → k < length addresses → at ≡ slice_index_or addresses k at
    → (x y : DockContents) → AreOpened addresses k x y → AreOpened addresses (k + 1) x (after_opening at y)
opened_more addresses k at within is x y before = record {
  openings = (let b = before.openings in omega (arith, b));
  failing = before.failing;
  links = λ q none.
      let other : q ≡ address_key at → ⊥ = λ e. none k at (omega arith) (ap address_key (sym is) ∙ sym e) in
      get-remove nat_list_cmp_total y.links (address_key at) q
      ∙ ap (λ b. cond b None (map.get y.links q)) (other_key q (address_key at) other)
      ∙ before.links q (λ i e less e_is. none i e (omega arith) e_is);
}

-- what the dock tells after the first k openings
are_opened : (addresses : List Address) (k : ℕ) (contents : DockContents) → k ≤ length addresses → AreOpened addresses k contents (after_openings (take k addresses) contents)
are_opened addresses zero contents within = opened_none addresses contents
are_opened addresses (suc k) contents within =
    let d : Address = record { ip = []; port = 0 } in
    let at : Address = slice_index_or addresses k d in
    let less : k < length addresses = omega (arith, within) in
    let is : at ≡ slice_index_or addresses k at = get_or_default addresses k d at less in
    let next : after_openings (take (k + 1) addresses) contents ≡ after_opening at (after_openings (take k addresses) contents) = openings_next addresses k at contents less is in
    let more = opened_more addresses k at less is contents (after_openings (take k addresses) contents) (are_opened addresses k contents (omega (arith, within))) in
    subst (λ n. AreOpened addresses n contents (after_openings (take n addresses) contents)) (omega arith)
    (subst (λ (y : DockContents). AreOpened addresses (k + 1) contents y) (sym next) more)

-- the dock tells what it does after the first k openings
abbrev pub Opened : List Address → ℕ → DockContents → DockContents → Type 0
Opened addresses k before after = after ≡ after_openings (take k addresses) before

module _ (addresses : List Address) (k : ℕ) (at : Address) (within : k < length addresses) (is : at ≡ slice_index_or addresses k at) where
  so_far : (x y : DockContents) → Opened addresses k x y → AreOpened addresses k x y
  so_far x y before = subst (λ (d : DockContents). AreOpened addresses k x d) (sym before) (are_opened addresses k x (omega (arith, within)))

  not_before : AreDifferent addresses → (i : ℕ) (e : Address) → i < k → address_key (slice_index_or addresses i e) ≡ address_key at → ⊥
  not_before different i e before same =
      apart addresses different i k e at before within (one_address (slice_index_or addresses i e) at same ∙ is)

  same_at : (d : Address) → slice_index_or addresses k d ≡ at
  same_at d = get_or_default addresses k d at within ∙ sym is

  -- one more link was opened
  pub next : (x y z : DockContents) → Opened addresses k x y → z ≡ after_opening at y → Opened addresses (k + 1) x z
  next x y z before now = now ∙ ap (after_opening at) before ∙ sym (openings_next addresses k at x within is)

  pub found : {L : Type 0} (known : L → Known Traffic) (link : L) (x y z : DockContents) → AreDifferent addresses
      → Opened addresses k x y → DockOpens known at (opened.Link link) y z → (d : Address) → HasLink known x k (slice_index_or addresses k d) link
  found known link x y z different before now d =
      let are = so_far x y before in
      let started = Opens-started known at link y z now in (
        started.0,
        record {
          allowed = λ fails.
              now.0 (subst (λ m. Contains y.failing m) (let a = are.openings in omega (arith, a)) (subst (λ l. Contains l (x.openings + k)) (sym are.failing) fails));
          stands = ap (λ a. map.get x.links (address_key a)) (same_at d) ∙ sym (are.links (address_key at) (not_before different)) ∙ started.1;
        },
        started.2,
      )

  pub not_found_at : {L : Type 0} (known : L → Known Traffic) (x y z : DockContents) → AreDifferent addresses
      → Opened addresses k x y → DockOpens known at opened.Failed y z
      → ((d : Address) → FindsNone x k (slice_index_or addresses k d)) × (z ≡ after_failure (after_openings (take k addresses) x))
  not_found_at known x y z different before now =
      let are = so_far x y before in (
        λ d. elim now.0 [
          | inl fails ↦ inl (subst (λ l. Contains l (x.openings + k)) are.failing (subst (λ m. Contains y.failing m) (let a = are.openings in omega (arith, a)) fails))
          | inr none ↦ inr (subst (λ a. IsNone (map.get x.links (address_key a))) (sym (same_at d)) (subst (λ m. IsNone m) (are.links (address_key at) (not_before different)) none))
        ],
        now.1 ∙ ap after_failure before,
      )

  pub found_now : {L : Type 0} (known : L → Known Traffic) (link : L) (a b c : Known DockContents) → AreDifferent addresses
      → KnownThrough a b (Opened addresses k) → IfBothKnown b c (DockOpens known at (opened.Link link)) → CountsCall (λ (d : DockContents). d.calls) b c
      → (d : Address) → DockKnownThrough a c (λ contents. HasLink known contents k (slice_index_or addresses k d) link)
  found_now known link a b c different before now counts d =
      docks_more (Opened addresses k) (DockOpens known at (opened.Link link)) (λ x _. HasLink known x k (slice_index_or addresses k d) link) a b c before now counts
      (λ x y z p q. found known link x y z different p q d)

  pub opened_now : {L : Type 0} (known : L → Known Traffic) (link : L) (a b c : Known DockContents)
      → KnownThrough a b (Opened addresses k) → IfBothKnown b c (DockOpens known at (opened.Link link)) → CountsCall (λ (d : DockContents). d.calls) b c
      → KnownThrough a c (Opened addresses (k + 1))
  opened_now known link a b c before now counts =
      docks_more (Opened addresses k) (DockOpens known at (opened.Link link)) (Opened addresses (k + 1)) a b c before now counts
      (λ x y z p q. next x y z p q.2)

-- all links were opened
pub opened_all : (addresses : List Address) (k : ℕ) (a b : Known DockContents) → length addresses ≤ k → KnownThrough a b (Opened addresses k) → KnownThrough a b (λ before after. after ≡ after_openings addresses before)
opened_all addresses k a b last opened =
    Tells-weaker (Opened addresses k) (λ before after. after ≡ after_openings addresses before) a b opened
    (λ x y is. is ∙ ap (λ l. after_openings l x) (take_all k addresses last))

pub docked_any : (P : DockContents → DockContents → Type 0) (a b : Known DockContents) → KnownThrough a b P → DockKnownThrough a b (λ _. Unit {0})
docked_any P a b contents = Tells-weaker P (λ _ _. Unit {0}) a b contents (λ x y any. tt)

-- nothing has gone over any link
pub openings_gone : (addresses : List Address) (contents : DockContents) → (after_openings addresses contents).gone ≡ contents.gone
openings_gone [] contents = refl
openings_gone (at ∷ addresses) contents = openings_gone addresses (after_opening at contents)
