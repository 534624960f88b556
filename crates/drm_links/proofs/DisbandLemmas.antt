-- What a dock tells of a group that was closed.
use Rattle.std.proofs.Common.{◌≡◌, ℕ, zero, suc, ◌<◌, cond, List, [], ◌∷◌, length, Option, None, Some, false, refl, sym, ◌∙◌, ap, arith, length-append}
use Rattle.std.specs.Prelude.{◌≢◌, slice_index_or}
use Rattle.std.specs.List.{AllByRecursion}
use Rattle.std.specs.FinMap as map
use Rattle.std.specs.FinMap.{get-insert, gets}
use Rattle.std.specs.Ordering.{nat_cmp, eq_by_cmp}
use Rattle.std.specs.Cmp.Lexicographic.{slice_cmp, nat_list_cmp_total}
use Rattle.std.proofs.lemmas.Grind.{common_steps}
use Rattle.drm_links.specs.Dock.{DockContents, Over, address_key, after_close, AreDifferent}
use Rattle.drm_links.specs.declared.dock.Address.{Address}
use Rattle.drm_links.specs.History.{GroupEvent}
use Rattle.drm_links.specs.Alone.{gone_at, over_at, over_source, overs_of}
use Rattle.drm_links.specs.Gathering.{nothing, after_closes, after_source_close, after_disbanding}
use Rattle.drm_links.proofs.OpeningLemmas.{one_address, other_key}
use Rattle.drm_links.proofs.Places.{each_more}

-- no address has this key
abbrev HaveOthers : List ℕ → List Address → Type 0
HaveOthers key addresses = AllByRecursion (λ other. address_key other ≡ key → ⊥) addresses

other_keys : (at : Address) (others : List Address) → AllByRecursion (λ other. other ≢ at) others → HaveOthers (address_key at) others
other_keys at [] all = tt
other_keys at (other ∷ others) all = (λ same. all.0 (one_address other at same), other_keys at others all.1)

kept_at : (key : List ℕ) (overs : List Over) (addresses : List Address) (contents : DockContents) → HaveOthers key addresses
    → map.get (after_closes overs addresses contents).gone key ≡ map.get contents.gone key
kept_at key [] addresses contents others = refl
kept_at key (over ∷ overs) [] contents others = refl
kept_at key (over ∷ overs) (at ∷ addresses) contents others =
    kept_at key overs addresses (after_close at over contents) others.1
    ∙ (get-insert nat_list_cmp_total contents.gone (address_key at) over.gone key
    ∙ ap (λ b. cond b (Some over.gone) (map.get contents.gone key)) (other_key key (address_key at) (λ same. others.0 (sym same))))

-- what had gone over a link that was closed at one of different addresses
pub closed_gone : (overs : List Over) (addresses : List Address) (contents : DockContents) → AreDifferent addresses → length overs ≡ length addresses
    → (k : ℕ) (at : Address) (none : Over) → k < length addresses
    → map.get (after_closes overs addresses contents).gone (address_key (slice_index_or addresses k at)) ≡ Some (slice_index_or overs k none).gone
closed_gone [] [] contents different many k at none within = absurd (omega (arith, within))
closed_gone [] (a ∷ addresses) contents different many k at none within = absurd (omega (arith, many))
closed_gone (over ∷ overs) [] contents different many k at none within = absurd (omega (arith, many))
closed_gone (over ∷ overs) (a ∷ addresses) contents different many zero at none within =
    kept_at (address_key a) overs addresses (after_close a over contents) (other_keys a addresses different.0) ∙ grind (arith, gets, common_steps)
closed_gone (over ∷ overs) (a ∷ addresses) contents different many (suc k) at none within =
    closed_gone overs addresses (after_close a over contents) different.1 (omega (arith, many)) k at none (omega (arith, within))

-- ---- of a group

pub overs_count : (n : ℕ) (events : List GroupEvent) → length (overs_of n events) ≡ n
overs_count zero events = refl
overs_count (suc n) events = let before = overs_count n events in omega (arith, before, length-append (overs_of n events) (over_at n events ∷ []))

pub over_there : (k n : ℕ) (events : List GroupEvent) (none : Over) → k < n → slice_index_or (overs_of n events) k none ≡ over_at k events
over_there k zero events none within = absurd (omega (arith, within))
over_there k (suc n) events none within =
    each_more (λ j over. over ≡ over_at j events) (overs_of n events) (overs_of (suc n) events) (over_at n events) n (overs_count n events) refl
    (λ j d below. over_there j n events d below) refl k none (omega (arith, within))

-- the link that is received from, if there is one, has another key
abbrev pub HasOtherKey : Option Address → List ℕ → Type 0
HasOtherKey None key = Unit {0}
HasOtherKey (Some from) key = eq_by_cmp (slice_cmp nat_cmp) key (address_key from) ≡ false

source_closed : (from : Option Address) (over : Over) (contents : DockContents) (key : List ℕ) → HasOtherKey from key → map.get (after_source_close from over contents).gone key ≡ map.get contents.gone key
source_closed None over contents key other = refl
source_closed (Some from) over contents key other =
    get-insert nat_list_cmp_total contents.gone (address_key from) over.gone key ∙ ap (λ b. cond b (Some over.gone) (map.get contents.gone key)) other

-- what had gone over the k-th link
pub disbanded_gone : (from : Option Address) (to : List Address) (events : List GroupEvent) (contents : DockContents) → AreDifferent to → (k : ℕ) (at : Address) → k < length to
    → HasOtherKey from (address_key (slice_index_or to k at))
    → map.get (after_disbanding from to events contents).gone (address_key (slice_index_or to k at)) ≡ Some (gone_at k events)
disbanded_gone from to events contents different k at within other =
    source_closed from (over_source events) (after_closes (overs_of (length to) events) to contents) (address_key (slice_index_or to k at)) other
    ∙ (closed_gone (overs_of (length to) events) to contents different (overs_count (length to) events) k at nothing within
    ∙ ap (λ (o : Over). Some o.gone) (over_there k (length to) events nothing within))
