-- The links of a dock in memory, and what it tells before and after a call.
use Rattle.std.proofs.Common.{◌≡◌, ℕ, ◌+◌, ◌^◌, ◌≤◌, ◌⊎◌, inl, inr, Bool, true, false, cond, List, [], ◌∷◌, nat_le, Contains, Option, None, Some, IsNone, refl, sym, ◌∙◌, ap, subst, arith}
use Rattle.std.specs.Prelude as list
use Rattle.std.specs.Ordering.{nat_cmp, is_eq, eq_by_cmp}
use Rattle.std.specs.Cmp.{eq_by_cmp_equiv}
use Rattle.std.specs.Cmp.Lexicographic.{slice_cmp, nat_list_cmp_total}
use Rattle.std.specs.Map.{lookup}
use Rattle.std.specs.Str.{bytes_eq}
use Rattle.std.proofs.lemmas.Map.Text.{is_eq-slice_cmp}
use Rattle.std.specs.Option.{option_map}
use Rattle.std.specs.BTreeMap as tree
use Rattle.std.specs.BTreeMap.{BTreeMap, is_at}
use Rattle.std.specs.FinMap as map
use Rattle.drm_links.specs.Known.{IfBothKnown, one_more}
use Rattle.drm_links.specs.Dock.{LinkStart, DockOpens, DockReaches, address_key, start_at, first_traffic, with_reach}
use Rattle.drm_links.specs.MemoryLink.{LinkState, IsUntouchedLink, link_known}
use Rattle.drm_links.specs.MemoryDock.{DockState, LeavesDock, reached, link_at, start_of, starts_of, contents_of, dock_known, with_start}
use Rattle.drm_links.specs.ClosedLinks.{entries_of}
use Rattle.drm_links.specs.declared.dock.Address.{Address}
use Rattle.drm_links.specs.declared.docked_link.ClosedLink.{ClosedLink}
use Rattle.drm_links.specs.declared.dock.Opened.{Opened}
use Rattle.drm_links.specs.declared.dock.Opened.TheVariants as opened
use Rattle.drm_links.proofs.FilesLemmas.{changed_if}
use Rattle.drm_links.proofs.MemoryLemmas.{both_known_for}

-- ---- a map of links as a finite map

find-lookup : {X : Type 0} (key : List ℕ) (es : List (List ℕ × X)) → map.find (slice_cmp nat_cmp) key es ≡ lookup (is_at (slice_cmp nat_cmp key)) es
find-lookup key [] = refl
find-lookup key (e ∷ es) = ap (cond (is_eq (slice_cmp nat_cmp key e.0)) (Some e.1)) (find-lookup key es)

-- the link at a key is the one that the map has there
pub get-entries_of : {X : Type 0} (links : BTreeMap (List ℕ) X) (key : List ℕ) → map.get (map.from_entries {R = slice_cmp nat_cmp} links.entries) key ≡ tree.get_by (slice_cmp nat_cmp key) links
get-entries_of links key = map.get-from_entries nat_list_cmp_total links.entries key ∙ find-lookup key links.entries

same_links : {X : Type 0} (m n : map.FinMap (slice_cmp nat_cmp) X) → ((key : List ℕ) → map.get m key ≡ map.get n key) → m ≡ n
same_links m n same =
    map.same_map nat_list_cmp_total (map.slice_cmp-IsAntisymmetric map.nat_cmp-IsAntisymmetric) m n same

same_test : (key other : List ℕ) → is_at (slice_cmp nat_cmp key) other ≡ eq_by_cmp (slice_cmp nat_cmp) other key
same_test key other = (eq_by_cmp_equiv nat_list_cmp_total).symm key other

-- what an entry's change makes of what stands at a key
updated : {X : Type 0} (old new : BTreeMap (List ℕ) X) (key : List ℕ) (value : Option X) → tree.UpdatesBy (slice_cmp nat_cmp) (slice_cmp nat_cmp key) old new value → (q : List ℕ) → map.get (map.from_entries {R = slice_cmp nat_cmp} new.entries) q ≡ cond (eq_by_cmp (slice_cmp nat_cmp) q key) value (map.get (map.from_entries {R = slice_cmp nat_cmp} old.entries) q)
updated old new key value updates q =
    get-entries_of new q
    ∙ (updates.0 q
    ∙ (ap (λ same. cond same value (tree.get_by (slice_cmp nat_cmp q) old)) (same_test key q)
    ∙ ap (cond (eq_by_cmp (slice_cmp nat_cmp) q key) value) (sym (get-entries_of old q))))

pub links-insert : {X : Type 0} (old new : BTreeMap (List ℕ) X) (key : List ℕ) (link : X) → tree.UpdatesBy (slice_cmp nat_cmp) (slice_cmp nat_cmp key) old new (Some link) → map.from_entries {R = slice_cmp nat_cmp} new.entries ≡ map.insert (map.from_entries old.entries) key link
links-insert old new key link updates =
    same_links _ _
    (λ q. updated old new key (Some link) updates q ∙ sym (map.get-insert nat_list_cmp_total (map.from_entries old.entries) key link q))

pub links-remove : {X : Type 0} (old new : BTreeMap (List ℕ) X) (key : List ℕ) → tree.UpdatesBy (slice_cmp nat_cmp) (slice_cmp nat_cmp key) old new None → map.from_entries {R = slice_cmp nat_cmp} new.entries ≡ map.remove (map.from_entries old.entries) key
links-remove old new key updates =
    same_links _ _
    (λ q. updated old new key None updates q ∙ sym (map.get-remove nat_list_cmp_total (map.from_entries old.entries) key q))

-- ---- how the links start

find-start : (key : List ℕ) (es : List (List ℕ × LinkState)) → map.find (slice_cmp nat_cmp) key (list.map (λ e. (e.0, start_of e.1)) es) ≡ option_map start_of (map.find (slice_cmp nat_cmp) key es)
find-start key [] = refl
find-start key (e ∷ es) = start_here (is_eq (slice_cmp nat_cmp key e.0)) e.1 _ _ (find-start key es)
  where
    start_here : (b : Bool) (link : LinkState) (start : Option LinkStart) (other : Option LinkState) → start ≡ option_map start_of other → cond b (Some (start_of link)) start ≡ option_map start_of (cond b (Some link) other)
    start_here true link start other is = refl
    start_here false link start other is = is

pub get-starts_of : (links : map.FinMap (slice_cmp nat_cmp) LinkState) (key : List ℕ) → map.get (starts_of links) key ≡ option_map start_of (map.get links key)
get-starts_of links key =
    map.get-from_entries nat_list_cmp_total _ key
    ∙ (find-start key (map.entries links) ∙ ap (option_map start_of) (sym (map.get-entries links key)))

start_where : (b : Bool) (link other : Option LinkState) → option_map start_of (cond b link other) ≡ cond b (option_map start_of link) (option_map start_of other)
start_where true link other = refl
start_where false link other = refl

starts_of-changed : (old new : map.FinMap (slice_cmp nat_cmp) LinkState) (key : List ℕ) (link : Option LinkState) → ((q : List ℕ) → map.get new q ≡ cond (eq_by_cmp (slice_cmp nat_cmp) q key) link (map.get old q)) → (q : List ℕ) → map.get (starts_of new) q ≡ cond (eq_by_cmp (slice_cmp nat_cmp) q key) (option_map start_of link) (map.get (starts_of old) q)
starts_of-changed old new key link changed q =
    get-starts_of new q
    ∙ (ap (option_map start_of) (changed q)
    ∙ (start_where (eq_by_cmp (slice_cmp nat_cmp) q key) link (map.get old q)
    ∙ ap (cond (eq_by_cmp (slice_cmp nat_cmp) q key) (option_map start_of link)) (sym (get-starts_of old q))))

pub starts_of-insert : (links : map.FinMap (slice_cmp nat_cmp) LinkState) (key : List ℕ) (link : LinkState) → starts_of (map.insert links key link) ≡ map.insert (starts_of links) key (start_of link)
starts_of-insert links key link =
    same_links _ _
    (λ q. starts_of-changed links (map.insert links key link) key (Some link) (map.get-insert nat_list_cmp_total links key link) q
    ∙ sym (map.get-insert nat_list_cmp_total (starts_of links) key (start_of link) q))

pub starts_of-remove : (links : map.FinMap (slice_cmp nat_cmp) LinkState) (key : List ℕ) → starts_of (map.remove links key) ≡ map.remove (starts_of links) key
starts_of-remove links key =
    same_links _ _
    (λ q. starts_of-changed links (map.remove links key) key None (map.get-remove nat_list_cmp_total links key) q
    ∙ sym (map.get-remove nat_list_cmp_total (starts_of links) key q))

pub starts_of-empty : starts_of map.empty ≡ map.empty
starts_of-empty =
    same_links _ _
    (λ q. get-starts_of map.empty q
    ∙ (ap (option_map start_of) (map.get-empty (slice_cmp nat_cmp) q) ∙ sym (map.get-empty (slice_cmp nat_cmp) q)))

-- ---- a link that is put

pub contents-put : (dock after : DockState) (at : Address) (link : LinkState) → after ≡ record dock { links = map.insert dock.links (address_key at) link } → (dock_known after).contents ≡ option_map (with_start at (start_of link)) (dock_known dock).contents
contents-put dock after at link is_after =
    rw (is_after, starts_of-insert)
    (changed_if (nat_le dock.calls (2 ^ 62)) (with_start at (start_of link)) (contents_of dock))

-- ---- a link that leaves

-- a link on which no call was made tells how it starts
untouched_tells : (link : LinkState) → IsUntouchedLink link → (link_known link).contents ≡ Some (first_traffic (start_of link))
untouched_tells link untouched = rw (untouched.recvs, untouched.calls, untouched.gone) (rw (untouched.waits, untouched.waiting) refl)

no_start : (link : Option LinkState) → IsNone link → IsNone (option_map start_of link)
no_start None none = refl
no_start (Some link) none = cc

fails_so : (dock : DockState) (at : Address) → Contains dock.failing dock.openings ⊎ IsNone (link_at dock at) → Contains dock.failing dock.openings ⊎ IsNone (start_at (contents_of dock) at)
fails_so dock at (inl listed) = inl listed
fails_so dock at (inr none) = inr (rw get-starts_of (no_start (link_at dock at) none))

pub Leaves-opens : (result : Opened LinkState) (at : Address) (before after : DockState) → before.openings ≤ before.calls → LeavesDock result at before after → before.calls ≤ 2 ^ 62 → DockOpens link_known at result (contents_of before) (contents_of after)
Leaves-opens (opened.Link link) at before after counts (unlisted, stands, untouched, is_after) known =
    let start : map.get (starts_of before.links) (address_key at) ≡ Some (start_of link) =
    get-starts_of before.links (address_key at) ∙ ap (option_map start_of) stands in
    let calls : one_more before.calls ≡ before.calls + 1 = omega arith in
    let openings : one_more before.openings ≡ before.openings + 1 = omega arith in
    rw is_after (
      unlisted,
      rw start (untouched_tells link untouched),
      rw (calls, openings, starts_of-remove) refl,
    )
Leaves-opens opened.Failed at before after counts (reason, is_after) known =
    let calls : one_more before.calls ≡ before.calls + 1 = omega arith in
    let openings : one_more before.openings ≡ before.openings + 1 = omega arith in
    rw is_after (fails_so before at reason, rw (calls, openings) refl)

pub leaves_known : (result : Opened LinkState) (at : Address) (before after : DockState) → before.openings ≤ before.calls → LeavesDock result at before after → IfBothKnown (dock_known before) (dock_known after) (DockOpens link_known at result)
leaves_known result at before after counts leaves =
    both_known_for before.calls after.calls (contents_of before) (contents_of after) (DockOpens link_known at result)
    (Leaves-opens result at before after counts leaves)

-- ---- a link that leaves by `reach`

-- there is one call more than there were, so the reaches, with one more, are still among them
pub reach_fits : (result : Opened LinkState) (at : Address) (before after : DockState) → before.reaches ≤ before.calls → LeavesDock result at before after → one_more after.reaches ≤ after.calls
reach_fits (opened.Link link) at before after counts (unlisted, stands, untouched, is_after) = rw is_after (omega arith)
reach_fits opened.Failed at before after counts (reason, is_after) = rw is_after (omega arith)

pub reached_leaves : (result : Opened LinkState) (at : Address) (before between after : DockState) → LeavesDock result at before between → after ≡ reached between → LeavesDock result at (reached before) after
reached_leaves (opened.Link link) at before between after (unlisted, stands, untouched, is_between) is_after =
    (unlisted, stands, untouched, is_after ∙ ap reached is_between)
reached_leaves opened.Failed at before between after (reason, is_between) is_after = (reason, is_after ∙ ap reached is_between)

pub reached_known : (result : Opened LinkState) (at : Address) (before after : DockState) → before.openings ≤ before.calls → before.reaches ≤ before.calls → LeavesDock result at (reached before) after
    → IfBothKnown (dock_known before) (dock_known after) (DockReaches link_known at result)
reached_known result at before after counts reaches leaves =
    both_known_for before.calls after.calls (contents_of before) (contents_of after) (DockReaches link_known at result)
    (λ known. let one : contents_of (reached before) ≡ with_reach (contents_of before) = one_reach before reaches known in
    subst (λ c. DockOpens link_known at result c (contents_of after)) one (Leaves-opens result at (reached before) after counts leaves known))
  where
    one_reach : (dock : DockState) → dock.reaches ≤ dock.calls → dock.calls ≤ 2 ^ 62 → contents_of (reached dock) ≡ with_reach (contents_of dock)
    one_reach dock reaches known = let one : one_more dock.reaches ≡ dock.reaches + 1 = omega arith in rw one refl

-- ---- the links that are kept

module _ (key : List ℕ) (rest : List (Option ClosedLink)) where
  -- the first one is at this address
  pub closed_here : (nodes : List (Option ClosedLink)) (first : Option ClosedLink) (closed : ClosedLink) → nodes ≡ first ∷ rest → first ≡ Some closed → bytes_eq key (address_key closed.at) ≡ true → map.find (slice_cmp nat_cmp) key (entries_of nodes) ≡ Some closed.link
  closed_here nodes first closed are is same =
      let here : is_eq (slice_cmp nat_cmp key (address_key closed.at)) ≡ true = is_eq-slice_cmp key (address_key closed.at) ∙ same in
      rw (are, is, here) refl

  -- the first one is at another address
  pub closed_elsewhere : (nodes : List (Option ClosedLink)) (first : Option ClosedLink) (closed : ClosedLink) → nodes ≡ first ∷ rest → first ≡ Some closed → bytes_eq key (address_key closed.at) ≡ false → map.find (slice_cmp nat_cmp) key (entries_of nodes) ≡ map.find (slice_cmp nat_cmp) key (entries_of rest)
  closed_elsewhere nodes first closed are is other =
      let there : is_eq (slice_cmp nat_cmp key (address_key closed.at)) ≡ false = is_eq-slice_cmp key (address_key closed.at) ∙ other in
      rw (are, is, there) refl

  -- the first node holds none
  pub closed_nowhere : (nodes : List (Option ClosedLink)) (first : Option ClosedLink) → nodes ≡ first ∷ rest → first ≡ None → map.find (slice_cmp nat_cmp) key (entries_of nodes) ≡ map.find (slice_cmp nat_cmp) key (entries_of rest)
  closed_nowhere nodes first are is = rw (are, is) refl
