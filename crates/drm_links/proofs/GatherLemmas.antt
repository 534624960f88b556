-- Groups of a dock in memory: what it tells once they are opened and closed.
use Rattle.std.proofs.Common.{◌≡◌, ℕ, zero, suc, ◌<◌, ◌^◌, inl, inr, Bool, true, false, List, [], ◌∷◌, length, replicate, slice_index_or, nat_le, Contains, Option, None, Some, if◌then◌else◌, refl, sym, ◌∙◌, ap, subst, arith}
use Rattle.std.proofs.lemmas.List.{length-map, get_or-map}
use Rattle.drm_links.specs.Known.{KnownThrough, Throughout}
use Rattle.drm_links.specs.Link.{Traffic}
use Rattle.drm_links.specs.Dock.{DockContents, LinkStart, Over, DockOpens, DockCloses, OpeningFinds, FindsNone, first_traffic, start_at, after_opening}
use Rattle.drm_links.specs.Gathering.{TakenAt, DockGathers, DockDisbands, GathersNone, ReachesFew, after_reaches, after_closes, after_source_close, with_history}
use Rattle.drm_links.specs.Members.{HaveLinks, AreUp, HasGone, HaveGone}
use Rattle.drm_links.specs.MemoryLink.{LinkState, link_known, traffic_of}
use Rattle.drm_links.specs.MemoryDock.{DockState, contents_of, dock_known}
use Rattle.drm_links.specs.Alone.{over_source, overs_of}
use Rattle.drm_links.specs.MemoryGroup.{GroupBookState, GroupState, GathersOver, AreInStep, ups_of, ahead_of, taken_by, sends_of, history_of, group_known}
use Rattle.drm_links.specs.declared.dock.Address.{Address}
use Rattle.drm_links.specs.declared.dock.Opened.TheVariants as opened
use Rattle.drm_links.specs.declared.dock.GatheredGroup.TheVariants as gathered
use Rattle.drm_links.specs.declared.member.Member.{Member}
use Rattle.drm_links.proofs.KnownLemmas.{Opens-started}
use Rattle.drm_links.proofs.Places.{index_of}
use Rattle.drm_links.proofs.DisbandLemmas.{overs_count, over_there}

-- ---- links that were opened

pub all_up : (members : List (Member LinkState)) (n : ℕ) → length members ≡ n → AreUp members → ups_of members ≡ replicate n true
all_up [] zero many up = refl
all_up [] (suc n) many up = absurd (omega (arith, many))
all_up (m ∷ members) zero many up = absurd (omega (arith, many))
all_up (m ∷ members) (suc n) many up =
    let first : m.up ≡ true = up 0 m (omega arith) in
    let rest = all_up members n (omega (arith, many)) (λ k d within. up (suc k) d (omega (arith, within))) in
    λ i. first i ∷ rest i

told_is : (b : Bool) (t u : Traffic) → (if b then Some t else None) ≡ Some u → t ≡ u
told_is true t u is = cc
told_is false t u is = cc

-- a link on which no call was made yet
pub no_calls : (link : LinkState) (start : LinkStart) → (link_known link).contents ≡ Some (first_traffic start) → link.calls ≡ 0
no_calls link start is = ap (λ (t : Traffic). t.calls) (told_is (nat_le link.calls (2 ^ 62)) (traffic_of link) (first_traffic start) is)

pub sends_taken : (to : List Address) (members : List (Member LinkState)) (contents : DockContents) → length members ≡ length to → AreUp members → HaveLinks link_known contents to members → TakenAt to contents (sends_of members)
sends_taken to members contents many up links = record {
  as_many = length-map members (λ (m : Member LinkState). taken_by m.up (link_known m.link).contents) ∙ many;
  each = λ k at none within.
      let there : k < length members = omega (arith, many, within) in
      let d : Member LinkState = (index_of members k there).0 in
      let link = links k at d within in
      let up_is : (slice_index_or members k d).up ≡ true = up k d there in (
        link.0,
        link.1,
        get_or-map (λ (n : Member LinkState). taken_by n.up (link_known n.link).contents) members k d none there ∙ (λ i. taken_by (up_is i) (link.2 i)),
      );
}

pub gathers_over : (source : LinkState) (room : ℕ) (to : List Address) (members : List (Member LinkState)) (group : GroupState) (x y : DockContents)
    → length members ≡ length to → AreUp members → group.members ≡ members → group.source ≡ source → group.book.events ≡ [] → group.book.room ≡ room
    → (((k : ℕ) (d : Member LinkState) → k < length members → (slice_index_or members k d).link.calls ≡ 0) → group.book.tells ≡ true)
    → y ≡ after_reaches to x → HaveLinks link_known x to members → GathersOver source room to group x y
gathers_over source room to members group x y many up members_are source_is events room_is tells contents links = record {
  contents = contents;
  tells = tells (λ k d within.
      let at : Address = record { ip = []; port = 0 } in
      let link = links k at d (omega (arith, many, within)) in
      no_calls (slice_index_or members k d).link link.0 link.2);
  events = events;
  room_is = room_is;
  same = source_is;
  sends = subst (λ ms. TakenAt to x (sends_of ms)) (sym members_are) (sends_taken to members x many up links);
}

-- ---- the dock as it is

-- it tells its room
pub room_told : (dock : DockState) → KnownThrough (dock_known dock) (dock_known dock) (λ x y. (y ≡ x) × (x.room ≡ dock.room))
room_told dock = by_calls (nat_le dock.calls (2 ^ 62))
  where
    by_calls : (b : Bool) → Throughout (if b then Some (contents_of dock) else None) (if b then Some (contents_of dock) else None) (λ x y. (y ≡ x) × (x.room ≡ dock.room))
    by_calls true = (refl, refl)
    by_calls false = tt

told_history : (group : GroupState) → group.book.tells ≡ true → (group_known group).contents ≡ Some (history_of group)
told_history group tells = ap (λ (b : Bool). if b then Some (history_of group) else None) tells

-- a group that receives nothing
pub gathered_to : (dock : DockState) (source : LinkState) (room : ℕ) (to : List Address) (group : GroupState) (x y z : DockContents) → ahead_of (link_known source).contents ≡ [] → room ≡ dock.room
    → (y ≡ x) × (x.room ≡ dock.room) → GathersOver source room to group y z → DockGathers group_known None to (gathered.Group group) x z
gathered_to dock source room to group x y z silent of_dock same over =
    let now : GathersOver source room to group x z = subst (λ (d : DockContents). GathersOver source room to group d z) same.0 over in (
      history_of group,
      told_history group now.tells,
      record {
        events = now.events;
        coming = ap (λ (l : LinkState). ahead_of (link_known l).contents) now.same ∙ silent;
        sends = now.sends;
        room = now.room_is ∙ (of_dock ∙ sym same.1);
      },
      now.contents,
    )

-- ---- behind an opening that receives

found_first : (contents : DockContents) (at : Address) (start : LinkStart) → (Contains contents.failing contents.openings → ⊥) → start_at contents at ≡ Some start → OpeningFinds contents 0 at start
found_first contents at start allowed stands = record {
  allowed = λ fails. allowed (subst (λ n. Contains contents.failing n) (omega arith) fails);
  stands = stands;
}

module _ (at : Address) (to : List Address) where
  -- that opening failed
  pub missed_first : (x y : DockContents) → DockOpens link_known at opened.Failed x y → GathersNone (Some at) to x y
  missed_first x y now =
      let finds : FindsNone x 0 at = elim now.0 [
        | inl listed ↦ inl (subst (λ n. Contains x.failing n) (omega arith) listed)
        | inr none ↦ inr none
      ] in
      inl (finds, now.1)

  pub gathered_from : (dock : DockState) (source : LinkState) (room : ℕ) (group : GroupState) (x y z w : DockContents) → room ≡ dock.room
      → (y ≡ x) × (x.room ≡ dock.room) → DockOpens link_known at (opened.Link source) y z → GathersOver source room to group z w
      → DockGathers group_known (Some at) to (gathered.Group group) x w
  gathered_from dock source room group x y z w of_dock same opens over =
      let now : DockOpens link_known at (opened.Link source) x z = subst (λ (d : DockContents). DockOpens link_known at (opened.Link source) d z) same.0 opens in
      let started = Opens-started link_known at source x z now in
      let is : z ≡ after_opening at x = now.2 in (
        history_of group,
        told_history group over.tells,
        record {
          events = over.events;
          coming = (
            started.0,
            found_first x at started.0 now.0 started.1,
            ap (λ (l : LinkState). ahead_of (link_known l).contents) over.same ∙ ap ahead_of started.2,
          );
          sends = subst (λ (d : DockContents). TakenAt to d (sends_of group.members)) is over.sends;
          room = over.room_is ∙ (of_dock ∙ sym same.1);
        },
        over.contents ∙ ap (after_reaches to) is,
      )

  pub gathered_none : (source closed : LinkState) (x y z w : DockContents) → closed ≡ source → DockOpens link_known at (opened.Link source) x y → ReachesFew to y z → DockCloses (link_known closed).contents at z w → GathersNone (Some at) to x w
  gathered_none source closed x y z w same opens few closes =
      let started = Opens-started link_known at source x y opens in
      let told : (link_known closed).contents ≡ Some (first_traffic started.0) = ap (λ (l : LinkState). (link_known l).contents) same ∙ started.2 in
      inr (
        started.0,
        found_first x at started.0 opens.0 started.1,
        z,
        subst (λ (d : DockContents). ReachesFew to d z) opens.2 few,
        subst (λ (t : Option Traffic). DockCloses t at z w) told closes,
      )

-- ---- a group that is closed

all_gone : (members : List (Member LinkState)) (n : ℕ) (source : LinkState) (book : GroupBookState) → length members ≡ n → AreInStep source members book → HaveGone link_known members (overs_of n book.events)
all_gone members n source book many steps = record {
  as_many = overs_count n book.events ∙ sym many;
  each = λ k d none within.
      let step = steps.sending k d within in
      (step.traffic, step.told, step.went ∙ sym (over_there k n book.events none (omega (arith, many, within))));
}

pub disbanded : (from : Option Address) (to : List Address) (group : GroupState) (members : List (Member LinkState)) (source : LinkState) (book : GroupBookState) (x y z w : DockContents)
    → length (ups_of group.members) ≡ length to → members ≡ group.members → source ≡ group.source → book ≡ group.book → (group.book.tells ≡ true → AreInStep group.source group.members group.book)
    → ((overs : List Over) → HaveGone link_known members overs → y ≡ after_closes overs to x)
    → ((over : Over) → HasGone link_known source over → z ≡ after_source_close from over y)
    → (book.tells ≡ true) × (w ≡ with_history book.events z)
    → DockDisbands (group_known group) from to x w
disbanded from to group members source book x y z w many members_are source_is book_is step closed closed_source kept =
    let tells : group.book.tells ≡ true = sym (ap (λ (b : GroupBookState). b.tells) book_is) ∙ kept.0 in
    let steps = step tells in
    let events = group.book.events in
    let count : length group.members ≡ length to = sym (length-map group.members (λ (m : Member LinkState). m.up)) ∙ many in
    let gone : HaveGone link_known members (overs_of (length to) events) = subst (λ ms. HaveGone link_known ms (overs_of (length to) events)) (sym members_are) (all_gone group.members (length to) group.source group.book count steps) in
    let heard : HasGone link_known source (over_source events) = subst (λ (l : LinkState). HasGone link_known l (over_source events)) (sym source_is) (steps.receiving.traffic, steps.receiving.told, steps.receiving.went) in
    let first : y ≡ after_closes (overs_of (length to) events) to x = closed (overs_of (length to) events) gone in
    let second : z ≡ after_source_close from (over_source events) y = closed_source (over_source events) heard in
    let third : w ≡ with_history events z = kept.1 ∙ ap (λ (b : GroupBookState). with_history b.events z) book_is in
    (history_of group, told_history group tells, third ∙ (ap (with_history events) second ∙ ap (λ (d : DockContents). with_history events (after_source_close from (over_source events) d)) first))
