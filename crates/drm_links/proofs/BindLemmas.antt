-- Links that are opened to receive over them: what went over them, and the closings where the openings end early.
use Rattle.std.proofs.Common.{◌≡◌, ℕ, zero, suc, ◌<◌, ◌≤◌, ◌^◌, inl, inr, List, [], ◌∷◌, length, take, replicate, slice_index_or, map, true, Some, IsNone, refl, sym, ◌∙◌, ap, subst, arith}
use Rattle.std.proofs.lemmas.List.{get_or-map, get_or_default, length-map}
use Rattle.std.specs.FinMap as maps
use Rattle.drm_links.specs.Known.{Known, IfBothKnown, CountsCall, KnownThrough}
use Rattle.drm_links.specs.Link.{Answer, Traffic}
use Rattle.drm_links.specs.Hearing.{LinkHeard}
use Rattle.drm_links.specs.Dock.{DockContents, LinkStart, Over, DockOpens, address_key, first_traffic, after_close, after_failure, AreDifferent, DockKnownThrough, OpeningFinds, FindsNone, HasLink, after_openings}
use Rattle.drm_links.specs.declared.dock.Address.{Address}
use Rattle.drm_links.specs.declared.dock.Opened.TheVariants as opened
use Rattle.drm_links.proofs.KnownLemmas.{Tells-then, Tells-both}
use Rattle.drm_links.proofs.Hearing.{heard_contents}
use Rattle.drm_links.proofs.Places.{index_of}
use Rattle.drm_links.specs.Gathering.{after_closes, nothing, with_none}
use Rattle.drm_links.specs.Members.{HasGone, HaveGone}
use Rattle.drm_links.specs.Binding.{LinkHears, HearsEach, BindsFew, StopsBehind, heard}
use Rattle.drm_links.specs.declared.member.Member.{Member}
use Rattle.drm_links.proofs.OpeningLemmas.{Opened as AreOpen, docks_more, not_found_at, openings_gone}
pub use Rattle.drm_links.proofs.ReachLemmas.{HaveFirst, all_links}
use Rattle.drm_links.proofs.ReachLemmas.{nothing_gone}

-- one for each place
pub choose : {X : Type 0} (n : ℕ) (P : ℕ → X → Type 0) → ((k : ℕ) → k < n → (x : X) × P k x)
    → (xs : List X) × (length xs ≡ n) × ((k : ℕ) (d : X) → k < n → P k (slice_index_or xs k d))
choose zero P each = ([], refl, λ k d within. absurd (omega (arith, within)))
choose {X} (suc n) P each =
    let first = each zero (omega arith) in
    let more = choose n (λ k x. P (suc k) x) (λ k within. each (suc k) (omega (arith, within))) in
    (first.0 ∷ more.0, (let size = more.1 in omega (arith, size)), at first.0 more.0 first.1 more.2)
  where
    at : (x : X) (xs : List X) → P zero x → ((k : ℕ) (d : X) → k < n → P (suc k) (slice_index_or xs k d))
        → (k : ℕ) (d : X) → k < suc n → P k (slice_index_or (x ∷ xs) k d)
    at x xs first more zero d within = first
    at x xs first more (suc k) d within = more k d (omega (arith, within))

-- nothing more had gone once links were closed over which nothing went
pub none_gone : (overs : List Over) (addresses : List Address) (contents : DockContents) → length overs ≡ length addresses
    → ((k : ℕ) (none : Over) → k < length addresses → (slice_index_or overs k none).gone ≡ []) → (after_closes overs addresses contents).gone ≡ with_none addresses contents.gone
none_gone [] [] contents many each = refl
none_gone [] (a ∷ addresses) contents many each = absurd (omega (arith, many))
none_gone (over ∷ overs) [] contents many each = absurd (omega (arith, many))
none_gone (over ∷ overs) (a ∷ addresses) contents many each =
    none_gone overs addresses (after_close a over contents) (omega (arith, many)) (λ k none within. each (suc k) none (omega (arith, within)))
    ∙ ap (λ gone. with_none addresses (maps.insert contents.gone (address_key a) gone)) (each zero over (omega arith))

-- ---- one link

-- what went over a link that tells it, of which P holds
abbrev pub WentOver : {L : Type 0} → (L → Known Traffic) → (List Answer → Type 0) → L → LinkStart → Type 0
WentOver known P link start = (over : Over) × HasGone known link over × LinkHears P start over

pub went_over : {L : Type 0} (known : L → Known Traffic) (P : List Answer → Type 0) (link link' : L) (start : LinkStart) (answers : List Answer)
    → (known link).contents ≡ Some (first_traffic start) → LinkHeard (known link) (known link') answers → length answers ≤ 2 ^ 62 → P answers → WentOver known P link' start
went_over known P link link' start answers contents answers_heard few reading =
    let t = heard_contents (known link).contents (known link').contents start answers answers_heard contents few in
    (heard answers, (t.0, t.1, t.2), record { answers = answers; rest = t.0.ahead; next = t.3; reading = reading; over_is = refl })

pub went_weaker : {L : Type 0} (known : L → Known Traffic) (P Q : List Answer → Type 0) (link : L) (start : LinkStart) → ((answers : List Answer) → P answers → Q answers) → WentOver known P link start → WentOver known Q link start
went_weaker known P Q link start weaker went =
    let hears = went.2 in
    (went.0, went.1, record { answers = hears.answers; rest = hears.rest; next = hears.next; reading = weaker hears.answers hears.reading; over_is = hears.over_is })

-- ---- what an opening finds

pub found_once : (contents : DockContents) (k : ℕ) (at : Address) (a b : LinkStart) → OpeningFinds contents k at a → OpeningFinds contents k at b → a ≡ b
found_once contents k at a b first second = let is : Some a ≡ Some b = sym first.stands ∙ second.stands in cc

pub is_found : (contents : DockContents) (k : ℕ) (at : Address) (start : LinkStart) → OpeningFinds contents k at start → FindsNone contents k at → ⊥
is_found contents k at start finds (inl fails) = finds.allowed fails
is_found contents k at start finds (inr none) = let some : IsNone (Some start) = subst (λ o. IsNone o) finds.stands none in cc

-- ---- members of several links

-- Receivers, or whatever else has a link each:
module _ {X L : Type 0} (link_of : X → L) where
  abbrev pub as_member : X → Member L
  as_member x = record { link = link_of x; up = true }

  abbrev pub as_members : List X → List (Member L)
  as_members xs = map (λ x. as_member x) xs

  pub member_at : (xs : List X) (k : ℕ) (d : X) (e : Member L) → k < length xs → slice_index_or (as_members xs) k e ≡ as_member (slice_index_or xs k d)
  member_at xs k d e within = get_or-map (λ x. as_member x) xs k d e within

  pub members_many : (xs : List X) → length (as_members xs) ≡ length xs
  members_many xs = length-map xs (λ x. as_member x)

-- ---- several links

module _ {X L : Type 0} (link_of : X → L) (known : L → Known Traffic) (P : List Answer → Type 0) (addresses : List Address) (before after : List X)
    (many : length before ≡ length addresses) (many' : length after ≡ length addresses) where
  -- they have the links of these addresses, in their order
  abbrev Opened : DockContents → Type 0
  Opened contents = (k : ℕ) (at : Address) (none : X) → k < length addresses → HasLink known contents k (slice_index_or addresses k at) (link_of (slice_index_or before k none))

  abbrev Made : DockContents → ℕ → Over → Type 0
  Made contents k over =
      (start : LinkStart) × ((at : Address) → OpeningFinds contents k (slice_index_or addresses k at) start)
      × ((d : X) → HasGone known (link_of (slice_index_or after k d)) over) × LinkHears P start over

  gone : (contents : DockContents) (overs : List Over) → length overs ≡ length addresses → ((k : ℕ) (e : Over) → k < length addresses → Made contents k (slice_index_or overs k e))
      → HaveGone known (as_members link_of after) overs
  gone contents overs size made = record {
    as_many = size ∙ sym (members_many link_of after ∙ many');
    each = λ k d e within.
        let last : k < length after = (let m = members_many link_of after in omega (arith, within, m)) in
        let x : X = (index_of after k last).0 in
        subst (λ (m : Member L). HasGone known m.link (slice_index_or overs k e)) (sym (member_at link_of after k x d last)) ((made k e (omega (arith, last, many'))).2 x);
  }

  -- Where the dock tells, each link was opened as a new one, and tells at its end what went over it.
  pub hears_each : (a b c : Known DockContents) → KnownThrough a b (λ x y. y ≡ after_openings addresses x)
      → DockKnownThrough a b Opened
      → ((k : ℕ) (d : X) (start : LinkStart) → k < length addresses → (known (link_of (slice_index_or before k d))).contents ≡ Some (first_traffic start)
      → WentOver known P (link_of (slice_index_or after k d)) start)
      → KnownThrough b c (λ x y. (overs : List Over) → HaveGone known (as_members link_of after) overs → y ≡ after_closes overs addresses x)
      → KnownThrough a c (HearsEach P addresses)
  hears_each a b c opened links each closed =
      Tells-then _ _ (HearsEach P addresses) a b c (Tells-both (λ x y. y ≡ after_openings addresses x) (λ x _. Opened x) a b opened links) closed
      (λ x y z p q.
      let none : Address = record { ip = []; port = 0 } in
      let one : (k : ℕ) → k < length addresses → (over : Over) × Made x k over
      = λ k within.
      let d : X = (index_of before k (omega (arith, within, many))).0 in
      let there = p.1 k none d within in
      let over = each k d there.0 within there.2 in (
        over.0,
        (
          there.0,
          (λ at. subst (λ a. OpeningFinds x k a there.0) (get_or_default addresses k none at within) there.1),
          (λ e. subst (λ (m : X). HasGone known (link_of m) over.0) (get_or_default after k d e (omega (arith, within, many'))) over.1),
          over.2,
        ),
      ) in
      let made = choose (length addresses) (Made x) one in
      record {
        overs = made.0;
        as_many = made.1;
        each = λ k at e within. let m = made.2 k e within in (m.0, m.1 at, m.3);
        contents = q made.0 (gone x made.0 made.1 made.2) ∙ ap (after_closes made.0 addresses) p.0;
      })

-- what held before the links were closed
pub docked_then : (P : DockContents → Type 0) (Q : DockContents → DockContents → Type 0) (a b c : Known DockContents) → DockKnownThrough a b P → KnownThrough b c Q → DockKnownThrough a c P
docked_then P Q a b c first second = Tells-then (λ x _. P x) Q (λ x _. P x) a b c first second (λ x y z p q. p)

-- ---- openings that end early

-- the opening at this address that comes after the first k failed
abbrev pub Missed : List Address → ℕ → DockContents → DockContents → Type 0
Missed addresses k before after =
    ((at : Address) → FindsNone before k (slice_index_or addresses k at)) × (after ≡ after_failure (after_openings (take k addresses) before))

pub missed_now : (addresses : List Address) (k : ℕ) (at : Address) (within : k < length addresses) (is : at ≡ slice_index_or addresses k at)
    → {L : Type 0} (known : L → Known Traffic) (a b c : Known DockContents) → AreDifferent addresses
    → KnownThrough a b (AreOpen addresses k) → IfBothKnown b c (DockOpens known at opened.Failed) → CountsCall (λ (d : DockContents). d.calls) b c
    → KnownThrough a c (Missed addresses k)
missed_now addresses k at within is known a b c different before now counts =
    docks_more (AreOpen addresses k) (DockOpens known at opened.Failed) (Missed addresses k) a b c before now counts
    (λ x y z p q. not_found_at addresses k at within is known x y z different p q)

-- what a dock tells once the links that these have are closed
abbrev pub Closed : {X L : Type 0} → (X → L) → (L → Known Traffic) → List Address → List X → DockContents → DockContents → Type 0
Closed link_of known addresses xs before after = (overs : List Over) → HaveGone known (as_members link_of xs) overs → after ≡ after_closes overs addresses before

module _ {X L : Type 0} (link_of : X → L) (known : L → Known Traffic) (addresses : List Address) (xs : List X) (k : ℕ) (size : length xs ≡ k) where
  first_gone : (contents : DockContents) → HaveFirst link_of known addresses xs k contents → HaveGone known (as_members link_of xs) (replicate k nothing)
  first_gone contents first =
      nothing_gone known contents addresses (as_members link_of xs) k (members_many link_of xs ∙ size)
      (λ n at m less.
      let within : n < length xs = omega (arith, less, size) in
      let d : X = (index_of xs n within).0 in
      subst (λ (x : Member L). HasLink known contents n (slice_index_or addresses n at) x.link) (sym (member_at link_of xs n d m within)) (first n at d less))

  both_known : (P : DockContents → DockContents → Type 0) (a b : Known DockContents) → DockKnownThrough a b (HaveFirst link_of known addresses xs k) → KnownThrough a b P
      → KnownThrough a b (λ x y. HaveFirst link_of known addresses xs k x × P x y)
  both_known P a b first second = Tells-both (λ x _. HaveFirst link_of known addresses xs k x) P a b first second

  -- memory ran out behind these openings, and their links are closed
  pub stopped_few : (a b c : Known DockContents) → k ≤ length addresses → DockKnownThrough a b (HaveFirst link_of known addresses xs k) → KnownThrough a b (AreOpen addresses k) → KnownThrough b c (Closed link_of known addresses xs)
      → KnownThrough a c (StopsBehind addresses)
  stopped_few a b c within first opened closed =
      Tells-then (λ x y. HaveFirst link_of known addresses xs k x × AreOpen addresses k x y) (Closed link_of known addresses xs) (StopsBehind addresses) a b c (both_known (AreOpen addresses k) a b first opened) closed
      (λ x y z p q. record {
        k = k;
        within = within;
        contents = q (replicate k nothing) (first_gone x p.0) ∙ ap (after_closes (replicate k nothing) addresses) p.1;
      })

  -- the next one failed
  pub failed_few : (a b c : Known DockContents) → k < length addresses → DockKnownThrough a b (HaveFirst link_of known addresses xs k) → KnownThrough a b (Missed addresses k) → KnownThrough b c (Closed link_of known addresses xs)
      → KnownThrough a c (BindsFew addresses)
  failed_few a b c within first missed closed =
      Tells-then (λ x y. HaveFirst link_of known addresses xs k x × Missed addresses k x y) (Closed link_of known addresses xs) (BindsFew addresses) a b c (both_known (Missed addresses k) a b first missed) closed
      (λ x y z p q. record {
        k = k;
        within = within;
        fails = p.1.0;
        contents = q (replicate k nothing) (first_gone x p.0) ∙ ap (after_closes (replicate k nothing) addresses) p.1.1;
      })

-- ---- nothing is sent

pub none_gone_few : (k : ℕ) (addresses : List Address) (contents : DockContents) → k ≤ length addresses → (after_closes (replicate k nothing) addresses contents).gone ≡ with_none (take k addresses) contents.gone
none_gone_few zero addresses contents within = refl
none_gone_few (suc k) [] contents within = absurd (omega (arith, within))
none_gone_few (suc k) (at ∷ addresses) contents within = none_gone_few k addresses (after_close at nothing contents) (omega (arith, within))

pub hears_nothing_gone : (P : List Answer → Type 0) (addresses : List Address) (x y : DockContents) → HearsEach P addresses x y → y.gone ≡ with_none addresses x.gone
hears_nothing_gone P addresses x y hears =
    ap (λ (d : DockContents). d.gone) hears.contents
    ∙ (none_gone hears.overs addresses (after_openings addresses x) hears.as_many
    (λ k none within. ap (λ (o : Over). o.gone) (hears.each k (record { ip = []; port = 0 }) none within).2.over_is)
    ∙ ap (with_none addresses) (openings_gone addresses x))
