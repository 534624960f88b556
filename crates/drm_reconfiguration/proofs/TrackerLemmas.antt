-- What a tracker knows of the items before its next call, and that it answers by the whole list.
use Rattle.std.proofs.Common.{◌≡◌, ◌≢◌, ℕ, zero, suc, add-zero, zero-add, ◌+◌, ◌-◌, ◌*◌, ◌<◌, ◌≤◌, ◌⊎◌, inl, inr, Bool, true, false, cond, not, ◌&&◌, ◌||◌, List, [], ◌∷◌, length, slice_get, Option, Some, None, refl, sym, ◌∙◌, ap, subst, arith, eqb, eqb-true, eq-eqb}
use Rattle.std.specs.Option.{option_map_or}
use Rattle.drm_reconfiguration.specs.Seen.{is_same, named_by}
use Rattle.drm_reconfiguration.specs.Switches.{IsFrame, IndexNames, IsNamedLast, SwitchesAt, IsLastFrame, ResumesAt, StandsBefore}
use Rattle.drm_reconfiguration.specs.Tracker.{TrackerState, new_tracker, is_named, resumption, answered, name_after, stepped, answers, TellsTheSwitches}
use Rattle.drm_reconfiguration.specs.declared.seen.Seen.{Seen}
use Rattle.drm_reconfiguration.specs.declared.seen.Signature.{Signature}
use Rattle.drm_reconfiguration.specs.declared.tracker.Before.{Before}
use Rattle.drm_reconfiguration.specs.declared.tracker.Before.TheVariants.{Switch, Resumed}
use Rattle.drm_reconfiguration.proofs.SignatureLemmas.{is_same-equal, is_same-refl}
use Rattle.drm_reconfiguration.proofs.SwitchesLemmas as law
use Rattle.std.proofs.lemmas.Option.{slice_get_within}
use Rattle.std.proofs.lemmas.Bool.Decides.{nat_tests}

-- what the tracker knows of the items below m
pub record Knows (items : List (Option Seen)) (m : ℕ) (tracker : TrackerState) : Type 0 where
  pub calls : tracker.calls ≡ m
  pub named : (n : ℕ) → tracker.named ≡ Some n → IsNamedLast items m n
  pub kept : (n : ℕ) → m ≤ n → IsNamedLast items m n → tracker.named ≡ Some n
  pub signature : (x : Signature) → tracker.signature ≡ Some x → (r : ℕ) × (seen : Seen) × IsLastFrame items m r seen × (seen.signature ≡ x)
  pub first : tracker.signature ≡ None → (r : ℕ) (seen : Seen) → ¬ IsLastFrame items m r seen
  pub switched : tracker.switched ≡ true → (r : ℕ) (seen : Seen) → IsLastFrame items m r seen → (f : ℕ) × (r < f) × (f < m) × SwitchesAt items f
  pub quiet : tracker.switched ≡ false → (r : ℕ) (seen : Seen) → IsLastFrame items m r seen → (f : ℕ) → r < f → f < m → ¬ SwitchesAt items f

true_or_false : (b : Bool) → (b ≡ true) ⊎ (b ≡ false)
true_or_false true = inl refl
true_or_false false = inr refl

due : (o : Option ℕ) (k : ℕ) → option_map_or (λ frame. eqb frame k) o false ≡ true → o ≡ Some k
due None k h = cc
due (Some n) k h = ap Some (eqb-true n k h)

due_here : (o : Option ℕ) (k : ℕ) → o ≡ Some k → option_map_or (λ frame. eqb frame k) o false ≡ true
due_here o k e = subst (λ (x : Option ℕ). option_map_or (λ frame. eqb frame k) x false ≡ true) (sym e) (eq-eqb k k refl)

is_named-true : (tracker : TrackerState) → is_named tracker ≡ true → tracker.named ≡ Some tracker.calls
is_named-true tracker = due tracker.named tracker.calls

is_named-false : (tracker : TrackerState) → is_named tracker ≡ false → tracker.named ≢ Some tracker.calls
is_named-false tracker h e = let t = due_here tracker.named tracker.calls e in cc

-- a tracker sees a switch where one stands
sees_switch : (items : List (Option Seen)) (m : ℕ) (tracker : TrackerState) → Knows items m tracker → is_named tracker ≡ true → SwitchesAt items m
sees_switch items m tracker knows h =
    knows.named m (is_named-true tracker h ∙ ap Some knows.calls)

sees_none : (items : List (Option Seen)) (m : ℕ) (tracker : TrackerState) → Knows items m tracker → is_named tracker ≡ false → ¬ SwitchesAt items m
sees_none items m tracker knows h switches =
    is_named-false tracker h (knows.kept m (omega arith) switches ∙ ap Some (sym knows.calls))

-- whether a frame would be resumed
abbrev changes : TrackerState → Seen → Bool
changes tracker seen = not tracker.switched && option_map_or (λ last. not (is_same last seen.signature)) tracker.signature false

changes-signature : (o : Option Signature) (s : Bool) (x : Signature) → (not s && option_map_or (λ last. not (is_same last x)) o false) ≡ true → (s ≡ false) × ((last : Signature) × (o ≡ Some last) × (is_same last x ≡ false))
changes-signature o true x h = cc
changes-signature None false x h = cc
changes-signature (Some last) false x h =
    (refl, (last, refl, elim (true_or_false (is_same last x)) [ inl t ↦ cc | inr f ↦ f ]))

stays-signature : (o : Option Signature) (s : Bool) (x : Signature) → (not s && option_map_or (λ last. not (is_same last x)) o false) ≡ false → s ≡ false → (last : Signature) → o ≡ Some last → is_same last x ≡ true
stays-signature o true x h quiet last some = cc
stays-signature None false x h quiet last some = cc
stays-signature (Some other) false x h quiet last some =
    elim (true_or_false (is_same last x)) [ inl t ↦ t | inr f ↦ cc ]

some_or_none : (o : Option Signature) → ((x : Signature) × (o ≡ Some x)) ⊎ (o ≡ None)
some_or_none None = inr refl
some_or_none (Some x) = inl (x, refl)

not_frame : (items : List (Option Seen)) (m : ℕ) → slice_get items m ≡ Some None → (seen : Seen) → ¬ IsFrame items m seen
not_frame items m at seen frame = let e : ◌≡◌ {A = Option (Option Seen)} (Some None) (Some (Some seen)) = sym at ∙ frame in cc

-- a frame with another signature, and no switch since the last one, is resumed
resumes : (items : List (Option Seen)) (m : ℕ) (tracker : TrackerState) (seen : Seen) → Knows items m tracker → slice_get items m ≡ Some (Some seen) → is_named tracker ≡ false → changes tracker seen ≡ true → ResumesAt items m
resumes items m tracker seen knows at unnamed h =
    let c = changes-signature tracker.signature tracker.switched seen.signature h in
    let l = knows.signature c.1.0 c.1.1 in
    record {
      r = l.0;
      old = l.1;
      new = seen;
      last = l.2;
      frame = at;
      differ = λ e. let t = is_same-refl c.1.0 seen.signature (sym l.3 ∙ e) in let f = c.1.2 in cc;
      quiet = λ f after within.
          elim (at_or_below f m within) [
            | inl lt ↦ knows.quiet c.0 l.0 l.1 l.2 f after lt
            | inr e ↦ subst (λ (p : ℕ). ¬ SwitchesAt items p) (sym e) (sees_none items m tracker knows unnamed)
          ];
    }
  where
    at_or_below : (f n : ℕ) → f ≤ n → (f < n) ⊎ (f ≡ n)
    at_or_below f n h = grind arith

-- no other frame is
stays : (items : List (Option Seen)) (m : ℕ) (tracker : TrackerState) (seen : Seen) → Knows items m tracker → slice_get items m ≡ Some (Some seen) → changes tracker seen ≡ false → ¬ ResumesAt items m
stays items m tracker seen knows at h r =
    elim (true_or_false tracker.switched) [
      | inl t ↦
          let s = knows.switched t r.r r.old r.last in
          r.quiet s.0 s.1 (omega (arith, s.2)) s.3
      | inr f ↦
          elim (some_or_none tracker.signature) [
            | inr none ↦ knows.first none r.r r.old r.last
            | inl some ↦
                let l = knows.signature some.0 some.1 in
                let same = stays-signature tracker.signature tracker.switched seen.signature h f some.0 some.1 in
                let old : l.1 ≡ r.old = law.IsLastFrame-same items m l.0 r.r l.1 r.old l.2 r.last in
                let new : seen ≡ r.new = law.IsFrame-same items m seen r.new at r.frame in
                r.differ (ap (λ (x : Seen). x.signature) (sym old) ∙ l.3 ∙ is_same-equal some.0 seen.signature same ∙ ap (λ (x : Seen). x.signature) new)
          ]
    ]

stands_unnamed : (items : List (Option Seen)) (m : ℕ) (tracker : TrackerState) (seen : Option Seen) → Knows items m tracker → slice_get items m ≡ Some seen → is_named tracker ≡ false → StandsBefore items m (resumption tracker seen)
stands_unnamed items m tracker None knows at unnamed =
    (sees_none items m tracker knows unnamed, λ r. not_frame items m at r.new r.frame)
stands_unnamed items m tracker (Some seen) knows at unnamed = by_change (changes tracker seen) refl
  where
    by_change : (b : Bool) → changes tracker seen ≡ b → StandsBefore items m (cond b (Some (Resumed tracker.calls)) None)
    by_change true h = (knows.calls, resumes items m tracker seen knows at unnamed h)
    by_change false h = (sees_none items m tracker knows unnamed, stays items m tracker seen knows at h)

-- the answer is what stands before the item
stands : (items : List (Option Seen)) (m : ℕ) (tracker : TrackerState) (seen : Option Seen) → Knows items m tracker → slice_get items m ≡ Some seen → StandsBefore items m (answered tracker seen)
stands items m tracker seen knows at = by_name (is_named tracker) refl
  where
    by_name : (b : Bool) → is_named tracker ≡ b → StandsBefore items m (cond b (Some (Switch tracker.calls)) (resumption tracker seen))
    by_name true h = (knows.calls, sees_switch items m tracker knows h)
    by_name false h = stands_unnamed items m tracker seen knows at h

-- an item's own name is this
record NamesJust (items : List (Option Seen)) (m : ℕ) (name : Option ℕ) : Type 0 where
  to : (n : ℕ) → IndexNames items m n → name ≡ Some n
  from : (n : ℕ) → name ≡ Some n → IndexNames items m n

none_named : (items : List (Option Seen)) (m : ℕ) → NamesJust items m None → (n : ℕ) → ¬ IndexNames items m n
none_named items m just n names = let e = just.to n names in cc

names_none : (items : List (Option Seen)) (m : ℕ) → slice_get items m ≡ Some None → NamesJust items m None
names_none items m at = record {
  to = λ n (seen, frame, above, is). absurd (not_frame items m at seen frame);
  from = λ n e. cc;
}

named_by-to : (frame : ℕ) (seen : Seen) → 0 < seen.index → named_by frame seen ≡ Some ((frame + 3 * seen.index) - seen.position)
named_by-to frame seen above = by_index (eqb seen.index 0) refl
  where
    by_index : (b : Bool) → eqb seen.index 0 ≡ b → cond b None (Some ((frame + 3 * seen.index) - seen.position)) ≡ Some ((frame + 3 * seen.index) - seen.position)
    by_index true h = absurd (omega (arith, eqb-true seen.index 0 h))
    by_index false h = refl

named_by-from : (frame : ℕ) (seen : Seen) (n : ℕ) → named_by frame seen ≡ Some n → (0 < seen.index) × (n ≡ (frame + 3 * seen.index) - seen.position)
named_by-from frame seen n = by_index (eqb seen.index 0) refl
  where
    by_index : (b : Bool) → eqb seen.index 0 ≡ b → cond b None (Some ((frame + 3 * seen.index) - seen.position)) ≡ Some n → (0 < seen.index) × (n ≡ (frame + 3 * seen.index) - seen.position)
    by_index true h e = cc
    by_index false h e = (above seen.index h, cc)
      where
        above : (k : ℕ) → eqb k 0 ≡ false → 0 < k
        above k f = grind (arith, nat_tests)

names_frame : (items : List (Option Seen)) (m : ℕ) (seen : Seen) → slice_get items m ≡ Some (Some seen) → NamesJust items m (named_by m seen)
names_frame items m seen at = record {
  to = λ n (other, frame, above, is).
      let same : seen ≡ other = law.IsFrame-same items m seen other at frame in
      let at_least : 0 < seen.index = subst (λ (x : Seen). 0 < x.index) (sym same) above in
      named_by-to m seen at_least ∙ ap (λ (x : Seen). Some ((m + 3 * x.index) - x.position)) same ∙ ap Some (sym is);
  from = λ n e. let f = named_by-from m seen n e in (seen, at, f.0, f.1);
}

-- the name after a call is the last one before the next item
name_after-named : (items : List (Option Seen)) (m : ℕ) (tracker : TrackerState) (name : Option ℕ) → Knows items m tracker → NamesJust items m name → (n : ℕ) → name_after tracker name ≡ Some n → IsNamedLast items (m + 1) n
name_after-named items m tracker (Some own) knows just n e = law.IsNamedLast-here items m n (just.from n e)
name_after-named items m tracker None knows just n e = by_name (is_named tracker) e
  where
    by_name : (b : Bool) → cond b None tracker.named ≡ Some n → IsNamedLast items (m + 1) n
    by_name true e = cc
    by_name false e = law.IsNamedLast-on items m n (none_named items m just) (knows.named n e)

name_after-kept : (items : List (Option Seen)) (m : ℕ) (tracker : TrackerState) (name : Option ℕ) → Knows items m tracker → NamesJust items m name → (n : ℕ) → m + 1 ≤ n → IsNamedLast items (m + 1) n → name_after tracker name ≡ Some n
name_after-kept items m tracker (Some own) knows just n ahead last =
    just.to n (law.IsNamedLast-names items m n own (just.from own refl) last)
name_after-kept items m tracker None knows just n ahead last = by_name (is_named tracker) refl
  where
    kept : tracker.named ≡ Some n
    kept = knows.kept n (omega (arith, ahead)) (law.IsNamedLast-back items m n (none_named items m just) last)

    here : (a b : ℕ) → ◌≡◌ {A = Option ℕ} (Some a) (Some b) → a ≡ b
    here a b e = cc

    by_name : (b : Bool) → is_named tracker ≡ b → cond b None tracker.named ≡ Some n
    by_name true h =
        let e : n ≡ tracker.calls = here n tracker.calls (sym kept ∙ is_named-true tracker h) in
        absurd (omega (arith, e, knows.calls, ahead))
    by_name false h = kept

either : (s t : Bool) → (s || t) ≡ true → (s ≡ true) ⊎ (t ≡ true)
either true t h = inl refl
either false t h = inr h

neither : (s t : Bool) → (s || t) ≡ false → (s ≡ false) × (t ≡ false)
neither true t h = cc
neither false t h = (refl, h)

-- a call without a frame
knows_none : (items : List (Option Seen)) (m : ℕ) (tracker : TrackerState) → Knows items m tracker → slice_get items m ≡ Some None → Knows items (m + 1) (stepped tracker None)
knows_none items m tracker knows at =
    let none = not_frame items m at in
    let just = names_none items m at in
    record {
      calls = ap (λ (k : ℕ). k + 1) knows.calls;
      named = name_after-named items m tracker None knows just;
      kept = name_after-kept items m tracker None knows just;
      signature = λ x e. let l = knows.signature x e in (l.0, l.1, law.IsLastFrame-on items m l.0 l.1 none l.2, l.3);
      first = λ e r seen last. knows.first e r seen (law.IsLastFrame-back items m r seen none last);
      switched = λ h r seen last.
          let before = law.IsLastFrame-back items m r seen none last in
          elim (either tracker.switched (is_named tracker) h) [
            | inl t ↦ let s = knows.switched t r seen before in (s.0, s.1, omega (arith, s.2), s.3)
            | inr t ↦ (m, before.before, omega arith, sees_switch items m tracker knows t)
          ];
      quiet = λ h r seen last f after within switches.
          let before = law.IsLastFrame-back items m r seen none last in
          let n = neither tracker.switched (is_named tracker) h in
          elim (law.below_or_at f m within) [
            | inl lt ↦ knows.quiet n.0 r seen before f after lt switches
            | inr e ↦ sees_none items m tracker knows n.1 (subst (λ (p : ℕ). SwitchesAt items p) e switches)
          ];
    }

-- a call with a frame
knows_frame : (items : List (Option Seen)) (m : ℕ) (tracker : TrackerState) (seen : Seen) → Knows items m tracker → slice_get items m ≡ Some (Some seen) → Knows items (m + 1) (stepped tracker (Some seen))
knows_frame items m tracker seen knows at =
    let own = subst (λ (k : ℕ). NamesJust items m (named_by k seen)) (sym knows.calls) (names_frame items m seen at) in
    record {
      calls = ap (λ (k : ℕ). k + 1) knows.calls;
      named = name_after-named items m tracker (named_by tracker.calls seen) knows own;
      kept = name_after-kept items m tracker (named_by tracker.calls seen) knows own;
      signature = λ x e. (m, seen, law.IsLastFrame-here items m seen at, let here : seen.signature ≡ x = cc in here);
      first = λ e. cc;
      switched = λ h. cc;
      quiet = λ h r other last f after within.
          let place : r ≡ m = law.IsLastFrame-place items m r other seen at last in
          absurd (omega (arith, place, after, within));
    }

knows_next : (items : List (Option Seen)) (m : ℕ) (tracker : TrackerState) (seen : Option Seen) → Knows items m tracker → slice_get items m ≡ Some seen → Knows items (m + 1) (stepped tracker seen)
knows_next items m tracker None = knows_none items m tracker
knows_next items m tracker (Some seen) = knows_frame items m tracker seen

knows_nothing : (items : List (Option Seen)) → Knows items 0 new_tracker
knows_nothing items = record {
  calls = refl;
  named = λ n e. cc;
  kept = λ n ahead last. absurd (omega (arith, last.before));
  signature = λ x e. cc;
  first = λ e r seen last. omega (arith, last.before);
  switched = λ e r seen last. absurd (omega (arith, last.before));
  quiet = λ e r seen last. absurd (omega (arith, last.before));
}

-- the answers to the rest of the items, from one of them on
answers_stand : (rest items : List (Option Seen)) (m : ℕ) (tracker : TrackerState) → Knows items m tracker → ((j : ℕ) → slice_get rest j ≡ slice_get items (m + j)) → (k : ℕ) (answer : Option Before) → slice_get (answers tracker rest) k ≡ Some answer → StandsBefore items (m + k) answer
answers_stand [] items m tracker knows at k answer h = cc
answers_stand (seen ∷ rest) items m tracker knows at zero answer h =
    let here : slice_get items m ≡ Some seen = ap (λ (p : ℕ). slice_get items p) (sym (add-zero m)) ∙ sym (at 0) in
    let same : answered tracker seen ≡ answer = cc in
    let place : m ≡ m + 0 = omega arith in
    subst (λ (p : ℕ). StandsBefore items p answer) place (subst (λ (a : Option Before). StandsBefore items m a) same (stands items m tracker seen knows here))
answers_stand (seen ∷ rest) items m tracker knows at (suc k) answer h =
    let here : slice_get items m ≡ Some seen = ap (λ (p : ℕ). slice_get items p) (sym (add-zero m)) ∙ sym (at 0) in
    let place : (j : ℕ) → m + suc j ≡ m + 1 + j = λ j. omega arith in
    subst (λ (p : ℕ). StandsBefore items p answer) (sym (place k))
    (answers_stand rest items (m + 1) (stepped tracker seen) (knows_next items m tracker seen knows here) (λ j. at (suc j) ∙ ap (λ (p : ℕ). slice_get items p) (place j)) k answer h)

length-answers : (tracker : TrackerState) (items : List (Option Seen)) → length (answers tracker items) ≡ length items
length-answers tracker [] = refl
length-answers tracker (seen ∷ rest) = ap suc (length-answers (stepped tracker seen) rest)

got_within : (answered : List (Option Before)) (k : ℕ) → k < length answered → (answer : Option Before) × (slice_get answered k ≡ Some answer)
got_within [] k lt = absurd (omega (arith, lt))
got_within (a ∷ rest) zero lt = (a, refl)
got_within (a ∷ rest) (suc k) lt = got_within rest k (omega (arith, lt))

pub tells_the_switches : TellsTheSwitches
tells_the_switches items k answer = (
  λ h. (subst (λ (n : ℕ). k < n) (length-answers new_tracker items) (slice_get_within (answers new_tracker items) k answer h), whole k answer h),
  λ (within, stands_here).
      let got = got_within (answers new_tracker items) k (subst (λ (n : ℕ). k < n) (sym (length-answers new_tracker items)) within) in
      got.1 ∙ ap Some (law.StandsBefore-same items k got.0 answer (whole k got.0 got.1) stands_here),
)
  where
    whole : (p : ℕ) (a : Option Before) → slice_get (answers new_tracker items) p ≡ Some a → StandsBefore items p a
    whole p a h = subst (λ (q : ℕ). StandsBefore items q a) (zero-add p) (answers_stand items items 0 new_tracker (knows_nothing items) (λ j. ap (λ (q : ℕ). slice_get items q) (sym (zero-add j))) p a h)
