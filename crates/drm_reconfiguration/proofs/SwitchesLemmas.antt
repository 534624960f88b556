-- Laws of what stands before items, from one item to the next.
use Rattle.std.proofs.Common.{◌≡◌, ℕ, ◌+◌, ◌<◌, ◌⊎◌, inl, inr, List, Option, Some, None, refl, sym, ◌∙◌, ap, subst, arith}
use Rattle.drm_reconfiguration.specs.Switches.{IsFrame, IndexNames, IsNamedLast, SwitchesAt, IsLastFrame, ResumesAt, StandsBefore}
use Rattle.drm_reconfiguration.specs.declared.seen.Seen.{Seen}
use Rattle.drm_reconfiguration.specs.declared.tracker.Before.{Before}
use Rattle.drm_reconfiguration.specs.declared.tracker.Before.TheVariants.{Switch, Resumed}

-- a place below m + 1 is below m, or m
pub below_or_at : (q m : ℕ) → q < m + 1 → (q < m) ⊎ (q ≡ m)
below_or_at q m h = grind arith

-- an item that names no frame leaves the name before
pub IsNamedLast-on : (items : List (Option Seen)) (m n : ℕ) → ((other : ℕ) → ¬ IndexNames items m other) → IsNamedLast items m n → IsNamedLast items (m + 1) n
IsNamedLast-on items m n none named =
    record {
      by = named.by;
      before = omega (arith, named.before);
      names = named.names;
      last = λ q other after within names.
          elim (below_or_at q m within) [
            | inl lt ↦ named.last q other after lt names
            | inr e ↦ none other (subst (λ (p : ℕ). IndexNames items p other) e names)
          ];
    }

pub IsNamedLast-back : (items : List (Option Seen)) (m n : ℕ) → ((other : ℕ) → ¬ IndexNames items m other) → IsNamedLast items (m + 1) n → IsNamedLast items m n
IsNamedLast-back items m n none named =
    record {
      by = named.by;
      before =
          elim (below_or_at named.by m named.before) [
            | inl lt ↦ lt
            | inr e ↦ absurd (none n (subst (λ (p : ℕ). IndexNames items p n) e named.names))
          ];
      names = named.names;
      last = λ q other after within. named.last q other after (omega (arith, within));
    }

-- an item that names a frame is the last that does
pub IsNamedLast-here : (items : List (Option Seen)) (m n : ℕ) → IndexNames items m n → IsNamedLast items (m + 1) n
IsNamedLast-here items m n names =
    record { by = m; before = omega arith; names = names; last = λ q other after within _. absurd (omega (arith, after, within)) }

pub IsNamedLast-names : (items : List (Option Seen)) (m n other : ℕ) → IndexNames items m other → IsNamedLast items (m + 1) n → IndexNames items m n
IsNamedLast-names items m n other names named =
    elim (below_or_at named.by m named.before) [
      | inl lt ↦ absurd (named.last m other lt (omega arith) names)
      | inr e ↦ subst (λ (p : ℕ). IndexNames items p n) e named.names
    ]

-- an item that is no frame leaves the last frame
pub IsLastFrame-on : (items : List (Option Seen)) (m r : ℕ) (seen : Seen) → ((other : Seen) → ¬ IsFrame items m other) → IsLastFrame items m r seen → IsLastFrame items (m + 1) r seen
IsLastFrame-on items m r seen none last =
    record {
      before = omega (arith, last.before);
      frame = last.frame;
      last = λ q other after within frame.
          elim (below_or_at q m within) [
            | inl lt ↦ last.last q other after lt frame
            | inr e ↦ none other (subst (λ (p : ℕ). IsFrame items p other) e frame)
          ];
    }

pub IsLastFrame-back : (items : List (Option Seen)) (m r : ℕ) (seen : Seen) → ((other : Seen) → ¬ IsFrame items m other) → IsLastFrame items (m + 1) r seen → IsLastFrame items m r seen
IsLastFrame-back items m r seen none last =
    record {
      before =
          elim (below_or_at r m last.before) [
            | inl lt ↦ lt
            | inr e ↦ absurd (none seen (subst (λ (p : ℕ). IsFrame items p seen) e last.frame))
          ];
      frame = last.frame;
      last = λ q other after within. last.last q other after (omega (arith, within));
    }

-- a frame is the last one
pub IsLastFrame-here : (items : List (Option Seen)) (m : ℕ) (seen : Seen) → IsFrame items m seen → IsLastFrame items (m + 1) m seen
IsLastFrame-here items m seen frame =
    record { before = omega arith; frame = frame; last = λ q other after within _. absurd (omega (arith, after, within)) }

pub IsLastFrame-place : (items : List (Option Seen)) (m r : ℕ) (seen other : Seen) → IsFrame items m other → IsLastFrame items (m + 1) r seen → r ≡ m
IsLastFrame-place items m r seen other frame last =
    elim (below_or_at r m last.before) [
      | inl lt ↦ absurd (last.last m other lt (omega arith) frame)
      | inr e ↦ e
    ]

same_seen : (a b : Seen) → ◌≡◌ {A = Option (Option Seen)} (Some (Some a)) (Some (Some b)) → a ≡ b
same_seen a b e = cc

-- one item is seen as one
pub IsFrame-same : (items : List (Option Seen)) (q : ℕ) (a b : Seen) → IsFrame items q a → IsFrame items q b → a ≡ b
IsFrame-same items q a b x y = same_seen a b (sym x ∙ y)

-- there is one last frame
pub IsLastFrame-same : (items : List (Option Seen)) (m r s : ℕ) (a b : Seen) → IsLastFrame items m r a → IsLastFrame items m s b → a ≡ b
IsLastFrame-same items m r s a b x y =
    elim (ordered r s) [
      | inl e ↦ IsFrame-same items s a b (subst (λ (p : ℕ). IsFrame items p a) e x.frame) y.frame
      | inr (inl lt) ↦ absurd (x.last s b lt y.before y.frame)
      | inr (inr gt) ↦ absurd (y.last r a gt x.before x.frame)
    ]
  where
    ordered : (p q : ℕ) → (p ≡ q) ⊎ (p < q) ⊎ (q < p)
    ordered p q = grind arith

-- a switch and a resumption never stand before one item
not_both : (items : List (Option Seen)) (k : ℕ) → SwitchesAt items k → ¬ ResumesAt items k
not_both items k switches resumes = resumes.quiet k resumes.last.before (omega arith) switches

-- one thing stands before an item
pub StandsBefore-same : (items : List (Option Seen)) (k : ℕ) (a b : Option Before) → StandsBefore items k a → StandsBefore items k b → a ≡ b
StandsBefore-same items k None None x y = refl
StandsBefore-same items k None (Some (Switch f)) x y = absurd (x.0 y.1)
StandsBefore-same items k None (Some (Resumed p)) x y = absurd (x.1 y.1)
StandsBefore-same items k (Some (Switch f)) None x y = absurd (y.0 x.1)
StandsBefore-same items k (Some (Switch f)) (Some (Switch g)) x y = ap (λ (n : ℕ). Some (Switch n)) (x.0 ∙ sym y.0)
StandsBefore-same items k (Some (Switch f)) (Some (Resumed p)) x y = absurd (not_both items k x.1 y.1)
StandsBefore-same items k (Some (Resumed p)) None x y = absurd (y.1 x.1)
StandsBefore-same items k (Some (Resumed p)) (Some (Switch f)) x y = absurd (not_both items k y.1 x.1)
StandsBefore-same items k (Some (Resumed p)) (Some (Resumed q)) x y = ap (λ (n : ℕ). Some (Resumed n)) (x.0 ∙ sym y.0)
