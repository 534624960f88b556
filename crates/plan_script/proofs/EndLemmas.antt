-- The end of a text.
use Rattle.std.proofs.Common.{◌≡◌, ℕ, ◌+◌, Bool, true, false, List, [], ◌∷◌, ◌++◌, length, Some, None, refl, sym, ap, ◌∙◌}
use Rattle.std.specs.Prelude.{◌==◌}
use Rattle.drm_schedule.specs.declared.invalid.Reason.TheVariants.{Missing}
use Rattle.plan_script.specs.declared.delivery.Delivery.{Delivery}
use Rattle.plan_script.specs.declared.feeds.Feeds.{Feeds}
use Rattle.text_lines.specs.Faults.{fault, first_fault, ok_unless}
use Rattle.plan_script.specs.Script.{ended}
use Rattle.plan_script.specs.Steps.{feeds_in}
use Rattle.plan_script.proofs.StepLemmas.{breaks, gives, no_feeds, some_length}

by_row : (none : Bool) (n : ℕ) (feeds : List (List Delivery)) → none ≡ true → ok_unless (first_fault ((none, fault (n + 1) Missing) ∷ [])) feeds ≡ breaks (n + 1) Missing
by_row true n feeds e = refl
by_row false n feeds e = absurd cc

by_no_row : (none : Bool) (n : ℕ) (feeds : List (List Delivery)) → none ≡ false → ok_unless (first_fault ((none, fault (n + 1) Missing) ∷ [])) feeds ≡ gives feeds
by_no_row true n feeds e = absurd cc
by_no_row false n feeds e = refl

-- without a feed
pub ends_without : (feeds : Feeds) (n : ℕ) → feeds.current ≡ None → feeds.closed ≡ [] → ended n (feeds_in feeds) ≡ breaks (n + 1) Missing
unfolding ended
ends_without feeds n none empty = by_row (length (feeds_in feeds) == 0) n (feeds_in feeds) (no_feeds feeds none empty)

-- with a last feed
pub ends_with : (feeds : Feeds) (feed : List Delivery) (all : List (List Delivery)) (n : ℕ) → feeds.current ≡ Some feed → all ≡ feeds.closed ++ feed ∷ [] → ended n (feeds_in feeds) ≡ gives all
unfolding ended
ends_with feeds feed all n some is =
    let same : feeds_in feeds ≡ feeds.closed ++ feed ∷ [] = rw some refl in
    by_no_row (length (feeds_in feeds) == 0) n (feeds_in feeds) (ap (λ (fs : List (List Delivery)). length fs == 0) same ∙ some_length feeds.closed feed)
    ∙ ap gives (same ∙ sym is)
