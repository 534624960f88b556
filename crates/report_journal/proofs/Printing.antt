-- Items are given to the feed, counted and written.
use Rattle.std.proofs.Common.{◌≡◌, ℕ, ◌+◌, ◌-◌, ◌^◌, ◌<◌, ◌≤◌, ◌⊎◌, inl, inr, nat_le, IfSome, true, false, List, [], ◌∷◌, ◌++◌, length, take, Option, None, Some, refl, sym, ◌∙◌, ap, subst, arith, Result}
use Rattle.std.proofs.lemmas.Bool.{true≢false}
use Rattle.std.proofs.lemmas.Bool.Decides.{nat_tests}
use Rattle.std.proofs.lemmas.List.{append-nil, take_all, take_at}
use Rattle.recv_reading.proofs.Common.{Known, Output, OutputsText, CollectorState, ready, after_item, CollectorItem, CollectorGives, up_to, GivesSoFar, is_full}
use Rattle.drm_links.proofs.KnownLemmas.{OutputsText-then, OutputsText-nothing}
use Rattle.law_collect.proofs.Runs.{given_more, gives_after, gives_given}
use Rattle.drm_reconfiguration.specs.Tracker.{TrackerState}
use Rattle.mod_feed.specs.Items.{FrameItem as FeedItem}
use Rattle.mod_feed.specs.Feeding.{FeedStep, FeedAnswers}
use Rattle.mod_feed.proofs.FeedingLemmas.{feedings_join, feeds_calls}
use Rattle.report_text.specs.Report.{step_text}
use Rattle.report_text.specs.Reports.{steps_text}
use Rattle.report_text.specs.Tallies.{TallyContents, counted, items_in, with_steps}
use Rattle.recv_reading.proofs.Reaching.{one_below}
use Rattle.report_text.proofs.StepLemmas.{one_more, one_text, text_more}
use Rattle.report_journal.specs.Lines.{left_of, HasFed, PrintsNext, JournalPrints, PrintsAll, CountsFirst}

-- ---- what is printed

with_more : (t : TallyContents) (ss ts : List FeedStep) → with_steps t (ss ++ ts) ≡ with_steps (with_steps t ss) ts
with_more t [] ts = refl
with_more t (s ∷ ss) ts = with_more (counted t s.item) ss ts

pub none_printed : (c : CollectorState) (f : TrackerState) (t : TallyContents) (a : Known Output) → JournalPrints c c f f t t a a
none_printed c f t a = record { items = []; gives = refl; steps = []; feeds = refl; counts = refl; text = OutputsText-nothing a (λ x. x ≡ []) refl }

-- an item more; where nothing is told of the output, its lines may be missing
pub one_printed : {E : Type 0} {result : Result (Unit {0}) E} (c d e : CollectorState) (f g h : TrackerState) (t u v : TallyContents) (a b b' o : Known Output) → JournalPrints c d f g t u a b → ready d ≡ true → e ≡ after_item d
    → (n : PrintsNext result d g h u v b b') → OutputsText b o (λ x. x ≡ step_text n.step) → JournalPrints c e f h t v a o
one_printed c d e f g h t u v a b b' o p now after n wrote = record {
  items = p.items ++ n.item ∷ [];
  gives = subst (λ s. GivesSoFar c (p.items ++ n.item ∷ []) s) (sym after) (given_more p.items c d n.item p.gives now n.is);
  steps = p.steps ++ n.step ∷ [];
  feeds = feedings_join f g h p.items (n.item ∷ []) p.steps (n.step ∷ []) p.feeds (n.stepping, n.feed);
  counts = n.counts ∙ ap (λ w. counted w n.step.item) p.counts ∙ sym (with_more t p.steps (n.step ∷ []));
  text = OutputsText-then (λ x. x ≡ steps_text p.steps) (λ x. x ≡ step_text n.step) (λ x. x ≡ steps_text (p.steps ++ n.step ∷ [])) a b o p.text wrote
      (λ x y e q. ap (λ l. l ++ y) e ∙ ap (λ l. steps_text p.steps ++ l) (q ∙ one_text n.step) ∙ sym (text_more p.steps (n.step ∷ [])));
}

-- ---- up to the told number

pub one_fed : (frame_limit : Option ℕ) (c d : CollectorState) (f g : TrackerState) (t u : TallyContents) (item : FeedItem) → HasFed frame_limit c.next f t → d ≡ after_item c → is_full frame_limit (items_in t.sums) ≡ false
    → g.calls ≡ f.calls + 1 → u ≡ counted t item → HasFed frame_limit d.next g u
one_fed frame_limit c d f g t u item fed after room calls counts =
    let below : is_full frame_limit f.calls ≡ false = ap (is_full frame_limit) (sym fed.counted) ∙ room in
    record {
      counted = ap (λ (w : TallyContents). items_in w.sums) counts ∙ one_more t.sums item ∙ ap (λ n. n + 1) fed.counted ∙ sym calls;
      within = subst (λ n. IfSome frame_limit (λ m. n ≤ m)) (sym calls) (one_below frame_limit f.calls below);
      in_order = λ _. calls ∙ ap (λ n. n + 1) (fed.in_order below) ∙ sym (ap (λ (s : CollectorState). s.next) after);
    }

-- the told number is small, and no more items are counted
pub full_fits : (frame_limit : Option ℕ) (next : ℕ) (f : TrackerState) (t : TallyContents) → IfSome frame_limit (λ n. n ≤ 3000000) → HasFed frame_limit next f t → IfSome frame_limit (λ _. items_in t.sums < 2 ^ 63)
full_fits None next f t small fed = tt
full_fits (Some n) next f t small fed =
    let l : n ≤ 3000000 = small in
    let w : f.calls ≤ n = fed.within in
    omega (arith, l, w, fed.counted)

-- these are the first ones of those told that are left, where there are no others, or as many were given as are told
cut : (frame_limit : Option ℕ) (m k : ℕ) (items more : List CollectorItem) → k ≡ m + length items → IfSome frame_limit (λ n. k ≤ n) → (is_full frame_limit k ≡ true) ⊎ (more ≡ []) → up_to (left_of frame_limit m) (items ++ more) ≡ items
cut None m k items more is within (inl full) = absurd (let clash : false ≡ true = full in cc)
cut None m k items more is within (inr none) = ap (λ l. items ++ l) none ∙ append-nil items
cut (Some n) m k items more is within (inl full) =
    let w : k ≤ n = within in
    let f : n ≤ k = (let test : nat_le n k ≡ true = full in grind (arith, nat_tests)) in
    take_at items more (n - m) (omega (arith, is, w, f))
cut (Some n) m k items more is within (inr none) =
    let w : k ≤ n = within in
    ap (λ l. take (n - m) (items ++ l)) none ∙ (ap (take (n - m)) (append-nil items) ∙ take_all (n - m) items (omega (arith, is, w)))

none_more : (items : List CollectorItem) (c d : CollectorState) → ready c ≡ false → CollectorGives c items d → items ≡ []
none_more [] c d none gives = refl
none_more (item ∷ items) c d none gives = absurd (true≢false (sym gives.0 ∙ none))

module _ (frame_limit : Option ℕ) (c d : CollectorState) (f g : TrackerState) (t u : TallyContents) (a b : Known Output) (p : JournalPrints c d f g t u a b) (fed : HasFed frame_limit d.next g u) where
  up_to_here : (more : List CollectorItem) → (is_full frame_limit g.calls ≡ true) ⊎ (more ≡ []) → FeedAnswers f (up_to (left_of frame_limit f.calls) (p.items ++ more)) p.steps g
  up_to_here more over = subst (λ l. FeedAnswers f l p.steps g) (sym (cut frame_limit f.calls g.calls p.items more (feeds_calls f g p.items p.steps p.feeds) fed.within over)) p.feeds

  -- there was no room for the lines of the last one
  pub counts_first : CountsFirst frame_limit c d f g t u
  counts_first = record {
    items = p.items;
    gives = p.gives;
    steps = p.steps;
    feeds = subst (λ l. FeedAnswers f (up_to (left_of frame_limit f.calls) l) p.steps g) (append-nil p.items) (up_to_here [] (inr refl));
    counts = p.counts;
  }

  -- what is past the told number was given, too
  pub prints_all : (e : CollectorState) (more : List CollectorItem) → (is_full frame_limit (items_in u.sums) ≡ true) ⊎ (ready d ≡ false) → CollectorGives d more e → PrintsAll frame_limit c e f g t u a b
  prints_all e more over gives = record {
    items = p.items ++ more;
    gives = gives_after p.items more c d e p.gives gives;
    steps = p.steps;
    feeds = up_to_here more (elim over [
      | inl full ↦ inl (ap (is_full frame_limit) (sym fed.counted) ∙ full)
      | inr none ↦ inr (none_more more d e none gives)
    ]);
    counts = p.counts;
    text = p.text;
  }

-- all that was printed was counted
pub all_counted : (frame_limit : Option ℕ) (c d : CollectorState) (f g : TrackerState) (t u : TallyContents) (a b : Known Output) → PrintsAll frame_limit c d f g t u a b → CountsFirst frame_limit c d f g t u
all_counted frame_limit c d f g t u a b p = record { items = p.items; gives = (gives_given p.items c d p.gives).0; steps = p.steps; feeds = p.feeds; counts = p.counts }
