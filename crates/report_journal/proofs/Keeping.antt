-- What a journal keeps, as it grows.
use Rattle.std.proofs.Common.{◌≡◌, ℕ, zero, suc, ◌+◌, ◌-◌, ◌≤◌, nat_le, min, IfSome, Bool, true, false, if◌then◌else◌, List, [], ◌∷◌, ◌++◌, map, length, take, Option, None, Some, Result, Ok, Err, OnOk, OnErr, is_err, IsTrue, ◌↔◌, refl, sym, ◌∙◌, ap, subst, arith, append_assoc}
use Rattle.std.proofs.lemmas.List.{append-nil, map-append, length-map, length-take}
use Rattle.recv_reading.proofs.Common.{Taken, CollectorState, made, after_item, after_finish, CollectorItem, CollectorTakes, up_to, CollectorInvariant, GivesSoFar}
use Rattle.recv_reading.proofs.Common.{is_full}
use Rattle.recv_reading.specs.declared.reason.EndWord.{EndWord}
use Rattle.law_collect.proofs.Runs.{steps_more, steps_count, gives_given}
use Rattle.law_collect.proofs.Fit.{fit_given}
use Rattle.drm_reconfiguration.specs.Tracker.{TrackerState, new_tracker}
use Rattle.mod_feed.specs.Items.{seen_in}
use Rattle.mod_feed.specs.Feeding.{FeedStep, FeedAnswers, after_step}
use Rattle.mod_feed.proofs.FeedingLemmas.{feedings_join, stepped_calls, feeds_calls}
use Rattle.recv_reading.specs.declared.reason.EndWord.TheVariants as word
use Rattle.report_text.specs.Report.{feed_line, end_line}
use Rattle.report_text.specs.Reports.{refusals, refused_text, steps_text}
use Rattle.report_text.specs.Tallies.{TallyContents, new_tally, noted, counted, items_in, with_steps, tally_of, totals_in}
use Rattle.report_text.specs.Totals.{answered}
use Rattle.report_journal.specs.Lines.{left_of, HasFed, WritesAll, CountsFirst}
use Rattle.recv_reading.proofs.Reaching.{le_not}
use Rattle.recv_reading.proofs.Finishing.{giving}
use Rattle.recv_reading.proofs.Giving.{steps_many}
use Rattle.report_text.proofs.CountLemmas.{steps_counted, answer_noted, all_answered, refusals_reportable, last_reportable, clean_is}
use Rattle.report_text.proofs.RefusalLemmas.{AreReportable}
use Rattle.report_text.proofs.StepLemmas.{one_more, text_more}
use Rattle.recv_reading.specs.declared.options.PacketRange.{PacketRange}
use Rattle.recv_reading.specs.Options.{IsWithinLimits}
use Rattle.report_journal.specs.Report.{IsReportSoFar, IsPrefixSoFar, IsReportOf, word_for}
use Rattle.report_journal.specs.declared.journal.Journal.TheInside.{Inside}
use Rattle.report_journal.specs.Journal.{JournalState, entry_of, datagrams, IsKept, JournalEnters}
use Rattle.report_journal.specs.Sound.{IsJournalOpen, JournalInvariant}

-- ---- a new journal

none_fed : (frame_limit : Option ℕ) → FeedAnswers new_tracker (up_to frame_limit []) [] new_tracker
none_fed None = refl
none_fed (Some zero) = refl
none_fed (Some (suc n)) = refl

pub so_far_none : (by : PacketRange) → IsReportSoFar by [] (made by.window by.reach by.first) new_tracker new_tally (feed_line 1)
so_far_none by = record {
  taken = [];
  items = [];
  gave = (refl, refl);
  steps = [];
  feeds = none_fed by.frame_limit;
  counts = refl;
  text_is = sym (append-nil (feed_line 1));
}

pub sound_new : (j : Inside) → IsWithinLimits j.options → j.entries.items ≡ [] → j.collector ≡ made j.options.window j.options.reach j.options.first → j.feed ≡ new_tracker → j.counts ≡ new_tally
    → j.text.items ≡ feed_line 1 → j.stopped ≡ false → JournalInvariant j
sound_new j range none is_made is_new is_empty is_first goes = record {
  range = range;
  kept = record {
    whole = λ e. rw (ap (λ es. datagrams (map entry_of es)) none, is_made, is_new, is_empty, is_first) (so_far_none j.options);
    front = λ e. absurd (let x : true ≡ false = sym e ∙ goes in cc);
  };
  goes_on = λ e. record { fit = rw is_made (range.0, tt); unfinished = rw is_made refl; quiet = rw is_made refl };
}

-- ---- what was fed

-- each step was counted
fed_counts : (f after : TrackerState) (given : List CollectorItem) (steps : List FeedStep) (t : TallyContents) → FeedAnswers f given steps after → items_in t.sums ≡ f.calls → items_in (with_steps t steps).sums ≡ after.calls
fed_counts f after [] [] t fed same = same ∙ sym (ap (λ (s : TrackerState). s.calls) fed)
fed_counts f after [] (s ∷ steps) t fed same = absurd fed
fed_counts f after (g ∷ given) [] t fed same = absurd fed
fed_counts f after (g ∷ given) (s ∷ steps) t fed same =
    fed_counts (after_step f s) after given steps (counted t s.item) fed.1 (one_more t.sums s.item ∙ (ap (λ n. n + 1) same ∙ sym (stepped_calls f (seen_in s.item))))

-- this many items are those up to the told number
abbrev IsCountUpTo : Option ℕ → List CollectorItem → ℕ → Type 0
IsCountUpTo frame_limit items k = IfSome frame_limit (λ n. k ≤ n) × (is_full frame_limit k ≡ false → k ≡ length items) × (is_full frame_limit k ≡ is_full frame_limit (length items))

count_up_to : (frame_limit : Option ℕ) (items : List CollectorItem) (k : ℕ) → k ≡ length (up_to frame_limit items) → IsCountUpTo frame_limit items k
count_up_to None items k is = (tt, (λ room. is), refl)
count_up_to (Some n) items k is =
    let size : k ≡ min n (length items) = is ∙ length-take n items in
    (omega (arith, size), (λ room. let l = le_not n k room in omega (arith, size, l)), ap (nat_le n) size ∙ least n (length items))
  where
    least : (n m : ℕ) → nat_le n (min n m) ≡ nat_le n m
    least n m = grind arith

take_join : {A : Type 0} (n : ℕ) (xs ys : List A) → take n (xs ++ ys) ≡ take n xs ++ take (n - length xs) ys
take_join zero [] ys = refl
take_join (suc n) [] ys = ap (λ k. take k ys) (let e : suc n ≡ suc n - 0 = omega arith in e)
take_join zero (x ∷ xs) ys = ap (λ k. take k ys) (let e : 0 ≡ 0 - length (x ∷ xs) = omega arith in e)
take_join (suc n) (x ∷ xs) ys =
    let e : n - length xs ≡ suc n - length (x ∷ xs) = omega arith in
    ap (λ l. x ∷ l) (take_join n xs ys ∙ ap (λ k. take n xs ++ take k ys) e)

up_to_join : (frame_limit : Option ℕ) (xs ys : List CollectorItem) (k : ℕ) → k ≡ length (up_to frame_limit xs) → up_to frame_limit (xs ++ ys) ≡ up_to frame_limit xs ++ up_to (left_of frame_limit k) ys
up_to_join None xs ys k is = refl
up_to_join (Some n) xs ys k is =
    let size : k ≡ min n (length xs) = is ∙ length-take n xs in
    let e : n - length xs ≡ n - k = omega (arith, size) in
    take_join n xs ys ∙ ap (λ m. take n xs ++ take m ys) e

feeds_more : (frame_limit : Option ℕ) (f g : TrackerState) (xs ys : List CollectorItem) (ss ts : List FeedStep)
    → FeedAnswers new_tracker (up_to frame_limit xs) ss f → FeedAnswers f (up_to (left_of frame_limit f.calls) ys) ts g → FeedAnswers new_tracker (up_to frame_limit (xs ++ ys)) (ss ++ ts) g
feeds_more frame_limit f g xs ys ss ts p q =
    subst (λ l. FeedAnswers new_tracker l (ss ++ ts) g) (sym (up_to_join frame_limit xs ys f.calls (feeds_calls new_tracker f (up_to frame_limit xs) ss p ∙ omega arith)))
    (feedings_join new_tracker f g (up_to frame_limit xs) (up_to (left_of frame_limit f.calls) ys) ss ts p q)

-- ---- a datagram more

module _ (by : PacketRange) (ds : List (List ℕ)) (c : CollectorState) (f : TrackerState) (t : TallyContents) (text : List ℕ) (r : IsReportSoFar by ds c f t text) where
  -- as many answers as datagrams
  many : length r.taken ≡ length ds
  many = steps_many (made by.window by.reach by.first) c ds r.taken r.items r.gave

  -- as many answers are counted as there are datagrams
  pub many_answered : answered (totals_in t) ≡ length ds
  many_answered = ap (λ (x : TallyContents). answered (totals_in x)) r.counts ∙ all_answered r.steps r.taken ∙ many

  -- what is shown of refusals can be told
  pub refused_reportable : AreReportable t.refused
  refused_reportable =
      subst (λ (u : TallyContents). AreReportable u.refused) (sym r.counts)
      (last_reportable 16 (refusals r.taken) (refusals_reportable (made by.window by.reach by.first) c ds r.taken r.items 0 r.gave))

  -- the feed has the items that were given, up to the told number, and each is counted
  count_here : IsCountUpTo by.frame_limit r.items f.calls
  count_here = count_up_to by.frame_limit r.items f.calls (feeds_calls new_tracker f (up_to by.frame_limit r.items) r.steps r.feeds ∙ omega arith)

  pub has_fed : HasFed by.frame_limit c.next f t
  has_fed = record {
    counted = ap (λ (u : TallyContents). items_in u.sums) (r.counts ∙ sym (steps_counted [] r.steps r.taken))
        ∙ fed_counts new_tracker f (up_to by.frame_limit r.items) r.steps (tally_of [] r.taken) r.feeds (omega arith);
    within = count_here.0;
    in_order = λ room. count_here.1 room ∙ sym (steps_count (made by.window by.reach by.first) c ds r.taken r.items r.gave ∙ omega arith);
  }

  -- the reason to end is by what was given
  pub same_word : word_for by.frame_limit (items_in t.sums) ≡ word_for by.frame_limit (length r.items)
  same_word = ap (λ (b : Bool). if b then word.Frames else word.Paths) (ap (is_full by.frame_limit) has_fed.counted ∙ count_here.2)

  more_text : (after : List ℕ) (ss : List FeedStep) → after ≡ text ++ steps_text ss → after ≡ feed_line 1 ++ steps_text (r.steps ++ ss)
  more_text after ss is =
      is ∙ ap (λ l. l ++ steps_text ss) r.text_is ∙ append_assoc (feed_line 1) (steps_text r.steps) (steps_text ss)
      ∙ ap (λ l. feed_line 1 ++ l) (sym (text_more r.steps ss))

  module _ (bytes : List ℕ) (answer : Taken) (kept : CollectorState) (takes : CollectorTakes c bytes answer kept) where
    -- a datagram was taken, and what it made ready was written
    pub so_far_more : (d : CollectorState) (g : TrackerState) (u v : TallyContents) (after : List ℕ) → u ≡ noted t (length ds) answer
        → WritesAll by.frame_limit kept d f g u v text after → IsReportSoFar by (ds ++ bytes ∷ []) d g v after
    so_far_more d g u v after notes w = record {
      taken = r.taken ++ answer ∷ [];
      items = r.items ++ w.items;
      gave = steps_more ds r.taken r.items w.items (made by.window by.reach by.first) c kept d bytes answer r.gave takes w.gives;
      steps = r.steps ++ w.steps;
      feeds = feeds_more by.frame_limit f g r.items w.items r.steps w.steps r.feeds w.feeds;
      counts = w.counts
          ∙ ap (λ x. with_steps x w.steps) (notes ∙ ap (λ x. noted x (length ds) answer) r.counts ∙ answer_noted r.steps r.taken answer (length ds) (sym many))
          ∙ steps_counted r.steps w.steps (r.taken ++ answer ∷ []);
      text_is = more_text after w.steps w.text_is;
    }

    -- a datagram was taken, and there was no room for what it made ready
    pub so_far_stops : (after : List ℕ) → CollectorInvariant kept → after ≡ text → IsPrefixSoFar by (ds ++ bytes ∷ []) after
    so_far_stops after fit same =
        let more = giving kept fit.0 fit.1 in
        record {
          taken = r.taken ++ answer ∷ [];
          items = r.items;
          more = more.0;
          last = more.1;
          gave = steps_more ds r.taken r.items more.0 (made by.window by.reach by.first) c kept more.1 bytes answer r.gave takes more.2;
          steps = r.steps;
          after = f;
          feeds = r.feeds;
          front = ([], sym r.text_is ∙ sym same ∙ sym (append-nil after));
        }

-- ---- the end

module _ (by : PacketRange) (ds : List (List ℕ)) (c : CollectorState) (f : TrackerState) (t : TallyContents) (text : List ℕ) (r : IsReportSoFar by ds c f t text) where
  -- with what is ready at the end, and with its last lines, the report is whole
  pub whole_report : (d : CollectorState) (g : TrackerState) (u : TallyContents) (after : List ℕ) (clean : Bool) (w : WritesAll by.frame_limit (after_finish c by.frame_limit) d f g t u text after)
      → IsTrue clean ↔ ((u.sums.missing ≡ 0) × (u.sums.bad ≡ 0))
      → IsReportOf by ds (after ++ (refused_text u.refused ++ end_line (word_for by.frame_limit (items_in t.sums)) u.sums)) clean
  whole_report d g u after clean w is =
      let ss : List FeedStep = r.steps ++ w.steps in
      let counts : u ≡ tally_of ss r.taken = w.counts ∙ ap (λ x. with_steps x w.steps) r.counts ∙ steps_counted r.steps w.steps r.taken in
      let tail : TallyContents → EndWord → List ℕ = λ x e. refused_text x.refused ++ end_line e x.sums in
      record {
        taken = r.taken;
        items = up_to by.frame_limit (r.items ++ w.items);
        run = record {
          during = r.items;
          rest = w.items;
          mid = c;
          after = d;
          steps = r.gave;
          gives = w.gives;
          are = refl;
        };
        steps = ss;
        after = g;
        feeds = feeds_more by.frame_limit f g r.items w.items r.steps w.steps r.feeds w.feeds;
        text_is = ap (λ x. after ++ tail x (word_for by.frame_limit (items_in t.sums))) counts
            ∙ ap (λ e. after ++ tail (tally_of ss r.taken) e) (same_word by ds c f t text r)
            ∙ ap (λ l. l ++ tail (tally_of ss r.taken) (word_for by.frame_limit (length r.items))) (more_text by ds c f t text r after w.steps w.text_is)
            ∙ append_assoc (feed_line 1) (steps_text ss) (tail (tally_of ss r.taken) (word_for by.frame_limit (length r.items)));
        clean_is = clean_is clean u ss r.taken is counts;
      }

with_refused : (t : TallyContents) (ss : List FeedStep) → (with_steps t ss).refused ≡ t.refused
with_refused t [] = refl
with_refused t (s ∷ ss) = with_refused (counted t s.item) ss

-- what is shown of refusals can be told at the end too
pub reportable_at_end : (frame_limit : Option ℕ) (c d : CollectorState) (f g : TrackerState) (t u : TallyContents) (text after : List ℕ) → WritesAll frame_limit c d f g t u text after → AreReportable t.refused → AreReportable u.refused
reportable_at_end frame_limit c d f g t u text after w are = subst AreReportable (sym (ap (λ (x : TallyContents). x.refused) w.counts ∙ with_refused t w.steps)) are

-- ---- results

pub at_ok : {T E : Type 0} (r : Result T E) (P : Type 0) → is_err r ≡ false → OnOk r P → P
at_ok (Ok x) P is p = p
at_ok (Err e) P is p = absurd (let x : true ≡ false = is in cc)

pub at_err : {T E : Type 0} (r : Result T E) (P : Type 0) → is_err r ≡ true → OnErr r P → P
at_err (Ok x) P is p = absurd (let x : false ≡ true = is in cc)
at_err (Err e) P is p = p

-- ---- an entry

datagrams_more : (es : List (ℕ × List ℕ)) (path : ℕ) (bytes : List ℕ) → datagrams (es ++ (path, bytes) ∷ []) ≡ datagrams es ++ bytes ∷ []
datagrams_more es path bytes = map-append (λ (e : ℕ × List ℕ). e.1) es ((path, bytes) ∷ [])

pub as_many : (es : List (ℕ × List ℕ)) → length (datagrams es) ≡ length es
as_many es = length-map es (λ (e : ℕ × List ℕ). e.1)

module _ (by : PacketRange) (es es' : List (ℕ × List ℕ)) (path : ℕ) (bytes : List ℕ) (c kept d : CollectorState) (f g : TrackerState) (t u v : TallyContents) (text after : List ℕ) (answer : Taken) (number : ℕ)
    (r : IsReportSoFar by (datagrams es) c f t text) (more : es' ≡ es ++ (path, bytes) ∷ []) (is : number ≡ length es) (takes : CollectorTakes c bytes answer kept) (notes : u ≡ noted t number answer) where
  notes_as : u ≡ noted t (length (datagrams es)) answer
  notes_as = notes ∙ ap (λ n. noted t n answer) (is ∙ sym (as_many es))

  -- what a journal keeps behind an entry
  pub entered : {T E : Type 0} (result : Result T E) → CollectorInvariant kept → OnOk result (WritesAll by.frame_limit kept d f g u v text after) → OnErr result (after ≡ text)
      → IsKept (record { entries = es'; options = by; collector = d; feed = g; tally = v; text = after; stopped = is_err result })
  entered result fit ok err = record {
    whole = λ e. subst (λ ds. IsReportSoFar by ds d g v after) (sym (ap datagrams more ∙ datagrams_more es path bytes))
        (so_far_more by (datagrams es) c f t text r bytes answer kept takes d g u v after notes_as (at_ok result _ e ok));
    front = λ e. subst (λ ds. IsPrefixSoFar by ds after) (sym (ap datagrams more ∙ datagrams_more es path bytes))
        (so_far_stops by (datagrams es) c f t text r bytes answer kept takes after fit (at_err result _ e err));
  }

  pub enters : {T E : Type 0} (result : Result T E) → OnOk result (WritesAll by.frame_limit kept d f g u v text after) → OnErr result (after ≡ text) → OnErr result (CountsFirst by.frame_limit kept d f g u v)
      → JournalEnters (record { entries = es; options = by; collector = c; feed = f; tally = t; text = text; stopped = false }) (path, bytes) answer
      (record { entries = es'; options = by; collector = d; feed = g; tally = v; text = after; stopped = is_err result })
  enters result ok err first = record {
    entries = more;
    options = refl;
    kept = kept;
    takes = takes;
    writes = λ e. subst (λ (x : TallyContents). WritesAll by.frame_limit kept d f g x v text after) (notes ∙ ap (λ n. noted t n answer) is) (at_ok result _ e ok);
    stops = λ e. at_err result _ e err;
    first = λ e. subst (λ (x : TallyContents). CountsFirst by.frame_limit kept d f g x v) (notes ∙ ap (λ n. noted t n answer) is) (at_err result _ e first);
  }

-- giving keeps the end
given_end : (items : List CollectorItem) (c d : CollectorState) → GivesSoFar c items d → d.end ≡ c.end
given_end [] c d given = ap (λ s. s.end) given
given_end (item ∷ items) c d given = given_end items (after_item c) d given.2

-- it goes on where the lines found room
pub goes_on : (s : JournalState) (kept : CollectorState) (f : TrackerState) (t : TallyContents) (text : List ℕ) {T E : Type 0} (result : Result T E) → s.stopped ≡ is_err result → CollectorInvariant kept → kept.end ≡ None
    → OnOk result (WritesAll s.options.frame_limit kept s.collector f s.feed t s.tally text s.text) → s.stopped ≡ false → IsJournalOpen s
goes_on s kept f t text result is fit open_ ok e =
    let w = at_ok result _ (sym is ∙ e) ok in
    let (given, quiet) = gives_given w.items kept s.collector w.gives in
    record { fit = fit_given w.items kept s.collector w.gives fit; unfinished = given_end w.items kept s.collector given ∙ open_; quiet = quiet }
