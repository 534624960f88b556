-- A report grows, call by call.
use Rattle.std.proofs.Common.{◌≡◌, ℕ, ◌+◌, inl, inr, true, List, [], ◌∷◌, ◌++◌, length, Option, None, Some, Ok, Err, refl, sym, ◌∙◌, ap, subst, append_assoc}
use Rattle.std.proofs.lemmas.List.{append-nil}
use Rattle.recv_reading.proofs.Common.{Known, Answer, Failed, Output, OutputsText, IsPrefix, IsPrefixBehind, Taken, CollectorState, CollectorItem}
use Rattle.recv_reading.proofs.Common.{ReadingState, has_ended, word_of, ReadingReached, ReadingWaits, ReadsOn}
use Rattle.recv_reading.specs.declared.options.ReceiveOptions.{ReceiveOptions}
use Rattle.drm_links.proofs.KnownLemmas.{OutputsText-then, OutputsText-nothing, OutputsText-weaker}
use Rattle.drm_reconfiguration.specs.Tracker.{TrackerState, new_tracker}
use Rattle.mod_feed.specs.Feeding.{FeedStep, IsStep, FeedAnswers, after_step}
use Rattle.mod_feed.proofs.FeedingLemmas.{feedings_join}
use Rattle.report_text.specs.Report.{step_text}
use Rattle.recv_reading.specs.declared.source.SourceFault.{SourceFault}
use Rattle.recv_reading.specs.State.{one_given}
use Rattle.recv_reading.proofs.Reaching.{one_more_few}
use Rattle.recv_reading.proofs.Finishing.{IsOver, finishes, gives_some, all_given, answers_many}
use Rattle.report_text.specs.Reports.{steps_text}
use Rattle.report_text.specs.Tallies.{TallyContents, new_tally, counted, noted, items_in, tally_of, totals_in}
use Rattle.report_text.specs.Totals.{answered}
use Rattle.recv_reading.proofs.Looping.{Loop, with_answer, loop_given, loop_on}
use Rattle.recv_report.specs.Progress.{AreOut, HasPrinted, noted_if, WroteItems, ReadsBroken, ReadsPrefix}
use Rattle.report_text.proofs.StepLemmas.{one_more, one_text, text_more}
use Rattle.report_text.proofs.TakenLemmas.{noted_items}
use Rattle.report_text.proofs.CountLemmas.{steps_counted, answer_noted, all_answered}

-- nothing came yet
pub none_printed : (a : Known Output) (c : CollectorState) (f : TrackerState) (t : TallyContents) (lines : List ℕ) → c.next ≡ 0 → f ≡ new_tracker → t ≡ new_tally → lines ≡ [] → HasPrinted a a f t lines [] [] [] c
none_printed a c f t lines first new empty none = record {
  earlier = [];
  mid = f;
  before = new;
  later = [];
  since = refl;
  calls = ap (λ (s : TrackerState). s.calls) new ∙ sym first;
  tally = empty;
  items = ap (λ (u : TallyContents). items_in u.sums) empty ∙ sym first;
  quiet = λ nothing. none;
  text = OutputsText-nothing a (AreOut [] [] lines) ([], refl, none);
}

with_one : (steps : List FeedStep) (step : FeedStep) → steps_text (steps ++ step ∷ []) ≡ steps_text steps ++ step_text step
with_one steps step = text_more steps (step ∷ []) ∙ ap (λ l. steps_text steps ++ l) (sym (one_text step))

-- a list with an item isn't empty
some_items : (items : List CollectorItem) (item : CollectorItem) → items ++ item ∷ [] ≡ [] → ⊥
some_items [] item is = cc
some_items (x ∷ items) item is = cc

-- a write failed, where something was given since the last answer
front_at : (options : ReceiveOptions) (so_far : List Answer → Type 0) (a b : Known Output) (answers : List Answer) (taken : List Taken) (during more : List CollectorItem) (r : ReadingState) (c : CollectorState)
    (earlier later : List FeedStep) (mid last : TrackerState) → ReadingReached options answers taken during more r c → so_far answers → (more ≡ [] → ⊥) → FeedAnswers new_tracker during earlier mid
    → FeedAnswers new_tracker (during ++ more) (earlier ++ later) last → OutputsText a b (IsPrefixBehind (steps_text earlier) (steps_text later)) → ReadsPrefix options so_far a b
front_at options so_far a b answers taken during more r c earlier later mid last z heard some before fed text =
    elim (gives_some options answers taken during more r c z) [
      | inl none ↦ absurd (some none)
      | inr (part, same) ↦ record {
        answers = answers;
        heard = heard;
        few = z.few;
        goes_on = z.goes_on;
        earlier = earlier;
        later = later;
        stepped = record {
          items = during ++ more;
          some = part;
          mid = mid;
          before = subst (λ l. FeedAnswers new_tracker l earlier mid) (sym same) before;
          last = last;
          feeds = fed;
        };
        text = text;
      }
    ]

module _ (options : ReceiveOptions) (so_far : List Answer → Type 0) (a b : Known Output) (r : ReadingState) (c : CollectorState) (f : TrackerState) (t : TallyContents) (gathered : List ℕ)
    (p : Loop options so_far (HasPrinted a b f t gathered) r c) where
  many_taken : length p.taken ≡ r.taken
  many_taken = answers_many options p.answers p.taken p.during p.more r c p.reached ∙ p.reached.taken_are

  pub many_answered : answered (totals_in t) ≡ r.taken
  many_answered = ap (λ (u : TallyContents). answered (totals_in u)) p.has.tally ∙ all_answered (p.has.earlier ++ p.has.later) p.taken ∙ many_taken

  all_fed : FeedAnswers new_tracker (p.during ++ p.more) (p.has.earlier ++ p.has.later) f
  all_fed = feedings_join new_tracker p.has.mid f p.during p.more p.has.earlier p.has.later p.has.before p.has.since

  -- ---- an item

  module _ (item : CollectorItem) (step : FeedStep) (stepping : IsStep f item step) where
    since_one : FeedAnswers p.has.mid (p.more ++ item ∷ []) (p.has.later ++ step ∷ []) (after_step f step)
    since_one = feedings_join p.has.mid f (after_step f step) p.more (item ∷ []) p.has.later (step ∷ []) p.has.since (stepping, refl)

    -- it was counted, and its lines were put behind the others
    pub progress_one : (b' : Known Output) (s : ReadingState) (d : CollectorState) (g : TrackerState) (u : TallyContents) (more : List ℕ)
        → ReadingReached options p.answers p.taken p.during (p.more ++ item ∷ []) s d → s ≡ one_given r → g ≡ after_step f step → g.calls ≡ f.calls + 1 → u ≡ counted t step.item
        → OutputsText b b' (λ text. text ++ more ≡ gathered ++ step_text step) → Loop options so_far (HasPrinted a b' g u more) s d
    progress_one b' s d g u more reached gives after counts is put =
        let next : d.next ≡ c.next + 1 = reached.next_is ∙ ap (λ (x : ReadingState). x.given) gives ∙ ap (λ n. n + 1) (sym p.reached.next_is) in
        loop_given _ _ _ _ _ p (HasPrinted a b' g u more) item s d reached (record {
          earlier = p.has.earlier;
          mid = p.has.mid;
          before = p.has.before;
          later = p.has.later ++ step ∷ [];
          since = subst (λ h. FeedAnswers p.has.mid (p.more ++ item ∷ []) (p.has.later ++ step ∷ []) h) (sym after) since_one;
          calls = counts ∙ ap (λ n. n + 1) p.has.calls ∙ sym next;
          tally = is ∙ ap (λ (w : TallyContents). counted w step.item) p.has.tally ∙ steps_counted (p.has.earlier ++ p.has.later) (step ∷ []) p.taken
              ∙ ap (λ l. tally_of l p.taken) (append_assoc p.has.earlier p.has.later (step ∷ []));
          items = ap (λ (w : TallyContents). items_in w.sums) is ∙ one_more t.sums step.item ∙ ap (λ n. n + 1) p.has.items ∙ sym next;
          quiet = λ nothing. absurd (some_items p.more item nothing);
          text = OutputsText-then (AreOut p.has.earlier p.has.later gathered) (λ y. y ++ more ≡ gathered ++ step_text step) (AreOut p.has.earlier (p.has.later ++ step ∷ []) more) a b b' p.has.text put
              (λ x y (written, is, whole) q. (
                written ++ y,
                ap (λ l. l ++ y) is ∙ append_assoc (steps_text p.has.earlier) written y,
                append_assoc written y more ∙ ap (λ l. written ++ l) q ∙ sym (append_assoc written gathered (step_text step)) ∙ ap (λ l. l ++ step_text step) whole ∙ sym (with_one p.has.later step),
              ));
        })

    -- what stops it here
    pub stops_at : (b' : Known Output) (s : ReadingState) (d : CollectorState)
        → ReadingReached options p.answers p.taken p.during (p.more ++ item ∷ []) s d → OutputsText b b' (IsPrefix (gathered ++ step_text step)) → ReadsPrefix options so_far a b'
    stops_at b' s d reached cut =
        let all : List FeedStep = p.has.later ++ step ∷ [] in
        front_at options so_far a b' p.answers p.taken p.during (p.more ++ item ∷ []) s d p.has.earlier all p.has.mid (after_step f step) reached p.heard (some_items p.more item) p.has.before
        (feedings_join new_tracker p.has.mid (after_step f step) p.during (p.more ++ item ∷ []) p.has.earlier all p.has.before since_one)
        (OutputsText-then (AreOut p.has.earlier p.has.later gathered) (IsPrefix (gathered ++ step_text step)) (IsPrefixBehind (steps_text p.has.earlier) (steps_text all)) a b b' p.has.text cut
        (λ x y (written, is, whole) (rest, front). (
          written ++ y,
          (rest, with_one p.has.later step ∙ ap (λ l. l ++ step_text step) (sym whole) ∙ append_assoc written gathered (step_text step) ∙ ap (λ l. written ++ l) front ∙ sym (append_assoc written y rest)),
          ap (λ l. l ++ y) is ∙ append_assoc (steps_text p.has.earlier) written y,
        )))

  -- ---- nothing more is ready

  -- all lines went out
  pub progress_out : (b' : Known Output) (lines : List ℕ) → OutputsText b b' (λ y. y ≡ gathered) → lines ≡ [] → Loop options so_far (HasPrinted a b' f t lines) r c
  progress_out b' lines out none = record {
    answers = p.answers;
    heard = p.heard;
    taken = p.taken;
    during = p.during;
    more = p.more;
    reached = p.reached;
    has = record {
      earlier = p.has.earlier;
      mid = p.has.mid;
      before = p.has.before;
      later = p.has.later;
      since = p.has.since;
      calls = p.has.calls;
      tally = p.has.tally;
      items = p.has.items;
      quiet = λ nothing. none;
      text = OutputsText-then (AreOut p.has.earlier p.has.later gathered) (λ y. y ≡ gathered) (AreOut p.has.earlier p.has.later lines) a b b' p.has.text out
          (λ x y (written, is, whole) same. (
            written ++ y,
            ap (λ l. l ++ y) is ∙ append_assoc (steps_text p.has.earlier) written y,
            ap (λ l. (written ++ y) ++ l) none ∙ append-nil (written ++ y) ∙ ap (λ l. written ++ l) same ∙ whole,
          ));
    };
  }

  -- or a write failed
  pub stops_out : (b' : Known Output) → (gathered ≡ [] → ⊥) → OutputsText b b' (IsPrefix gathered) → ReadsPrefix options so_far a b'
  stops_out b' some cut =
      front_at options so_far a b' p.answers p.taken p.during p.more r c p.has.earlier p.has.later p.has.mid f p.reached p.heard (λ none. some (p.has.quiet none)) p.has.before all_fed
      (OutputsText-then (AreOut p.has.earlier p.has.later gathered) (IsPrefix gathered) (IsPrefixBehind (steps_text p.has.earlier) (steps_text p.has.later)) a b b' p.has.text cut
      (λ x y (written, is, whole) (rest, front). (
        written ++ y,
        (rest, sym whole ∙ ap (λ l. written ++ l) front ∙ sym (append_assoc written y rest)),
        ap (λ l. l ++ y) is ∙ append_assoc (steps_text p.has.earlier) written y,
      )))

  -- ---- one answer more

  module _ (none : gathered ≡ []) where
    lines_more : (text : List ℕ) → AreOut p.has.earlier p.has.later gathered text → text ≡ steps_text (p.has.earlier ++ p.has.later)
    lines_more text (written, is, whole) =
        is ∙ ap (λ l. steps_text p.has.earlier ++ l) (sym (append-nil written) ∙ ap (λ l. written ++ l) (sym none) ∙ whole) ∙ sym (text_more p.has.earlier p.has.later)

    -- a datagram was taken and noted, or nothing was
    pub progress_on : (so_far' : List Answer → Type 0) (breaks : SourceFault → List Answer → Type 0) (answer : Option Taken) (s : ReadingState) (d : CollectorState) (u : TallyContents) (number : ℕ)
        → ReadsOn so_far' breaks options p.answers p.taken (p.during ++ p.more) (Ok answer) s d → number ≡ r.taken → u ≡ noted_if t number answer
        → Loop options so_far' (HasPrinted a b f u gathered) s d
    progress_on so_far' breaks answer s d u number reads at is =
        let (counts, same) = by answer is in
        loop_on _ _ _ _ _ p so_far' breaks (HasPrinted a b f u gathered) answer s d reads (λ next. record {
          earlier = p.has.earlier ++ p.has.later;
          mid = f;
          before = all_fed;
          later = [];
          since = refl;
          calls = p.has.calls ∙ sym next;
          tally = counts ∙ ap (λ l. tally_of l (with_answer p.taken answer)) (sym (append-nil (p.has.earlier ++ p.has.later)));
          items = same ∙ p.has.items ∙ sym next;
          quiet = λ nothing. none;
          text = OutputsText-weaker (AreOut p.has.earlier p.has.later gathered) (AreOut (p.has.earlier ++ p.has.later) [] gathered) a b p.has.text
              (λ text out. ([], lines_more text out ∙ sym (append-nil (steps_text (p.has.earlier ++ p.has.later))), none));
        })
      where
        by : (o : Option Taken) → u ≡ noted_if t number o → (u ≡ tally_of (p.has.earlier ++ p.has.later) (with_answer p.taken o)) × (items_in u.sums ≡ items_in t.sums)
        by None is = (is ∙ p.has.tally, ap (λ (w : TallyContents). items_in w.sums) is)
        by (Some taken) is = (
          is ∙ ap (λ (w : TallyContents). noted w number taken) p.has.tally ∙ answer_noted (p.has.earlier ++ p.has.later) p.taken taken number (at ∙ sym many_taken),
          ap (λ (w : TallyContents). items_in w.sums) is ∙ noted_items t number taken,
        )

    -- no more can be had
    pub breaks_off : (so_far' : List Answer → Type 0) (breaks : SourceFault → List Answer → Type 0) (why : SourceFault) (s : ReadingState) (d : CollectorState)
        → ReadingWaits r c → ReadsOn so_far' breaks options p.answers p.taken (p.during ++ p.more) (Err why) s d → ReadsBroken options (breaks why) a b
    breaks_off so_far' breaks why s d waits (heard, broken, gave) = record {
      answers = p.answers ++ Failed ∷ [];
      heard = heard;
      few = one_more_few options p.answers p.taken p.during p.more r c p.reached waits Failed;
      sound = p.answers;
      reading = broken;
      taken = p.taken;
      items = p.during ++ p.more;
      end = d;
      gave = gave;
      all = all_given options p.answers p.taken p.during p.more r c p.reached;
      steps = p.has.earlier ++ p.has.later;
      last = f;
      feeds = all_fed;
      text = OutputsText-weaker (AreOut p.has.earlier p.has.later gathered) (λ text. text ≡ steps_text (p.has.earlier ++ p.has.later)) a b p.has.text lines_more;
    }

    -- no more is read
    pub wrote_all : has_ended r ≡ true → IsOver r c → WroteItems options so_far a b t (word_of r.end)
    wrote_all ended over =
        let all = finishes options p.answers p.taken p.during p.more r c p.reached ended over in
        record {
          answers = p.answers;
          heard = p.heard;
          few = p.reached.few;
          reading = all.reading;
          taken = p.taken;
          items = p.during ++ p.more;
          run = all.run;
          steps = p.has.earlier ++ p.has.later;
          last = f;
          feeds = all_fed;
          tally = p.has.tally;
          text = OutputsText-weaker (AreOut p.has.earlier p.has.later gathered) (λ text. text ≡ steps_text (p.has.earlier ++ p.has.later)) a b p.has.text lines_more;
        }
