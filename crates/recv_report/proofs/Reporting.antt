-- A whole report, and fronts of one.
use Rattle.std.proofs.Common.{◌≡◌, ℕ, ◌≤◌, inl, inr, Bool, List, [], ◌++◌, refl, sym, ◌∙◌, ap, subst, arith, append_assoc}
use Rattle.circular_buffer.specs.Buffer.{keep_last}
use Rattle.recv_reading.proofs.Common.{Known, Answer, Output, OutputsText, IsPrefix, IsPrefixBehind, Taken, made, datagrams}
use Rattle.recv_reading.specs.declared.reason.EndWord.{EndWord}
use Rattle.recv_reading.specs.declared.options.ReceiveOptions.{ReceiveOptions}
use Rattle.drm_links.proofs.KnownLemmas.{OutputsText-weaker}
use Rattle.drm_links.proofs.WritingLemmas.{text_then, front_more, front_then, front_behind}
use Rattle.drm_reconfiguration.specs.Tracker.{new_tracker}
use Rattle.mod_feed.specs.Feeding.{FeedStep, FeedAnswers}
use Rattle.report_text.specs.Report.{feed_line, end_line}
use Rattle.recv_reading.specs.declared.source.SourceFault.{SourceFault}
use Rattle.recv_report.specs.declared.reading.ReceiveFault.{ReceiveFault}
use Rattle.recv_report.specs.declared.reading.ReceiveFault.TheVariants as fault
use Rattle.report_text.specs.Reports.{refusals, refused_text, steps_text, sums_of, report, is_clean}
use Rattle.report_text.specs.Tallies.{TallyContents, totals_in}
use Rattle.report_text.specs.Totals.{totals_of, answered, are_clean}
use Rattle.recv_report.specs.Received.{IsReport, IsReportPrefix, ReportCounted, ReportBroken, ReportStopped}
use Rattle.recv_report.specs.Progress.{WroteItems, ReadsBroken, ReadsPrefix, StopsReading, StopsReport}
use Rattle.recv_reading.proofs.AtOnce.{few_given}
use Rattle.recv_reading.proofs.Going.{goes_none}
use Rattle.recv_reading.proofs.Giving.{steps_many}
use Rattle.report_text.proofs.RefusalLemmas.{AreReportable}
use Rattle.report_text.proofs.CountLemmas.{refusals_reportable, last_reportable, all_answered, totals_clean}
use Rattle.report_text.proofs.StepLemmas.{front_further}

-- ---- all items were written

-- the refusals that are shown are told of
pub read_reportable : (options : ReceiveOptions) (so_far : List Answer → Type 0) (a b : Known Output) (t : TallyContents) (word : EndWord) → WroteItems options so_far a b t word → AreReportable t.refused
read_reportable options so_far a b t word w =
    subst (λ (u : TallyContents). AreReportable u.refused) (sym w.tally)
    (last_reportable 16 (refusals w.taken) (refusals_reportable (made options.window options.reach options.first) w.run.mid (datagrams w.answers) w.taken w.run.during 0 w.run.steps))

-- the text from the refusals on
abbrev tail_of : List FeedStep → List Taken → EndWord → List ℕ
tail_of steps taken word = refused_text (keep_last 16 (refusals taken)) ++ end_line word (sums_of steps (refusals taken))

abbrev report_of : (rules : ReceiveOptions) (feed : ℕ) (hears : List Answer → Type 0) (a b : Known Output) (t : TallyContents) (word : EndWord) (w : WroteItems rules hears a b t word) (clean : Bool) → clean ≡ is_clean w.steps
    → IsReport rules feed w.answers (report feed w.steps (refusals w.taken) word) clean
report_of rules feed hears a b t word w clean is = record {
  word = word;
  reading = w.reading;
  taken = w.taken;
  items = w.items;
  run = w.run;
  steps = w.steps;
  after = w.last;
  feeds = w.feeds;
  text_is = refl;
  clean_is = is;
}

pub reported : (rules : ReceiveOptions) (some : 1 ≤ rules.window) (feed : ℕ) (hears : List Answer → Type 0) (a0 a b d e : Known Output) (t : TallyContents) (word : EndWord)
    → OutputsText a0 a (λ x. x ≡ feed_line feed) → WroteItems rules hears a b t word → OutputsText b d (λ x. x ≡ refused_text t.refused) → OutputsText d e (λ x. x ≡ end_line word t.sums)
    → ReportCounted rules feed hears a0 e (totals_in t)
reported rules some feed hears a0 a b d e t word first w refused last =
    let refused' : OutputsText b d (λ x. x ≡ refused_text (keep_last 16 (refusals w.taken))) = subst (λ (u : TallyContents). OutputsText b d (λ x. x ≡ refused_text u.refused)) w.tally refused in
    let last' : OutputsText d e (λ x. x ≡ end_line word (sums_of w.steps (refusals w.taken))) = subst (λ (u : TallyContents). OutputsText d e (λ x. x ≡ end_line word u.sums)) w.tally last in
    let are : totals_in t ≡ totals_of w.steps w.taken = ap totals_in w.tally in
    record {
      written = record {
        answers = w.answers;
        heard = w.heard;
        few = w.few;
        at_once = few_given rules w.answers some;
        whole = report feed w.steps (refusals w.taken) word;
        is = report_of rules feed hears a b t word w (are_clean (totals_in t)) (totals_clean t w.steps w.taken w.tally);
        text = subst (λ l. OutputsText a0 e (λ x. x ≡ l)) (append_assoc (feed_line feed) (steps_text w.steps) (tail_of w.steps w.taken word))
            (text_then (feed_line feed ++ steps_text w.steps) (tail_of w.steps w.taken word) a0 b e (text_then (feed_line feed) (steps_text w.steps) a0 a b first w.text)
            (text_then (refused_text (keep_last 16 (refusals w.taken))) (end_line word (sums_of w.steps (refusals w.taken))) b d e refused' last'));
      };
      are = are;
      all = ap answered are ∙ all_answered w.steps w.taken ∙ steps_many (made rules.window rules.reach rules.first) w.run.mid (datagrams w.answers) w.taken w.run.during w.run.steps;
    }

-- ---- where it stops

-- a front of the whole report was written
front_of_whole : (rules : ReceiveOptions) (some : 1 ≤ rules.window) (feed : ℕ) (hears : List Answer → Type 0) (a0 a b e : Known Output) (t : TallyContents) (word : EndWord)
    → OutputsText a0 a (λ x. x ≡ feed_line feed) → (w : WroteItems rules hears a b t word) → OutputsText b e (IsPrefix (tail_of w.steps w.taken word)) → ReportStopped rules feed hears a0 e
front_of_whole rules some feed hears a0 a b e t word first w tail = record {
  answers = w.answers;
  heard = w.heard;
  few = w.few;
  at_once = few_given rules w.answers some;
  goes_on = w.reading.goes_on;
  text = OutputsText-weaker (IsPrefixBehind (feed_line feed ++ steps_text w.steps) (tail_of w.steps w.taken word)) (IsReportPrefix rules feed w.answers) a0 e
      (front_behind (feed_line feed ++ steps_text w.steps) (tail_of w.steps w.taken word) a0 b e (text_then (feed_line feed) (steps_text w.steps) a0 a b first w.text) tail)
      (λ x f. inr (inr (
        report feed w.steps (refusals w.taken) word,
        is_clean w.steps,
        report_of rules feed hears a b t word w (is_clean w.steps) refl,
        tail_of w.steps w.taken word,
        sym (append_assoc (feed_line feed) (steps_text w.steps) (tail_of w.steps w.taken word)),
        f,
      )));
}

module _ (rules : ReceiveOptions) (some : 1 ≤ rules.window) (feed : ℕ) (hears : List Answer → Type 0) (a0 a b : Known Output) (t : TallyContents) (word : EndWord)
    (first : OutputsText a0 a (λ x. x ≡ feed_line feed)) (w : WroteItems rules hears a b t word) where
  tail_front : (e : Known Output) → OutputsText b e (IsPrefix (refused_text t.refused ++ end_line word t.sums)) → ReportStopped rules feed hears a0 e
  tail_front e tail =
      front_of_whole rules some feed hears a0 a b e t word first w (subst (λ (u : TallyContents). OutputsText b e (IsPrefix (refused_text u.refused ++ end_line word u.sums))) w.tally tail)

  -- a write failed within the refusals, or within the last line
  pub refused_broken : (e : Known Output) → OutputsText b e (IsPrefix (refused_text t.refused)) → ReportStopped rules feed hears a0 e
  refused_broken e refused =
      tail_front e (OutputsText-weaker (IsPrefix (refused_text t.refused)) (IsPrefix (refused_text t.refused ++ end_line word t.sums)) b e refused
      (λ x f. front_more (refused_text t.refused) (end_line word t.sums) x f))

  pub end_broken : (e h : Known Output) → OutputsText b e (λ x. x ≡ refused_text t.refused) → OutputsText e h (IsPrefix (end_line word t.sums)) → ReportStopped rules feed hears a0 h
  end_broken e h refused last = tail_front h (front_then (refused_text t.refused) (end_line word t.sums) b e h refused last)

-- nothing was read yet
pub first_front : (rules : ReceiveOptions) (some : 1 ≤ rules.window) (feed : ℕ) (hears : List Answer → Type 0) (a b : Known Output) → hears [] → OutputsText a b (IsPrefix (feed_line feed)) → ReportStopped rules feed hears a b
first_front rules some feed hears a b none text = record {
  answers = [];
  heard = none;
  few = omega arith;
  at_once = few_given rules [] some;
  goes_on = goes_none rules;
  text = OutputsText-weaker (IsPrefix (feed_line feed)) (IsReportPrefix rules feed []) a b text (λ x f. inl (refl, f));
}

pub reading_front : (rules : ReceiveOptions) (some : 1 ≤ rules.window) (feed : ℕ) (hears : List Answer → Type 0) (a0 a b : Known Output) → OutputsText a0 a (λ x. x ≡ feed_line feed) → ReadsPrefix rules hears a b → ReportStopped rules feed hears a0 b
reading_front rules some feed hears a0 a b first read = record {
  answers = read.answers;
  heard = read.heard;
  few = read.few;
  at_once = few_given rules read.answers some;
  goes_on = read.goes_on;
  text = OutputsText-weaker (IsPrefixBehind (feed_line feed ++ steps_text read.earlier) (steps_text read.later)) (IsReportPrefix rules feed read.answers) a0 b
      (front_further (feed_line feed) (steps_text read.earlier) (steps_text read.later) a0 a b first read.text)
      (λ x f. inr (inl (read.earlier, read.later, read.stepped, f)));
}

pub broken : (rules : ReceiveOptions) (some : 1 ≤ rules.window) (feed : ℕ) (hears : List Answer → Type 0) (a0 a b : Known Output) → OutputsText a0 a (λ x. x ≡ feed_line feed) → ReadsBroken rules hears a b → ReportBroken rules feed hears a0 b
broken rules some feed hears a0 a b first read = record {
  answers = read.answers;
  heard = read.heard;
  few = read.few;
  at_once = few_given rules read.answers some;
  whole = feed_line feed ++ steps_text read.steps;
  is = record {
    before = read.sound;
    reading = read.reading;
    taken = read.taken;
    items = read.items;
    end = read.end;
    gave = read.gave;
    steps = read.steps;
    after = read.last;
    feeds = subst (λ l. FeedAnswers new_tracker l read.steps read.last) (sym read.all) read.feeds;
    text_is = refl;
  };
  text = text_then (feed_line feed) (steps_text read.steps) a0 a b first read.text;
}

-- the reading was stopped
pub stops_report : (options : ReceiveOptions) (some : 1 ≤ options.window) (feed : ℕ) (so_far : List Answer → Type 0) (breaks : SourceFault → List Answer → Type 0) (a0 a b : Known Output) (why : ReceiveFault)
    → OutputsText a0 a (λ x. x ≡ feed_line feed) → StopsReading options so_far breaks a b why → StopsReport options feed so_far breaks a0 b why
stops_report options some feed so_far breaks a0 a b (fault.Source source) first read = broken options some feed (breaks source) a0 a b first read
stops_report options some feed so_far breaks a0 a b fault.Write first read = reading_front options some feed so_far a0 a b first read
stops_report options some feed so_far breaks a0 a b fault.NoMemory first read = absurd read
