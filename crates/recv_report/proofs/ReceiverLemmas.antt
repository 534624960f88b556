-- What a receiver that ended has for its report.
use Rattle.std.proofs.Common.{◌≡◌, ℕ, zero, suc, ◌+◌, ◌<◌, ◌≤◌, ◌^◌, ◌⊎◌, ◌↔◌, inl, inr, nat_le, Bool, true, false, IsTrue, IsSome, if◌then◌else◌, List, [], ◌∷◌, length, map, slice_index_or, Option, None, Some, MatchOption, refl, sym, ◌∙◌, ap, subst, arith, not, All}
use Rattle.std.proofs.lemmas.List.{get_or-map, length-map}
use Rattle.std.proofs.lemmas.List.Elements.{All-map}
use Rattle.recv_reading.proofs.Common.{Known, Answer, Output, OutputsText, CollectorState, made}
use Rattle.recv_reading.specs.declared.options.ReceiveOptions.{ReceiveOptions}
use Rattle.drm_links.specs.Link.{Traffic}
use Rattle.drm_links.proofs.KnownLemmas.{OutputsText-weaker, written_to_nothing}
use Rattle.drm_links.specs.Dock.{LinkStart, first_traffic}
use Rattle.drm_links.proofs.Hearing.{heard_next}
use Rattle.drm_links.specs.Hearing.{AreNext, LinkHeard}
use Rattle.recv_reading.specs.Ending.{most_answers}
use Rattle.recv_report.specs.Received.{IsReport, ReportWritten, ReportBroken, ReportStopped, IsReportPrefix, AreOptionsInRange, rules_of}
use Rattle.report_text.specs.Texts.{text_known}
use Rattle.recv_reading.specs.Options.{AreInRange}
use Rattle.recv_reading.proofs.Going.{few_answers}
use Rattle.recv_report.specs.Receivers.{IsReceiverReady, EndedAs, HasReceiverEnded, receiver_rules, text_of, is_failed, clean_of, IsReceiverDone, options_for, IsReceiver, AreReceivers, NoneFailed}
use Rattle.report_text.specs.Reports.{Report}
use Rattle.recv_reading.specs.OneReading.{BreaksOff}
use Rattle.recv_report.specs.Ahead.{IsReportOf, IsGivenOf, IsPrefixAhead}
use Rattle.recv_report.specs.Following.{HeadlinesFollow, CompletesFollow}
use Rattle.report_text.specs.declared.buffer.ReportBuffer.{ReportBuffer}
use Rattle.recv_report.specs.declared.one_receiver.Options.{Options}
use Rattle.recv_report.specs.declared.one_receiver.Ended.{Ended}
use Rattle.recv_report.specs.declared.one_receiver.Ended.TheVariants.{Done, LinkFailed, WriteFailed, NoMemory}
use Rattle.recv_report.specs.declared.receiver.Receiver.{Receiver}

-- what a text that was new has
pub text_written : (P : List ℕ → Type 0) (first : Known Output) (text : ReportBuffer) → OutputsText first (text_known text) P → first.contents ≡ Some (record { written = []; calls = 0 })
    → IsSome (text_known text).contents → P text.bytes.items
text_written P first text writes is some =
    let o : Output = record { written = text.bytes.items; calls = text.calls } in
    written_to_nothing P first (text_known text) o writes is (some_if o (nat_le text.calls (2 ^ 62)) some)
  where
    some_if : (o : Output) (b : Bool) → IsSome (if b then Some o else None) → (if b then Some o else None) ≡ Some o
    some_if o true some = refl
    some_if o false some = absurd (cc)

abbrev pub report_of : {L : Type 0} → Receiver L → Report
report_of receiver = record { text = text_of receiver; clean = clean_of receiver }

pub rules_are : (rules : ReceiveOptions) (number : ℕ) (c : CollectorState) (options : Options) → c ≡ made rules.window rules.reach rules.first → options ≡ options_for rules number → rules_of c options ≡ rules
rules_are rules number c options c_is options_is = ap (λ d. rules_of d options) c_is ∙ ap (λ o. rules_of (made rules.window rules.reach rules.first) o) options_is

failed_is : (ended : Option Ended) → is_failed ended ≡ true → ended ≡ Some LinkFailed
failed_is None is = absurd (let same : false ≡ true = is in cc)
failed_is (Some LinkFailed) is = refl
failed_is (Some (Done clean)) is = absurd (let same : false ≡ true = is in cc)
failed_is (Some WriteFailed) is = absurd (let same : false ≡ true = is in cc)
failed_is (Some NoMemory) is = absurd (let same : false ≡ true = is in cc)

-- a receiver that was made is ready
pub receiver_ready : {L : Type 0} (rules : ReceiveOptions) (k : ℕ) (receiver : Receiver L) → AreInRange rules → IsReceiver rules (k + 1) receiver → IsReceiverReady receiver
receiver_ready {L} rules k receiver valid is =
    let window : receiver.collector.window ≡ rules.window = ap (λ (c : CollectorState). c.window) is.collector in
    let reach : receiver.collector.reach ≡ rules.reach = ap (λ (c : CollectorState). c.reach) is.collector in
    let first : receiver.collector.first ≡ rules.first = ap (λ (c : CollectorState). c.first) is.collector in
    record {
      buffer = is.buffer;
      options = subst AreOptionsInRange (sym is.options) (record {
        feed = omega arith;
        idle = valid.some_idles;
        limit = valid.some_datagrams;
        some_frames = valid.some_frames;
        few_frames = valid.few_frames;
      });
      window = ((let some = valid.some_window in omega (arith, some, window)), (let few = valid.few_packets in omega (arith, few, window)));
      collector = is.collector ∙ (λ i. made (sym window i) (sym reach i) (sym first i));
      feed = is.feed;
    }

pub receivers_ready : {L : Type 0} (rules : ReceiveOptions) (receivers : List (Receiver L)) (many : ℕ) → AreInRange rules → length receivers ≡ many → AreReceivers rules many receivers → All IsReceiverReady receivers
receivers_ready rules receivers many valid size are k none within = receiver_ready rules k (slice_index_or receivers k none) valid (are k none (omega (arith, size, within)))

-- ---- what a receiver has written, and what was ahead of its link

-- Where what was heard stood ahead:
module _ (rules : ReceiveOptions) (number : ℕ) (ahead : List Answer) (hears : List Answer → Type 0) (u v : Known Output)
    (next : (answers : List Answer) → hears answers → length answers ≤ most_answers rules → (rest : List Answer) × AreNext ahead answers rest) where
  -- the report is that of what was ahead
  pub report_ahead : HeadlinesFollow → CompletesFollow → 1 ≤ rules.window → (clean : Bool) → ReportWritten rules number hears u v clean
      → (r : Report) × IsReportOf rules number ahead r × OutputsText u v (λ text. text ≡ r.text) × (clean ≡ r.clean)
  report_ahead headlines completes window clean reported =
      let (rest, is_next) = next reported.answers reported.heard reported.few in (
        record { text = reported.whole; clean = clean },
        record {
          answers = reported.answers;
          rest = rest;
          next = is_next;
          is = reported.is;
          headline = headlines rules number reported.answers reported.whole clean window reported.is;
          complete = completes rules number ahead reported.answers rest reported.whole clean window is_next reported.is;
        },
        reported.text,
        refl,
      )

module _ (rules : ReceiveOptions) (valid : AreInRange rules) (number : ℕ) (start : LinkStart) (a b : Known Traffic) (u v : Known Output) (contents : a.contents ≡ Some (first_traffic start)) where
  answers_ahead : (answers : List Answer) → LinkHeard a b answers → length answers ≤ most_answers rules → (rest : List Answer) × AreNext start.ahead answers rest
  answers_ahead answers heard few = heard_next a.contents b.contents start answers heard contents (let most = few_answers rules valid in omega (arith, few, most))

  -- its report is that of what was ahead of its link
  pub live_report : HeadlinesFollow → CompletesFollow → (clean : Bool) → ReportWritten rules number (LinkHeard a b) u v clean
      → (r : Report) × IsReportOf rules number start.ahead r × OutputsText u v (λ text. text ≡ r.text) × (clean ≡ r.clean)
  live_report headlines completes = report_ahead rules number start.ahead (LinkHeard a b) u v answers_ahead headlines completes valid.some_window

  -- where its link failed, what was given before was written
  pub live_given : ReportBroken rules number (LinkHeard a b) u v → (given : List ℕ) × IsGivenOf rules number start.ahead given × OutputsText u v (λ text. text ≡ given)
  live_given broken =
      let (rest, is_next) = answers_ahead broken.answers broken.heard broken.few in
      (broken.whole, record { answers = broken.answers; rest = rest; next = is_next; is = broken.is }, broken.text)

  pub live_breaks : ReportBroken rules number (LinkHeard a b) u v → BreaksOff rules start.ahead
  live_breaks broken =
      let (rest, is_next) = answers_ahead broken.answers broken.heard broken.few in
      record { before = broken.is.before; answers = broken.answers; rest = rest; next = is_next; reading = broken.is.reading }

  -- where a write failed, a front was written
  pub live_front : ReportStopped rules number (LinkHeard a b) u v → OutputsText u v (IsPrefixAhead rules number start.ahead)
  live_front stopped =
      let (rest, is_next) = answers_ahead stopped.answers stopped.heard stopped.few in
      OutputsText-weaker (IsReportPrefix rules number stopped.answers) (IsPrefixAhead rules number start.ahead) u v stopped.text
      (λ text is. record { answers = stopped.answers; rest = rest; next = is_next; goes_on = stopped.goes_on; is = is })

-- ---- receivers side by side

module _ {L : Type 0} (known : L → Known Traffic) (rules : ReceiveOptions) (number : ℕ) (before after : Receiver L) (is : IsReceiver rules number before) (ended : HasReceiverEnded known before after) where
  abbrev Was : Option Ended → Type 0
  Was o = MatchOption o ⊥ (EndedAs known before after)

  same_rules : receiver_rules before ≡ rules
  same_rules = rules_are rules number before.collector before.options is.collector is.options

  same_number : before.options.feed ≡ number
  same_number = ap (λ (o : Options). o.feed) is.options

  -- one that is done has its report
  receiver_reported : IsReceiverDone after → ReportWritten rules number (LinkHeard (known before.link) (known after.link)) (text_known before.text) (text_known after.text) (clean_of after)
  receiver_reported done =
      let was : EndedAs known before after (Done (clean_of after)) = subst Was done.0 ended in
      subst (λ n. ReportWritten rules n (LinkHeard (known before.link) (known after.link)) (text_known before.text) (text_known after.text) (clean_of after)) same_number
      (subst (λ r. ReportWritten r before.options.feed (LinkHeard (known before.link) (known after.link)) (text_known before.text) (text_known after.text) (clean_of after)) same_rules was.ends)

  -- and that is of what it has heard
  pub receiver_heard : IsReceiverDone after → (answers : List Answer) × IsReport rules number answers (text_of after) (clean_of after)
  receiver_heard done =
      let reported = receiver_reported done in
      let text : text_of after ≡ reported.whole = text_written (λ t. t ≡ reported.whole) (text_known before.text) after.text reported.text is.text done.1 in
      (reported.answers, subst (λ t. IsReport rules number reported.answers t (clean_of after)) (sym text) reported.is)

  module _ (valid : AreInRange rules) (start : LinkStart) (contents : (known before.link).contents ≡ Some (first_traffic start)) where
    -- the report of one that is done is that of what was ahead of its link
    pub receiver_report : HeadlinesFollow → CompletesFollow → IsReceiverDone after → IsReportOf rules number start.ahead (report_of after)
    receiver_report headlines completes done =
        let live = live_report rules valid number start (known before.link) (known after.link) (text_known before.text) (text_known after.text) contents headlines completes (clean_of after) (receiver_reported done) in
        let text : text_of after ≡ live.0.text = text_written (λ t. t ≡ live.0.text) (text_known before.text) after.text live.2 is.text done.1 in
        subst (λ r. IsReportOf rules number start.ahead r) (λ i. record { text = sym text i; clean = sym live.3 i }) live.1

    -- what is ahead of the link of one that failed breaks off
    pub receiver_breaks : is_failed after.ended ≡ true → BreaksOff rules start.ahead
    receiver_breaks failed =
        let was : EndedAs known before after LinkFailed = subst Was (failed_is after.ended failed) ended in
        live_breaks rules valid before.options.feed start (known before.link) (known after.link) (text_known before.text) (text_known after.text) contents
        (subst (λ r. ReportBroken r before.options.feed (LinkHeard (known before.link) (known after.link)) (text_known before.text) (text_known after.text)) same_rules was.ends)

-- ---- all receivers

pub all_reported : {L : Type 0} (receivers : List (Receiver L)) → All (λ receiver. IsTrue (clean_of receiver)) receivers ↔ All (λ (r : Report). IsTrue r.clean) (map report_of receivers)
all_reported receivers = (
  All-map (λ (r : Report). IsTrue r.clean) report_of receivers,
  (λ all k d within.
      let inside : k < length (map report_of receivers) = (let size : length (map report_of receivers) ≡ length receivers = length-map receivers report_of in omega (arith, size, within)) in
      subst (λ (r : Report). IsTrue r.clean) (get_or-map report_of receivers k d (report_of d) within) (all k (report_of d) inside)),
)

-- ---- whether some link failed

none_more : {L : Type 0} (receiver : Receiver L) (receivers : List (Receiver L)) → IsTrue (not (is_failed receiver.ended)) → NoneFailed receivers → NoneFailed (receiver ∷ receivers)
none_more receiver receivers is all zero d within = is
none_more receiver receivers is all (suc k) d within = all k d (omega arith)

abbrev pub SomeFailed : {L : Type 0} → List (Receiver L) → Type 0
SomeFailed {L} receivers = (k : ℕ) × (k < length receivers) × ((d : Receiver L) → is_failed (slice_index_or receivers k d).ended ≡ true)

failed_by : {L : Type 0} (receiver : Receiver L) (receivers : List (Receiver L)) (b : Bool) → is_failed receiver.ended ≡ b → NoneFailed receivers ⊎ SomeFailed receivers → NoneFailed (receiver ∷ receivers) ⊎ SomeFailed (receiver ∷ receivers)
failed_by receiver receivers true is rest = inr (0, omega arith, λ d. is)
failed_by receiver receivers false is (inr some) = inr (suc some.0, (let within = some.1 in omega arith), some.2)
failed_by receiver receivers false is (inl none) = inl (none_more receiver receivers (ap not is) none)

pub some_failed : {L : Type 0} (receivers : List (Receiver L)) → NoneFailed receivers ⊎ SomeFailed receivers
some_failed [] = inl (λ k d within. absurd (omega arith))
some_failed (receiver ∷ receivers) = failed_by receiver receivers (is_failed receiver.ended) refl (some_failed receivers)
