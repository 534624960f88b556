-- What went over the links of receivers.
use Rattle.std.proofs.Common.{◌≡◌, ℕ, ◌≤◌, ◌^◌, List, [], length, Option, None, Some, MatchOption, refl, sym, subst, arith, le_trans}
use Rattle.drm_links.specs.Known.{Known}
use Rattle.drm_links.specs.Link.{Answer, Traffic}
use Rattle.drm_links.specs.Sink.{Output}
use Rattle.drm_links.specs.Dock.{LinkStart, first_traffic}
use Rattle.drm_links.specs.Hearing.{LinkHeard}
use Rattle.recv_reading.specs.declared.options.ReceiveOptions.{ReceiveOptions}
use Rattle.recv_reading.specs.Ending.{ReadingGoesOn, most_answers}
use Rattle.recv_report.specs.Received.{ReceiverEndsAs}
use Rattle.report_text.specs.Texts.{text_known}
use Rattle.recv_reading.specs.Options.{AreInRange}
use Rattle.recv_report.specs.Receivers.{IsReceiver, EndedAs, HasReceiverEnded}
use Rattle.recv_report.specs.declared.one_receiver.Ended.{Ended}
use Rattle.recv_report.specs.declared.one_receiver.Ended.TheVariants.{Done, LinkFailed, WriteFailed, NoMemory}
use Rattle.recv_report.specs.declared.receiver.Receiver.{Receiver}
use Rattle.recv_reading.proofs.Going.{goes_none, few_answers}
use Rattle.drm_links.proofs.Hearing.{heard_none}
use Rattle.recv_report.proofs.ReceiverLemmas.{rules_are}
use Rattle.drm_links.proofs.BindLemmas.{WentOver, went_over}
use Rattle.cmd_receive.specs.Receive.{AreAll, AreBroken}

-- ---- one receiver

-- what one has read that ended so
abbrev pub ReadAs : ReceiveOptions → Ended → List Answer → Type 0
ReadAs rules (Done clean) answers = AreAll rules answers
ReadAs rules LinkFailed answers = AreBroken rules answers
ReadAs rules WriteFailed answers = ReadingGoesOn rules answers
ReadAs rules NoMemory answers = ReadingGoesOn rules answers

module _ {L : Type 0} (known : L → Known Traffic) (rules : ReceiveOptions) (valid : AreInRange rules) (feed : ℕ) (link link' : L) (start : LinkStart) (u v : Known Output)
    (contents : (known link).contents ≡ Some (first_traffic start)) where
  short : (answers : List Answer) → length answers ≤ most_answers rules → length answers ≤ 2 ^ 62
  short answers few = le_trans few (few_answers rules valid)

  pub read_as : (ended : Ended) → ReceiverEndsAs rules feed (known link) (known link') u v ended → WentOver known (ReadAs rules ended) link' start
  read_as (Done clean) r = went_over known (AreAll rules) link link' start r.answers contents r.heard (short r.answers r.few) (r.is.word, r.is.reading)
  read_as LinkFailed r = went_over known (AreBroken rules) link link' start r.answers contents r.heard (short r.answers r.few) (r.is.before, r.is.reading)
  read_as WriteFailed r = went_over known (ReadingGoesOn rules) link link' start r.answers contents r.heard (short r.answers r.few) r.goes_on
  read_as NoMemory r =
      went_over known (ReadingGoesOn rules) link link' start [] contents (subst (λ now. LinkHeard (known link) now []) (sym r.0) (heard_none (known link))) (omega arith) (goes_none rules)

module _ {L : Type 0} (known : L → Known Traffic) (rules : ReceiveOptions) (valid : AreInRange rules) (number : ℕ) (start : LinkStart) (before after : Receiver L) (is : IsReceiver rules number before)
    (contents : (known before.link).contents ≡ Some (first_traffic start)) where
  receiver_read : (o : Option Ended) → MatchOption o ⊥ (EndedAs known before after) → (ended : Ended) × (o ≡ Some ended) × WentOver known (ReadAs rules ended) after.link start
  receiver_read None ended = absurd ended
  receiver_read (Some e) ended =
      let same = rules_are rules number before.collector before.options is.collector is.options in (
        e,
        refl,
        read_as known rules valid before.options.feed before.link after.link start (text_known before.text) (text_known after.text) contents e
            (subst (λ r. ReceiverEndsAs r before.options.feed (known before.link) (known after.link) (text_known before.text) (text_known after.text) e) same ended.ends),
      )

  -- what a receiver has read, by how it ended
  pub has_read : HasReceiverEnded known before after → (ended : Ended) × (after.ended ≡ Some ended) × WentOver known (ReadAs rules ended) after.link start
  has_read = receiver_read after.ended

-- a receiver's link
abbrev pub link_in : {L : Type 0} → Receiver L → L
link_in receiver = receiver.link
