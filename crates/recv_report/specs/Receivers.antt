-- Receivers side by side.
use Rattle.std.specs.Prelude.{ℕ, ◌≡◌, ◌≤◌, ◌<◌, ◌+◌, IsTrue, not, All, Bool, true, false, List, [], slice_index_or, vec_len, Option, Some, IsSome, MatchOption}
use Rattle.drm_links.specs.Known.{Known, HasCause}
use Rattle.drm_links.specs.Link.{Traffic}
use Rattle.dcp_collect.specs.CollectorState.{made}
use Rattle.drm_reconfiguration.specs.Tracker.{new_tracker}
use Rattle.recv_reading.specs.declared.options.ReceiveOptions.{ReceiveOptions}
use Rattle.report_text.specs.Texts.{text_known}
use Rattle.recv_report.specs.Received.{AreOptionsInRange, ReceiverEndsAs, rules_of}
use Rattle.recv_report.specs.declared.one_receiver.Options.{Options}
use Rattle.recv_report.specs.declared.one_receiver.Ended.{Ended}
use Rattle.recv_report.specs.declared.one_receiver.Ended.TheVariants.{Done, LinkFailed}
use Rattle.recv_report.specs.declared.receiver.Receiver.{Receiver}
use Rattle.recv_report.specs.declared.receiver.Seat.{Seat}

-- by what the receiver with this number goes
abbrev pub options_for : ReceiveOptions → ℕ → Options
options_for rules number = record { feed = number; frames = rules.frames; idle = rules.idle; limit = rules.limit }

-- what a receiver with this number keeps that goes by these rules, before it has a link
pub record IsSeat (rules : ReceiveOptions) (number : ℕ) (seat : Seat) : Type 0 where
  pub buffer : 65536 ≤ vec_len seat.buffer
  pub options : seat.options ≡ options_for rules number
  pub collector : seat.collector ≡ made rules.window rules.reach rules.first
  pub text : (text_known seat.text).contents ≡ Some (record { written = []; calls = 0 })

-- a receiver with this number, which goes by these rules
pub record IsReceiver {L : Type 0} (rules : ReceiveOptions) (number : ℕ) (receiver : Receiver L) : Type 0 where
  pub buffer : 65536 ≤ vec_len receiver.buffer
  pub options : receiver.options ≡ options_for rules number
  pub collector : receiver.collector ≡ made rules.window rules.reach rules.first
  pub feed : receiver.feed ≡ new_tracker
  pub text : (text_known receiver.text).contents ≡ Some (record { written = []; calls = 0 })

-- receivers with the numbers from 1 on
abbrev pub AreReceivers : {L : Type 0} → ReceiveOptions → ℕ → List (Receiver L) → Type 0
AreReceivers {L} rules many receivers = (k : ℕ) (none : Receiver L) → k < many → IsReceiver rules (k + 1) (slice_index_or receivers k none)

-- Nothing was received yet.
pub record IsReceiverReady {L : Type 0} (receiver : Receiver L) : Type 0 where
  pub buffer : 65536 ≤ vec_len receiver.buffer
  pub options : AreOptionsInRange receiver.options
  pub window : (1 ≤ receiver.collector.window) × (receiver.collector.window ≤ 64)
  pub collector : receiver.collector ≡ made receiver.collector.window receiver.collector.reach receiver.collector.first
  pub feed : receiver.feed ≡ new_tracker

-- what a receiver reads by
abbrev pub receiver_rules : {L : Type 0} → Receiver L → ReceiveOptions
receiver_rules receiver = rules_of receiver.collector receiver.options

-- The receiver ended as this says: its link, its text and the cause of its end are those of `receive_one`.
pub record EndedAs {L : Type 0} (known : L → Known Traffic) (before after : Receiver L) (ended : Ended) : Type 0 where
  pub ends : ReceiverEndsAs (receiver_rules before) before.options.feed (known before.link) (known after.link) (text_known before.text) (text_known after.text) ended
  pub link : HasCause (known before.link) (known after.link) (ended ≡ LinkFailed)

abbrev pub HasReceiverEnded : {L : Type 0} → (L → Known Traffic) → Receiver L → Receiver L → Type 0
HasReceiverEnded known before after = MatchOption after.ended ⊥ (EndedAs known before after)

-- the text of a receiver
abbrev pub text_of : {L : Type 0} → Receiver L → List ℕ
text_of receiver = receiver.text.bytes.items

abbrev pub is_failed : Option Ended → Bool
is_failed (Some LinkFailed) = true
is_failed ended = false

abbrev pub clean_by : Option Ended → Bool
clean_by (Some (Done clean)) = clean
clean_by ended = false

abbrev pub clean_of : {L : Type 0} → Receiver L → Bool
clean_of receiver = clean_by receiver.ended

-- its report is whole, and its text is told
abbrev pub IsReceiverDone : {L : Type 0} → Receiver L → Type 0
IsReceiverDone receiver = (receiver.ended ≡ Some (Done (clean_of receiver))) × IsSome (text_known receiver.text).contents

-- no receiver's link failed
abbrev pub NoneFailed : {L : Type 0} → List (Receiver L) → Type 0
NoneFailed receivers = All (λ receiver. IsTrue (not (is_failed receiver.ended))) receivers
