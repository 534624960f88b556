-- What has been taken out of items, by the fields that the code keeps.
use Rattle.std.specs.Prelude.{ℕ, ◌≡◌, ◌+◌, ◌/◌, ◌%◌, ◌<◌, ◌≤◌, List, [], ◌∷◌, ◌++◌, length, Option, None, Some, is_some, Result, Ok, Err, OnOk}
use Rattle.std.specs.Borrow.{Bor}
use Rattle.std.specs.List.{flat_map}
use Rattle.std.specs.Int.{from_bool}
use Rattle.drm_links.specs.Known.{Known}
use Rattle.drm_links.specs.Source.{Input}
use Rattle.drm_links.specs.Sink.{Output, OutputsText, WritesWhole}
use Rattle.dcp_collect.specs.Runs.{CollectorItem as Given}
use Rattle.cmd_faults.specs.declared.fault.Fault.{Fault}
use Rattle.recv_reading.specs.declared.options.PacketRange.{PacketRange}
use Rattle.recv_reading.specs.Given.{GivesAll}
use Rattle.mod_feed.specs.Items.{FrameItem}
use Rattle.drm_data.specs.Joining.{JoinerEvent, JoinerAnswer, Silent, Whole, CutOff, CutWhole, Refuses, made}
use Rattle.law_data.specs.Readings.{AreEvents}
use Rattle.law_data.specs.Runs.{answers, after_all, units_in, cuts_in}
use Rattle.drm_text.specs.Segment.{Segment}
use Rattle.drm_text.specs.Joining as joining
use Rattle.drm_text.specs.Taking.{GivesOfPiece, text_of}
use Rattle.law_text.specs.Runs.{JoinerRuns, messages_in}
use Rattle.cmd_unpack.specs.declared.counts.Counts.{Counts}
use Rattle.cmd_unpack.specs.declared.units.UnitTaker.{UnitTaker}
use Rattle.cmd_unpack.specs.declared.messages.MessageTaker.{MessageTaker}
use Rattle.cmd_unpack.specs.declared.taker.Taker.{Taker}
use Rattle.cmd_unpack.specs.declared.taker.Taker.TheVariants.{Units, Messages}
use Rattle.cmd_unpack.specs.Streams.{PayloadKind, UnitsOf, TextsOf, cut_into, reading, bad_in, missing_in}
use Rattle.cmd_unpack.specs.Lines.{answers_text, text_line, is_clean}
use Rattle.cmd_unpack.specs.Printed.{refused_in, AreItems, IsWholeText}
use Rattle.cmd_unpack.specs.Run.{DataEnds}

-- ---- units

abbrev pub no_counts : Counts
no_counts = record { given = 0; cut = 0; bad = 0; missing = 0 }

-- the counts with an answer
abbrev pub counted : Counts → JoinerAnswer → Counts
counted counts Silent = counts
counted counts (Whole unit) = record counts { given = counts.given + 1 }
counted counts CutOff = record counts { cut = counts.cut + 1 }
counted counts (CutWhole unit) = record counts { given = counts.given + 1; cut = counts.cut + 1 }
counted counts (Refuses fault cut) = record counts { cut = counts.cut + from_bool cut; bad = counts.bad + 1 }

-- each count is below this number
pub record AreBelow (counts : Counts) (most : ℕ) : Type 0 where
  pub given : counts.given ≤ most
  pub cut : counts.cut ≤ most
  pub bad : counts.bad ≤ most
  pub missing : counts.missing ≤ most

-- the joiner is one for packets of the taker's length
abbrev pub IsJoinerOf : UnitTaker → Type 0
IsJoinerOf t = (t.joiner.length ≡ t.length) × (1 ≤ t.length)

-- the counts when nothing more comes
abbrev pub ended_counts : UnitTaker → Counts
ended_counts t = record t.counts { cut = t.counts.cut + from_bool (is_some t.joiner.begun) }

-- The bytes of the stream, where it is whole pieces of this size.
abbrev pub WholePieces : ℕ → Option (List (List ℕ)) → Option (Bor (List ℕ)) → Type 0
WholePieces n pieces None = pieces ≡ None
WholePieces n pieces (Some bytes) = (length bytes.now % n ≡ 0) × (pieces ≡ Some (cut_into n (length bytes.now / n) bytes.now))

-- The entries were taken, beside so many bad and missing items, and this is printed of them.
pub record JoinsEntries (t u : UnitTaker) (entries : List (Option (List ℕ))) (bad missing : ℕ) (line : List ℕ) : Type 0 where
  pub stream : u.stream ≡ t.stream
  pub size : u.length ≡ t.length
  pub events : List JoinerEvent
  pub are : AreEvents t.joiner.length entries events
  pub joiner : u.joiner ≡ after_all t.joiner events
  pub line_is : line ≡ answers_text (answers t.joiner events)
  pub given_is : u.counts.given ≡ t.counts.given + length (units_in (answers t.joiner events))
  pub cut_is : u.counts.cut ≡ t.counts.cut + cuts_in (answers t.joiner events)
  pub bad_is : u.counts.bad ≡ t.counts.bad + (bad + refused_in (answers t.joiner events))
  pub missing_is : u.counts.missing ≡ t.counts.missing + missing

-- That was written, or the write failed.
pub record TakesEntries {E : Type 0} (result : Result (Unit {0}) E) (t u : UnitTaker) (entries : List (Option (List ℕ))) (bad missing : ℕ) (a b : Known Output) : Type 0 where
  pub after : UnitTaker
  pub line : List ℕ
  pub joins : JoinsEntries t after entries bad missing line
  pub writes : WritesWhole result a b line
  pub after_is : OnOk result (u ≡ after)

-- a taker of which nothing has come yet
abbrev pub new_taker : ℕ → ℕ → ℕ → UnitTaker
new_taker k id d = record { stream = k; length = d; joiner = made id d; counts = no_counts }

-- These items were taken, and this is printed of them.
abbrev pub TookUnits : ℕ → ℕ → ℕ → List FrameItem → List ℕ → UnitTaker → Type 0
TookUnits k id d items text t =
    JoinsEntries (new_taker k id d) t (reading (UnitsOf k id d) items) (bad_in (UnitsOf k id d) items) (missing_in items) text

-- ---- messages

pub record TookMessages (k : ℕ) (items : List FrameItem) (text : List ℕ) (t : MessageTaker) : Type 0 where
  pub stream : t.stream ≡ k
  pub texts : List (Option (List ℕ))
  pub runs : JoinerRuns joining.made (reading (TextsOf k) items) texts t.joiner
  pub text_is : text ≡ flat_map text_line (messages_in texts)
  pub given_is : t.counts.given ≡ length (messages_in texts)
  pub cut_is : t.counts.cut ≡ 0
  pub bad_is : t.counts.bad ≡ bad_in (TextsOf k) items
  pub missing_is : t.counts.missing ≡ missing_in items

-- the line of a message, where one is told
abbrev pub message_line : Option (List ℕ) → List ℕ
message_line None = []
message_line (Some message) = text_line message

abbrev pub message_count : Option (List ℕ) → ℕ
message_count None = 0
message_count (Some message) = 1

-- A piece was taken, and the message that it makes whole, if one, was counted and written, or the write failed.
pub record TakesPiece {E : Type 0} (result : Result (Unit {0}) E) (s left : joining.TextState) (piece : List ℕ) (counts counts' : Counts) (a b : Known Output) : Type 0 where
  pub said : Option (Bor (List ℕ))
  pub tells : GivesOfPiece s piece said
  pub left_is : (read : Option Segment) → joining.ReadsIn (joining.gather s.segment piece) read → left ≡ joining.after s piece read
  pub counts_are : counts' ≡ record counts { given = counts.given + message_count (text_of said) }
  pub writes : WritesWhole result a b (message_line (text_of said))

-- the last piece of a stream
abbrev pub LastPiece : Option (List (List ℕ)) → Option (List ℕ) → Type 0
LastPiece pieces None = pieces ≡ None
LastPiece pieces (Some piece) = (pieces ≡ Some (piece ∷ [])) × (length piece ≡ 4)

-- One item more was taken.
pub record TakesMessages {E : Type 0} (k : ℕ) (items : List FrameItem) (item : FrameItem) (text : List ℕ) (result : Result (Unit {0}) E) (u : MessageTaker) (a b : Known Output) : Type 0 where
  pub after : MessageTaker
  pub line : List ℕ
  pub took : TookMessages k (items ++ item ∷ []) (text ++ line) after
  pub writes : WritesWhole result a b line
  pub after_is : OnOk result (u ≡ after)

-- ---- either

abbrev pub TakerTook : PayloadKind → List FrameItem → List ℕ → Taker → Type 0
TakerTook (UnitsOf k id d) items text (Units t) = TookUnits k id d items text t
TakerTook (TextsOf k) items text (Messages t) = TookMessages k items text t
TakerTook what items text taker = ⊥

abbrev pub counts_in : Taker → Counts
counts_in (Units t) = t.counts
counts_in (Messages t) = t.counts

-- One item more was taken, and what is printed of it was written, or the write failed.
pub record TakesItem {E : Type 0} (what : PayloadKind) (items : List FrameItem) (item : FrameItem) (text : List ℕ) (result : Result (Unit {0}) E) (u : Taker) (a b : Known Output) : Type 0 where
  pub after : Taker
  pub line : List ℕ
  pub took : TakerTook what (items ++ item ∷ []) (text ++ line) after
  pub writes : WritesWhole result a b line
  pub after_is : OnOk result (u ≡ after)

-- The end was written, or the write failed.
pub record EndsText {E : Type 0} (what : PayloadKind) (items : List FrameItem) (text : List ℕ) (result : Result (Unit {0}) E) (u : Taker) (a b : Known Output) : Type 0 where
  pub rest : List ℕ
  pub whole : IsWholeText what items (text ++ rest) (is_clean (counts_in u))
  pub writes : WritesWhole result a b rest

-- a taker of one of the four streams
abbrev pub IsTakerReady : Taker → Type 0
IsTakerReady (Units t) = (t.stream < 4) × IsJoinerOf t
IsTakerReady (Messages t) = t.stream < 4

-- What becomes of the items of an input: all are taken; or no more can be read, or a write failed.
abbrev pub TakesAll : PacketRange → PayloadKind → Result (Unit {0}) Fault → Taker → Known Input → Known Input → Known Output → Known Output → Type 0
TakesAll range what (Ok done) taker before after a b =
    (given : List Given) × GivesAll range given before after × (items : List FrameItem) × AreItems given items
    × (text : List ℕ) × TakerTook what items text taker × OutputsText a b (λ t. t ≡ text)
TakesAll range what (Err fault) taker before after a b = DataEnds range what (Err fault) before after a b
