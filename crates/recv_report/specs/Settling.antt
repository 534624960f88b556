-- What becomes of receivers that ended.
use Rattle.std.specs.Prelude.{ℕ, ◌≡◌, ◌↔◌, IsTrue, All, Bool, List, Result, Ok, Err}
use Rattle.std.specs.List.{flat_map}
use Rattle.drm_links.specs.Known.{Known}
use Rattle.drm_links.specs.Sink.{Output, OutputsText, IsPrefix}
use Rattle.recv_report.specs.declared.stop.ReceiveError.{ReceiveError}
use Rattle.recv_report.specs.declared.stop.ReceiveError.TheVariants as stops
use Rattle.recv_report.specs.declared.receiver.Receiver.{Receiver}
use Rattle.recv_report.specs.Receivers.{NoneFailed, clean_of, text_of, IsReceiverDone}

-- the texts of receivers, one after another
abbrev pub receiver_texts : {L : Type 0} → List (Receiver L) → List ℕ
receiver_texts receivers = flat_map (λ receiver. text_of receiver) receivers

-- Where all are done their texts are written, or a front of them; where a link failed, and else where not all are done for want
-- of memory, nothing.
abbrev pub ReceiversSettle : {L O : Type 0} → List (Receiver L) → Result Bool ReceiveError → (O → Known Output) → O → O → Type 0
ReceiversSettle receivers (Ok clean) known out out' =
    All IsReceiverDone receivers × OutputsText (known out) (known out') (λ text. text ≡ receiver_texts receivers)
    × (IsTrue clean ↔ All (λ receiver. IsTrue (clean_of receiver)) receivers)
ReceiversSettle receivers (Err stops.Write) known out out' = All IsReceiverDone receivers × OutputsText (known out) (known out') (IsPrefix (receiver_texts receivers))
ReceiversSettle receivers (Err stops.Link) known out out' = (NoneFailed receivers → ⊥) × (out' ≡ out)
ReceiversSettle receivers (Err stops.NoMemory) known out out' = NoneFailed receivers × (All IsReceiverDone receivers → ⊥) × (out' ≡ out)
