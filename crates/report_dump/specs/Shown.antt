-- What a call that shows a packet has written.
use Rattle.std.specs.Prelude.{ℕ, ◌≡◌, ◌≢◌, Bool, List, Result, Ok, Err, IfOk, OnErr, IsErr}
use Rattle.drm_links.specs.Known.{Known, HasCause}
use Rattle.drm_links.specs.Sink.{Output, OutputsText, IsPrefix}
use Rattle.drm_links.specs.declared.sink.WriteFault.{WriteFault}
use Rattle.report_dump.specs.declared.packet.ShowFault.{ShowFault}
use Rattle.report_dump.specs.declared.packet.ShowFault.TheVariants as fault
use Rattle.report_dump.specs.Text.{IsPacketText}

-- The text of the packet was written, and the answer is whether it tells what is wrong; or a front of it was written, since
-- the sink failed. Memory is never wanted.
pub record ShowsPacket (result : Result Bool ShowFault) (before after : Known Output) (at : ℕ) (bytes : List ℕ) : Type 0 where
  pub text : List ℕ
  pub bad : Bool
  pub is : IsPacketText at bytes text bad
  pub whole : IfOk result (λ answer. (answer ≡ bad) × OutputsText before after (λ written. written ≡ text))
  pub front : OnErr result (OutputsText before after (IsPrefix text))
  pub cause : HasCause before after (IsErr result)
  pub memory : result ≢ Err fault.NoMemory

-- the answer where the lines are written, or a write failed
abbrev pub answer : Result (Unit {0}) WriteFault → Bool → Result Bool ShowFault
answer (Ok _) bad = Ok bad
answer (Err _) bad = Err fault.Write
