-- The last part of a text, and what a packet's lines make of the answer.
use Rattle.std.proofs.Common.{◌≡◌, ℕ, Bool, sym, List, [], ◌++◌, Result, Ok, Err, refl, ◌∙◌, ap, subst, append-nil}
use Rattle.std.specs.Prelude.{Option}
use Rattle.drm_links.specs.Known.{Known}
use Rattle.drm_links.specs.Sink.{Output, OutputsText, WritesWhole}
use Rattle.drm_links.proofs.KnownLemmas.{counts_one, counts_none, counts_then, OutputsText-then, OutputsText-weaker}
use Rattle.drm_links.proofs.WritingLemmas.{Writes-broken}
use Rattle.drm_links.specs.declared.sink.WriteFault.{WriteFault}
use Rattle.drm_sdc.specs.declared.block.Block.{Block}
use Rattle.dcp_tag.specs.Tag.{TagItem}
use Rattle.dcp_af.specs.Packet.{AfPacket}
use Rattle.mdi_items.specs.Frame.{Frame}
use Rattle.report_dump.specs.declared.packet.ShowFault.{ShowFault}
use Rattle.report_dump.specs.PacketContent.{PacketContent, IsContent}
use Rattle.report_dump.specs.Lines.{af_line, mdi_line, fac_text, mux_line}
use Rattle.report_dump.specs.Text.{block_text, frame_text, items_text, front_text, packet_text, is_bad}
use Rattle.report_dump.specs.Shown.{ShowsPacket, answer}

-- what is left behind what was written
pub last_written : {E : Type 0} (whole s : List ℕ) (a b c : Known Output) (r : Result (Unit {0}) E) → OutputsText a b (λ text. text ++ s ≡ whole) → b.faults ≡ a.faults → WritesWhole r b c s → WritesWhole r a c whole
last_written whole s a b c (Ok done) first still second =
    record {
      whole =
          OutputsText-then (λ text. text ++ s ≡ whole) (λ text. text ≡ s) (λ text. text ≡ whole) a b c first second.whole
          (λ x y is_x is_y. ap (λ l. x ++ l) is_y ∙ is_x);
      front = tt;
      cause = counts_then still second.cause;
    }
last_written whole s a b c (Err fault) first still second =
    Writes-broken whole s [] a b c (Err fault) fault fault
    (OutputsText-weaker (λ text. text ++ s ≡ whole) (λ text. text ++ (s ++ []) ≡ whole) a b first (λ text is. ap (λ l. text ++ l) (append-nil s) ∙ is))
    still refl second

-- the lines of a frame, one after another
pub law_frame_lines : (frame : Frame) (block : Option Block) → mdi_line frame ++ (fac_text frame.fac ++ (mux_line frame.mux ++ block_text block)) ≡ frame_text frame block
unfolding frame_text
law_frame_lines frame block = refl

pub as_frame : {E : Type 0} (frame : Frame) (block : Option Block) (a b : Known Output) (r : Result (Unit {0}) E)
    → WritesWhole r a b (mdi_line frame ++ (fac_text frame.fac ++ (mux_line frame.mux ++ block_text block))) → WritesWhole r a b (frame_text frame block)
as_frame frame block a b r writes = subst (λ l. WritesWhole r a b l) (law_frame_lines frame block) writes

-- a packet's own line, and those of its items
pub front_lines : (at : ℕ) (p : AfPacket) (items : List TagItem) → af_line at p ++ items_text items ≡ front_text at p items
unfolding front_text
front_lines at p items = refl

pub as_front : {E : Type 0} (at : ℕ) (p : AfPacket) (items : List TagItem) (a b : Known Output) (r : Result (Unit {0}) E) → WritesWhole r a b (af_line at p ++ items_text items) → WritesWhole r a b (front_text at p items)
as_front at p items a b r writes = subst (λ l. WritesWhole r a b l) (front_lines at p items) writes

-- the answer of a packet whose lines were written, or a front of them
pub shows : (content : PacketContent) (at : ℕ) (bytes : List ℕ) (a b : Known Output) (w : Result (Unit {0}) WriteFault) (bad : Bool) (r : Result Bool ShowFault) → IsContent content bytes → bad ≡ is_bad content
    → WritesWhole w a b (packet_text at content) → r ≡ answer w bad → ShowsPacket r a b at bytes
shows content at bytes a b (Ok done) bad r is same writes ends =
    subst (λ x. ShowsPacket x a b at bytes) (sym ends)
    (record {
      text = packet_text at content;
      bad = is_bad content;
      is = (content, is, refl, refl);
      whole = (same, writes.whole);
      front = tt;
      cause = counts_none (λ failed. cc) (writes.cause.same (λ failed. cc));
      memory = λ none. cc;
    })
shows content at bytes a b (Err fault) bad r is same writes ends =
    subst (λ x. ShowsPacket x a b at bytes) (sym ends)
    (record {
      text = packet_text at content;
      bad = is_bad content;
      is = (content, is, refl, refl);
      whole = tt;
      front = writes.front;
      cause = counts_one refl (writes.cause.once refl);
      memory = λ none. cc;
    })
