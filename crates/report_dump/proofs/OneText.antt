-- A packet has one content, and so one text.
use Rattle.std.proofs.Common.{◌≡◌, ℕ, Bool, get_or, List, take, Option, None, Some, refl, sym, ap, subst, ◌∙◌, arith}
use Rattle.drm_sdc.specs.declared.block.Block.{Block}
use Rattle.drm_sdc.proofs.BlockLaws.{one_block}
use Rattle.dcp_tag.specs.Tag.{TagItem}
use Rattle.dcp_af.specs.Packet.{AfPacket, IsAf, sync as af_sync}
use Rattle.dcp_af.proofs.Answered.{is_packet_at, no_fault, one_fault}
use Rattle.dcp_pft.specs.Head.{PftFragment, sync as pft_sync}
use Rattle.dcp_pft.specs.Faults.{table}
use Rattle.dcp_pft.specs.Reading.{IsPft}
use Rattle.dcp_pft.proofs.Answered.{is_fragment_at, none_holds}
use Rattle.dcp_pft.proofs.Table.{one_first, none_first}
use Rattle.mdi_items.specs.declared.view.SdcSpan.{SdcSpan}
use Rattle.mdi_items.specs.Frame.{Frame}
use Rattle.mdi_items.proofs.MdiLemmas.{one_mdi, mdi_or_fault, one_mdi_fault}
use Rattle.report_dump.specs.PacketContent.{Saying, FrameOf, NoFrame, PacketContent, Fragment, NoFragment, Whole, NoPacket, bits_at, AreItems, IsBlockOf, PayloadSays, IsContent}
use Rattle.report_dump.specs.Text.{packet_text, is_bad, IsPacketText}
use Rattle.report_dump.proofs.ItemLemmas.{one_list}

-- ---- fragments begin otherwise than AF packets

fragment_begins : (f : PftFragment) (bytes : List ℕ) → IsPft f bytes → take 2 bytes ≡ pft_sync
fragment_begins f bytes is = ap (take 2) is.spells.spelled

packet_begins : (p : AfPacket) (bytes : List ℕ) → IsAf p bytes → take 2 bytes ≡ af_sync
packet_begins p bytes (check, ends, checks) = ap (take 2) ends.spelled

not_both : (bytes : List ℕ) → take 2 bytes ≡ pft_sync → take 2 bytes ≡ af_sync → ⊥
not_both bytes pft af = omega (arith, ap (λ (l : List ℕ). get_or l 0 0) (sym pft ∙ af))

-- ---- what a payload says

one_block_of : (payload : List ℕ) (sdc : Option SdcSpan) (b c : Option Block) → IsBlockOf payload sdc b → IsBlockOf payload sdc c → b ≡ c
one_block_of payload None None None is is_too = refl
one_block_of payload None None (Some c) is is_too = absurd is_too
one_block_of payload None (Some b) c is is_too = absurd is
one_block_of payload (Some span) None c is is_too = absurd is
one_block_of payload (Some span) (Some b) None is is_too = absurd is_too
one_block_of payload (Some span) (Some b) (Some c) is is_too = ap (λ (x : Block). Some x) (one_block b c (bits_at payload span) is is_too)

one_frame : (payload : List ℕ) (f g : Frame) (b c : Option Block) → f ≡ g → IsBlockOf payload f.sdc b → IsBlockOf payload g.sdc c → FrameOf f b ≡ FrameOf g c
one_frame payload f g b c same is is_too =
    let blocks : b ≡ c = one_block_of payload f.sdc b c is (subst (λ (x : Frame). IsBlockOf payload x.sdc c) (sym same) is_too) in
    ap (λ x. FrameOf x b) same ∙ ap (λ x. FrameOf g x) blocks

one_saying : (payload : List ℕ) (s t : Saying) → PayloadSays s payload → PayloadSays t payload → s ≡ t
one_saying payload (FrameOf f b) (FrameOf g c) is is_too = one_frame payload f g b c (one_mdi f g payload is.0 is_too.0) is.1 is_too.1
one_saying payload (FrameOf f b) (NoFrame fault) is is_too = absurd (mdi_or_fault f fault payload is.0 is_too)
one_saying payload (NoFrame fault) (FrameOf g c) is is_too = absurd (mdi_or_fault g fault payload is_too.0 is)
one_saying payload (NoFrame fault) (NoFrame other) is is_too = ap (λ x. NoFrame x) (one_mdi_fault fault other payload is is_too)

-- what is said of the payloads of one packet
one_whole : (p q : AfPacket) (items others : List TagItem) (s t : Saying) → p ≡ q → AreItems items p.payload → PayloadSays s p.payload → AreItems others q.payload → PayloadSays t q.payload
    → Whole p items s ≡ Whole q others t
one_whole p q items others s t same are says are_too says_too =
    let lists : items ≡ others = one_list items others p.payload are (subst (λ (x : AfPacket). AreItems others x.payload) (sym same) are_too) in
    let sayings : s ≡ t = one_saying p.payload s t says (subst (λ (x : AfPacket). PayloadSays t x.payload) (sym same) says_too) in
    ap (λ x. Whole x items s) same ∙ (ap (λ x. Whole q x s) lists ∙ ap (λ x. Whole q others x) sayings)

-- ---- contents

pub one_content : (bytes : List ℕ) (content other : PacketContent) → IsContent content bytes → IsContent other bytes → content ≡ other
one_content bytes (Fragment f) (Fragment g) is is_too = ap (λ x. Fragment x) (sym (is_fragment_at f bytes is) ∙ is_fragment_at g bytes is_too)
one_content bytes (Fragment f) (NoFragment fault) is is_too = absurd (none_first table fault bytes (none_holds f bytes is) is_too.1)
one_content bytes (Fragment f) (Whole q others t) is is_too = absurd (not_both bytes (fragment_begins f bytes is) (packet_begins q bytes is_too.0))
one_content bytes (Fragment f) (NoPacket fault) is is_too = absurd (not_both bytes (fragment_begins f bytes is) is_too.0)
one_content bytes (NoFragment fault) (Fragment g) is is_too = absurd (none_first table fault bytes (none_holds g bytes is_too) is.1)
one_content bytes (NoFragment fault) (NoFragment other) is is_too = ap (λ x. NoFragment x) (one_first table fault other bytes is.1 is_too.1)
one_content bytes (NoFragment fault) (Whole q others t) is is_too = absurd (not_both bytes is.0 (packet_begins q bytes is_too.0))
one_content bytes (NoFragment fault) (NoPacket other) is is_too = absurd (not_both bytes is.0 is_too.0)
one_content bytes (Whole p items s) (Fragment g) is is_too = absurd (not_both bytes (fragment_begins g bytes is_too) (packet_begins p bytes is.0))
one_content bytes (Whole p items s) (NoFragment fault) is is_too = absurd (not_both bytes is_too.0 (packet_begins p bytes is.0))
one_content bytes (Whole p items s) (Whole q others t) is is_too =
    one_whole p q items others s t (sym (is_packet_at p bytes is.0) ∙ is_packet_at q bytes is_too.0) is.1 is.2 is_too.1 is_too.2
one_content bytes (Whole p items s) (NoPacket fault) is is_too = absurd (no_fault p fault bytes is.0 is_too.1)
one_content bytes (NoPacket fault) (Fragment g) is is_too = absurd (not_both bytes (fragment_begins g bytes is_too) is.0)
one_content bytes (NoPacket fault) (NoFragment other) is is_too = absurd (not_both bytes is_too.0 is.0)
one_content bytes (NoPacket fault) (Whole q others t) is is_too = absurd (no_fault q fault bytes is_too.0 is.1)
one_content bytes (NoPacket fault) (NoPacket other) is is_too = ap (λ x. NoPacket x) (one_fault fault other bytes is.1 is_too.1)

pub one_text : (at : ℕ) (bytes text other : List ℕ) (bad worse : Bool) → IsPacketText at bytes text bad → IsPacketText at bytes other worse → (text ≡ other) × (bad ≡ worse)
one_text at bytes text other bad worse (content, is, its, is_bad_too) (second, is_second, its_second, is_bad_second) =
    let same : content ≡ second = one_content bytes content second is is_second in
    (its ∙ (ap (packet_text at) same ∙ sym its_second), is_bad_too ∙ (ap is_bad same ∙ sym is_bad_second))
