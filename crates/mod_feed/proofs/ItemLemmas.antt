-- What a collector gives has one item; and a fault is one that reading can meet.
use Rattle.std.proofs.Common.{◌≡◌, ℕ, List, sym, ap, subst, ◌∙◌}
use Rattle.dcp_af.specs.Packet.{AfPacket, IsAf}
use Rattle.dcp_af.proofs.Answered.{one_fault, no_fault, is_packet_at}
use Rattle.dcp_collect.specs.Runs.{Packet, Lost, Damaged}
use Rattle.mdi_items.specs.Frame.{Frame as MdiFrame}
use Rattle.mdi_items.specs.Mdi.{IsMdi, IsMdiFault}
use Rattle.mdi_items.proofs.MdiLemmas.{one_mdi, mdi_or_fault, one_mdi_fault}
use Rattle.mod_feed.specs.declared.item.BadFault.{BadFault}
use Rattle.mod_feed.specs.declared.item.BadFault.TheVariants.{Code, Af, Mdi}
use Rattle.mod_feed.specs.Items.{Frame, Missing, Bad, CarriesFrame, CarriesNone}
use Rattle.mod_feed.specs.Feeding.{IsOneItem}

one_payload : (p q : AfPacket) (bytes : List ℕ) → IsAf p bytes → IsAf q bytes → q.payload ≡ p.payload
one_payload p q bytes is other =
    ap (λ (af : AfPacket). af.payload) (sym (is_packet_at q bytes other) ∙ is_packet_at p bytes is)

one_frame : (f g : MdiFrame) (a b bytes : List ℕ) → CarriesFrame f a bytes → CarriesFrame g b bytes → (g ≡ f) × (b ≡ a)
one_frame f g a b bytes (af, is, at, mdi) (af', is', at', mdi') =
    let same : b ≡ a = sym at' ∙ one_payload af af' bytes is is' ∙ at in
    (one_mdi g f a (subst (λ (l : List ℕ). IsMdi g l) same mdi') mdi, same)

frame_or_none : (f : MdiFrame) (a bytes : List ℕ) (fault : BadFault) → CarriesFrame f a bytes → CarriesNone fault bytes → ⊥
frame_or_none f a bytes Code is none = none
frame_or_none f a bytes (Af fault) (af, is, at, mdi) none = no_fault af fault bytes is none
frame_or_none f a bytes (Mdi fault) (af, is, at, mdi) (af', is', none) =
    let same : af'.payload ≡ a = one_payload af af' bytes is is' ∙ at in
    mdi_or_fault f fault a mdi (subst (λ (l : List ℕ). IsMdiFault l fault) same none)

one_none : (f g : BadFault) (bytes : List ℕ) → CarriesNone f bytes → CarriesNone g bytes → g ≡ f
one_none Code g bytes h k = absurd h
one_none (Af f) Code bytes h k = absurd k
one_none (Af f) (Af g) bytes h k = ap Af (one_fault g f bytes k h)
one_none (Af f) (Mdi g) bytes h (af, is, k) = absurd (no_fault af f bytes is h)
one_none (Mdi f) Code bytes h k = absurd k
one_none (Mdi f) (Af g) bytes (af, is, h) k = absurd (no_fault af g bytes is k)
one_none (Mdi f) (Mdi g) bytes (af, is, h) (af', is', k) =
    ap Mdi (one_mdi_fault g f af.payload (subst (λ (l : List ℕ). IsMdiFault l g) (one_payload af af' bytes is is') k) h)

pub item_is_one : IsOneItem
item_is_one (Packet index bytes) (Frame q f a) (Frame r g b) h k =
    let one = one_frame f g a b bytes h.1 k.1 in
    let same : r ≡ q = k.0 ∙ sym h.0 in
    let frame : g ≡ f = one.0 in
    let payload : b ≡ a = one.1 in
    cc
item_is_one (Packet index bytes) (Frame q f a) (Missing r some all) h k = absurd k
item_is_one (Packet index bytes) (Frame q f a) (Bad r fault) h k = absurd (frame_or_none f a bytes fault h.1 k.1)
item_is_one (Packet index bytes) (Missing q some all) other h k = absurd h
item_is_one (Packet index bytes) (Bad q fault) (Frame r g b) h k = absurd (frame_or_none g b bytes fault k.1 h.1)
item_is_one (Packet index bytes) (Bad q fault) (Missing r some all) h k = absurd k
item_is_one (Packet index bytes) (Bad q fault) (Bad r fault') h k =
    let same : r ≡ q = k.0 ∙ sym h.0 in
    let cause : fault' ≡ fault = one_none fault fault' bytes h.1 k.1 in
    cc
item_is_one (Lost index had total) (Frame q f a) other h k = absurd h
item_is_one (Lost index had total) (Missing q some all) (Frame r g b) h k = absurd k
item_is_one (Lost index had total) (Missing q some all) (Missing r some' all') h k =
    let same : r ≡ q = k.0 ∙ sym h.0 in
    let first : some' ≡ some = k.1 ∙ sym h.1 in
    let last : all' ≡ all = k.2 ∙ sym h.2 in
    cc
item_is_one (Lost index had total) (Missing q some all) (Bad r fault) h k = absurd k
item_is_one (Lost index had total) (Bad q fault) other h k = absurd h
item_is_one (Damaged index) (Frame q f a) other h k = absurd h
item_is_one (Damaged index) (Missing q some all) other h k = absurd h
item_is_one (Damaged index) (Bad q fault) (Frame r g b) h k = absurd k
item_is_one (Damaged index) (Bad q fault) (Missing r some all) h k = absurd k
item_is_one (Damaged index) (Bad q fault) (Bad r fault') h k =
    let same : r ≡ q = k.0 ∙ sym h.0 in
    let cause : fault' ≡ fault = k.1 ∙ sym h.1 in
    cc
