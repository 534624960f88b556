-- A payload is one frame, or has one first fault, and never both.
use Rattle.std.proofs.Common.{◌≡◌, ◌≢◌, inl, inr, ℕ, List, [], ◌∷◌, get_or, Option, None, Some, Result, Ok, Err, IfOk, IfErr, refl, sym, subst, ap, ◌∙◌}
use Rattle.std.specs.Prelude.{IsOkAnd}
use Rattle.drm_fac.specs.declared.fac.Fac.{Fac}
use Rattle.drm_fac.specs.Fac.{IsFac}
use Rattle.drm_fac.proofs.FacLemmas.{one_fac}
use Rattle.drm_bits.specs.declared.description.MuxDesc.{MuxDesc}
use Rattle.drm_mux.specs.declared.frame.Spans.{Spans}
use Rattle.drm_fac.specs.declared.mode.Mode.{Mode}
use Rattle.drm_fac.specs.Mode.{mode_code}
use Rattle.drm_fac.proofs.ModeLemmas.{one_code}
use Rattle.drm_sdc.specs.declared.block.BlockInfo.{BlockInfo}
use Rattle.drm_sdc.specs.Block.{info_of}
use Rattle.drm_sdc.proofs.BlockLaws.{one_info}
use Rattle.dcp_tag.specs.Tag.{TagItem}
use Rattle.dcp_tag.proofs.TagLemmas.{payload_once}
use Rattle.mdi_items.specs.declared.known.ItemSpan.{ItemSpan}
use Rattle.mdi_items.specs.declared.fault.MdiFault.{MdiFault}
use Rattle.mdi_items.specs.declared.view.SdcSpan.{SdcSpan}
use Rattle.mdi_items.specs.declared.view.MdiView.{MdiView}
use Rattle.mdi_items.specs.Names.{ptr, dlfc, fac_, robm, sdc_}
use Rattle.mdi_items.specs.Items.{known_of}
use Rattle.mdi_items.specs.Frame.{Frame, FrameSays, IsAt, IsBlockSpan, bits_there, block_bits, frame_of}
use Rattle.mdi_items.specs.Mdi.{IsMdi, IsMdiFault}
use Rattle.mdi_items.specs.Table.{table, IsFirstFault}
use Rattle.mdi_items.proofs.OnceLemmas.{one_items_fault, items_or_fault}
use Rattle.mdi_items.proofs.RowLemmas.{one_first, none_or_first}
use Rattle.mdi_items.proofs.TableLemmas.{one_place, one_value, one_mux}

one_mode : (m n : Mode) → mode_code m ∷ [] ≡ mode_code n ∷ [] → m ≡ n
one_mode m n same = one_code m n (ap (λ (l : List ℕ). get_or l 0 0) same)

no_bits : (known : List (Option ItemSpan)) (found : ItemSpan) → bits_there (get_or known sdc_ None) ≡ 0 → IsAt known sdc_ found → found.bits ≢ 0 → ⊥
no_bits known found none at some = some (sym (ap bits_there at) ∙ none)

one_span : (payload : List ℕ) (known : List (Option ItemSpan)) (a b : Option SdcSpan) → IsBlockSpan payload known a → IsBlockSpan payload known b → a ≡ b
one_span payload known None None h k = refl
one_span payload known None (Some b) h (found, block, at, some, is_block, is) = absurd (no_bits known found h at some)
one_span payload known (Some a) None (found, block, at, some, is_block, is) k = absurd (no_bits known found k at some)
one_span payload known (Some a) (Some b) (found, block, at, some, is_block, is) (found', block', at', some', is_block', is') =
    let same : found' ≡ found = one_place known sdc_ found' found at' at in
    let other_info : BlockInfo = info_of block' (block_bits payload found') is_block' in
    let infos : info_of block (block_bits payload found) is_block ≡ other_info =
    one_info block block' (block_bits payload found) (block_bits payload found') (ap (λ (x : ItemSpan). block_bits payload x) (sym same)) is_block is_block' in
    let spans : a ≡ b =
    is
    ∙ (ap (λ (i : BlockInfo). record { at = found.at; bits = found.bits; info = i }) infos
    ∙ (ap (λ (x : ItemSpan). record { at = x.at; bits = x.bits; info = other_info }) (sym same) ∙ sym is')) in
    ap (λ (s : SdcSpan). Some s) spans

frame_from : ℕ → ℕ → ℕ → List ℕ → Fac → MuxDesc → Mode → Option SdcSpan → Spans → Frame
frame_from major minor dlfc fac_bytes fac mux mode sdc streams =
    record { major = major; minor = minor; dlfc = dlfc; fac_bytes = fac_bytes; fac = fac; mux = mux; mode = mode; sdc = sdc; streams = streams }

frame_again : (f : Frame) → f ≡ frame_from f.major f.minor f.dlfc f.fac_bytes f.fac f.mux f.mode f.sdc f.streams
unfolding frame_from
frame_again f = refl

-- items say one frame at most
one_says : (payload : List ℕ) (known : List (Option ItemSpan)) (f g : Frame) → FrameSays payload known f → FrameSays payload known g → f ≡ g
one_says payload known f g s t =
    let pointer : s.pointer ≡ t.pointer = one_value payload known ptr s.pointer t.pointer s.pointer_stands t.pointer_stands in
    let count : s.count ≡ t.count = one_value payload known dlfc s.count t.count s.count_stands t.count_stands in
    let major : f.major ≡ g.major = s.major ∙ (rw pointer (sym t.major)) in
    let minor : f.minor ≡ g.minor = s.minor ∙ (rw pointer (sym t.minor)) in
    let number : f.dlfc ≡ g.dlfc = s.dlfc ∙ (rw count (sym t.dlfc)) in
    let bytes : f.fac_bytes ≡ g.fac_bytes = one_value payload known fac_ f.fac_bytes g.fac_bytes s.fac_stands t.fac_stands in
    let fac : f.fac ≡ g.fac = one_fac f.fac g.fac f.fac_bytes s.fac (subst (λ (l : List ℕ). IsFac g.fac l) (sym bytes) t.fac) in
    let mux : f.mux ≡ g.mux = one_mux payload known f.mux g.mux (s.description, s.description_stands, s.mux) (t.description, t.description_stands, t.mux) in
    let mode : f.mode ≡ g.mode = one_mode f.mode g.mode (one_value payload known robm (mode_code f.mode ∷ []) (mode_code g.mode ∷ []) s.mode t.mode) in
    let sdc : f.sdc ≡ g.sdc = one_span payload known f.sdc g.sdc s.sdc t.sdc in
    let streams : f.streams ≡ g.streams = s.streams ∙ sym t.streams in
    let all : frame_from f.major f.minor f.dlfc f.fac_bytes f.fac f.mux f.mode f.sdc f.streams ≡ frame_from g.major g.minor g.dlfc g.fac_bytes g.fac g.mux g.mode g.sdc g.streams = cc in
    frame_again f ∙ (all ∙ sym (frame_again g))

-- a payload is one frame at most
pub one_mdi : (f g : Frame) (payload : List ℕ) → IsMdi f payload → IsMdi g payload → f ≡ g
one_mdi f g payload m n =
    let same : n.items ≡ m.items = payload_once n.items m.items payload n.are_items.stand m.are_items.stand in
    one_says payload (known_of m.items) f g m.says (subst (λ (l : List TagItem). FrameSays payload (known_of l) g) same n.says)

pub mdi_or_fault : (frame : Frame) (f : MdiFault) (payload : List ℕ) → IsMdi frame payload → IsMdiFault payload f → ⊥
mdi_or_fault frame f payload m (inl (others, h)) = items_or_fault m.items others [] payload f m.are_items.stand m.are_items.once h
mdi_or_fault frame f payload m (inr (items, are, first)) =
    let same : items ≡ m.items = payload_once items m.items payload are.stand m.are_items.stand in
    none_or_first payload (known_of m.items) table f m.faultless (subst (λ (l : List TagItem). IsFirstFault payload (known_of l) table f) same first)

pub one_mdi_fault : (f g : MdiFault) (payload : List ℕ) → IsMdiFault payload f → IsMdiFault payload g → f ≡ g
one_mdi_fault f g payload (inl (items, h)) (inl (others, k)) = one_items_fault items others [] payload f g h k
one_mdi_fault f g payload (inl (others, h)) (inr (items, are, first)) = absurd (items_or_fault items others [] payload f are.stand are.once h)
one_mdi_fault f g payload (inr (items, are, first)) (inl (others, k)) = absurd (items_or_fault items others [] payload g are.stand are.once k)
one_mdi_fault f g payload (inr (items, are, first)) (inr (items', are', first')) =
    let same : items' ≡ items = payload_once items' items payload are'.stand are.stand in
    one_first payload (known_of items) table f g first (subst (λ (l : List TagItem). IsFirstFault payload (known_of l) table g) same first')

-- an answer that is right is the only one
pub only_frame : (r : Result MdiView MdiFault) (payload : List ℕ) → IfOk r (λ v. IsMdi (frame_of v) payload) → IfErr r (IsMdiFault payload) → (frame : Frame) → IsMdi frame payload
    → IsOkAnd r (λ v. frame_of v ≡ frame)
only_frame (Ok v) payload read fault frame is = one_mdi (frame_of v) frame payload read is
only_frame (Err f) payload read fault frame is = absurd (mdi_or_fault frame f payload is fault)

pub only_fault : (r : Result MdiView MdiFault) (payload : List ℕ) → IfOk r (λ v. IsMdi (frame_of v) payload) → IfErr r (IsMdiFault payload) → (f : MdiFault) → IsMdiFault payload f → r ≡ Err f
only_fault (Ok v) payload read fault f is = absurd (mdi_or_fault (frame_of v) f payload read is)
only_fault (Err g) payload read fault f is = ap (λ (x : MdiFault). Err x) (one_mdi_fault g f payload fault is)
