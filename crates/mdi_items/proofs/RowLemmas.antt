-- Each row has one fault, and so has the table.
use Rattle.std.proofs.Common.{◌≡◌, inl, inr, ℕ, ◌/◌, List, [], ◌∷◌, get_or, Option, refl, sym, subst, ap, ◌∙◌}
use Rattle.drm_bits.specs.declared.description.MuxDesc.{MuxDesc}
use Rattle.drm_fac.specs.declared.fac.Fac.{Fac}
use Rattle.drm_fac.specs.declared.fac.FacFault.{FacFault}
use Rattle.drm_fac.specs.Fac.{IsFac}
use Rattle.drm_fac.specs.Fault.{IsFault}
use Rattle.drm_fac.proofs.FacLemmas.{one_fac, one_fault}
use Rattle.drm_mux.specs.declared.fault.MuxFault.{MuxFault}
use Rattle.drm_mux.specs.declared.fault.MuxFault.TheVariants.{SdciLength, SdciFront, StreamLength}
use Rattle.drm_mux.specs.Faults.{IsSdciFault}
use Rattle.drm_mux.specs.Frame.{stream_length}
use Rattle.drm_sdc.specs.declared.fault.SdcFault.{SdcFault}
use Rattle.drm_sdc.specs.Block.{IsBlockFault}
use Rattle.drm_sdc.proofs.BlockLaws.{one_block_fault}
use Rattle.mdi_items.specs.declared.known.ItemSpan.{ItemSpan}
use Rattle.mdi_items.specs.declared.fault.MdiFault.{MdiFault}
use Rattle.mdi_items.specs.declared.fault.MdiFault.TheVariants as fault
use Rattle.mdi_items.specs.Names.{name_at, fac_, sdci, robm, sdc_, str}
use Rattle.mdi_items.specs.Frame.{bytes_at, block_bits}
use Rattle.mdi_items.specs.Table.{FaultRow, Absent, OtherLength, OtherProtocol, NoFac, Hierarchical, NoDescription, NoMode, BlockAbsent, BlockOutOfPlace, NoBlock, StreamAbsent, StreamBits, StreamOtherLength, RowApplies, NoneApplies, IsFirstFault, HasFac}
use Rattle.mdi_items.proofs.TableLemmas.{one_place, one_value, one_mux}

pub one_fac_there : (payload : List ℕ) (known : List (Option ItemSpan)) (f g : Fac) → HasFac payload known f → HasFac payload known g → f ≡ g
one_fac_there payload known f g (a, has, is) (b, has_too, is_too) =
    let same : b ≡ a = one_value payload known _ b a has_too has in
    one_fac f g a is (subst (λ (l : List ℕ). IsFac g l) same is_too)

one_sdci_fault : (bits : ℕ) (bytes : List ℕ) (f g : MuxFault) → IsSdciFault bits bytes f → IsSdciFault bits bytes g → f ≡ g
one_sdci_fault bits bytes (SdciLength m) (SdciLength n) h k = let same : m ≡ n = h.0 ∙ sym k.0 in ap (λ (x : ℕ). SdciLength x) same
one_sdci_fault bits bytes (SdciLength m) SdciFront h k = absurd (h.1 k.0)
one_sdci_fault bits bytes (SdciLength m) g h k = absurd k
one_sdci_fault bits bytes SdciFront (SdciLength n) h k = absurd (k.1 h.0)
one_sdci_fault bits bytes SdciFront SdciFront h k = refl
one_sdci_fault bits bytes SdciFront g h k = absurd k
one_sdci_fault bits bytes f g h k = absurd h

-- a row names one fault
one_applies : (payload : List ℕ) (known : List (Option ItemSpan)) (row : FaultRow) (f g : MdiFault) → RowApplies payload known row f → RowApplies payload known row g → f ≡ g
one_applies payload known (Absent k) f g h j = h.1 ∙ sym j.1
one_applies payload known (OtherLength k bits) f g (a, at, ne, is) (b, at', ne', is') =
    is ∙ (ap (λ (x : ItemSpan). fault.ItemLength (name_at k) x.bits) (one_place known k a b at at') ∙ sym is')
one_applies payload known OtherProtocol f g h j = h.3 ∙ sym j.3
one_applies payload known NoFac f g (a, cause, has, is_fault, is) (b, cause', has', is_fault', is') =
    let same : b ≡ a = one_value payload known fac_ b a has' has in
    is ∙ (ap (λ (x : FacFault). fault.Fac x) (one_fault cause cause' a is_fault (subst (λ (l : List ℕ). IsFault l cause') same is_fault')) ∙ sym is')
one_applies payload known Hierarchical f g (a, has, layered, is) (b, has', layered', is') =
    is ∙ (ap (λ (x : Fac). fault.Hierarchical x.channel.msc) (one_fac_there payload known a b has has') ∙ sym is')
one_applies payload known NoDescription f g (a, cause, at, is_fault, is) (b, cause', at', is_fault', is') =
    let same : b ≡ a = one_place known sdci b a at' at in
    let moved : IsSdciFault a.bits (bytes_at payload a) cause' = subst (λ (x : ItemSpan). IsSdciFault x.bits (bytes_at payload x) cause') same is_fault' in
    is ∙ (ap (λ (x : MuxFault). fault.Mux x) (one_sdci_fault a.bits (bytes_at payload a) cause cause' is_fault moved) ∙ sym is')
one_applies payload known NoMode f g (code, has, above, is) (code', has', above', is') =
    let same : code ∷ [] ≡ code' ∷ [] = one_value payload known robm (code ∷ []) (code' ∷ []) has has' in
    let codes : code ≡ code' = ap (λ (l : List ℕ). get_or l 0 0) same in
    is ∙ (ap (λ (x : ℕ). fault.Mode x) codes ∙ sym is')
one_applies payload known BlockAbsent f g h j = h.4 ∙ sym j.4
one_applies payload known BlockOutOfPlace f g (fac, a, has, not_first, at, some, is) (fac', b, has', not_first', at', some', is') =
    is ∙ (ap (λ (x : ItemSpan). fault.ItemLength (name_at sdc_) x.bits) (one_place known sdc_ a b at at') ∙ sym is')
one_applies payload known NoBlock f g (a, cause, at, some, is_fault, is) (b, cause', at', some', is_fault', is') =
    let same : b ≡ a = one_place known sdc_ b a at' at in
    let moved : IsBlockFault (block_bits payload a) cause' = subst (λ (x : ItemSpan). IsBlockFault (block_bits payload x) cause') same is_fault' in
    is ∙ (ap (λ (x : SdcFault). fault.Sdc x) (one_block_fault cause cause' (block_bits payload a) is_fault moved) ∙ sym is')
one_applies payload known (StreamAbsent k) f g (d, has, lacks) (d', has', lacks') = lacks.3 ∙ sym lacks'.3
one_applies payload known (StreamBits k) f g (d, has, (a, at, bad, is)) (d', has', (b, at', bad', is')) =
    is ∙ (ap (λ (x : ItemSpan). fault.ItemLength (name_at (str k)) x.bits) (one_place known (str k) a b at at') ∙ sym is')
one_applies payload known (StreamOtherLength k) f g (d, has, (a, at, below, other, is)) (d', has', (b, at', below', other', is')) =
    is
    ∙ (ap (λ (x : ItemSpan). fault.Mux (StreamLength k (x.bits / 8) (stream_length d k))) (one_place known (str k) a b at at')
    ∙ (ap (λ (x : MuxDesc). fault.Mux (StreamLength k (b.bits / 8) (stream_length x k))) (one_mux payload known d d' has has') ∙ sym is'))

-- a table has one first fault
pub one_first : (payload : List ℕ) (known : List (Option ItemSpan)) (rows : List FaultRow) (f g : MdiFault) → IsFirstFault payload known rows f → IsFirstFault payload known rows g → f ≡ g
one_first payload known [] f g h j = absurd h
one_first payload known (row ∷ rows) f g (inl applies) (inl applies') = one_applies payload known row f g applies applies'
one_first payload known (row ∷ rows) f g (inl applies) (inr (not, first)) = absurd (not f applies)
one_first payload known (row ∷ rows) f g (inr (not, first)) (inl applies) = absurd (not g applies)
one_first payload known (row ∷ rows) f g (inr (not, first)) (inr (not', first')) = one_first payload known rows f g first first'

pub none_or_first : (payload : List ℕ) (known : List (Option ItemSpan)) (rows : List FaultRow) (f : MdiFault) → NoneApplies payload known rows → IsFirstFault payload known rows f → ⊥
none_or_first payload known [] f none h = absurd h
none_or_first payload known (row ∷ rows) f none (inl applies) = none.0 f applies
none_or_first payload known (row ∷ rows) f none (inr (not, first)) = none_or_first payload known rows f none.1 first
