-- A fault of a packet is one that reading can meet.
use Rattle.std.proofs.Common.{◌≡◌, ℕ, Bool, List, [], ◌∷◌, inl, inr, sym, subst}
use Rattle.drm_mux.specs.declared.fault.MuxFault.{MuxFault}
use Rattle.drm_mux.specs.declared.fault.MuxFault.TheVariants as mux
use Rattle.drm_mux.specs.Faults.{IsSdciFault}
use Rattle.drm_sdc.specs.declared.fault.SdcFault.{SdcFault}
use Rattle.drm_sdc.specs.declared.fault.SdcFault.TheVariants as sdc
use Rattle.drm_sdc.specs.Block.{IsBlockFault}
use Rattle.dcp_tag.specs.Tag.{TagItem}
use Rattle.mdi_items.specs.declared.fault.MdiFault.{MdiFault}
use Rattle.mdi_items.specs.declared.fault.MdiFault.TheVariants as mdi
use Rattle.mdi_items.specs.Items.{AreThenFault, IsNextFault, known_of}
use Rattle.mdi_items.specs.Mdi.{IsMdiFault}
use Rattle.mdi_items.specs.Table.{FaultRow, Absent, OtherLength, OtherProtocol, NoFac, Hierarchical, NoDescription, NoMode, BlockAbsent, BlockOutOfPlace, NoBlock, StreamAbsent, StreamBits, StreamOtherLength, RowApplies, IsFirstFault, table}
use Rattle.mod_feed.specs.declared.item.BadFault.{BadFault}
use Rattle.mod_feed.specs.declared.item.BadFault.TheVariants.{Code, Af, Mdi}
use Rattle.mod_feed.specs.Items.{CarriesNone, IsOfReading}

abbrev Reads : MdiFault → Type 0
Reads f = IsOfReading (Mdi f)

as_that : (f g : MdiFault) → f ≡ g → Reads g → Reads f
as_that f g e = subst (λ (x : MdiFault). Reads x) (sym e)

of_description : (bits : ℕ) (bytes : List ℕ) (cause : MuxFault) → IsSdciFault bits bytes cause → Reads (mdi.Mux cause)
of_description bits bytes (mux.SdciLength stands) h = tt
of_description bits bytes mux.SdciFront h = tt
of_description bits bytes (mux.StreamLength stream stands described) h = tt
of_description bits bytes (mux.FrameLength stands described) h = h

of_block : (bits : List Bool) (cause : SdcFault) → IsBlockFault bits cause → Reads (mdi.Sdc cause)
of_block bits (sdc.BlockLength n) h = tt
of_block bits (sdc.Front b) h = tt
of_block bits (sdc.Crc stands computed) h = tt
of_block bits (sdc.EntityCut at) h = tt
of_block bits (sdc.BodyLength at kind len) h = tt
of_block bits (sdc.LabelText at) h = tt
of_block bits sdc.NoMemory h = h

of_row : (payload : List ℕ) (items : List TagItem) (row : FaultRow) (f : MdiFault) → RowApplies payload (known_of items) row f → Reads f
of_row payload items (Absent k) f h = as_that f _ h.1 tt
of_row payload items (OtherLength k bits) f h = as_that f _ h.3 tt
of_row payload items OtherProtocol f h = as_that f _ h.3 tt
of_row payload items NoFac f h = as_that f _ h.4 tt
of_row payload items Hierarchical f h = as_that f _ h.3 tt
of_row payload items NoDescription f (found, cause, at, is, e) = as_that f _ e (of_description _ _ cause is)
of_row payload items NoMode f h = as_that f _ h.3 tt
of_row payload items BlockAbsent f h = as_that f _ h.4 tt
of_row payload items BlockOutOfPlace f h = as_that f _ h.6 tt
of_row payload items NoBlock f (found, cause, at, some, is, e) = as_that f _ e (of_block _ cause is)
of_row payload items (StreamAbsent k) f h = as_that f _ h.2.3 tt
of_row payload items (StreamBits k) f h = as_that f _ h.2.3 tt
of_row payload items (StreamOtherLength k) f h = as_that f _ h.2.4 tt

of_rows : (payload : List ℕ) (items : List TagItem) (rows : List FaultRow) (f : MdiFault) → IsFirstFault payload (known_of items) rows f → Reads f
of_rows payload items [] f h = absurd h
of_rows payload items (row ∷ rows) f (inl h) = of_row payload items row f h
of_rows payload items (row ∷ rows) f (inr h) = of_rows payload items rows f h.1

of_next : (before : List TagItem) (bytes : List ℕ) (f : MdiFault) → IsNextFault before bytes f → Reads f
of_next before bytes (mdi.Tag cut) h = tt
of_next before bytes (mdi.Twice name) h = tt
of_next before bytes (mdi.Absent name) h = tt
of_next before bytes mdi.Protocol h = tt
of_next before bytes (mdi.ItemLength name bits) h = tt
of_next before bytes (mdi.Fac cause) h = tt
of_next before bytes (mdi.Hierarchical msc) h = tt
of_next before bytes (mdi.Mux cause) h = absurd h
of_next before bytes (mdi.Mode code) h = tt
of_next before bytes (mdi.Sdc cause) h = absurd h

of_items : (before items : List TagItem) (bytes : List ℕ) (f : MdiFault) → AreThenFault before items bytes f → Reads f
of_items before [] bytes f h = of_next before bytes f h
of_items before (item ∷ items) bytes f (rest, begins, new, h) = of_items _ items rest f h

pub of_payload : (payload : List ℕ) (f : MdiFault) → IsMdiFault payload f → Reads f
of_payload payload f (inl (items, h)) = of_items [] items payload f h
of_payload payload f (inr (items, are, h)) = of_rows payload _ table f h

pub of_packet : (fault : BadFault) (bytes : List ℕ) → CarriesNone fault bytes → IsOfReading fault
of_packet Code bytes h = tt
of_packet (Af fault) bytes h = tt
of_packet (Mdi fault) bytes (af, is, h) = of_payload af.payload fault h
