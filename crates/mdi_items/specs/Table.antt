-- Why items are no logical frame: the table of the refusals, in order.
use Rattle.std.specs.Prelude.{ℕ, ◌≡◌, ◌≢◌, ◌/◌, ◌%◌, ◌<◌, ◌≤◌, ◌⊎◌, List, [], ◌∷◌, ◌++◌, take, codes, slice_index_or, Option, None}
use Rattle.drm_bits.specs.declared.description.MuxDesc.{MuxDesc}
use Rattle.drm_fac.specs.declared.fac.Fac.{Fac}
use Rattle.drm_fac.specs.declared.fac.FacFault.{FacFault}
use Rattle.drm_fac.specs.Fac.{IsFac}
use Rattle.drm_fac.specs.Fault.{IsFault}
use Rattle.drm_mux.specs.declared.fault.MuxFault.{MuxFault}
use Rattle.drm_mux.specs.declared.fault.MuxFault.TheVariants.{StreamLength}
use Rattle.drm_mux.specs.Faults.{IsSdciFault}
use Rattle.drm_mux.specs.Frame.{stream_length}
use Rattle.drm_mux.specs.Sdci.{IsSdci}
use Rattle.drm_sdc.specs.declared.fault.SdcFault.{SdcFault}
use Rattle.drm_sdc.specs.Block.{IsBlockFault}
use Rattle.mdi_items.specs.declared.known.ItemSpan.{ItemSpan}
use Rattle.mdi_items.specs.declared.fault.MdiFault.{MdiFault}
use Rattle.mdi_items.specs.declared.fault.MdiFault.TheVariants as fault
use Rattle.mdi_items.specs.Names.{name_at, ptr, dlfc, fac_, sdci, robm, sdc_, str}
use Rattle.mdi_items.specs.Frame.{IsAt, HasBytes, bytes_at, bits_there, block_bits, IsFirstOfSuperFrame}

-- A row: what is wrong. A first number is an item's place in the order of the names, that of a stream its own.
pub data FaultRow : Type 0 where
  Absent : ℕ → FaultRow  -- there is no such item
  OtherLength : ℕ → ℕ → FaultRow  -- it has another number of bits than this one
  OtherProtocol : FaultRow  -- `*ptr` doesn't begin with DMDI
  NoFac : FaultRow  -- `fac_` is no FAC
  Hierarchical : FaultRow  -- the FAC says so
  NoDescription : FaultRow  -- `sdci` is no description
  NoMode : FaultRow  -- `robm` is above 3
  BlockAbsent : FaultRow  -- the first frame has no `sdc_`, or none of any bits
  BlockOutOfPlace : FaultRow  -- another frame has one of some bits
  NoBlock : FaultRow  -- `sdc_` is no block
  StreamAbsent : ℕ → FaultRow  -- a described stream that isn't empty isn't there
  StreamBits : ℕ → FaultRow  -- it has no whole bytes, or some bits where it isn't described
  StreamOtherLength : ℕ → FaultRow  -- it hasn't the length that is described

-- an item that each frame has, always with so many bits
abbrev pub due_rows : ℕ → ℕ → List FaultRow
due_rows k bits = Absent k ∷ OtherLength k bits ∷ []

-- the rows of each item
abbrev pub ptr_rows : List FaultRow
ptr_rows = due_rows ptr 64 ++ OtherProtocol ∷ []

abbrev pub dlfc_rows : List FaultRow
dlfc_rows = due_rows dlfc 32

abbrev pub fac_rows : List FaultRow
fac_rows = due_rows fac_ 72 ++ NoFac ∷ Hierarchical ∷ []

abbrev pub sdci_rows : List FaultRow
sdci_rows = Absent sdci ∷ NoDescription ∷ []

abbrev pub robm_rows : List FaultRow
robm_rows = due_rows robm 8 ++ NoMode ∷ []

abbrev pub sdc_rows : List FaultRow
sdc_rows = BlockAbsent ∷ BlockOutOfPlace ∷ NoBlock ∷ []

abbrev pub stream_rows : ℕ → List FaultRow
stream_rows k = StreamAbsent k ∷ StreamBits k ∷ StreamOtherLength k ∷ []

abbrev pub streams_rows : List FaultRow
streams_rows = stream_rows 0 ++ (stream_rows 1 ++ (stream_rows 2 ++ stream_rows 3))

abbrev pub table : List FaultRow
table = ptr_rows ++ (dlfc_rows ++ (fac_rows ++ (sdci_rows ++ (robm_rows ++ (sdc_rows ++ streams_rows)))))

-- the FAC that the item has, and the description
abbrev pub HasFac : List ℕ → List (Option ItemSpan) → Fac → Type 0
HasFac payload known fac = (bytes : List ℕ) × HasBytes payload known fac_ bytes × IsFac fac bytes

abbrev pub HasDescription : List ℕ → List (Option ItemSpan) → MuxDesc → Type 0
HasDescription payload known d = (bytes : List ℕ) × HasBytes payload known sdci bytes × IsSdci d bytes

-- so many bits are no whole bytes, or are there of a stream that isn't described
abbrev pub AreNoStream : MuxDesc → ℕ → ℕ → Type 0
AreNoStream d k bits = ((k < d.count) × (bits % 8 ≢ 0)) ⊎ ((d.count ≤ k) × (bits ≢ 0))

-- what is wrong with stream k by the description
abbrev pub LacksStream : List (Option ItemSpan) → MuxDesc → ℕ → MdiFault → Type 0
LacksStream known d k f = (k < d.count) × (stream_length d k ≢ 0) × (slice_index_or known (str k) None ≡ None) × (f ≡ fault.Absent (name_at (str k)))

abbrev pub HasOtherBits : List (Option ItemSpan) → MuxDesc → ℕ → MdiFault → Type 0
HasOtherBits known d k f = (found : ItemSpan) × IsAt known (str k) found × AreNoStream d k found.bits × (f ≡ fault.ItemLength (name_at (str k)) found.bits)

abbrev pub HasOtherLength : List (Option ItemSpan) → MuxDesc → ℕ → MdiFault → Type 0
HasOtherLength known d k f =
    (found : ItemSpan) × IsAt known (str k) found × (k < d.count) × (found.bits / 8 ≢ stream_length d k)
    × (f ≡ fault.Mux (StreamLength k (found.bits / 8) (stream_length d k)))

-- The row applies, with this fault.
abbrev pub RowApplies : List ℕ → List (Option ItemSpan) → FaultRow → MdiFault → Type 0
RowApplies payload known (Absent k) f = (slice_index_or known k None ≡ None) × (f ≡ fault.Absent (name_at k))
RowApplies payload known (OtherLength k bits) f = (found : ItemSpan) × IsAt known k found × (found.bits ≢ bits) × (f ≡ fault.ItemLength (name_at k) found.bits)
RowApplies payload known OtherProtocol f = (bytes : List ℕ) × HasBytes payload known ptr bytes × (take 4 bytes ≢ codes "DMDI") × (f ≡ fault.Protocol)
RowApplies payload known NoFac f = (bytes : List ℕ) × (cause : FacFault) × HasBytes payload known fac_ bytes × IsFault bytes cause × (f ≡ fault.Fac cause)
RowApplies payload known Hierarchical f =
    (fac : Fac) × HasFac payload known fac × ((fac.channel.msc ≡ 1) ⊎ (fac.channel.msc ≡ 2)) × (f ≡ fault.Hierarchical fac.channel.msc)
RowApplies payload known NoDescription f =
    (found : ItemSpan) × (cause : MuxFault) × IsAt known sdci found × IsSdciFault found.bits (bytes_at payload found) cause × (f ≡ fault.Mux cause)
RowApplies payload known NoMode f = (code : ℕ) × HasBytes payload known robm (code ∷ []) × (3 < code) × (f ≡ fault.Mode code)
RowApplies payload known BlockAbsent f =
    (fac : Fac) × HasFac payload known fac × IsFirstOfSuperFrame fac × (bits_there (slice_index_or known sdc_ None) ≡ 0) × (f ≡ fault.Absent (name_at sdc_))
RowApplies payload known BlockOutOfPlace f =
    (fac : Fac) × (found : ItemSpan) × HasFac payload known fac × (¬ IsFirstOfSuperFrame fac) × IsAt known sdc_ found × (found.bits ≢ 0)
    × (f ≡ fault.ItemLength (name_at sdc_) found.bits)
RowApplies payload known NoBlock f =
    (found : ItemSpan) × (cause : SdcFault) × IsAt known sdc_ found × (found.bits ≢ 0) × IsBlockFault (block_bits payload found) cause × (f ≡ fault.Sdc cause)
RowApplies payload known (StreamAbsent k) f = (d : MuxDesc) × HasDescription payload known d × LacksStream known d k f
RowApplies payload known (StreamBits k) f = (d : MuxDesc) × HasDescription payload known d × HasOtherBits known d k f
RowApplies payload known (StreamOtherLength k) f = (d : MuxDesc) × HasDescription payload known d × HasOtherLength known d k f

-- no row of the list applies
abbrev pub NoneApplies : List ℕ → List (Option ItemSpan) → List FaultRow → Type 0
NoneApplies payload known [] = Unit {0}
NoneApplies payload known (row ∷ rows) = ((f : MdiFault) → ¬ RowApplies payload known row f) × NoneApplies payload known rows

-- the fault is that of the first row that applies
abbrev pub IsFirstFault : List ℕ → List (Option ItemSpan) → List FaultRow → MdiFault → Type 0
IsFirstFault payload known [] f = ⊥
IsFirstFault payload known (row ∷ rows) f =
    RowApplies payload known row f ⊎ (((g : MdiFault) → ¬ RowApplies payload known row g) × IsFirstFault payload known rows f)
