-- The words for what is wrong: a layer, and a field of it.
use Rattle.std.specs.Prelude.{ℕ, List, [], ◌++◌, codes, decimal}
use Rattle.dcp_af.specs.declared.fault.AfFault.{AfFault}
use Rattle.dcp_af.specs.declared.fault.AfFault.TheVariants as af
use Rattle.dcp_pft.specs.declared.fault.PftFault.{PftFault}
use Rattle.dcp_pft.specs.declared.fault.PftFault.TheVariants as pft
use Rattle.dcp_collect.specs.declared.taken.Field.{Field}
use Rattle.dcp_collect.specs.declared.taken.Field.TheVariants as field
use Rattle.dcp_collect.specs.declared.taken.Taken.{Taken}
use Rattle.dcp_collect.specs.declared.taken.Taken.TheVariants as taken
use Rattle.drm_mux.specs.declared.fault.MuxFault.{MuxFault}
use Rattle.drm_mux.specs.declared.fault.MuxFault.TheVariants as mux
use Rattle.drm_sdc.specs.declared.fault.SdcFault.{SdcFault}
use Rattle.drm_sdc.specs.declared.fault.SdcFault.TheVariants as sdc
use Rattle.mdi_items.specs.declared.fault.MdiFault.{MdiFault}
use Rattle.mdi_items.specs.declared.fault.MdiFault.TheVariants as mdi
use Rattle.mod_feed.specs.declared.item.BadFault.{BadFault}
use Rattle.mod_feed.specs.declared.item.BadFault.TheVariants as bad

-- of an AF packet
abbrev pub af_words : AfFault → List ℕ
af_words af.Sync = codes "af sync"
af_words (af.HeadCut stands) = codes "af head-cut"
af_words (af.Length stands described) = codes "af length"
af_words (af.Version major) = codes "af version"
af_words (af.Kind kind) = codes "af kind"
af_words (af.Crc stands computed) = codes "af crc"

-- of a PFT fragment; what doesn't begin as one is told as a datagram of neither kind
abbrev pub pft_words : PftFault → List ℕ
pft_words pft.Sync = []
pft_words pft.HeadCut = codes "pft head-cut"
pft_words pft.HeadCrc = codes "pft head-crc"
pft_words pft.Count = codes "pft count"
pft_words pft.Index = codes "pft index"
pft_words pft.PlenMismatch = codes "pft plen"
pft_words pft.RsK = codes "pft rs-k"
pft_words pft.RsZ = codes "pft rs-z"
pft_words pft.TooMany = codes "pft too-many"
pft_words pft.TooLarge = codes "pft too-large"
pft_words pft.Chunks = codes "pft chunks"

-- of an SDC block; memory never runs out
abbrev pub sdc_words : SdcFault → List ℕ
sdc_words (sdc.BlockLength bits) = codes "sdc block-length"
sdc_words (sdc.Front bits) = codes "sdc front"
sdc_words (sdc.Crc stands computed) = codes "sdc crc"
sdc_words (sdc.EntityCut at) = codes "sdc entity-cut"
sdc_words (sdc.BodyLength at kind len) = codes "sdc body-length"
sdc_words (sdc.LabelText at) = codes "sdc label-text"
sdc_words sdc.NoMemory = []

-- of a multiplex description and its streams; no frame is cut into streams here
abbrev pub mux_words : MuxFault → List ℕ
mux_words (mux.SdciLength bits) = codes "mdi sdci-length"
mux_words mux.SdciFront = codes "mdi sdci-front"
mux_words (mux.StreamLength stream stands described) = codes "mdi stream-length:" ++ decimal stream
mux_words (mux.FrameLength stands described) = []

-- of an MDI frame; a name is that of an item
abbrev pub mdi_words : MdiFault → List ℕ
mdi_words (mdi.Tag cut) = codes "mdi value-cut"
mdi_words (mdi.Twice name) = codes "mdi twice:" ++ name
mdi_words (mdi.Absent name) = codes "mdi absent:" ++ name
mdi_words mdi.Protocol = codes "mdi protocol"
mdi_words (mdi.ItemLength name bits) = codes "mdi item-length:" ++ name
mdi_words (mdi.Fac cause) = codes "mdi fac-crc"
mdi_words (mdi.Hierarchical msc) = codes "mdi hierarchical"
mdi_words (mdi.Mux cause) = mux_words cause
mdi_words (mdi.Mode value) = codes "mdi mode"
mdi_words (mdi.Sdc cause) = sdc_words cause

-- of a packet that is no frame
abbrev pub bad_words : BadFault → List ℕ
bad_words bad.Code = codes "pft code"
bad_words (bad.Af cause) = af_words cause
bad_words (bad.Mdi cause) = mdi_words cause

-- of a datagram that is refused
abbrev pub field_words : Field → List ℕ
field_words field.Sync = codes "dcp sync"
field_words (field.Af cause) = af_words cause
field_words (field.Pft cause) = pft_words cause
field_words field.Large = codes "af large"
field_words field.Far = codes "dcp far"

-- of a datagram that is refused or disagrees; of all others nothing is told
abbrev pub taken_words : Taken → List ℕ
taken_words (taken.Refused cause) = field_words cause
taken_words (taken.Inconsistent kept came) = codes "pft inconsistent"
taken_words _ = []

-- The datagram is told of.
abbrev pub IsReportable : Taken → Type 0
IsReportable (taken.Refused (field.Pft pft.Sync)) = ⊥
IsReportable (taken.Refused cause) = Unit {0}
IsReportable (taken.Inconsistent kept came) = Unit {0}
IsReportable _ = ⊥
