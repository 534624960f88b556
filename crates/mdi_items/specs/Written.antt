-- The one spelling of a frame that is written (TS 102 820).
use Rattle.std.specs.Prelude.{ℕ, ◌≡◌, ◌+◌, ◌*◌, List, [], ◌∷◌, ◌++◌, length, take, drop, codes, replicate}
use Rattle.std.specs.Int.{w32, to_be_bytes}
use Rattle.std.specs.Borrow.{GName}
use Rattle.drm_bits.specs.declared.description.MuxDesc.{MuxDesc}
use Rattle.drm_fac.specs.declared.fac.Fac.{Fac}
use Rattle.drm_fac.specs.Fac.{IsFac}
use Rattle.drm_mux.specs.Sdci.{IsSdci}
use Rattle.drm_fac.specs.declared.mode.Mode.{Mode}
use Rattle.drm_fac.specs.Mode.{mode_code}
use Rattle.dcp_tag.specs.Tag.{head}
use Rattle.mdi_items.specs.declared.writer.MdiWriter.{MdiWriter}
use Rattle.mdi_items.specs.Names.{name_at, ptr, dlfc, fac_, sdci, robm, sdc_, str}

-- an item that is written: the place of its name in the order, its bits, and the bytes that have them and then zeros
pub record WrittenItem : Type 0 where
  pub place : ℕ
  pub bits : ℕ
  pub value : List ℕ

-- an item of whole bytes
abbrev pub whole : ℕ → List ℕ → WrittenItem
whole place value = record { place = place; bits = 8 * length value; value = value }

abbrev pub spelled : WrittenItem → List ℕ
spelled p = head (name_at p.place) p.bits ++ p.value

-- the pieces, one after another, and the items that they are
abbrev pub spelling : List WrittenItem → List ℕ
spelling [] = []
spelling (p ∷ pieces) = spelled p ++ spelling pieces

-- the five items that each frame has; the revision of the protocol is 0.0
abbrev pub head_pieces : ℕ → List ℕ → List ℕ → Mode → List WrittenItem
head_pieces count fac description mode =
    whole ptr (codes "DMDI" ++ replicate 4 0) ∷ whole dlfc (to_be_bytes w32 count) ∷ whole fac_ fac ∷ whole sdci description ∷ whole robm (mode_code mode ∷ []) ∷ []

-- The bytes are the five items of these values.
pub record AreHeadItems (count : ℕ) (fac : Fac) (mux : MuxDesc) (mode : Mode) (bytes : List ℕ) : Type 0 where
  pub fac_bytes : List ℕ
  pub description : List ℕ
  pub is_fac : IsFac fac fac_bytes
  pub is_description : IsSdci mux description
  pub are : bytes ≡ spelling (head_pieces count fac_bytes description mode)

-- the SDC block, and the streams from the k-th on
abbrev pub block_piece : ℕ → List ℕ → WrittenItem
block_piece bits value = record { place = sdc_; bits = bits; value = value }

abbrev pub stream_pieces : ℕ → List (List ℕ) → List WrittenItem
stream_pieces k [] = []
stream_pieces k (stream ∷ streams) = whole (str k) stream ∷ stream_pieces (k + 1) streams

-- how many bytes the five items have
abbrev pub head_length : ℕ → ℕ
head_length streams = 63 + 3 * streams

-- what a writer has written, and the bytes behind it, as they were
abbrev pub written : MdiWriter → List ℕ
written w = take w.at w.into.now

abbrev pub behind : MdiWriter → List ℕ
behind w = drop w.at w.into.now

-- the first place in the order of the names of which an item may still be written
abbrev pub next : MdiWriter → ℕ
next w = w.next

-- the reference that the writer was made of
abbrev pub lender : MdiWriter → GName
lender w = w.into.ghost_name
