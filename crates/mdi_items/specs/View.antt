-- A view whose pieces can be lent out of its payload.
use Rattle.std.specs.Prelude.{◌+◌, ◌≤◌, length, IfSome}
use Rattle.drm_bits.specs.Description.{IsDescription, FitsWidths}
use Rattle.drm_fac.specs.Fac.{FacFits}
use Rattle.drm_mux.specs.Frame.{EndBy, HaveTheirLengths}
use Rattle.dcp_tag.specs.Tag.{bytes_for}
use Rattle.mdi_items.specs.declared.view.MdiView.{MdiView}

-- Its fields fit their widths, its pieces lie in its payload, and each described stream has its length.
pub record IsWholeView (view : MdiView) : Type 0 where
  pub fac_fits : FacFits view.fac
  pub description : IsDescription view.mux
  pub mux_fits : FitsWidths view.mux
  pub inside : EndBy (length view.payload.now) view.streams
  pub block_inside : IfSome view.sdc (λ s. s.at + bytes_for s.bits ≤ length view.payload.now)
  pub lengths : HaveTheirLengths view.mux view.streams
