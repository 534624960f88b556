-- What a frame points to.
use Rattle.std.proofs.Common.{◌≡◌, ℕ, zero, suc, ◌+◌, ◌/◌, ◌<◌, ◌≤◌, inl, inr, List, get_or, Option, None, Some, IfSome, refl, sym, subst, arith}
use Rattle.std.proofs.lemmas.Bool.Decides.{eqb_tells}
use Rattle.drm_bits.specs.declared.description.MuxDesc.{MuxDesc}
use Rattle.drm_bits.specs.Description.{IsDescription}
use Rattle.drm_mux.specs.Frame.{stream_length, HaveTheirLengths, EndBy}
use Rattle.dcp_tag.specs.Tag.{bytes_for}
use Rattle.mdi_items.specs.declared.known.ItemSpan.{ItemSpan}
use Rattle.mdi_items.specs.declared.fault.MdiFault.TheVariants as fault
use Rattle.mdi_items.specs.declared.view.SdcSpan.{SdcSpan}
use Rattle.mdi_items.specs.Names.{name_at, str, sdc_}
use Rattle.mdi_items.specs.Frame.{AreInside, IsBlockSpan, bits_there, place_there, spans_of}
use Rattle.mdi_items.specs.Streams.{IsStreamWellFormed, AreRight}

there_inside : (end : ℕ) (o : Option ItemSpan) → ((found : ItemSpan) → o ≡ Some found → found.at + bytes_for found.bits ≤ end) → place_there o + bits_there o / 8 ≤ end
there_inside end None inside = omega arith
there_inside end (Some found) inside = omega (arith, inside found refl)

pub spans_inside : (end : ℕ) (known : List (Option ItemSpan)) → AreInside end known → EndBy end (spans_of known)
spans_inside end known inside zero lt = there_inside end (get_or known 6 None) (inside 6)
spans_inside end known inside (suc zero) lt = there_inside end (get_or known 7 None) (inside 7)
spans_inside end known inside (suc (suc zero)) lt = there_inside end (get_or known 8 None) (inside 8)
spans_inside end known inside (suc (suc (suc zero))) lt = there_inside end (get_or known 9 None) (inside 9)
spans_inside end known inside (suc (suc (suc (suc k)))) lt = absurd (omega arith)

-- the block's bytes end in the payload
pub span_inside : (payload : List ℕ) (known : List (Option ItemSpan)) (end : ℕ) (span : Option SdcSpan) → AreInside end known → IsBlockSpan payload known span
    → IfSome span (λ s. s.at + bytes_for s.bits ≤ end)
span_inside payload known end None inside is = tt
span_inside payload known end (Some s) inside (found, block, at, some, is_block, is) =
    subst (λ (x : SdcSpan). x.at + bytes_for x.bits ≤ end) (sym is) (inside sdc_ found at)

right_length : (known : List (Option ItemSpan)) (d : MuxDesc) (k : ℕ) (o : Option ItemSpan) → IsStreamWellFormed known d k → k < d.count → get_or known (str k) None ≡ o → bits_there o / 8 ≡ stream_length d k
right_length known d k None right below is =
    elim (eqb_tells (stream_length d k) 0) [
      | inl same ↦ sym same.1
      | inr differ ↦ absurd (right.there (fault.Absent (name_at (str k))) (below, differ.1, is, refl))
    ]
right_length known d k (Some found) right below is =
    elim (eqb_tells (found.bits / 8) (stream_length d k)) [ inl same ↦ same.1 | inr differ ↦ absurd (right.long _ (found, is, below, differ.1, refl)) ]

pub right_lengths : (known : List (Option ItemSpan)) (d : MuxDesc) → IsDescription d → AreRight known d → HaveTheirLengths d (spans_of known)
right_lengths known d is right zero below = right_length known d 0 (get_or known 6 None) right.0 below refl
right_lengths known d is right (suc zero) below = right_length known d 1 (get_or known 7 None) right.1 below refl
right_lengths known d is right (suc (suc zero)) below = right_length known d 2 (get_or known 8 None) right.2 below refl
right_lengths known d is right (suc (suc (suc zero))) below = right_length known d 3 (get_or known 9 None) right.3 below refl
right_lengths known d is right (suc (suc (suc (suc k)))) below = absurd (omega (arith, is.count))
