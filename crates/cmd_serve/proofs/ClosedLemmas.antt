-- What had gone over links that were closed.
use Rattle.std.proofs.Common.{◌≡◌, ℕ, ◌<◌, List, [], length, slice_index_or, None, Some, ◌∙◌, ap}
use Rattle.std.specs.FinMap as map
use Rattle.drm_links.specs.Dock.{DockContents, Over, address_key, AreDifferent}
use Rattle.drm_links.specs.declared.dock.Address.{Address}
use Rattle.drm_links.specs.History.{GroupEvent}
use Rattle.drm_links.specs.Alone.{gone_at, overs_of}
use Rattle.drm_links.specs.Gathering.{with_none, with_reaches, after_gathering, after_disbanding, NothingSent}
use Rattle.drm_links.proofs.OpeningLemmas.{openings_gone}
use Rattle.drm_links.proofs.BindLemmas.{none_gone}
use Rattle.drm_links.proofs.DisbandLemmas.{closed_gone, overs_count, over_there}

-- where a group was opened at different addresses, and closed
module _ (addresses : List Address) (events : List GroupEvent) (x y : DockContents) (is : y ≡ after_disbanding None addresses events (after_gathering None addresses x)) where
  abbrev open_ : DockContents
  open_ = after_gathering None addresses x

  pub went_at : AreDifferent addresses → (k : ℕ) (at : Address) → k < length addresses → map.get y.gone (address_key (slice_index_or addresses k at)) ≡ Some (gone_at k events)
  went_at different k at within =
      let none : Over = record { answers = []; gone = []; rests = [] } in
      ap (λ (d : DockContents). map.get d.gone (address_key (slice_index_or addresses k at))) is
      ∙ (closed_gone (overs_of (length addresses) events) addresses open_ different (overs_count (length addresses) events) k at none within
      ∙ ap (λ (o : Over). Some o.gone) (over_there k (length addresses) events none within))

  pub nothing_went : ((k : ℕ) → gone_at k events ≡ []) → NothingSent x y
  nothing_went none = (
    addresses,
    ap (λ (d : DockContents). d.gone) is
        ∙ (none_gone (overs_of (length addresses) events) addresses open_ (overs_count (length addresses) events)
        (λ k o within. ap (λ (over : Over). over.gone) (over_there k (length addresses) events o within) ∙ none k)
        ∙ ap (with_none addresses) (openings_gone addresses (with_reaches (length addresses) x))),
  )
