-- The first row of the table that applies.
use Rattle.std.proofs.Common.{◌≡◌, inl, inr, ℕ, List, [], ◌∷◌, ◌++◌, Option, Some, sym, subst, ap, ◌∙◌}
use Rattle.drm_bits.specs.declared.description.MuxDesc.{MuxDesc}
use Rattle.drm_mux.proofs.SdciLemmas.{one_description}
use Rattle.dcp_tag.specs.Tag.{TagItem}
use Rattle.mdi_items.specs.declared.known.ItemSpan.{ItemSpan}
use Rattle.mdi_items.specs.declared.fault.MdiFault.{MdiFault}
use Rattle.mdi_items.specs.Items.{known_of}
use Rattle.mdi_items.specs.Frame.{Frame, FrameSays, IsAt, HasBytes, bytes_at}
use Rattle.mdi_items.specs.Mdi.{AreItems, IsMdi, IsMdiFault}
use Rattle.mdi_items.specs.Streams.{IsStreamWellFormed, IsStreamFault, AreRight, IsStreamsFault}
use Rattle.mdi_items.specs.Table.{FaultRow, NoneApplies, IsFirstFault, LacksStream, HasOtherBits, HasOtherLength, HasDescription, ptr_rows, dlfc_rows, fac_rows, sdci_rows, robm_rows, sdc_rows, stream_rows, streams_rows, table}

pub later : (payload : List ℕ) (known : List (Option ItemSpan)) (rows more : List FaultRow) (f : MdiFault) → NoneApplies payload known rows → IsFirstFault payload known more f → IsFirstFault payload known (rows ++ more) f
later payload known [] more f none first = first
later payload known (row ∷ rows) more f none first = inr (none.0, later payload known rows more f none.1 first)

pub earlier : (payload : List ℕ) (known : List (Option ItemSpan)) (rows more : List FaultRow) (f : MdiFault) → IsFirstFault payload known rows f → IsFirstFault payload known (rows ++ more) f
earlier payload known [] more f first = absurd first
earlier payload known (row ∷ rows) more f (inl applies) = inl applies
earlier payload known (row ∷ rows) more f (inr (not, first)) = inr (not, earlier payload known rows more f first)

pub none_both : (payload : List ℕ) (known : List (Option ItemSpan)) (rows more : List FaultRow) → NoneApplies payload known rows → NoneApplies payload known more → NoneApplies payload known (rows ++ more)
none_both payload known [] more none none_more = none_more
none_both payload known (row ∷ rows) more none none_more = (none.0, none_both payload known rows more none.1 none_more)

-- an item is found at one place, and has one value
pub one_place : (known : List (Option ItemSpan)) (k : ℕ) (f g : ItemSpan) → IsAt known k f → IsAt known k g → f ≡ g
one_place known k f g is is_too = let same : Some f ≡ Some g = sym is ∙ is_too in cc

pub one_value : (payload : List ℕ) (known : List (Option ItemSpan)) (k : ℕ) (a b : List ℕ) → HasBytes payload known k a → HasBytes payload known k b → a ≡ b
one_value payload known k a b (f, at, is) (g, at_too, is_too) = sym is ∙ (ap (bytes_at payload) (one_place known k f g at at_too) ∙ is_too)

pub one_mux : (payload : List ℕ) (known : List (Option ItemSpan)) (d e : MuxDesc) → HasDescription payload known d → HasDescription payload known e → d ≡ e
one_mux payload known d e (a, has, is) (b, has_too, is_too) =
    let same : b ≡ a = one_value payload known _ b a has_too has in
    one_description d e a is (rw same at is_too)

-- the rows of a stream
stream_none : (payload : List ℕ) (known : List (Option ItemSpan)) (d : MuxDesc) (k : ℕ) → HasDescription payload known d → IsStreamWellFormed known d k → NoneApplies payload known (stream_rows k)
stream_none payload known d k has right = (
  λ g h. right.there g (subst (λ (x : MuxDesc). LacksStream known x k g) (one_mux payload known h.0 d h.1 has) h.2),
  (
    λ g h. right.whole g (subst (λ (x : MuxDesc). HasOtherBits known x k g) (one_mux payload known h.0 d h.1 has) h.2),
    (λ g h. right.long g (subst (λ (x : MuxDesc). HasOtherLength known x k g) (one_mux payload known h.0 d h.1 has) h.2), tt),
  ),
)

stream_fault : (payload : List ℕ) (known : List (Option ItemSpan)) (d : MuxDesc) (k : ℕ) (f : MdiFault) → HasDescription payload known d → IsStreamFault known d k f
    → IsFirstFault payload known (stream_rows k) f
stream_fault payload known d k f has (inl lacks) = inl (d, has, lacks)
stream_fault payload known d k f has (inr (there, inl bits)) =
    inr (λ g h. there g (subst (λ (x : MuxDesc). LacksStream known x k g) (one_mux payload known h.0 d h.1 has) h.2), inl (d, has, bits))
stream_fault payload known d k f has (inr (there, inr (whole, long))) =
    inr (
      λ g h. there g (subst (λ (x : MuxDesc). LacksStream known x k g) (one_mux payload known h.0 d h.1 has) h.2),
      inr (λ g h. whole g (subst (λ (x : MuxDesc). HasOtherBits known x k g) (one_mux payload known h.0 d h.1 has) h.2), inl (d, has, long)),
    )

streams_none : (payload : List ℕ) (known : List (Option ItemSpan)) (d : MuxDesc) → HasDescription payload known d → AreRight known d → NoneApplies payload known streams_rows
streams_none payload known d has right =
    none_both payload known (stream_rows 0) (stream_rows 1 ++ (stream_rows 2 ++ stream_rows 3)) (stream_none payload known d 0 has right.0)
    (none_both payload known (stream_rows 1) (stream_rows 2 ++ stream_rows 3) (stream_none payload known d 1 has right.1)
    (none_both payload known (stream_rows 2) (stream_rows 3) (stream_none payload known d 2 has right.2) (stream_none payload known d 3 has right.3)))

streams_fault : (payload : List ℕ) (known : List (Option ItemSpan)) (d : MuxDesc) (f : MdiFault) → HasDescription payload known d → IsStreamsFault known d f → IsFirstFault payload known streams_rows f
streams_fault payload known d f has (inl first) =
    earlier payload known (stream_rows 0) (stream_rows 1 ++ (stream_rows 2 ++ stream_rows 3)) f (stream_fault payload known d 0 f has first)
streams_fault payload known d f has (inr (right, inl second)) =
    later payload known (stream_rows 0) (stream_rows 1 ++ (stream_rows 2 ++ stream_rows 3)) f (stream_none payload known d 0 has right)
    (earlier payload known (stream_rows 1) (stream_rows 2 ++ stream_rows 3) f (stream_fault payload known d 1 f has second))
streams_fault payload known d f has (inr (right, inr (right_too, inl third))) =
    later payload known (stream_rows 0) (stream_rows 1 ++ (stream_rows 2 ++ stream_rows 3)) f (stream_none payload known d 0 has right)
    (later payload known (stream_rows 1) (stream_rows 2 ++ stream_rows 3) f (stream_none payload known d 1 has right_too)
    (earlier payload known (stream_rows 2) (stream_rows 3) f (stream_fault payload known d 2 f has third)))
streams_fault payload known d f has (inr (right, inr (right_too, inr (right_again, last)))) =
    later payload known (stream_rows 0) (stream_rows 1 ++ (stream_rows 2 ++ stream_rows 3)) f (stream_none payload known d 0 has right)
    (later payload known (stream_rows 1) (stream_rows 2 ++ stream_rows 3) f (stream_none payload known d 1 has right_too)
    (later payload known (stream_rows 2) (stream_rows 3) f (stream_none payload known d 2 has right_again) (stream_fault payload known d 3 f has last)))

-- the rows behind those of each item
abbrev after_robm : List FaultRow
after_robm = sdc_rows ++ streams_rows

abbrev after_sdci : List FaultRow
after_sdci = robm_rows ++ after_robm

abbrev after_fac : List FaultRow
after_fac = sdci_rows ++ after_sdci

abbrev after_dlfc : List FaultRow
after_dlfc = fac_rows ++ after_fac

abbrev after_ptr : List FaultRow
after_ptr = dlfc_rows ++ after_dlfc

pub in_table : (payload : List ℕ) (known : List (Option ItemSpan)) (f : MdiFault) → (items : List TagItem) × AreItems items payload × (known ≡ known_of items) → IsFirstFault payload known table f → IsMdiFault payload f
in_table payload known f (items, are, is) first = inr (items, are, subst (λ (l : List (Option ItemSpan)). IsFirstFault payload l table f) is first)

pub is_mdi : (payload : List ℕ) (known : List (Option ItemSpan)) (frame : Frame) → (items : List TagItem) × AreItems items payload × (known ≡ known_of items) → NoneApplies payload known table → FrameSays payload known frame
    → IsMdi frame payload
is_mdi payload known frame (items, are, is) none says = record {
  items = items;
  are_items = are;
  faultless = subst (λ (l : List (Option ItemSpan)). NoneApplies payload l table) is none;
  says = subst (λ (l : List (Option ItemSpan)). FrameSays payload l frame) is says;
}

pub ptr_fault : (payload : List ℕ) (known : List (Option ItemSpan)) (f : MdiFault) → IsFirstFault payload known ptr_rows f → IsFirstFault payload known table f
ptr_fault payload known f first = earlier payload known ptr_rows after_ptr f first

pub dlfc_fault : (payload : List ℕ) (known : List (Option ItemSpan)) (f : MdiFault) → NoneApplies payload known ptr_rows → IsFirstFault payload known dlfc_rows f → IsFirstFault payload known table f
dlfc_fault payload known f ptr first = later payload known ptr_rows after_ptr f ptr (earlier payload known dlfc_rows after_dlfc f first)

pub fac_fault : (payload : List ℕ) (known : List (Option ItemSpan)) (f : MdiFault) → NoneApplies payload known ptr_rows → NoneApplies payload known dlfc_rows → IsFirstFault payload known fac_rows f
    → IsFirstFault payload known table f
fac_fault payload known f ptr dlfc first =
    later payload known ptr_rows after_ptr f ptr (later payload known dlfc_rows after_dlfc f dlfc (earlier payload known fac_rows after_fac f first))

-- the rows of the first three items
pub record ThreeRight (payload : List ℕ) (known : List (Option ItemSpan)) : Type 0 where
  pub ptr : NoneApplies payload known ptr_rows
  pub dlfc : NoneApplies payload known dlfc_rows
  pub fac : NoneApplies payload known fac_rows

three_then : (payload : List ℕ) (known : List (Option ItemSpan)) (f : MdiFault) → ThreeRight payload known → IsFirstFault payload known after_fac f → IsFirstFault payload known table f
three_then payload known f right first =
    later payload known ptr_rows after_ptr f right.ptr (later payload known dlfc_rows after_dlfc f right.dlfc (later payload known fac_rows after_fac f right.fac first))

pub sdci_fault : (payload : List ℕ) (known : List (Option ItemSpan)) (f : MdiFault) → ThreeRight payload known → IsFirstFault payload known sdci_rows f → IsFirstFault payload known table f
sdci_fault payload known f right first = three_then payload known f right (earlier payload known sdci_rows after_sdci f first)

pub robm_fault : (payload : List ℕ) (known : List (Option ItemSpan)) (f : MdiFault) → ThreeRight payload known → NoneApplies payload known sdci_rows → IsFirstFault payload known robm_rows f
    → IsFirstFault payload known table f
robm_fault payload known f right sdci first =
    three_then payload known f right (later payload known sdci_rows after_sdci f sdci (earlier payload known robm_rows after_robm f first))

pub sdc_fault : (payload : List ℕ) (known : List (Option ItemSpan)) (f : MdiFault) → ThreeRight payload known → NoneApplies payload known sdci_rows → NoneApplies payload known robm_rows
    → IsFirstFault payload known sdc_rows f → IsFirstFault payload known table f
sdc_fault payload known f right sdci robm first =
    three_then payload known f right
    (later payload known sdci_rows after_sdci f sdci (later payload known robm_rows after_robm f robm (earlier payload known sdc_rows streams_rows f first)))

pub str_fault : (payload : List ℕ) (known : List (Option ItemSpan)) (d : MuxDesc) (f : MdiFault) → ThreeRight payload known → NoneApplies payload known sdci_rows → NoneApplies payload known robm_rows
    → NoneApplies payload known sdc_rows → HasDescription payload known d → IsStreamsFault known d f → IsFirstFault payload known table f
str_fault payload known d f right sdci robm sdc has first =
    three_then payload known f right
    (later payload known sdci_rows after_sdci f sdci
    (later payload known robm_rows after_robm f robm (later payload known sdc_rows streams_rows f sdc (streams_fault payload known d f has first))))

pub none_in_table : (payload : List ℕ) (known : List (Option ItemSpan)) (d : MuxDesc) → ThreeRight payload known → NoneApplies payload known sdci_rows → NoneApplies payload known robm_rows
    → NoneApplies payload known sdc_rows → HasDescription payload known d → AreRight known d → NoneApplies payload known table
none_in_table payload known d right sdci robm sdc has streams =
    none_both payload known ptr_rows after_ptr right.ptr
    (none_both payload known dlfc_rows after_dlfc right.dlfc
    (none_both payload known fac_rows after_fac right.fac
    (none_both payload known sdci_rows after_sdci sdci
    (none_both payload known robm_rows after_robm robm (none_both payload known sdc_rows streams_rows sdc (streams_none payload known d has streams))))))
