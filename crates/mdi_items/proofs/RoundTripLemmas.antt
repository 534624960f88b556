-- What is written of parts that suit is a frame of them.
use Rattle.std.proofs.Common.{◌≡◌, ◌≢◌, ◌⊎◌, inl, inr, ℕ, zero, suc, ◌+◌, ◌*◌, ◌/◌, ◌^◌, ◌<◌, ◌≤◌, List, Bool, [], ◌∷◌, ◌++◌, length, take, drop, get_or, replicate, Option, None, Some, refl, sym, subst, ap, ◌∙◌, append_assoc, arith}
use Rattle.std.specs.Prelude.{codes}
use Rattle.std.specs.Int.{w32, to_be_bytes}
use Rattle.std.proofs.lemmas.Bool.{cases_lt}
use Rattle.std.proofs.lemmas.List.{length-take-le}
use Rattle.std.proofs.lemmas.Nat.{from_be_bytes-to_be_bytes_4}
use Rattle.drm_bits.specs.Bits.{bits_of}
use Rattle.drm_bits.proofs.BitsLemmas.{length-bits_of}
use Rattle.drm_bits.specs.declared.description.MuxDesc.{MuxDesc}
use Rattle.drm_fac.specs.declared.fac.Fac.{Fac}
use Rattle.drm_fac.specs.Fac.{IsFac}
use Rattle.drm_fac.specs.Fault.{IsFault}
use Rattle.drm_fac.proofs.FacLemmas.{fac_or_fault}
use Rattle.drm_mux.specs.declared.fault.MuxFault.{MuxFault}
use Rattle.drm_mux.specs.declared.fault.MuxFault.TheVariants.{SdciLength, SdciFront}
use Rattle.drm_mux.specs.Faults.{IsSdciFault}
use Rattle.drm_mux.specs.Frame.{stream_length}
use Rattle.drm_mux.specs.Sdci.{IsSdci}
use Rattle.drm_mux.proofs.SdciLemmas.{length-value}
use Rattle.drm_fac.specs.declared.mode.Mode.{Mode}
use Rattle.drm_fac.specs.Mode.{mode_code}
use Rattle.drm_fac.proofs.ModeLemmas.{code_small}
use Rattle.drm_sdc.specs.declared.block.Block.{Block}
use Rattle.drm_sdc.specs.Block.{IsBlock, IsBlockFault, info_of}
use Rattle.drm_sdc.proofs.BlockLaws.{framed_length, block_or_fault}
use Rattle.dcp_tag.specs.Tag.{TagItem, bytes_for, IsPayload}
use Rattle.mdi_items.specs.declared.known.ItemSpan.{ItemSpan}
use Rattle.mdi_items.specs.declared.view.SdcSpan.{SdcSpan}
use Rattle.mdi_items.specs.Names.{names, ptr, dlfc, fac_, sdci, robm, sdc_, str}
use Rattle.mdi_items.specs.Items.{known_of, AreOnce}
use Rattle.mdi_items.specs.Frame.{IsFirstOfSuperFrame, HasBytes, IsBlockSpan, bytes_at, block_bits, bits_there, place_there, of_streams, spans_of}
use Rattle.mdi_items.specs.Streams.{IsStreamWellFormed, AreRight}
use Rattle.mdi_items.specs.Table.{NoneApplies, HasFac, HasDescription, due_rows, ptr_rows, fac_rows, sdci_rows, robm_rows, sdc_rows}
use Rattle.mdi_items.specs.Written.{WrittenItem, whole, spelled, spelling, head_pieces, block_piece, stream_pieces}
use Rattle.mdi_items.proofs.PieceItems.{items_of}
use Rattle.mdi_items.specs.RoundTrip.{Parts, BlockBytes, PartsSuit, SuitsBlock, IsWrittenOf, IsFrameOf, IsBlockOf, block_pieces}
use Rattle.mdi_items.proofs.TableLemmas.{ThreeRight, one_place, one_value, none_in_table}
use Rattle.mdi_items.proofs.RowLemmas.{one_fac_there}
use Rattle.mdi_items.proofs.PieceLemmas.{IsFine, Rise, Lacks, IsFound, has_behind, lacks_both, pieces_payload, known_piece, known_none, pieces_once, streams_have, streams_lack}

AreFour : List (List ℕ) → Type 0
AreFour [] = Unit {0}
AreFour (n ∷ ns) = (length n ≡ 4) × AreFour ns

names_four : AreFour names
unfolding AreFour
names_four = (refl, (refl, (refl, (refl, (refl, (refl, (refl, (refl, (refl, (refl, tt))))))))))

four_at : (ns : List (List ℕ)) (k : ℕ) → AreFour ns → k < length ns → length (get_or ns k []) ≡ 4
unfolding AreFour
four_at [] k four lt = absurd (omega arith)
four_at (n ∷ ns) zero four lt = four.0
four_at (n ∷ ns) (suc k) four lt = four_at ns k four.1 (omega arith)

fine_whole : (place : ℕ) (value : List ℕ) → place < 10 → length value < 2 ^ 29 → IsFine (whole place value)
fine_whole place value lt few = record { place = lt; four = four_at names place names_four lt; bits = omega arith; long = omega arith }

-- pieces, and then others
pub spelling-append : (front back : List WrittenItem) → spelling (front ++ back) ≡ spelling front ++ spelling back
spelling-append [] back = refl
spelling-append (p ∷ front) back = ap (λ (l : List ℕ). spelled p ++ l) (spelling-append front back) ∙ sym (append_assoc (spelled p) (spelling front) (spelling back))

rise_streams : (streams : List (List ℕ)) (j n : ℕ) → n ≤ str j → j + length streams ≤ 4 → ((k : ℕ) → k < length streams → length (get_or streams k []) < 2 ^ 29) → Rise n (stream_pieces j streams)
rise_streams [] j n le fits few = tt
rise_streams (s ∷ streams) j n le fits few = (le, fine_whole (str j) s (omega arith) (few 0 (omega arith)), rise_streams streams (j + 1) (str j + 1) (omega arith) (omega arith) (λ k lt. few (suc k) (omega arith)))

rise_rest : (fac : Fac) (block : Option BlockBytes) (streams : List (List ℕ)) → SuitsBlock fac block → length streams ≤ 4 → ((k : ℕ) → k < length streams → length (get_or streams k []) < 2 ^ 29)
    → Rise 5 (block_pieces block ++ stream_pieces 0 streams)
rise_rest fac None streams suits fits few = rise_streams streams 0 5 (omega arith) (omega arith) few
rise_rest fac (Some b) streams suits fits few = (
  omega arith,
  record { place = omega arith; four = refl; bits = suits.1; long = suits.2 },
  rise_streams streams 0 6 (omega arith) (omega arith) few,
)

lacks_head : (k count : ℕ) (fac description : List ℕ) (mode : Mode) → 5 ≤ k → Lacks k (head_pieces count fac description mode)
lacks_head k count fac description mode le =
    ((λ same. absurd (omega arith)), ((λ same. absurd (omega arith)), ((λ same. absurd (omega arith)), ((λ same. absurd (omega arith)), ((λ same. absurd (omega arith)), tt)))))

lacks_block : (k : ℕ) (block : Option BlockBytes) → 6 ≤ k → Lacks k (block_pieces block)
lacks_block k None le = tt
lacks_block k (Some b) le = ((λ same. absurd (omega arith)), tt)

-- what is known of the block
abbrev BlockFound : List ℕ → List (Option ItemSpan) → Option BlockBytes → Type 0
BlockFound payload known None = get_or known sdc_ None ≡ None
BlockFound payload known (Some b) = IsFound payload (get_or known sdc_ None) (block_piece b.bits b.value)

-- What is known of the items that are written.
record AreFound (payload : List ℕ) (known : List (Option ItemSpan)) (p : Parts) (fac description : List ℕ) : Type 0 where
  ptr_found : IsFound payload (get_or known ptr None) (whole ptr (codes "DMDI" ++ replicate 4 0))
  dlfc_found : IsFound payload (get_or known dlfc None) (whole dlfc (to_be_bytes w32 p.count))
  fac_found : IsFound payload (get_or known fac_ None) (whole fac_ fac)
  sdci_found : IsFound payload (get_or known sdci None) (whole sdci description)
  robm_found : IsFound payload (get_or known robm None) (whole robm (mode_code p.mode ∷ []))
  block_found : BlockFound payload known p.block
  stream_found : (k : ℕ) → k < length p.streams → IsFound payload (get_or known (str k) None) (whole (str k) (get_or p.streams k []))
  no_stream : (k : ℕ) → k < 4 → length p.streams ≤ k → get_or known (str k) None ≡ None

block_is_found : (head : List WrittenItem) (block : Option BlockBytes) (streams : List (List ℕ)) (payload : List ℕ) → Lacks sdc_ head → Rise 0 (head ++ (block_pieces block ++ stream_pieces 0 streams))
    → payload ≡ spelling (head ++ (block_pieces block ++ stream_pieces 0 streams)) → BlockFound payload (known_of (items_of (head ++ (block_pieces block ++ stream_pieces 0 streams)))) block
block_is_found head None streams payload lacks rise is =
    known_none (head ++ stream_pieces 0 streams) sdc_ 0 (omega arith) rise (lacks_both sdc_ head (stream_pieces 0 streams) lacks (streams_lack streams 0 sdc_ (inl (omega arith))))
block_is_found head (Some b) streams payload lacks rise is =
    known_piece (head ++ (block_pieces (Some b) ++ stream_pieces 0 streams)) (block_piece b.bits b.value) payload 0 (omega arith) rise is
    (has_behind (block_piece b.bits b.value) head (block_pieces (Some b) ++ stream_pieces 0 streams) lacks (inl refl))

all_found : (p : Parts) (payload fac description : List ℕ)
    → Rise 0 (head_pieces p.count fac description p.mode ++ (block_pieces p.block ++ stream_pieces 0 p.streams)) → length p.streams ≤ 4
    → payload ≡ spelling (head_pieces p.count fac description p.mode ++ (block_pieces p.block ++ stream_pieces 0 p.streams))
    → AreFound payload (known_of (items_of (head_pieces p.count fac description p.mode ++ (block_pieces p.block ++ stream_pieces 0 p.streams)))) p fac description
all_found p payload fac description rise fits is =
    let head : List WrittenItem = head_pieces p.count fac description p.mode in
    let rest : List WrittenItem = block_pieces p.block ++ stream_pieces 0 p.streams in
    let all : List WrittenItem = head ++ rest in record {
      ptr_found = known_piece all (whole ptr (codes "DMDI" ++ replicate 4 0)) payload 0 (omega arith) rise is (inl refl);
      dlfc_found = known_piece all (whole dlfc (to_be_bytes w32 p.count)) payload 0 (omega arith) rise is (inr ((λ same. absurd (omega arith)), inl refl));
      fac_found =
          known_piece all (whole fac_ fac) payload 0 (omega arith) rise is (inr ((λ same. absurd (omega arith)), inr ((λ same. absurd (omega arith)), inl refl)));
      sdci_found =
          known_piece all (whole sdci description) payload 0 (omega arith) rise is
          (inr ((λ same. absurd (omega arith)), inr ((λ same. absurd (omega arith)), inr ((λ same. absurd (omega arith)), inl refl))));
      robm_found =
          known_piece all (whole robm (mode_code p.mode ∷ [])) payload 0 (omega arith) rise is
          (inr ((λ same. absurd (omega arith)), inr ((λ same. absurd (omega arith)), inr ((λ same. absurd (omega arith)), inr ((λ same. absurd (omega arith)), inl refl)))));
      block_found = block_is_found head p.block p.streams payload (lacks_head sdc_ p.count fac description p.mode (omega arith)) rise is;
      stream_found = λ k lt.
          known_piece all (whole (str k) (get_or p.streams k [])) payload 0 (omega arith) rise is
          (has_behind (whole (str k) (get_or p.streams k [])) head rest (lacks_head (str k) p.count fac description p.mode (omega arith))
          (has_behind (whole (str k) (get_or p.streams k [])) (block_pieces p.block) (stream_pieces 0 p.streams) (lacks_block (str k) p.block (omega arith)) (streams_have p.streams 0 k k lt (omega arith))));
      no_stream = λ k lt le.
          known_none all (str k) 0 (omega arith) rise
          (lacks_both (str k) head rest (lacks_head (str k) p.count fac description p.mode (omega arith))
          (lacks_both (str k) (block_pieces p.block) (stream_pieces 0 p.streams) (lacks_block (str k) p.block (omega arith)) (streams_lack p.streams 0 (str k) (inr (omega arith)))));
    }

-- the rows of each item
due_none : (payload : List ℕ) (known : List (Option ItemSpan)) (k bits : ℕ) (p : WrittenItem) → IsFound payload (get_or known k None) p → p.bits ≡ bits → NoneApplies payload known (due_rows k bits)
due_none payload known k bits p h is = (
  (λ f x. let same : Some h.found ≡ None = sym h.there ∙ x.0 in cc),
  ((λ f x. x.2 (ap (λ (y : ItemSpan). y.bits) (one_place known k x.0 h.found x.1 h.there) ∙ (h.bits ∙ is))), tt),
)

has_bytes : (payload : List ℕ) (known : List (Option ItemSpan)) (k : ℕ) (p : WrittenItem) → IsFound payload (get_or known k None) p → HasBytes payload known k p.value
has_bytes payload known k p h = (h.found, h.there, h.bytes)

ptr_none : (payload : List ℕ) (known : List (Option ItemSpan)) → IsFound payload (get_or known ptr None) (whole ptr (codes "DMDI" ++ replicate 4 0)) → NoneApplies payload known ptr_rows
ptr_none payload known h =
    let due = due_none payload known ptr 64 (whole ptr (codes "DMDI" ++ replicate 4 0)) h refl in
    let value : List ℕ = codes "DMDI" ++ replicate 4 0 in (
      due.0,
      (due.1.0, ((λ f x. x.2 (ap (take 4) (one_value payload known ptr x.0 value x.1 (has_bytes payload known ptr (whole ptr value) h)))), tt)),
    )

fac_none : (payload : List ℕ) (known : List (Option ItemSpan)) (fac : Fac) (bytes : List ℕ) → IsFound payload (get_or known fac_ None) (whole fac_ bytes) → IsFac fac bytes
    → (((fac.channel.msc ≡ 1) ⊎ (fac.channel.msc ≡ 2)) → ⊥) → NoneApplies payload known fac_rows
fac_none payload known fac bytes h is plain =
    let due = due_none payload known fac_ 72 (whole fac_ bytes) h (ap (λ (n : ℕ). 8 * n) is.nine) in
    let has : HasBytes payload known fac_ bytes = has_bytes payload known fac_ (whole fac_ bytes) h in (
      due.0,
      (
        due.1.0,
        (
          (λ f x. let same : x.0 ≡ bytes = one_value payload known fac_ x.0 bytes x.2 has in fac_or_fault fac x.1 bytes is (subst (λ (l : List ℕ). IsFault l x.1) same x.3)),
          (
            (λ f x.
                let same : x.0 ≡ fac = one_fac_there payload known x.0 fac x.1 (bytes, has, is) in
                plain (subst (λ (y : Fac). (y.channel.msc ≡ 1) ⊎ (y.channel.msc ≡ 2)) same x.2)),
            tt,
          ),
        ),
      ),
    )

sdci_right : (d : MuxDesc) (bytes : List ℕ) (cause : MuxFault) → IsSdci d bytes → IsSdciFault (8 * length bytes) bytes cause → ⊥
sdci_right d bytes (SdciLength n) is h = h.1 (d.count, is.description.count, length-value d bytes is)
sdci_right d bytes SdciFront is h = h.1 is.fields.1
sdci_right d bytes cause is h = absurd h

sdci_none : (payload : List ℕ) (known : List (Option ItemSpan)) (d : MuxDesc) (bytes : List ℕ) → IsFound payload (get_or known sdci None) (whole sdci bytes) → IsSdci d bytes → NoneApplies payload known sdci_rows
sdci_none payload known d bytes h is = (
  (λ f x. let same : Some h.found ≡ None = sym h.there ∙ x.0 in cc),
  (
    (λ f x.
        let same : x.0 ≡ h.found = one_place known sdci x.0 h.found x.2 h.there in
        let moved : IsSdciFault h.found.bits (bytes_at payload h.found) x.1 = subst (λ (y : ItemSpan). IsSdciFault y.bits (bytes_at payload y) x.1) same x.3 in
        let here : IsSdciFault (8 * length bytes) bytes x.1 =
        subst (λ (n : ℕ). IsSdciFault n bytes x.1) h.bits (subst (λ (l : List ℕ). IsSdciFault h.found.bits l x.1) h.bytes moved) in
        sdci_right d bytes x.1 is here),
    tt,
  ),
)

robm_none : (payload : List ℕ) (known : List (Option ItemSpan)) (mode : Mode) → IsFound payload (get_or known robm None) (whole robm (mode_code mode ∷ [])) → NoneApplies payload known robm_rows
robm_none payload known mode h =
    let due = due_none payload known robm 8 (whole robm (mode_code mode ∷ [])) h refl in (
      due.0,
      (
        due.1.0,
        (
          (λ f x.
              let same : x.0 ∷ [] ≡ mode_code mode ∷ [] = one_value payload known robm (x.0 ∷ []) (mode_code mode ∷ []) x.1 (has_bytes payload known robm (whole robm (mode_code mode ∷ [])) h) in
              let code : x.0 ≡ mode_code mode = ap (λ (l : List ℕ). get_or l 0 0) same in
              absurd (omega (arith, code, x.2, code_small mode))),
          tt,
        ),
      ),
    )

block_is : (payload : List ℕ) (o : Option ItemSpan) (b : BlockBytes) (h : IsFound payload o (block_piece b.bits b.value)) → block_bits payload h.found ≡ take b.bits (bits_of b.value)
block_is payload o b h = ap (λ (n : ℕ). take n (bits_of (bytes_at payload h.found))) h.bits ∙ ap (λ (l : List ℕ). take b.bits (bits_of l)) h.bytes

block_some : (b : BlockBytes) (block : Block) → length b.value ≡ bytes_for b.bits → IsBlock block (take b.bits (bits_of b.value)) → b.bits ≢ 0
block_some b block long is none =
    let count : length (take b.bits (bits_of b.value)) ≡ b.bits = length-take-le b.bits (bits_of b.value) (omega (arith, length-bits_of b.value, long)) in
    elim (framed_length block.afs is.field is.check (take b.bits (bits_of b.value)) is.framed) [ inl short ↦ absurd (omega (arith, count, short)) | inr wide ↦ absurd (omega (arith, count, wide)) ]

sdc_none : (payload : List ℕ) (known : List (Option ItemSpan)) (fac : Fac) (block : Option BlockBytes) → HasFac payload known fac → BlockFound payload known block → SuitsBlock fac block
    → NoneApplies payload known sdc_rows
sdc_none payload known fac None has none suits = (
  (λ f x. let same : x.0 ≡ fac = one_fac_there payload known x.0 fac x.1 has in suits (subst IsFirstOfSuperFrame same x.2)),
  (
    (λ f x. let same : Some x.1 ≡ None = sym x.4 ∙ none in cc),
    ((λ f x. let same : Some x.0 ≡ None = sym x.2 ∙ none in cc), tt),
  ),
)
sdc_none payload known fac (Some b) has h (first, fits, long, (block, is)) = (
  (λ f x. let bits : b.bits ≡ 0 = sym h.bits ∙ (sym (ap bits_there h.there) ∙ x.3) in block_some b block long is bits),
  (
    (λ f x. let same : fac ≡ x.0 = one_fac_there payload known fac x.0 has x.2 in x.3 (subst IsFirstOfSuperFrame same first)),
    (
      (λ f x.
          let same : x.0 ≡ h.found = one_place known sdc_ x.0 h.found x.2 h.there in
          let moved : IsBlockFault (block_bits payload h.found) x.1 = subst (λ (y : ItemSpan). IsBlockFault (block_bits payload y) x.1) same x.4 in
          block_or_fault block x.1 (take b.bits (bits_of b.value)) is (subst (λ (l : List Bool). IsBlockFault l x.1) (block_is payload (get_or known sdc_ None) b h) moved)),
      tt,
    ),
  ),
)

stream_right : (payload : List ℕ) (known : List (Option ItemSpan)) (d : MuxDesc) (k : ℕ) (stream : List ℕ) → k < d.count → length stream ≡ stream_length d k
    → IsFound payload (get_or known (str k) None) (whole (str k) stream) → IsStreamWellFormed known d k
stream_right payload known d k stream lt long h = record {
  there = λ f x. let same : Some h.found ≡ None = sym h.there ∙ x.2 in cc;
  whole = λ f x.
      let same : x.0 ≡ h.found = one_place known (str k) x.0 h.found x.1 h.there in
      let bits : x.0.bits ≡ 8 * length stream = ap (λ (y : ItemSpan). y.bits) same ∙ h.bits in
      elim x.2 [ inl odd ↦ odd.1 (omega (arith, bits)) | inr out ↦ absurd (omega (arith, out.0)) ];
  long = λ f x.
      let same : x.0 ≡ h.found = one_place known (str k) x.0 h.found x.1 h.there in
      let bits : x.0.bits ≡ 8 * length stream = ap (λ (y : ItemSpan). y.bits) same ∙ h.bits in
      let bytes : x.0.bits / 8 ≡ length stream = omega (arith, bits) in
      x.3 (bytes ∙ long);
}

other_right : (known : List (Option ItemSpan)) (d : MuxDesc) (k : ℕ) → d.count ≤ k → get_or known (str k) None ≡ None → IsStreamWellFormed known d k
other_right known d k le none = record {
  there = λ f x. absurd (omega (arith, x.0));
  whole = λ f x. let same : Some x.0 ≡ None = sym x.1 ∙ none in cc;
  long = λ f x. let same : Some x.0 ≡ None = sym x.1 ∙ none in cc;
}

right_at : (payload : List ℕ) (known : List (Option ItemSpan)) (p : Parts) (fac description : List ℕ) (k : ℕ) → k < 4 → PartsSuit p → AreFound payload known p fac description → IsStreamWellFormed known p.mux k
right_at payload known p fac description k lt suit h =
    elim (cases_lt k p.mux.count) [
      | inl below ↦ stream_right payload known p.mux k (get_or p.streams k []) below (suit.lengths k below) (h.stream_found k (omega (arith, suit.all_streams)))
      | inr above ↦ other_right known p.mux k above (h.no_stream k lt (omega (arith, suit.all_streams)))
    ]

-- the block that is read
block_read : (payload : List ℕ) (known : List (Option ItemSpan)) (fac : Fac) (block : Option BlockBytes) → BlockFound payload known block → SuitsBlock fac block
    → (span : Option SdcSpan) × IsBlockSpan payload known span × IsBlockOf payload block span
block_read payload known fac None none suits = (None, ap bits_there none, tt)
block_read payload known fac (Some b) h (first, fits, long, (block, is)) =
    let bits : block_bits payload h.found ≡ take b.bits (bits_of b.value) = block_is payload (get_or known sdc_ None) b h in
    let stands : IsBlock block (block_bits payload h.found) = subst (λ (l : List Bool). IsBlock block l) (sym bits) is in (
      Some (record { at = h.found.at; bits = h.found.bits; info = info_of block (block_bits payload h.found) stands }),
      (
        h.found,
        block,
        h.there,
        (λ none. block_some b block long is (sym h.bits ∙ none)),
        stands,
        refl,
      ),
      (h.bits, h.bytes),
    )

of_streams-at : (what : Option ItemSpan → ℕ) (known : List (Option ItemSpan)) (k : ℕ) → k < 4 → get_or (of_streams what known) k 0 ≡ what (get_or known (str k) None)
of_streams-at what known zero lt = refl
of_streams-at what known (suc zero) lt = refl
of_streams-at what known (suc (suc zero)) lt = refl
of_streams-at what known (suc (suc (suc zero))) lt = refl
of_streams-at what known (suc (suc (suc (suc k)))) lt = absurd (omega arith)

stream_bytes : (payload : List ℕ) (known : List (Option ItemSpan)) (k : ℕ) (stream : List ℕ) → k < 4 → IsFound payload (get_or known (str k) None) (whole (str k) stream)
    → take (get_or (spans_of known).len k 0) (drop (get_or (spans_of known).at k 0) payload) ≡ stream
stream_bytes payload known k stream lt h =
    let at : get_or (spans_of known).at k 0 ≡ h.found.at = of_streams-at place_there known k lt ∙ ap place_there h.there in
    let bits : get_or (spans_of known).len k 0 ≡ h.found.bits / 8 = of_streams-at (λ there. bits_there there / 8) known k lt ∙ ap (λ (o : Option ItemSpan). bits_there o / 8) h.there in
    let len : get_or (spans_of known).len k 0 ≡ bytes_for h.found.bits = bits ∙ omega (arith, h.bits) in
    ap (λ (n : ℕ). take n (drop (get_or (spans_of known).at k 0) payload)) len ∙ (ap (λ (n : ℕ). take (bytes_for h.found.bits) (drop n payload)) at ∙ h.bytes)

is_frame : (p : Parts) (payload fac description : List ℕ) (items : List TagItem) → IsPayload items payload → AreOnce [] items → PartsSuit p → IsFac p.fac fac → IsSdci p.mux description
    → AreFound payload (known_of items) p fac description → IsFrameOf p payload
is_frame p payload fac description items stand once suit is_fac is_sdci h =
    let known : List (Option ItemSpan) = known_of items in
    let read = block_read payload known p.fac p.block h.block_found suit.block in
    let has_fac : HasFac payload known p.fac = (fac, has_bytes payload known fac_ (whole fac_ fac) h.fac_found, is_fac) in
    let has_sdci : HasDescription payload known p.mux = (description, has_bytes payload known sdci (whole sdci description) h.sdci_found, is_sdci) in
    let right : ThreeRight payload known = record {
      ptr = ptr_none payload known h.ptr_found;
      dlfc = due_none payload known dlfc 32 (whole dlfc (to_be_bytes w32 p.count)) h.dlfc_found refl;
      fac = fac_none payload known p.fac fac h.fac_found is_fac suit.not_hierarchical;
    } in
    let streams : AreRight known p.mux = (
      right_at payload known p fac description 0 (omega arith) suit h,
      right_at payload known p fac description 1 (omega arith) suit h,
      right_at payload known p fac description 2 (omega arith) suit h,
      right_at payload known p fac description 3 (omega arith) suit h,
    ) in record {
      frame = record {
        major = 0;
        minor = 0;
        dlfc = p.count;
        fac_bytes = fac;
        fac = p.fac;
        mux = p.mux;
        mode = p.mode;
        sdc = read.0;
        streams = spans_of known;
      };
      is_mdi = record {
        items = items;
        are_items = record { stand = stand; once = once };
        faultless = none_in_table payload known p.mux right (sdci_none payload known p.mux description h.sdci_found is_sdci) (robm_none payload known p.mode h.robm_found) (sdc_none payload known p.fac p.block has_fac h.block_found suit.block) has_sdci streams;
        says = record {
          pointer = codes "DMDI" ++ replicate 4 0;
          pointer_stands = has_bytes payload known ptr (whole ptr (codes "DMDI" ++ replicate 4 0)) h.ptr_found;
          major = refl;
          minor = refl;
          count = to_be_bytes w32 p.count;
          count_stands = has_bytes payload known dlfc (whole dlfc (to_be_bytes w32 p.count)) h.dlfc_found;
          dlfc = sym (from_be_bytes-to_be_bytes_4 p.count suit.count);
          fac_stands = has_fac.1;
          fac = is_fac;
          description = description;
          description_stands = has_sdci.1;
          mux = is_sdci;
          mode = has_bytes payload known robm (whole robm (mode_code p.mode ∷ [])) h.robm_found;
          sdc = read.1;
          streams = refl;
        };
      };
      major = refl;
      minor = refl;
      count = refl;
      fac = refl;
      mux = refl;
      mode = refl;
      block = read.2;
      streams = λ k lt. stream_bytes payload known k (get_or p.streams k []) (omega (arith, suit.description.count)) (h.stream_found k (omega (arith, suit.all_streams)));
    }

-- what is written is read again
pub written_is_read : (p : Parts) (payload : List ℕ) → PartsSuit p → IsWrittenOf p payload → IsFrameOf p payload
written_is_read p payload suit (head, is_head, is) =
    let fac : List ℕ = is_head.fac_bytes in
    let description : List ℕ = is_head.description in
    let front : List WrittenItem = head_pieces p.count fac description p.mode in
    let rest : List WrittenItem = block_pieces p.block ++ stream_pieces 0 p.streams in
    let fits : length p.streams ≤ 4 = omega (arith, suit.all_streams, suit.description.count) in
    let few : (k : ℕ) → k < length p.streams → length (get_or p.streams k []) < 2 ^ 29 = λ k lt. suit.few k (omega (arith, suit.all_streams)) in
    let long : length description < 2 ^ 29 = omega (arith, length-value p.mux description is_head.is_description, suit.description.count) in
    let rise : Rise 0 (front ++ rest) = (
      omega arith,
      fine_whole ptr (codes "DMDI" ++ replicate 4 0) (omega arith) (omega arith),
      (
        omega arith,
        fine_whole dlfc (to_be_bytes w32 p.count) (omega arith) (omega arith),
        (
          omega arith,
          fine_whole fac_ fac (omega arith) (omega (arith, is_head.is_fac.nine)),
          (
            omega arith,
            fine_whole sdci description (omega arith) long,
            (omega arith, fine_whole robm (mode_code p.mode ∷ []) (omega arith) (omega arith), rise_rest p.fac p.block p.streams suit.block fits few),
          ),
        ),
      ),
    ) in
    let stands : payload ≡ spelling (front ++ rest) = is ∙ (ap (λ (l : List ℕ). l ++ spelling rest) is_head.are ∙ sym (spelling-append front rest)) in
    is_frame p payload fac description (items_of (front ++ rest)) (subst (λ (l : List ℕ). IsPayload (items_of (front ++ rest)) l) (sym stands) (pieces_payload 0 (front ++ rest) rise))
    (pieces_once [] (front ++ rest) 0 tt rise) suit is_head.is_fac is_head.is_description (all_found p payload fac description rise fits stands)
