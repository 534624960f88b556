-- The line of an item is that of the schedule's frame.
use Rattle.std.proofs.Common.{◌≡◌, ◌-◌, ◌*◌, ◌/◌, ◌%◌, ◌<◌, ◌==◌, ℕ, Bool, List, [], ◌∷◌, length, codes, decimal, slice_index_or, Some, refl, sym, ap, subst, ◌∙◌, arith}
use Rattle.std.specs.List.{concat}
use Rattle.std.proofs.lemmas.List.{length-map}
use Rattle.hex.specs.Hex.{encode_lower}
use Rattle.drm_bits.specs.Description.{IsDescription}
use Rattle.drm_bits.specs.declared.description.MuxDesc.{MuxDesc}
use Rattle.drm_fac.specs.declared.fac.Fac.{Fac}
use Rattle.drm_fac.specs.declared.mode.Mode.{Mode}
use Rattle.drm_fac.specs.Fac.{IsFac}
use Rattle.drm_fac.specs.Mode.{mode_letter}
use Rattle.drm_fac.proofs.WrittenFac.{fac_once}
use Rattle.drm_mux.specs.declared.frame.Spans.{Spans}
use Rattle.drm_mux.specs.Frame.{multiplex_frame, streams_in}
use Rattle.drm_schedule.specs.declared.config.Config.{Config}
use Rattle.drm_schedule.specs.declared.plan.Plan.{Plan}
use Rattle.mdi_items.specs.Frame.{Frame as MdiFrame}
use Rattle.mdi_items.specs.RoundTrip.{Parts, IsFrameOf}
use Rattle.mod_feed.specs.Items.{FrameItem}
use Rattle.law_delivery.specs.Given.{IsServed}
use Rattle.drm_schedule.specs.Contents.{stream_bytes}
use Rattle.drm_server.specs.Frames.{IsFrameAt}
use Rattle.drm_server.proofs.MultiplexLemmas.{of_parts}
use Rattle.drm_server.proofs.OnePacket.{one_frame}
use Rattle.report_text.specs.FrameLine.{block_text, description_text, bytes_text, frame_bytes, frame_line}
use Rattle.report_text.specs.Report.{item_line}
use Rattle.law_frame_lines.specs.Line.{block_digits, line_of, IsFrameLine}
use Rattle.law_frame_lines.proofs.StreamLemmas.{same_multiplex, length-pieces, piece_at}
use Rattle.law_frame_lines.proofs.BlockLemmas.{block_read}

-- a line of its words
words : ℕ → ℕ → Mode → List ℕ → List ℕ → List ℕ → List ℕ → List ℕ
words q count mode fac sdc mux msc =
    concat (
    codes "frame " ∷ decimal q ∷ codes " dlfc " ∷ decimal count ∷ codes " mode " ∷ mode_letter mode
    ∷ codes " fac " ∷ encode_lower fac ∷ codes " sdc " ∷ sdc ∷ codes " mux " ∷ mux ∷ codes " msc " ∷ msc ∷ codes "\n" ∷ [])

same_words : (q m n : ℕ) (mode other : Mode) (fac fac' sdc sdc' mux mux' msc msc' : List ℕ) → m ≡ n → mode ≡ other → fac ≡ fac' → sdc ≡ sdc' → mux ≡ mux' → msc ≡ msc' → words q m mode fac sdc mux msc ≡ words q n other fac' sdc' mux' msc'
same_words q m n mode other fac fac' sdc sdc' mux mux' msc msc' count modes facs sdcs muxes mscs = cc

as_words : (q : ℕ) (frame : MdiFrame) (payload : List ℕ) → frame_line q frame payload ≡ words q frame.dlfc frame.mode frame.fac_bytes (block_text payload frame.sdc) (description_text frame.mux) (bytes_text (frame_bytes frame payload))
unfolding words
as_words q frame payload = refl

line_words : (q : ℕ) (p : Parts) (fac multiplex : List ℕ) → line_of q p fac multiplex ≡ words q p.count p.mode fac (block_digits p.block) (description_text p.mux) (bytes_text multiplex)
unfolding words
line_words q p fac multiplex = refl

-- the multiplex frame that is read is that of the streams that were written
multiplex_read : (p : Parts) (payload : List ℕ) (read : IsFrameOf p payload) → length p.streams ≡ p.mux.count → frame_bytes read.frame payload ≡ multiplex_frame p.mux p.streams
multiplex_read p payload read all =
    let spans : Spans = read.frame.streams in
    let d : IsDescription p.mux = subst IsDescription read.mux read.is_mdi.says.mux.description in
    let places : length spans.at ≡ 4 = ap (λ (s : Spans). length s.at) read.is_mdi.says.streams in
    let lens : length spans.len ≡ 4 = ap (λ (s : Spans). length s.len) read.is_mdi.says.streams in
    let four : length (streams_in payload spans) ≡ 4 = length-pieces payload spans.at spans.len (places ∙ sym lens) ∙ places in
    let each : (k : ℕ) → k < p.mux.count → slice_index_or (streams_in payload spans) k [] ≡ slice_index_or p.streams k [] =
    λ k lt. piece_at payload spans.at spans.len k (omega (arith, places, lt, d.count)) (omega (arith, lens, lt, d.count)) ∙ read.streams k lt in
    ap (λ (mux : MuxDesc). multiplex_frame mux (streams_in payload spans)) read.mux
    ∙ same_multiplex p.mux (streams_in payload spans) p.streams d four all each

-- a frame has as many streams as are described
all_described : (plan : Plan) (t : ℕ) (p : Parts) → IsFrameAt plan t p → length p.streams ≡ p.mux.count
all_described plan t p is =
    let c : Config = is.config in
    ap (λ (l : List (List ℕ)). length l) is.streams ∙ (length-map c.streams (stream_bytes (t - 3 * c.start)) ∙ sym (ap (λ (mux : MuxDesc). mux.count) is.mux))

pub served_lines : (plan : Plan) (t q : ℕ) (item : FrameItem) → IsServed plan t q item → IsFrameLine plan t q (item_line item)
served_lines plan t q item is =
    let p : Parts = is.parts in
    let frame : MdiFrame = is.read.frame in
    let d : IsDescription p.mux = subst IsDescription is.read.mux is.read.is_mdi.says.mux.description in
    let multiplex : List ℕ = multiplex_frame p.mux p.streams in
    let block : block_text is.payload frame.sdc ≡ block_digits p.block = block_read (t % 3 == 0) plan (t / 3) is.is_frame.config.room is.payload p.block frame.sdc is.is_frame.block is.read.block in
    let streams : frame_bytes frame is.payload ≡ multiplex = multiplex_read p is.payload is.read (all_described plan t p is.is_frame) in
    record {
      parts = p;
      frame = is.is_frame;
      fac = frame.fac_bytes;
      is_fac = subst (λ (fac : Fac). IsFac fac frame.fac_bytes) is.read.fac is.read.is_mdi.says.fac;
      multiplex = multiplex;
      is_multiplex = of_parts plan t p is.is_frame d;
      line_is = ap item_line is.item_is
          ∙ (as_words q frame is.payload
          ∙ (same_words q frame.dlfc p.count frame.mode p.mode frame.fac_bytes frame.fac_bytes (block_text is.payload frame.sdc) (block_digits p.block) (description_text frame.mux) (description_text p.mux)
          (bytes_text (frame_bytes frame is.payload)) (bytes_text multiplex)
          is.read.count is.read.mode refl block (ap description_text is.read.mux) (ap bytes_text streams)
          ∙ sym (line_words q p frame.fac_bytes multiplex)));
    }

some_bytes : (a b : List ℕ) → Some a ≡ Some b → a ≡ b
some_bytes a b same = cc

pub has_one_line : (plan : Plan) (t q : ℕ) (line other : List ℕ) → IsFrameLine plan t q line → IsFrameLine plan t q other → line ≡ other
has_one_line plan t q line other x y =
    let parts : x.parts ≡ y.parts = one_frame plan t x.parts y.parts x.frame y.frame in
    let fac : x.fac ≡ y.fac = fac_once y.parts.fac x.fac y.fac (subst (λ (p : Parts). IsFac p.fac x.fac) parts x.is_fac) y.is_fac in
    let multiplex : x.multiplex ≡ y.multiplex = some_bytes x.multiplex y.multiplex (sym x.is_multiplex ∙ y.is_multiplex) in
    x.line_is
    ∙ (ap (λ (p : Parts). line_of q p x.fac x.multiplex) parts
    ∙ (ap (λ (bytes : List ℕ). line_of q y.parts bytes x.multiplex) fac ∙ (ap (λ (bytes : List ℕ). line_of q y.parts y.fac bytes) multiplex ∙ sym y.line_is)))
