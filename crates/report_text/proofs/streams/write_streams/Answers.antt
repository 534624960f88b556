use Rattle.std.proofs.Common.{ℕ, List, [], ◌≡◌, ◌+◌, ◌-◌, ◌<◌, ◌++◌, drop, take, length, ap, sym, subst, ◌∙◌, arith}
use Rattle.std.proofs.lemmas.List.{drop_all}
use Rattle.std.proofs.lemmas.Result.{err_from_is_err_and}
use Rattle.hex.specs.Hex.{encode_lower}
use Rattle.drm_links.specs.Sink.{OutputsText}
use Rattle.drm_links.proofs.KnownLemmas.{OutputsText-nothing, done_counts}
use Rattle.drm_links.proofs.WritingLemmas.{Writes-whole, Writes-broken, Writes-more}
use Rattle.report_text.specs.FrameLine.{bytes_text}
use Rattle.drm_mux.specs.Frame.{multiplex_frame, streams_in}
use Rattle.drm_mux.specs.Ranges.{ranges}
use Rattle.drm_mux.proofs.RangeLemmas.{cut, frame_cut, length-ranges}
use Rattle.text_output.proofs.TextLemmas.{digits_parts}
use Rattle.report_text.proofs.StreamLemmas.{length-frame, dash_written, some_bytes, one_part, all_parts}
use Rattle.report_text.proofs.streams.write_streams.Goals as goal

pub returns-then-frame_len-eq0 : goal.returns-then-frame_len-eq0
returns-then-frame_len-eq0 g c =
    let long = length-frame c.args.mux.now c.args.streams.now c.args.payload.now (omega arith) (omega arith) c.requires.description c.requires.lengths c.requires.inside in
    dash_written (multiplex_frame c.args.mux.now (streams_in c.args.payload.now c.args.streams.now)) (g.O.Sink.known c.args.out.now) (g.O.Sink.known c.write_all.new.out) c.write_all.result
    (omega (arith, long, c.frame_len.ensures, c.if-frame_len-eq0.true)) c.write_all.ensures

pub loop-index-init : goal.loop-index-init
loop-index-init g c =
    let payload : List ℕ = c.args.payload.now in
    let frame : List ℕ = multiplex_frame c.args.mux.now (streams_in payload c.args.streams.now) in
    let rs = ranges c.args.mux.now c.args.streams.now in
    let is : frame ≡ cut payload rs = frame_cut c.args.mux.now c.args.streams.now payload (omega arith) (omega arith) c.requires.description c.requires.lengths in (
      OutputsText-nothing (g.O.Sink.known c.args.out.now) (λ text. text ++ encode_lower (cut payload (drop 0 rs)) ≡ encode_lower frame) (ap (λ l. encode_lower l) (sym is)),
      omega arith,
    )

pub returns-in_err-write_hex : goal.returns-in_err-write_hex
returns-in_err-write_hex g c =
    let p = err_from_is_err_and c.from_residual.result c.from_residual.ensures.1 in
    let long = length-frame c.args.mux.now c.args.streams.now c.args.payload.now (omega arith) (omega arith) c.requires.description c.requires.lengths c.requires.inside in
    let payload : List ℕ = c.args.payload.now in
    let frame : List ℕ = multiplex_frame c.args.mux.now (streams_in payload c.args.streams.now) in
    let parts = ranges c.args.mux.now c.args.streams.now in
    let a = g.O.Sink.known c.args.out.now in
    let b = g.O.Sink.known c.loop-index.out in
    let r = c.range-from.result in
    let slice : List ℕ = take (r.0 + r.1 - r.0) (drop r.0 payload) in
    let behind : List ℕ = cut payload (drop (c.loop-index.index + 1) parts) in
    let below : c.loop-index.index < length parts = omega (arith, c.loop-index-test.true, length-ranges c.args.mux.now c.args.streams.now c.requires.description.size (omega arith)) in
    let is : slice ++ behind ≡ cut payload (drop c.loop-index.index parts) = one_part payload parts c.loop-index.index r below c.range-from.ensures.range in
    let done = subst (λ l. OutputsText a b (λ text. text ++ l ≡ encode_lower frame)) (digits_parts slice behind _ is) c.loop-index.invariant.0 in
    rw (p.1, some_bytes frame (omega (arith, long, c.frame_len.ensures, c.if-frame_len-eq0.false)))
    (Writes-broken (encode_lower frame) (encode_lower slice) (encode_lower behind) a b (g.O.Sink.known c.write_hex.new.out) c.write_hex.result c.in_err-write_hex.field-0.0 p.0 done c.loop-index.invariant.1 c.in_err-write_hex.was c.write_hex.ensures)

pub loop-index-preserved : goal.loop-index-preserved
loop-index-preserved g c =
    let payload : List ℕ = c.args.payload.now in
    let frame : List ℕ = multiplex_frame c.args.mux.now (streams_in payload c.args.streams.now) in
    let parts = ranges c.args.mux.now c.args.streams.now in
    let a = g.O.Sink.known c.args.out.now in
    let b = g.O.Sink.known c.loop-index.out in
    let r = c.range-from.result in
    let slice : List ℕ = take (r.0 + r.1 - r.0) (drop r.0 payload) in
    let behind : List ℕ = cut payload (drop (c.loop-index.index + 1) parts) in
    let below : c.loop-index.index < length parts = omega (arith, c.loop-index-test.true, length-ranges c.args.mux.now c.args.streams.now c.requires.description.size (omega arith)) in
    let is : slice ++ behind ≡ cut payload (drop c.loop-index.index parts) = one_part payload parts c.loop-index.index r below c.range-from.ensures.range in
    let done = subst (λ l. OutputsText a b (λ text. text ++ l ≡ encode_lower frame)) (digits_parts slice behind _ is) c.loop-index.invariant.0 in (
      Writes-more (encode_lower frame) (encode_lower slice) (encode_lower behind) a b (g.O.Sink.known c.write_hex.new.out) c.write_hex.result _ done c.in_ok-write_hex.was c.write_hex.ensures,
      done_counts c.in_ok-write_hex.was c.write_hex.ensures.cause ∙ c.loop-index.invariant.1,
    )

pub returns : goal.returns
returns g c =
    let payload : List ℕ = c.args.payload.now in
    let frame : List ℕ = multiplex_frame c.args.mux.now (streams_in payload c.args.streams.now) in
    let rs = ranges c.args.mux.now c.args.streams.now in
    let long = length-frame c.args.mux.now c.args.streams.now payload (omega arith) (omega arith) c.requires.description c.requires.lengths c.requires.inside in
    let none : drop c.loop-index.index rs ≡ [] =
    drop_all c.loop-index.index rs (omega (arith, c.loop-index-test.false, length-ranges c.args.mux.now c.args.streams.now c.requires.description.size (omega arith))) in
    Writes-whole (bytes_text frame) (g.O.Sink.known c.args.out.now) (g.O.Sink.known c.loop-index.out)
    (all_parts frame (cut payload (drop c.loop-index.index rs)) (g.O.Sink.known c.args.out.now) (g.O.Sink.known c.loop-index.out)
    (omega (arith, long, c.frame_len.ensures, c.if-frame_len-eq0.false)) (ap (cut payload) none) c.loop-index.invariant.0)
    c.loop-index.invariant.1
