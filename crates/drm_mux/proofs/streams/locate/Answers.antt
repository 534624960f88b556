use Rattle.std.proofs.Common.{◌≡◌, ℕ, ◌+◌, ◌∷◌, ◌<◌, List, [], length, drop, get_or, refl, arith, sym, ◌∙◌, ap}
use Rattle.std.proofs.Math.ListN.{drop_of_length-le}
use Rattle.drm_mux.specs.Ranges.{ranges}
use Rattle.drm_mux.proofs.RangeLemmas.{total, first_range, length-ranges, total-ranges, frame_cut, byte_here, byte_behind}
use Rattle.drm_mux.proofs.streams.locate.Goals as goal

pub loop-index-init : goal.loop-index-init
loop-index-init c =
    let size_at : length c.args.spans.now.at ≡ 4 = omega arith in
    record {
      within = omega (arith, total-ranges c.args.desc.now c.args.spans.now c.requires.streams.description.size size_at, c.requires.within);
      byte = λ buffer inside. refl;
    }

pub returns-then-rest-len-clause-byte : goal.returns-then-rest-len-clause-byte
returns-then-rest-len-clause-byte c = λ buffer inside.
    let rs : List (ℕ × ℕ) = ranges c.args.desc.now c.args.spans.now in
    let r : ℕ × ℕ = c.range-from.result in
    let index : ℕ = c.loop-index.index in
    let size_at : length c.args.spans.now.at ≡ 4 = omega arith in
    let size_len : length c.args.spans.now.len ≡ 4 = omega arith in
    let below : index < length rs = omega (arith, length-ranges c.args.desc.now c.args.spans.now c.requires.streams.description.size size_at, c.loop-index-test.true) in
    let first : drop index rs ≡ r ∷ drop (index + 1) rs = first_range rs index r below c.range-from.ensures.range in
    sym (byte_here rs r index c.loop-index.rest buffer first (c.range-from.ensures.inside (length buffer) inside) c.if-rest-len.true)
    ∙ (c.loop-index.invariant.byte buffer inside
    ∙ ap (λ l. get_or l c.args.place 0) (sym (frame_cut c.args.desc.now c.args.spans.now buffer size_at size_len c.requires.streams.description c.requires.streams.lengths)))

pub loop-index-preserved : goal.loop-index-preserved
loop-index-preserved c =
    let rs : List (ℕ × ℕ) = ranges c.args.desc.now c.args.spans.now in
    let r : ℕ × ℕ = c.range-from.result in
    let index : ℕ = c.loop-index.index in
    let size_at : length c.args.spans.now.at ≡ 4 = omega arith in
    let below : index < length rs = omega (arith, length-ranges c.args.desc.now c.args.spans.now c.requires.streams.description.size size_at, c.loop-index-test.true) in
    let first : drop index rs ≡ r ∷ drop (index + 1) rs = first_range rs index r below c.range-from.ensures.range in
    record {
      within = omega (arith, c.loop-index.invariant.within, ap total first, c.if-rest-len.false);
      byte = λ buffer inside.
          sym (byte_behind rs r index c.loop-index.rest buffer first (c.range-from.ensures.inside (length buffer) inside) c.if-rest-len.false) ∙ c.loop-index.invariant.byte buffer inside;
    }

pub unreachable-requires : goal.unreachable-requires
unreachable-requires c =
    let rs : List (ℕ × ℕ) = ranges c.args.desc.now c.args.spans.now in
    let size_at : length c.args.spans.now.at ≡ 4 = omega arith in
    let none : drop c.loop-index.index rs ≡ [] = drop_of_length-le rs (omega (arith, length-ranges c.args.desc.now c.args.spans.now c.requires.streams.description.size size_at, c.loop-index-test.false)) in
    omega (arith, c.loop-index.invariant.within, ap total none)
