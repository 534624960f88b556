use Rattle.std.proofs.Common.{rules, ◌≡◌, ℕ, ◌+◌, ◌-◌, ◌++◌, ◌∷◌, ◌<◌, ◌≤◌, List, [], length, take, drop, arith, sym, subst, ◌∙◌, ap, length-drop}
use Rattle.std.proofs.lemmas.List.{append-nil, length-take-le}
use Rattle.std.proofs.Math.ListN.{drop_of_length-le}
use Rattle.drm_bits.proofs.PutLemmas.{put_front, put_rest}
use Rattle.drm_mux.specs.Frame.{HaveTheirLengths, frame_length}
use Rattle.drm_mux.specs.Ranges.{ranges}
use Rattle.drm_mux.proofs.RangeLemmas.{cut, total, first_range, length-ranges, frame_cut, gather_step}
use Rattle.drm_mux.proofs.streams.assemble.Goals as goal

pub loop-index-preserved : goal.loop-index-preserved
loop-index-preserved c =
    let rs : List (ℕ × ℕ) = ranges c.args.desc.now c.args.spans.now in
    let r : ℕ × ℕ = c.range-from.result in
    let index : ℕ = c.loop-index.index in
    let at : ℕ = c.loop-index.at in
    let buffer : List ℕ = c.args.buffer.now in
    let before : List ℕ = c.loop-index.into in
    let size_at : length c.args.spans.now.at ≡ 4 = omega arith in
    let below : index < length rs = omega (arith, length-ranges c.args.desc.now c.args.spans.now c.requires.spans.description.size size_at, c.loop-index-test.true) in
    let first : drop index rs ≡ r ∷ drop (index + 1) rs = first_range rs index r below c.range-from.ensures.range in
    let inside : r.0 + r.1 ≤ length buffer = c.range-from.ensures.inside (length buffer) c.requires.spans.inside in
    let slice : List ℕ = take (r.0 + r.1 - r.0) (drop r.0 buffer) in
    let count : r.0 + r.1 - r.0 ≡ r.1 = omega arith in
    let same : slice ≡ take r.1 (drop r.0 buffer) = ap (λ k. take k (drop r.0 buffer)) count in
    let long : length slice ≡ r.1 = ap length same ∙ length-take-le r.1 (drop r.0 buffer) (omega (arith, inside, length-drop r.0 buffer)) in
    let room : at ≤ length before = omega (arith, c.loop-index.invariant.room, c.loop-index.invariant.size, c.requires.room) in
    let front = put_front before slice c.put_at.new.into at r.1 room long c.put_at.ensures.put ∙ ap (λ l. take at before ++ l) same in
    let rest = put_rest before slice c.put_at.new.into at r.1 room long c.put_at.ensures.put in
    let step = gather_step rs r index at buffer before c.put_at.new.into c.args.into.now first c.loop-index.invariant.done c.loop-index.invariant.rest front rest in
    record {
      size = c.put_at.auto.into ∙ c.loop-index.invariant.size;
      room = omega (arith, c.loop-index.invariant.room, ap total first);
      done = step.0;
      rest = step.1;
    }

none : (c : goal.After-loop-index) → drop c.loop-index.index (ranges c.args.desc.now c.args.spans.now) ≡ []
none c =
    let size_at : length c.args.spans.now.at ≡ 4 = omega arith in
    let rs : List (ℕ × ℕ) = ranges c.args.desc.now c.args.spans.now in
    drop_of_length-le rs (omega (arith, length-ranges c.args.desc.now c.args.spans.now c.requires.spans.description.size size_at, c.loop-index-test.false))

-- all bytes are written
whole : (c : goal.After-loop-index) → c.loop-index.at ≡ frame_length c.args.desc.now
whole c = omega (arith, c.loop-index.invariant.room, ap total (none c))

pub returns-clause-length : goal.returns-clause-length
returns-clause-length c = whole c

pub returns-clause-frame : goal.returns-clause-frame
returns-clause-frame c =
    let buffer : List ℕ = c.args.buffer.now in
    let into : List ℕ = c.loop-index.into in
    let size_at : length c.args.spans.now.at ≡ 4 = omega arith in
    let size_len : length c.args.spans.now.len ≡ 4 = omega arith in
    let lengths : HaveTheirLengths c.args.desc.now c.args.spans.now = search rules in
    ap (λ n. take n into) (sym (whole c))
    ∙ (sym (append-nil (take c.loop-index.at into))
    ∙ (ap (λ l. take c.loop-index.at into ++ cut buffer l) (sym (none c))
    ∙ (c.loop-index.invariant.done ∙ sym (frame_cut c.args.desc.now c.args.spans.now buffer size_at size_len c.requires.spans.description lengths))))

pub returns-clause-rest : goal.returns-clause-rest
returns-clause-rest c = subst (λ n. drop n c.loop-index.into ≡ drop n c.args.into.now) (whole c) c.loop-index.invariant.rest
