use Rattle.std.proofs.Common.{◌≡◌, ℕ, ◌+◌, ◌-◌, ◌++◌, ◌∷◌, ◌<◌, ◌≤◌, List, [], length, take, drop, get_or, refl, arith, sym, ◌∙◌, ap, length-drop}
use Rattle.std.specs.List.{sum_by}
use Rattle.std.proofs.Math.ListN.{drop_of_length-le}
use Rattle.std.proofs.lemmas.List.{drop_more, append-nil, take_all, length-take-le}
use Rattle.drm_bits.specs.declared.description.Part.{Part}
use Rattle.drm_bits.proofs.PartLemmas.{no_part}
use Rattle.drm_bits.proofs.PutLemmas.{put_front}
use Rattle.drm_mux.specs.Frame.{part_length, frame_length}
use Rattle.drm_mux.specs.Streams.{parts_a_length, joined}
use Rattle.drm_mux.proofs.StreamLemmas.{streams_of}
use Rattle.drm_mux.proofs.StreamLemmas.{parts_b_length, a_cons, b_cons, both_cons, both_parts, scatter_step, split_frame, side_inside}
use Rattle.drm_mux.proofs.splitting.split.Goals as goal

frame_long : (c : goal.After-parts_a_len-from_b) → length c.args.frame.now ≡ frame_length c.args.desc.now
frame_long c = c.if-frame-described.false ∙ c.frame_len-described.ensures

pub loop-part-init : goal.loop-part-init
loop-part-init c =
    record {
      size = refl;
      left_a = omega arith;
      left_b = omega (arith, c.parts_a_len-from_b.ensures, frame_long c, both_parts c.args.desc.now.parts);
      left = omega (arith, frame_long c);
      done = ap (λ n. joined (streams_of c.args.frame.now c.args.desc.now.parts 0 n)) c.parts_a_len-from_b.ensures;
    }

-- the part of this stream, and those behind it
next : (parts : List Part) (k : ℕ) → k < length parts → drop k parts ≡ get_or parts k no_part ∷ drop (k + 1) parts
next parts k below = drop_more parts k no_part below

pub slice_bounds-put_at-end : goal.slice_bounds-put_at-end
slice_bounds-put_at-end c =
    let parts : List Part = c.args.desc.now.parts in
    let k : ℕ = c.loop-part.part-index in
    let p : Part = get_or parts k no_part in
    let first : drop k parts ≡ p ∷ drop (k + 1) parts = next parts k (omega (arith, c.requires.description.size, c.loop-part-test.true)) in
    let frame : length c.args.frame.now ≡ frame_length c.args.desc.now = c.if-frame-described.false ∙ c.frame_len-described.ensures in
    let within : c.loop-part.from_a + c.from-a.result ≤ length c.args.frame.now =
    omega (arith, c.loop-part.invariant.left_a, ap parts_a_length first, a_cons p (drop (k + 1) parts), c.from-a.ensures, both_parts parts, frame) in
    within

-- a part of the frame that is copied
piece : (frame : List ℕ) (from n : ℕ) → from + n ≤ length frame → take (from + n - from) (drop from frame) ≡ take n (drop from frame)
piece frame from n within = ap (λ k. take k (drop from frame)) (let e : from + n - from ≡ n = omega arith in e)

piece_long : (frame : List ℕ) (from n : ℕ) → from + n ≤ length frame → length (take (from + n - from) (drop from frame)) ≡ n
piece_long frame from n within = ap length (piece frame from n within) ∙ length-take-le n (drop from frame) (omega (arith, within, length-drop from frame))

pub loop-part-preserved : goal.loop-part-preserved
loop-part-preserved c =
    let parts : List Part = c.args.desc.now.parts in
    let frame : List ℕ = c.args.frame.now in
    let k : ℕ = c.loop-part.part-index in
    let p : Part = get_or parts k no_part in
    let others : List Part = drop (k + 1) parts in
    let a : ℕ = c.from-a.result in
    let b : ℕ = c.from-b.result in
    let from_a : ℕ = c.loop-part.from_a in
    let from_b : ℕ = c.loop-part.from_b in
    let at : ℕ = c.loop-part.at in
    let before : List ℕ = c.loop-part.into in
    let between : List ℕ = c.put_at.new.into in
    let after : List ℕ = c.put_at-in-loop-part.new.into in
    let target : List ℕ = joined (streams_of frame parts 0 (parts_a_length parts)) in
    let first : drop k parts ≡ p ∷ others = next parts k (omega (arith, c.requires.description.size, c.loop-part-test.true)) in
    let long : length frame ≡ frame_length c.args.desc.now = c.if-frame-described.false ∙ c.frame_len-described.ensures in
    let done : take at before ++ joined (streams_of frame (p ∷ others) from_a from_b) ≡ target =
    ap (λ l. take at before ++ joined (streams_of frame l from_a from_b)) (sym first) ∙ c.loop-part.invariant.done in
    let within_a : from_a + a ≤ length frame = omega (arith, c.loop-part.invariant.left_a, ap parts_a_length first, a_cons p others, c.from-a.ensures, both_parts parts, long) in
    let within_b : from_b + b ≤ length frame = omega (arith, c.loop-part.invariant.left_b, ap parts_b_length first, b_cons p others, c.from-b.ensures) in
    let room : at + a ≤ length before = omega (arith, c.loop-part.invariant.size, c.requires.room, c.loop-part.invariant.left, ap (sum_by part_length) first, both_cons p others, c.from-a.ensures) in
    let same : length between ≡ length before = c.put_at.auto.into in
    let one = put_front before (take (from_a + a - from_a) (drop from_a frame)) between at a (omega (arith, room)) (piece_long frame from_a a within_a) c.put_at.ensures.put
    ∙ ap (λ l. take at before ++ l) (piece frame from_a a within_a) in
    let two = put_front between (take (from_b + b - from_b) (drop from_b frame)) after (at + a) b (omega (arith, room, same)) (piece_long frame from_b b within_b) c.put_at-in-loop-part.ensures.put
    ∙ ap (λ l. take (at + a) between ++ l) (piece frame from_b b within_b) in
    record {
      size = c.put_at-in-loop-part.auto.into ∙ (c.put_at.auto.into ∙ c.loop-part.invariant.size);
      left_a = omega (arith, c.loop-part.invariant.left_a, ap parts_a_length first, a_cons p others, c.from-a.ensures);
      left_b = omega (arith, c.loop-part.invariant.left_b, ap parts_b_length first, b_cons p others, c.from-b.ensures);
      left = omega (arith, c.loop-part.invariant.left, ap (sum_by part_length) first, both_cons p others, c.from-a.ensures, c.from-b.ensures);
      done = scatter_step frame before between after target p others a b from_a from_b at c.from-a.ensures c.from-b.ensures done one two;
    }

-- all streams are written
whole : (c : goal.After-side_by_side) → c.loop-part.into ≡ joined (streams_of c.args.frame.now c.args.desc.now.parts 0 (parts_a_length c.args.desc.now.parts))
whole c =
    let parts : List Part = c.args.desc.now.parts in
    let frame : List ℕ = c.args.frame.now in
    let none : drop c.loop-part.part-index parts ≡ [] = drop_of_length-le parts (omega (arith, c.requires.description.size, c.loop-part-test.false)) in
    let end : length c.loop-part.into ≤ c.loop-part.at = omega (arith, c.loop-part.invariant.size, c.loop-part.invariant.left, ap (sum_by part_length) none, c.requires.room) in
    let all : take c.loop-part.at c.loop-part.into ≡ c.loop-part.into = take_all c.loop-part.at c.loop-part.into end in
    sym all
    ∙ (sym (append-nil (take c.loop-part.at c.loop-part.into))
    ∙ (ap (λ l. take c.loop-part.at c.loop-part.into ++ joined (streams_of frame l c.loop-part.from_a c.loop-part.from_b)) (sym none) ∙ c.loop-part.invariant.done))

pub returns-clause-frame : goal.returns-clause-frame
returns-clause-frame c =
    split_frame c.args.desc.now c.side_by_side.result c.args.frame.now c.loop-part.into c.side_by_side.ensures (c.if-frame-described.false ∙ c.frame_len-described.ensures) (whole c)

pub returns-clause-inside : goal.returns-clause-inside
returns-clause-inside c =
    side_inside c.args.desc.now c.side_by_side.result _ c.side_by_side.ensures c.requires.description.size
    (c.loop-part.invariant.size ∙ (c.requires.room ∙ (c.if-frame-described.false ∙ c.frame_len-described.ensures)))
