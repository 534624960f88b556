use Rattle.std.proofs.Common.{◌≡◌, ◌+◌, ◌%◌, ◌<◌, ℕ, List, false, get_or, length, slice_set, sym, subst, ap, ◌∙◌, arith}
use Rattle.std.proofs.Math.ListN.{length-set}
use Rattle.rs_patterns.specs.Marks.{is_marked}
use Rattle.dcp_collect.proofs.ShortChunks.{KnowsFirst, knows_erased, knows_known, within_known}
use Rattle.dcp_collect.proofs.short_chunks.known_from.Goals.{then-marks-index, else-marks-index}
use Rattle.dcp_collect.proofs.short_chunks.known_from.Goals as goal

pub loop-j-preserved : goal.loop-j-preserved
loop-j-preserved c =
    let index = c.next_index-index.ensures (c.args.first + c.loop-j.j) c.loop-j.invariant.index
    ∙ ap (λ n. n % c.args.count) (let e : c.args.first + c.loop-j.j + 1 ≡ c.args.first + (c.loop-j.j + 1) = omega arith in e) in
    let few = c.loop-j.invariant.few in
    let long = c.loop-j.invariant.long in
    let lt = c.loop-j-test.true in
    elim c.if-marks-index.branch [
      | then-marks-index w ↦
          let room : c.loop-j.len < length c.loop-j.places = omega (arith, few, long, lt, c.requires.short) in
          let places : List ℕ = slice_set c.loop-j.places c.loop-j.len c.loop-j.j in
          record {
            long = ap length w.places-is ∙ length-set c.loop-j.places c.loop-j.len c.loop-j.j ∙ long;
            few = omega (arith, few, w.len-is);
            index = index;
            within =
                subst (λ (zs : List ℕ). (i : ℕ) → i < c.if-marks-index.len → get_or zs i 0 < c.args.k + 48) (sym w.places-is)
                (subst (λ n. (i : ℕ) → i < n → get_or places i 0 < c.args.k + 48) (sym w.len-is) (within_known c.loop-j.places c.loop-j.len c.loop-j.j c.args.k room lt c.loop-j.invariant.within));
            each =
                subst (λ (zs : List ℕ). KnowsFirst c.args.count c.args.first c.args.marks.now zs c.if-marks-index.len (c.loop-j.j + 1)) (sym w.places-is)
                (subst (λ n. KnowsFirst c.args.count c.args.first c.args.marks.now places n (c.loop-j.j + 1)) (sym w.len-is)
                (knows_known c.args.count c.args.first c.args.marks.now c.loop-j.places c.loop-j.len c.loop-j.j room c.loop-j.invariant.each));
          }
      | else-marks-index w ↦
          let none : is_marked c.args.marks.now ((c.args.first + c.loop-j.j) % c.args.count) ≡ false =
          ap (is_marked c.args.marks.now) (sym c.loop-j.invariant.index) ∙ w.if-marks-index.false in
          record {
            long = ap length w.places-is ∙ long;
            few = omega (arith, few, w.len-is);
            index = index;
            within =
                subst (λ (zs : List ℕ). (i : ℕ) → i < c.if-marks-index.len → get_or zs i 0 < c.args.k + 48) (sym w.places-is)
                (subst (λ n. (i : ℕ) → i < n → get_or c.loop-j.places i 0 < c.args.k + 48) (sym w.len-is) c.loop-j.invariant.within);
            each =
                subst (λ (zs : List ℕ). KnowsFirst c.args.count c.args.first c.args.marks.now zs c.if-marks-index.len (c.loop-j.j + 1)) (sym w.places-is)
                (subst (λ n. KnowsFirst c.args.count c.args.first c.args.marks.now c.loop-j.places n (c.loop-j.j + 1)) (sym w.len-is)
                (knows_erased c.args.count c.args.first c.args.marks.now c.loop-j.places c.loop-j.len c.loop-j.j none c.loop-j.invariant.each));
          }
    ]
