use Rattle.std.proofs.Common.{ℕ, ◌≡◌, ◌+◌, ◌*◌, ◌/◌, ◌<◌, ◌≤◌, inl, inr, List, length, length-set, get_or, slice_set, refl, sym, ap, ap₂, ◌∙◌, arith}
use Rattle.std.proofs.lemmas.Bool.{cases_eq}
use Rattle.std.proofs.lemmas.List.{get_or-set_same, get_or-set_other}
use Rattle.std.proofs.lemmas.Nat.{div-add-mod'}
use Rattle.std.proofs.Math.Nat.{mul-le-mul_left}
use Rattle.dcp_pft.specs.Loss.{size}
use Rattle.dcp_collect.specs.Counters.{has_enough, becomes_full}
use Rattle.dcp_collect.proofs.Covering.{few_chunks, row_counted, row_skipped, rows_begin, rows_end, size_few}
use Rattle.dcp_collect.proofs.CoveringRows.{more_full}
use Rattle.dcp_collect.proofs.counters.cover_by_bytes.Goals.{then-chunk-chunks, else-chunk-chunks}
use Rattle.dcp_collect.proofs.counters.cover_by_bytes.Goals as goal

pub loop-row-init : goal.loop-row-init
loop-row-init c = record {
  long = refl;
  small = c.requires.small;
  full = c.requires.full;
  counted = λ kept out are. rows_begin c.args.count c.args.index kept (c.args.k + 48) (c.args.count * c.args.len / (c.args.k + 48)) c.args.covered.now are;
}

pub cover_bytes-full-requires : goal.cover_bytes-full-requires
cover_bytes-full-requires c =
    let chunks = c.args.count * c.args.len / (c.args.k + 48) in
    let i = c.loop-row.invariant in
    let few = size_few chunks (has_enough c.args.k c.loop-row.covered) in
    let most = few_chunks c.args.count c.args.len c.args.k c.requires.size in
    let chunk = (c.loop-row.row * c.args.count + c.args.index) / (c.args.k + 48) in
    let s = i.small chunk c.if-chunk-chunks.true in
    let m : c.args.len * 1 ≤ c.args.len * c.args.count = mul-le-mul_left c.args.len (omega (arith, c.requires.index)) in
    record {
      chunk = omega (arith, c.requires.room, i.long, c.if-chunk-chunks.true);
      small = omega (arith, s, m, c.requires.size, c.loop-row-test.true);
      few = omega (arith, few, most, i.full);
    }

-- one byte more of a chunk
small_on : (chunk chunks most : ℕ) (old new : List ℕ) → chunk < length old → chunk < chunks → new ≡ slice_set old chunk (get_or old chunk 0 + 1)
    → ((q : ℕ) → q < chunks → get_or old q 0 ≤ most) → (q : ℕ) → q < chunks → get_or new q 0 ≤ most + 1
small_on chunk chunks most old new within l put up_to q few =
    elim (cases_eq q chunk) [
      | inl here ↦
          let s = up_to chunk l in
          let e : get_or new q 0 ≡ get_or old chunk 0 + 1 = ap₂ (λ xs j. get_or xs j 0) put here ∙ get_or-set_same old chunk (get_or old chunk 0 + 1) 0 within in
          omega (arith, s, e)
      | inr other ↦
          let s = up_to q few in
          let e : get_or new q 0 ≡ get_or old q 0 = ap (λ xs. get_or xs q 0) put ∙ get_or-set_other old chunk q (get_or old chunk 0 + 1) 0 other in
          omega (arith, s, e)
    ]

pub loop-row-preserved : goal.loop-row-preserved
loop-row-preserved c =
    let chunks = c.args.count * c.args.len / (c.args.k + 48) in
    let bytes : ℕ = c.args.k + 48 in
    let i = c.loop-row.invariant in
    let old = c.loop-row.covered in
    elim c.if-chunk-chunks.branch [
      | then-chunk-chunks w ↦
          let chunk = (c.loop-row.row * c.args.count + c.args.index) / (c.args.k + 48) in
          let new = c.if-chunk-chunks.covered in
          let put : new ≡ slice_set old chunk (get_or old chunk 0 + 1) = w.covered-is ∙ w.cover_bytes-full.ensures.covered in
          let l = w.if-chunk-chunks.true in
          let within : chunk < length old = omega (arith, c.requires.room, i.long, l) in
          let up = small_on chunk chunks (255 + c.loop-row.row) old new within l put i.small in
          record {
            long = ap length put ∙ (length-set old chunk (get_or old chunk 0 + 1) ∙ i.long);
            small = λ q few. let s = up q few in omega (arith, s);
            full = w.full-is ∙ (w.cover_bytes-full.ensures.full ∙ (ap (λ n. n + becomes_full c.args.k (get_or old chunk 0) 1) i.full
                ∙ sym (more_full c.args.k 1 chunk chunks old new l within put)));
            counted = λ kept out are. row_counted c.args.count c.args.index kept c.loop-row.row bytes chunk chunks old new
                c.requires.index out (omega arith) refl within put (i.counted kept out are);
          }
      | else-chunk-chunks w ↦
          record {
            long = ap length w.covered-is ∙ i.long;
            small = λ q few. let s = i.small q few in let e : get_or c.if-chunk-chunks.covered q 0 ≡ get_or old q 0 = ap (λ xs. get_or xs q 0) w.covered-is in omega (arith, s, e);
            full = w.full-is ∙ (i.full ∙ ap (λ xs. size chunks (has_enough c.args.k xs)) (sym w.covered-is));
            counted = λ kept out are q few.
                let e : get_or c.if-chunk-chunks.covered q 0 ≡ get_or old q 0 = ap (λ xs. get_or xs q 0) w.covered-is in
                let same = row_skipped c.args.count c.args.index kept c.loop-row.row bytes chunks old (omega (arith, w.if-chunk-chunks.false)) (i.counted kept out are) q few in
                omega (arith, e, same);
          }
    ]

pub returns-clause-counted : goal.returns-clause-counted
returns-clause-counted c = λ kept more one are.
    rows_end c.args.count c.args.index kept more c.loop-row.row (c.args.k + 48) (c.args.count * c.args.len / (c.args.k + 48)) c.loop-row.covered
    (omega (arith, c.requires.index)) one
    (rows_are c.loop-row.row c.args.len c.args.count (c.args.k + 48) c.loop-row-test.false)
    (c.loop-row.invariant.counted kept one.0 are)
  where
    rows_are : (row len count bytes : ℕ) → len ≤ row → count * len / bytes * bytes ≤ row * count
    rows_are row len count bytes l =
        let e = div-add-mod' (count * len) bytes in
        let m : count * len ≤ count * row = mul-le-mul_left count l in
        omega (arith, e, m)
