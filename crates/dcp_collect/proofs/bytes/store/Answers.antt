use Rattle.std.proofs.Common.{ℕ, zero, suc, ◌≡◌, ◌+◌, ◌-◌, ◌*◌, ◌<◌, ◌≤◌, inl, inr, length, get_or, slice_set, sym, ap, ◌∙◌, arith}
use Rattle.std.proofs.lemmas.Bool.{cases_eq, cases_lt}
use Rattle.drm_bits.proofs.PutLemmas.{put_before, put_byte, put_behind}
use Rattle.std.proofs.lemmas.List.{get_or-set_same, get_or-set_other, length-set}
use Rattle.std.proofs.lemmas.Nat.{same_from_place}
use Rattle.dcp_collect.proofs.bytes.store.Goals as goal

pub put_at-requires : goal.put_at-requires
put_at-requires c =
    let n = length c.args.payload.now in
    room n (λ j l. let r = c.requires.room j l in let e = c.if-step-eq1.true in let m : j * c.args.step ≡ j * 1 = ap (λ s. j * s) e in omega (arith, r, m))
  where
    room : (n : ℕ) → ((j : ℕ) → j < n → c.args.start + j < length c.args.bytes.now) → c.args.start + n ≤ length c.args.bytes.now
    room zero all = (let s = c.requires.start in omega (arith, s))
    room (suc n) all = (let a = all n (omega arith) in omega (arith, a))

pub returns-then-step-eq1-clause-there : goal.returns-then-step-eq1-clause-there
returns-then-step-eq1-clause-there c = λ j l.
    put_byte c.args.bytes.now c.args.payload.now c.put_at.new.into c.args.start j (c.args.start + j * c.args.step) c.requires.start c.put_at.ensures.put l
    (let m : j * c.args.step ≡ j * 1 = ap (λ s. j * s) c.if-step-eq1.true in omega (arith, m))

pub returns-then-step-eq1-clause-others : goal.returns-then-step-eq1-clause-others
returns-then-step-eq1-clause-others c = λ p apart.
    let n = length c.args.payload.now in
    elim (cases_lt p c.args.start) [
      | inl before ↦ put_before c.args.bytes.now c.args.payload.now c.put_at.new.into c.args.start p c.requires.start c.put_at.ensures.put before
      | inr from ↦ elim (cases_lt p (c.args.start + n)) [
        | inl inside ↦
            let j = p - c.args.start in
            let m : (p - c.args.start) * c.args.step ≡ (p - c.args.start) * 1 = ap (λ s. (p - c.args.start) * s) c.if-step-eq1.true in
            absurd (apart (p - c.args.start) (omega (arith, from, inside)) (omega (arith, m, from)))
        | inr behind ↦ put_behind c.args.bytes.now c.args.payload.now c.put_at.new.into c.args.start p c.requires.start c.put_at.ensures.put (omega (arith, behind))
      ]
    ]

pub loop-j-preserved : goal.loop-j-preserved
loop-j-preserved c =
    let i = c.loop-j.invariant in
    let at = c.args.start + c.loop-j.j * c.args.step in
    let byte = get_or c.args.payload.now c.loop-j.j 0 in
    let within : at < length c.loop-j.bytes = omega (arith, c.requires.room c.loop-j.j c.loop-j-test.true, i.long) in
    record {
      long = length-set c.loop-j.bytes at byte ∙ i.long;
      there = λ k l. elim (cases_eq k c.loop-j.j) [
        | inl here ↦
            ap (λ m. get_or (slice_set c.loop-j.bytes at byte) (c.args.start + m * c.args.step) 0) here
            ∙ get_or-set_same c.loop-j.bytes at byte 0 within ∙ ap (λ m. get_or c.args.payload.now m 0) (sym here)
        | inr other ↦
            get_or-set_other c.loop-j.bytes at (c.args.start + k * c.args.step) byte 0
            (λ e. other (same_from_place k 0 c.loop-j.j 0 c.args.step c.requires.step c.requires.step (omega (arith, e))).0)
            ∙ i.there k (omega arith)
      ];
      others = λ p apart.
          get_or-set_other c.loop-j.bytes at p byte 0 (apart c.loop-j.j (omega arith)) ∙ i.others p (λ k l. apart k (omega arith));
    }
