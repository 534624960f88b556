use Rattle.std.proofs.Common.{◌≡◌, ◌+◌, ◌%◌, ℕ, slice_set, Bool, sym, ap, ◌∙◌, arith}
use Rattle.std.proofs.lemmas.Nat.{mod_below}
use Rattle.rs_patterns.specs.Marks.{is_marked}
use Rattle.rs_patterns.specs.Positions.{position}
use Rattle.rs_patterns.proofs.ListedBytes.{none_listed, one_erased, one_kept, with_lists}
use Rattle.rs_patterns.proofs.erased.write_first.Goals.{then-not-is_marked_at, else-not-is_marked_at}
use Rattle.rs_patterns.proofs.erased.write_first.Goals as goal

pub loop-j-init : goal.loop-j-init
loop-j-init c = record {
  long = c.told-positions;
  bytes_long = c.told-bytes;
  index = ap (λ n. n % c.args.count) (let e : c.args.start ≡ c.args.start + 0 = omega arith in e);
  few = omega arith;
  listed = none_listed c.args.count (is_marked c.args.marks.now) c.args.start c.args.k c.args.bytes.now c.args.positions.now;
}

pub is_marked_at-requires : goal.is_marked_at-requires
is_marked_at-requires c =
    let b = mod_below (c.args.start + c.loop-j.j) c.args.count c.requires.some in omega (arith, b, c.loop-j.invariant.index, c.requires.marks)

pub next_index-index-requires : goal.next_index-index-requires
next_index-index-requires c =
    let b = mod_below (c.args.start + c.loop-j.j) c.args.count c.requires.some in omega (arith, b, c.loop-j.invariant.index)

next_is : (c : goal.After-next_index-index) → c.next_index-index.result ≡ (c.args.start + (c.loop-j.j + 1)) % c.args.count
next_is c =
    c.next_index-index.ensures (c.args.start + c.loop-j.j) c.loop-j.invariant.index
    ∙ ap (λ n. n % c.args.count) (let e : c.args.start + c.loop-j.j + 1 ≡ c.args.start + (c.loop-j.j + 1) = omega arith in e)

pub loop-j-preserved : goal.loop-j-preserved
loop-j-preserved c =
    let kept : ℕ → Bool = is_marked c.args.marks.now in
    let j = c.loop-j.j in
    let many = c.loop-j.many in
    let bytes = c.loop-j.bytes in
    let positions = c.loop-j.positions in
    let few = c.loop-j.invariant.few in
    let answer : c.is_marked_at.result ≡ kept ((c.args.start + j) % c.args.count) =
    c.is_marked_at.ensures ∙ ap kept c.loop-j.invariant.index in
    elim c.if-not-is_marked_at.branch [
      | then-not-is_marked_at w ↦
          record {
            long = c.if-not-is_marked_at.array_long2;
            bytes_long = c.if-not-is_marked_at.array_long;
            index = next_is c;
            few = omega arith;
            listed =
                with_lists c.args.count kept c.args.start c.args.k (many + 1) c.if-not-is_marked_at.many (j + 1) (slice_set bytes many j) c.if-not-is_marked_at.bytes
                (slice_set positions many (position c.args.k j)) c.if-not-is_marked_at.positions
                w.many-is w.bytes-is (w.positions-is ∙ ap (λ (p : ℕ). slice_set positions many p) w.position_of.ensures)
                (one_erased c.args.count kept c.args.start c.args.k many j bytes positions (omega arith) (omega arith) (sym answer ∙ w.if-not-is_marked_at.true) c.loop-j.invariant.listed);
          }
      | else-not-is_marked_at w ↦
          record {
            long = c.if-not-is_marked_at.array_long2;
            bytes_long = c.if-not-is_marked_at.array_long;
            index = next_is c;
            few = omega arith;
            listed =
                with_lists c.args.count kept c.args.start c.args.k many c.if-not-is_marked_at.many (j + 1) bytes c.if-not-is_marked_at.bytes
                positions c.if-not-is_marked_at.positions w.many-is w.bytes-is w.positions-is
                (one_kept c.args.count kept c.args.start c.args.k many j bytes positions (sym answer ∙ w.if-not-is_marked_at.false) c.loop-j.invariant.listed);
          }
    ]
