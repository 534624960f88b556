use Rattle.std.proofs.Common.{◌≡◌, ◌+◌, ◌%◌, ◌≤◌, length}
use Rattle.rs_patterns.specs.Listed.{ListsErased}
use Rattle.rs_patterns.specs.Marks.{is_marked}
use Rattle.rs_patterns.proofs.erased.write_first.Given as goal

abbrev pub invariant-loop-j : goal.invariant-loop-j
invariant-loop-j l = record {
  long : length l.positions ≡ 255;
  bytes_long : length l.bytes ≡ 255;
  index : l.index ≡ (l.start + l.j) % l.count;
  few : l.many ≤ l.j;
  listed : ListsErased l.count (is_marked l.marks) l.start l.k l.many l.j l.bytes l.positions;
}
