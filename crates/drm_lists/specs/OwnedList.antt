-- What a list ends as, where a `&mut` to one of its values is returned.
use Rattle.std.specs.Prelude.{ℕ, List, slice_set}
use Rattle.std.specs.Borrow.{Lends, Fml, RattleType, MutBor}
use Rattle.drm_lists.specs.contracts.items.OwnedList.{the_row}

module _ (T : RattleType) (s : MutBor (List T.Denot)) where
  -- once the borrow r ends, the value with this number is the one that r shows last
  abbrev pub lends_item : ℕ → MutBor T.Denot → Fml
  lends_item k r = Lends (the_row T) T s r (slice_set s.now k)
