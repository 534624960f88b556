use Rattle.std.proofs.Common.{refl}
use Rattle.drm_bits.specs.Bits.{digits}
use Rattle.test_formats.proofs.tag_items.writes_one_item_after_another.Goals as goal

pub write_item-place-requires-2-clause-padding : goal.write_item-place-requires-2-clause-padding
unfolding digits
write_item-place-requires-2-clause-padding g c = refl

pub write_item-place-requires-3-clause-padding : goal.write_item-place-requires-3-clause-padding
unfolding digits
write_item-place-requires-3-clause-padding g c = refl
