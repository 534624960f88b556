use Rattle.drm_channel.specs.declared.coding.MscCoding.TheVariants.{Qam64Level0, Qam64Level1, Qam64Level2, Qam64Level3, Qam16Level0, Qam16Level1}
use Rattle.drm_channel.proofs.Multiples.{least_multiple}
use Rattle.drm_channel.proofs.coding.MscCoding.multiple.Goals as goal

pub returns-in-Qam64Level0-clause-least : goal.returns-in-Qam64Level0-clause-least
returns-in-Qam64Level0-clause-least c = rw c.in-Qam64Level0.is (least_multiple Qam64Level0)

pub returns-in-Qam64Level1-clause-least : goal.returns-in-Qam64Level1-clause-least
returns-in-Qam64Level1-clause-least c = rw c.in-Qam64Level1.is (least_multiple Qam64Level1)

pub returns-in-Qam64Level2-clause-least : goal.returns-in-Qam64Level2-clause-least
returns-in-Qam64Level2-clause-least c = rw c.in-Qam64Level2.is (least_multiple Qam64Level2)

pub returns-in-Qam64Level3-clause-least : goal.returns-in-Qam64Level3-clause-least
returns-in-Qam64Level3-clause-least c = rw c.in-Qam64Level3.is (least_multiple Qam64Level3)

pub returns-in-Qam16Level0-clause-least : goal.returns-in-Qam16Level0-clause-least
returns-in-Qam16Level0-clause-least c = rw c.in-Qam16Level0.is (least_multiple Qam16Level0)

pub returns-in-Qam16Level1-clause-least : goal.returns-in-Qam16Level1-clause-least
returns-in-Qam16Level1-clause-least c = rw c.in-Qam16Level1.is (least_multiple Qam16Level1)
