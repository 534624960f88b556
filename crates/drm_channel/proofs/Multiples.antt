-- The least common multiples of code rates.
use Rattle.std.proofs.Common.{refl, arith}
use Rattle.drm_channel.specs.declared.coding.MscCoding.{MscCoding}
use Rattle.drm_channel.specs.declared.coding.MscCoding.TheVariants.{Qam64Level0, Qam64Level1, Qam64Level2, Qam64Level3, Qam16Level0, Qam16Level1}
use Rattle.drm_channel.specs.Rates.{rates_of, multiple_of, IsLeastMultiple}

pub least_multiple : (coding : MscCoding) → IsLeastMultiple (rates_of coding) (multiple_of coding)
least_multiple Qam64Level0 = record {
  some = omega arith;
  multiple = (refl, (refl, (refl, tt)));
  least = λ m some is. let a = is.0 in let b = is.1 in omega (arith, some, a, b);
}
least_multiple Qam64Level1 = record {
  some = omega arith;
  multiple = (refl, (refl, (refl, tt)));
  least = λ m some is. let a = is.0 in let b = is.1.1.0 in omega (arith, some, a, b);
}
least_multiple Qam64Level2 = record {
  some = omega arith;
  multiple = (refl, (refl, (refl, tt)));
  least = λ m some is. let a = is.1.1.0 in omega (arith, some, a);
}
least_multiple Qam64Level3 = record {
  some = omega arith;
  multiple = (refl, (refl, (refl, tt)));
  least = λ m some is. let a = is.1.0 in let b = is.1.1.0 in omega (arith, some, a, b);
}
least_multiple Qam16Level0 = record {
  some = omega arith;
  multiple = (refl, (refl, tt));
  least = λ m some is. let a = is.0 in omega (arith, some, a);
}
least_multiple Qam16Level1 = record {
  some = omega arith;
  multiple = (refl, (refl, tt));
  least = λ m some is. let a = is.1.0 in omega (arith, some, a);
}
