use Rattle.std.proofs.Common.{arith}
use Rattle.prop_map.proofs.codes.may_hold.Goals as goal

pub returns : goal.returns
returns c = (
  λ t. record { property = c.is_property_of.ensures.0 t; bytes = λ i. omega (arith, c.type_inv.value i) },
  λ entry. c.is_property_of.ensures.1 entry.property,
)
