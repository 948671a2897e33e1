use Rattle.std.proofs.Common.{refl}
use Rattle.overlapping_grpprls.proofs.walk.passes_list.Goals as goal

pub returns : goal.returns
returns c = λ is. record {
  there = c.if-not-has_place.ensures refl;
  order = c.if-range-at.false;
  ends = c.ends_list.ensures is;
}
