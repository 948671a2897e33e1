use Rattle.std.proofs.Common.{None, length, inl, inr, arith}
use Rattle.std.proofs.lemmas.Bool.{cases_lt}
use Rattle.std.proofs.lemmas.List.{get_or_past}
use Rattle.huge_papx.proofs.defining.names_some.Goals as goal

pub returns : goal.returns
returns c = λ none at. elim (cases_lt at (length c.args.offsets.now)) [
  | inl low ↦ c.loop-k.invariant at (omega (arith, low, c.loop-k-test.false))
  | inr past ↦ get_or_past c.args.offsets.now at None past
]
