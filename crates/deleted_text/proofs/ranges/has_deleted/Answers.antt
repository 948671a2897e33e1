use Rattle.std.proofs.Common.{false, length, inl, inr, arith}
use Rattle.std.proofs.lemmas.Bool.{cases_lt}
use Rattle.std.proofs.lemmas.List.{get_or_past}
use Rattle.deleted_text.proofs.ranges.has_deleted.Goals as goal

pub returns : goal.returns
returns c = λ none at. elim (cases_lt at (length c.args.flags.now)) [
  | inl low ↦ c.loop-k.invariant at (omega (arith, low, c.loop-k-test.false))
  | inr past ↦ get_or_past c.args.flags.now at false past
]
