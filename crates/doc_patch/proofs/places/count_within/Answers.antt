use Rattle.std.proofs.Common.{◌∙◌, sym}
use Rattle.doc_patch.proofs.PlaceLemmas.{counted_all, counted_none}
use Rattle.doc_patch.proofs.places.count_within.Goals as goal

pub returns-then-has_part-clause-count : goal.returns-then-has_part-clause-count
returns-then-has_part-clause-count c =
    sym (counted_all c.args.part c.args.attached.now c.args.count (sym c.has_part.ensures ∙ c.if-has_part.true))

pub returns-else-has_part-clause-count : goal.returns-else-has_part-clause-count
returns-else-has_part-clause-count c =
    sym (counted_none c.args.part c.args.attached.now c.args.count (sym c.has_part.ensures ∙ c.if-has_part.false))
