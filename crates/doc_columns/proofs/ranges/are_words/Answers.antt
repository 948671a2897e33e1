use Rattle.std.proofs.Common.{ℕ, ◌<◌, ◌^◌, arith}
use Rattle.std.proofs.lemmas.List.Elements.{All-from_get_or}
use Rattle.doc_columns.proofs.ranges.are_words.Goals as goal

pub returns : goal.returns
returns c =
    All-from_get_or (λ (unit : ℕ). unit < 2 ^ 16) c.args.units.now 0
    (λ i h. let word = c.type_inv.units i in omega arith)
