use Rattle.std.proofs.Common.{length, sym, ◌∙◌}
use Rattle.std.proofs.lemmas.Bool.{eqb-true}
use Rattle.field_links.proofs.WordLemmas.{none_of_none}
use Rattle.field_links.proofs.word.unit_place.Goals as goal

pub returns-then-is_empty : goal.returns-then-is_empty
returns-then-is_empty c =
    none_of_none c.args.extent c.args.rest.now
    (eqb-true (length c.args.rest.now) 0 (sym c.is_empty.ensures ∙ c.if-is_empty.true))
