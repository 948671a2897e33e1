use Rattle.std.proofs.Common.{◌∙◌}
use Rattle.direct_props.specs.Rows.{row_places_of}
use Rattle.direct_props.proofs.RowLemmas.{whole_part}
use Rattle.direct_props.proofs.places.Places.of.Goals as goal

pub returns : goal.returns
returns c =
    c.from_place.ensures
    ∙ whole_part (row_places_of c.args.rows.now) c.count_of-count.result c.count_of-count.ensures
