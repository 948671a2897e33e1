use Rattle.std.proofs.Common.{List, ℕ, drop, ap, ◌∙◌, arith}
use Rattle.direct_props.specs.Rows.{row_places_of}
use Rattle.direct_props.proofs.RowLemmas.{drop_part, count_is}
use Rattle.direct_props.proofs.places.Places.skip.Goals as goal

pub returns : goal.returns
returns c =
    let places = row_places_of c.self.inside.rows.now in
    let long = count_is c.self.inside.rows.now c.self.inside.skipped c.self.inside.count c.args.self.now
    c.self.invariant c.self.view_is in
    c.from_place.ensures
    ∙ drop_part places c.self.inside.skipped c.self.inside.count c.args.count (omega (arith, long, c.requires))
    ∙ ap (λ (t : List ℕ). drop c.args.count t) c.self.view_is
