use Rattle.doc_places.specs.Places.{nested_elements, outer_cell}
use Rattle.std.proofs.Common.{◌++◌}
use Rattle.doc_places.proofs.PathLemmas.{put_behind}
use Rattle.doc_places.proofs.grid.push_cell.Goals as goal

pub returns-clause-is : goal.returns-clause-is
returns-clause-is c =
    let cell = c.args.cell in
    let second = nested_elements cell.nested.second in
    let third = nested_elements cell.nested.third in
    put_behind c.args.path.now c.push_outer.new.path c.push_nested-2.new.path (outer_cell c.args.grid cell) (second ++
    third) c.push_outer.ensures.is (put_behind c.push_outer.new.path c.push_nested.new.path c.push_nested-2.new.path
    second third c.push_nested.ensures.is c.push_nested-2.ensures.is)
