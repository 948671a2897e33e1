use Rattle.file_mends.proofs.PlaceLemmas.{found_in_file, refused_file}
use Rattle.file_mends.proofs.part_places.part_place.Goals as goal

pub returns-in-Ok : goal.returns-in-Ok
returns-in-Ok c =
    let outer = c.in-Ok.outer in
    found_in_file c.args.file.now outer.container c.args.rule c.args.offset c.place_among-found.result
    c.in-Ok.ensures.0 c.in-Ok.ensures.1.0 (rw c.container.ensures at c.place_among-found.ensures)

pub returns-in-Err-Rule : goal.returns-in-Err-Rule
returns-in-Err-Rule c =
    refused_file c.args.file.now c.args.rule c.args.offset c.in-Err-Rule.field-0 c.in-Err-Rule.field-0-0
    c.in-Err-Rule.field-0-1 c.in-Err-Rule.field-0-is c.in-Err-Rule.ensures
