use Rattle.std.proofs.Common.{◌<◌, ◌≤◌, arith}
use Rattle.fib_versions.proofs.Public.{enough_pairs}
use Rattle.further_notes.proofs.files.part_fields.Goals as goal

pub pair-texts-requires : goal.pair-texts-requires
pair-texts-requires c =
    let enough = enough_pairs c.args.fib.now c.requires in
    omega (arith, enough, c.text_pair.ensures.few)

pub pair-fields-requires : goal.pair-fields-requires
pair-fields-requires c =
    let enough = enough_pairs c.args.fib.now c.requires in
    omega (arith, enough, c.field_pair.ensures.few)
