use Rattle.std.proofs.Common.{◌<◌, arith}
use Rattle.fib_versions.proofs.Public.{enough_pairs}
use Rattle.further_notes.proofs.files.ref_field.Goals as goal

pub pair-requires : goal.pair-requires
pair-requires c =
    let enough = enough_pairs c.args.fib.now c.requires.version in
    omega (arith, enough)
