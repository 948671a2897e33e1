use Rattle.std.proofs.Common.{◌≡◌, ◌+◌, ap, arith}
use Rattle.std.specs.Prelude.{slice_index}
use Rattle.doc_bits.specs.Number.{number_at}
use Rattle.list_numbers.proofs.level_font.word_at.Goals as goal

pub returns : goal.returns
unfolding number_at
returns c =
    let list = c.args.list.now in
    let zero : c.args.at + 0 ≡ c.args.at = omega arith in
    let same : slice_index list (c.args.at + 0) ≡ slice_index list c.args.at = ap (λ n. slice_index list n) zero in
    omega (arith, same)
