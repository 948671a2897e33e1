use Rattle.std.proofs.Common.{length, ap, arith}
use Rattle.style_sheet.proofs.LengthLemmas.{rest_len, style_len}
use Rattle.style_sheet.proofs.styles.Style.std_len.Goals as goal

pub returns : goal.returns
returns c =
    let rest = rest_len c.args.istd c.args.self.now in
    let all = style_len c.args.istd c.args.self.now in
    let name = ap length c.as_slice.ensures in
    omega arith
