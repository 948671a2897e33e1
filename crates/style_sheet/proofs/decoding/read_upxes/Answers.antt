use Rattle.std.proofs.Common.{◌+◌, sym, subst, arith}
use Rattle.doc_bits.specs.Number.{AreBytes}
use Rattle.doc_bits.proofs.Public.{AreBytes-range}
use Rattle.style_sheet.specs.Counted.{counted_end}
use Rattle.style_sheet.specs.StyleDefinition.{upx_place}
use Rattle.style_sheet.proofs.decoding.read_upxes.Goals as goal

pub returns-clause-bytes : goal.returns-clause-bytes
returns-clause-bytes c = λ k d below.
    let std = c.args.std.now in
    let place = upx_place std c.args.base k in
    let count = c.loop-upx.invariant.count in
    subst AreBytes (sym (c.loop-upx.invariant.each k d (omega arith)))
    (AreBytes-range std (place + 2) (counted_end std place) (λ i. omega (arith, c.type_inv.std i)))
