use Rattle.std.proofs.Common.{◌^◌, ◌<◌, length, ap, arith, rules}
use Rattle.std.proofs.lemmas.List.{get_or_read}
use Rattle.cfb_layout.proofs.WritableLemmas.{bounded}
use Rattle.cfb_layout.proofs.plan.Plan.stream.Goals as goal

pub overflow_cast-result-2 : goal.overflow_cast-result-2
overflow_cast-result-2 c =
    let b = bounded c.self.inside.lengths.items c.self.invariant.fits in
    let same = ap length c.self.view_is in
    let inside = c.requires.inside in
    let low : c.args.i < length c.self.inside.lengths.items = omega arith in
    let small = b.each c.args.i low in
    let read = get_or_read c.self.inside.lengths.items c.args.i c.index.result.now low c.index.ensures 0 in
    let h : c.index.result.now < 2 ^ 32 = omega arith in
    search rules
