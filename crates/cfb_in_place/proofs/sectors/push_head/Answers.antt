use Rattle.std.proofs.Common.{arith, length-take}
use Rattle.cfb_in_place.proofs.sectors.push_head.Goals as goal

pub slice_bounds-push_all-end : goal.slice_bounds-push_all-end
slice_bounds-push_all-end c =
    let len = length-take 116 c.args.bytes.now in
    let whole = c.requires in
    omega arith
