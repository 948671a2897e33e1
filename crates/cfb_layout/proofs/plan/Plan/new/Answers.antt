use Rattle.std.proofs.Common.{sum, ap, ◌∙◌, arith}
use Rattle.cfb_layout.specs.Counts.{mini_counts, sector_counts}
use Rattle.cfb_layout.proofs.WritableLemmas.{bounded}
use Rattle.cfb_layout.proofs.plan.Plan.new.Goals as goal

pub new-requires : goal.new-requires
new-requires c =
    let b = bounded c.args.lengths.items c.requires.fits in
    let minis = b.minis in
    let same = ap sum c.in_ok-minis.ensures ∙ ap (λ lengths. sum (mini_counts lengths)) c.deref.ensures.value in
    omega arith

pub new-requires-2 : goal.new-requires-2
new-requires-2 c =
    let b = bounded c.args.lengths.items c.requires.fits in
    let sectors = b.sectors in
    let same = ap sum c.in_ok-sectors.ensures ∙ ap (λ lengths. sum (sector_counts lengths)) c.deref-2.ensures.value in
    omega arith
