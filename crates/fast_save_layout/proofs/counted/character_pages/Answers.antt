use Rattle.std.proofs.Common.{◌∙◌, ap, length, arith}
use Rattle.fkp_pages.specs.declared.kind.PageKind.TheVariants.{Chpx}
use Rattle.fkp_pages.specs.declared.packing.Pages.{Pages}
use Rattle.fkp_pages.specs.Packed.{pages_of}
use Rattle.fast_save_layout.proofs.RunLengths.{characters_upto}
use Rattle.fast_save_layout.proofs.counted.character_pages.Goals as goal

pub returns-clause-few : goal.returns-clause-few
returns-clause-few c =
    let made = c.in_ok-pages.ensures.is ∙ ap (pages_of Chpx) c.in_ok-runs.ensures in
    omega (arith, ap (λ (p : Pages). length p.starts) made, characters_upto c.args.base c.args.items.now)
