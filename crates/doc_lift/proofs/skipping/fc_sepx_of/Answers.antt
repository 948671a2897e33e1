use Rattle.std.specs.Prelude.{slice_range}
use Rattle.std.proofs.Common.{◌+◌, ◌*◌, ◌∙◌, ap}
use Rattle.doc_bits.specs.Number.{u32_at}
use Rattle.doc_lift.proofs.skipping.fc_sepx_of.Goals as goal

pub returns : goal.returns
returns c =
    c.get32.ensures
    ∙ ap (λ n. u32_at (slice_range c.args.sections.now (4 * (n + 1) + 12 * c.args.k)
    (4 * (n + 1) + 12 * c.args.k + 12)) 2) c.sed_count.ensures
