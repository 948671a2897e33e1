use Rattle.std.proofs.Common.{◌∙◌, ap, subst, sym, ℕ, length, arith}
use Rattle.fkp_pages.specs.declared.kind.PageKind.TheVariants.{Papx}
use Rattle.fkp_pages.specs.declared.packing.Pages.{Pages}
use Rattle.fkp_pages.specs.Packed.{pages_of}
use Rattle.fkp_pages.specs.Runs.{AreRuns}
use Rattle.full_save.specs.Runs.{text_runs}
use Rattle.fast_save_layout.specs.MarkRuns.{longer_if_open, runs_begun_at}
use Rattle.fast_save_layout.proofs.RunLengths.{paragraphs_upto}
use Rattle.fast_save_layout.proofs.counted.paragraph_pages.Goals as goal

pub write_papx_pages-requires : goal.write_papx_pages-requires
write_papx_pages-requires c =
    let all = c.in_ok-runs.ensures
    ∙ ap (λ (n : ℕ). runs_begun_at n (longer_if_open c.args.items.now (text_runs Papx c.args.base c.args.items.now)))
    c.kept_end-start.ensures in
    subst (AreRuns Papx) (sym all) c.requires.runs

pub returns-clause-count : goal.returns-clause-count
returns-clause-count c =
    let all = c.in_ok-runs.ensures
    ∙ ap (λ (n : ℕ). runs_begun_at n (longer_if_open c.args.items.now (text_runs Papx c.args.base c.args.items.now)))
    c.kept_end-start.ensures in
    let made = c.in_ok-pages.ensures.is ∙ ap (pages_of Papx) all in
    omega (arith, ap (λ (p : Pages). length p.starts) made)

pub returns-clause-few : goal.returns-clause-few
returns-clause-few c =
    let all = c.in_ok-runs.ensures
    ∙ ap (λ (n : ℕ). runs_begun_at n (longer_if_open c.args.items.now (text_runs Papx c.args.base c.args.items.now)))
    c.kept_end-start.ensures in
    let made = c.in_ok-pages.ensures.is ∙ ap (pages_of Papx) all in
    omega (
      arith,
      ap (λ (p : Pages). length p.starts) made,
      paragraphs_upto c.args.table.now c.args.base c.args.items.now,
    )
