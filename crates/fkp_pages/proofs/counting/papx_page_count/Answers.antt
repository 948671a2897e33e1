use Rattle.std.proofs.Common.{◌≡◌, ◌∙◌, length, subst}
use Rattle.fkp_pages.specs.declared.kind.PageKind.TheVariants.{Papx}
use Rattle.fkp_pages.specs.Packed.{pages_of}
use Rattle.fkp_pages.proofs.counting.papx_page_count.Goals as goal

pub returns : goal.returns
returns c =
    let runs = c.args.runs.now in
    let same : c.deref.result.now ≡ runs = c.deref.ensures.value ∙ c.runs.view_is in
    subst (λ items. c.count_pages.result ≡ length (pages_of Papx items).starts) same c.count_pages.ensures
