use Rattle.std.proofs.Common.{◌≡◌, ◌∙◌, subst}
use Rattle.std.specs.Result.{IfOk}
use Rattle.std.proofs.lemmas.Result.{IfOk-weaker}
use Rattle.fkp_pages.specs.declared.kind.PageKind.TheVariants.{Papx}
use Rattle.fkp_pages.specs.Pages.{ArePagesOf}
use Rattle.fkp_pages.specs.Packed.{pages_of}
use Rattle.fkp_pages.proofs.PackedLemmas.{pages_are_these}
use Rattle.fkp_pages.proofs.page_writers.write_papx_pages.Goals as goal

pub returns-clause-is : goal.returns-clause-is
returns-clause-is c =
    let runs = c.args.runs.now in
    let same : c.deref.result.now ≡ runs = c.deref.ensures.value ∙ c.runs.view_is in
    IfOk-weaker c.write_pages.result (ArePagesOf Papx runs) (λ pages. pages ≡ pages_of Papx runs)
    (λ pages is. pages_are_these Papx runs pages c.requires.writable is)
    (subst (λ items. IfOk c.write_pages.result (ArePagesOf Papx items)) same c.write_pages.ensures)
