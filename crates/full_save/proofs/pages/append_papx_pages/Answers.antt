use Rattle.std.proofs.Common.{arith}
use Rattle.std.proofs.lemmas.Result.{err_from_is_err_and}
use Rattle.std.proofs.Math.Seq.{take-length}
use Rattle.fkp_pages.specs.declared.kind.PageKind.TheVariants.{Papx}
use Rattle.fkp_pages.proofs.Public.{pages_are_whole}
use Rattle.full_save.proofs.pages.append_papx_pages.Goals as goal

pub append_pages-requires : goal.append_pages-requires
append_pages-requires c =
    let whole = pages_are_whole Papx c.args.runs.now c.in_ok-pages.pages c.requires.runs c.in_ok-pages.ensures.pages in
    let few = whole.few in
    let room = c.requires.room in
    omega arith

pub returns-in_err-pages-clause-front : goal.returns-in_err-pages-clause-front
returns-in_err-pages-clause-front c =
    let p = err_from_is_err_and c.from_residual.result c.from_residual.ensures.1 in
    rw p.1 (take-length c.args.out.now)
