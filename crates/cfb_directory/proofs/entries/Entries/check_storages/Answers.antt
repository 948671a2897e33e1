use Rattle.std.proofs.Common.{subst}
use Rattle.std.proofs.lemmas.Result.{err_from_is_err_and}
use Rattle.doc_bits.specs.Rules.{Nowhere, LeastOrNone, rule}
use Rattle.cfb_sectors.specs.Judged.{IsCfbFault}
use Rattle.cfb_sectors.proofs.Public.{refused_first, none_nowhere}
use Rattle.cfb_directory.specs.Reach.{BreaksStorage}
use Rattle.cfb_directory.proofs.entries.Entries.check_storages.Goals as goal

pub returns-in_err-refuse : goal.returns-in_err-refuse
returns-in_err-refuse c =
    let file = c.self.inside.file.now in
    let directory = c.self.inside.directory.items in
    let least = subst (λ d. LeastOrNone (BreaksStorage file d) c.wrong_storages-wrong.result) c.deref.ensures.value
    c.wrong_storages-wrong.ensures in
    let p = err_from_is_err_and c.from_residual.result c.from_residual.ensures.1 in
    rw (p.1, p.2)
    (subst (λ e. IsCfbFault (rule 10 (BreaksStorage e.file e.directory)) c.in_err-refuse.field-0.0) c.self.view_is
    (refused_first 10 (BreaksStorage file directory) c.wrong_storages-wrong.result c.in_err-refuse.field-0.0 least
    c.in_err-refuse.ensures))

pub returns : goal.returns
returns c =
    let file = c.self.inside.file.now in
    let directory = c.self.inside.directory.items in
    let least = subst (λ d. LeastOrNone (BreaksStorage file d) c.wrong_storages-wrong.result) c.deref.ensures.value
    c.wrong_storages-wrong.ensures in
    subst (λ e. Nowhere (BreaksStorage e.file e.directory)) c.self.view_is
    (none_nowhere (BreaksStorage file directory) c.wrong_storages-wrong.result least c.in_ok-refuse.ensures)
