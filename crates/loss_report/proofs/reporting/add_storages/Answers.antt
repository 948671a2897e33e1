-- The line of one storage more.
use Rattle.std.proofs.Common.{◌≡◌, ◌∙◌, ◌+◌, ◌++◌, [], ◌∷◌, drop, ap, arith}
use Rattle.std.proofs.lemmas.List.{drop_all}
use Rattle.loss_report.specs.Features.{StorageOf, storage_features}
use Rattle.loss_report.specs.Lines.{loss_lines}
use Rattle.loss_report.proofs.ReportLemmas.{one_step, no_more, storages-from}
use Rattle.loss_report.proofs.reporting.add_storages.Goals as goal

pub loop-i-preserved : goal.loop-i-preserved
loop-i-preserved c =
    let wd = c.args.fib.now in
    let name = c.storage.result.now in
    let names = c.args.outer.now.storages in
    let i = c.loop-i.i in
    let told : c.add.new.self ≡ c.loop-i.lines ++ loss_lines wd (StorageOf name ∷ []) =
    c.in_ok-add.ensures.ok ∙ ap (λ line. c.loop-i.lines ++ line ∷ []) c.in_ok-line.ensures in
    one_step wd c.loop-i.lines c.add.new.self _ (storage_features (drop i names)) (StorageOf name ∷ [])
    (storage_features (drop (i + 1) names)) (storages-from names i name c.storage.ensures) told c.loop-i.invariant

pub returns : goal.returns
returns c =
    let names = c.args.outer.now.storages in
    let i = c.loop-i.i in
    let none = ap storage_features (drop_all i names (omega (arith, c.storage_count-i-end.ensures))) in
    no_more c.args.fib.now c.loop-i.lines _ (storage_features (drop i names)) none c.loop-i.invariant
