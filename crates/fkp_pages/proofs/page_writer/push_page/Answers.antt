use Rattle.std.proofs.Common.{◌≡◌, ◌+◌, ◌-◌, ◌++◌, ◌∷◌, [], length, take, drop, length-drop, OnOk, subst, refl, sym}
use Rattle.std.proofs.Common.{ap, ◌∙◌, arith}
use Rattle.std.proofs.lemmas.List.{take_all}
use Rattle.fkp_pages.specs.Fkp.{run_entry_size}
use Rattle.fkp_pages.specs.PageBytes.{zeros}
use Rattle.fkp_pages.proofs.PageSteps.{HasFirstRuns, no_runs_yet, half_is, next_room, area_len, next_run, page_done}
use Rattle.fkp_pages.proofs.page_writer.push_page.Goals as goal

pub loop-run-init : goal.loop-run-init
loop-run-init c = no_runs_yet c.args.kind c.args.runs.now c.push_fcs.new.bytes _ refl

pub write_at-requires : goal.write_at-requires
write_at-requires c =
    let list = c.as_slice-list.ensures ∙ c.in_ok-properties.ensures in
    let offset = c.offset_below-offset.ensures c.as_slice-list.result.now refl in
    let state = c.loop-run.invariant in
    let room = next_room c.args.kind c.args.runs.now c.loop-run.run-index c.push_fcs.new.bytes c.loop-run.bytes
    c.loop-run.lists c.loop-run.limit c.offset_below-offset.result c.run-item.result c.as_slice-list.result.now
    state c.requires.fits (omega arith) c.run-item.is list offset in
    let within = area_len c.args.kind c.args.runs.now c.loop-run.run-index c.push_fcs.new.bytes c.loop-run.bytes
    c.loop-run.lists c.loop-run.limit state in
    omega arith

pub loop-run-preserved : goal.loop-run-preserved
loop-run-preserved c =
    let list = c.as_slice-list.ensures ∙ c.in_ok-properties.ensures in
    let offset = c.offset_below-offset.ensures c.as_slice-list.result.now refl in
    let state = c.loop-run.invariant in
    let pushed = c.in_ok-push_entry.ensures in
    let half = half_is c.loop-run.limit c.offset_below-offset.result c.as_slice-list.result.now c.is_empty.result
    c.is_empty.ensures offset in
    let next = next_run c.args.kind c.args.runs.now c.loop-run.run-index c.push_fcs.new.bytes c.loop-run.bytes
    c.loop-run.lists c.loop-run.limit c.offset_below-offset.result c.run-item.result c.as_slice-list.result.now _
    c.write_at.new.area state c.requires.fits (omega arith) c.run-item.is list offset
    (ap (λ n. n ∷ zeros (run_entry_size c.args.kind - 1)) half) c.write_at.ensures in
    subst (λ l. HasFirstRuns c.args.kind c.args.runs.now (c.loop-run.run-index + 1) c.push_fcs.new.bytes l
    c.write_at.new.area c.offset_below-offset.result) (sym pushed) next

pub returns : goal.returns
returns c =
    let fcs = c.in_ok-push_fcs.ensures in
    let pushed = c.in_ok-push_all.ensures.ok in
    let end = c.entries_end.result in
    let lists = c.loop-run.lists in
    let len : length lists ≡ 511 = c.entries_end.array_long in
    let cut : take (511 - end) (drop end lists) ≡ drop end lists = take_all (511 - end) (drop end lists)
    (omega (arith, length-drop end lists)) in
    let done = page_done c.args.kind c.args.runs.now c.loop-run.run-index c.push_fcs.new.bytes c.args.bytes.now
    c.loop-run.bytes lists c.loop-run.limit end c.loop-run.invariant c.requires.fits c.loop-run-test.false
    c.entries_end.ensures fcs in
    subst (λ l. OnOk c.push_all-2.result (c.push_all-2.new.self ≡ l)) (ap (λ l. l ++ length c.args.runs.now ∷ [])
    (pushed ∙ ap (λ l. c.loop-run.bytes ++ l) cut) ∙ done) c.push_all-2.ensures.ok
