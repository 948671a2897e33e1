use Rattle.std.proofs.Common.{◌≡◌, ◌+◌, arith}
use Rattle.fkp_pages.specs.Fkp.{least_list}
use Rattle.fkp_pages.specs.Bin.{page_at}
use Rattle.fkp_pages.specs.Runs.{run_groups}
use Rattle.direct_props.proofs.AnswerLemmas.{list_right, list_wrong, same_cut}
use Rattle.direct_props.proofs.rules.fault_in.Goals as goal

pub returns-in-None : goal.returns-in-None
returns-in-None c = λ room.
    let kind = c.args.kind in
    let within = room.within in
    let enough = room.room in
    let style = c.style_len.ensures in
    let start : c.min.result + c.style_len.result ≡ c.args.from + least_list kind = omega arith in
    let cut = same_cut c.in-Some.page.now (page_at c.args.wd.now c.args.number) (c.min.result + c.style_len.result)
    (c.args.from + least_list kind) c.args.to c.in-Some.ensures.0 start in
    list_right _ (run_groups kind) _ _ cut (rw c.groups_of_runs.ensures at c.in-None.ensures.first)

pub returns-in-Some-list_fault : goal.returns-in-Some-list_fault
returns-in-Some-list_fault c = λ room.
    let kind = c.args.kind in
    let within = room.within in
    let enough = room.room in
    let style = c.style_len.ensures in
    let place = c.place_of.ensures in
    let start : c.min.result + c.style_len.result ≡ c.args.from + least_list kind = omega arith in
    let cut = same_cut c.in-Some.page.now (page_at c.args.wd.now c.args.number) (c.min.result + c.style_len.result)
    (c.args.from + least_list kind) c.args.to c.in-Some.ensures.0 start in
    list_wrong _ (run_groups kind) _ c.in-Some-list_fault.fault _ _ cut (omega arith) (rw c.groups_of_runs.ensures at
    c.in-Some-list_fault.ensures.first)
