use Rattle.std.proofs.Common.{sym, ◌∙◌}
use Rattle.fkp_pages.proofs.WrittenLemmas.{is_empty_map, is_bare-plain}
use Rattle.fkp_pages.proofs.written.is_bare.Goals as goal

pub returns-in-Chpx : goal.returns-in-Chpx
returns-in-Chpx c = rw c.in-Chpx.is (is_empty_map c.args.run.now.map c.is_empty.result c.is_empty.ensures)

pub returns-then-run-eq0 : goal.returns-then-run-eq0
returns-then-run-eq0 c =
    let test = is_empty_map c.args.run.now.map c.is_empty-then-run-eq0.result c.is_empty-then-run-eq0.ensures in
    rw c.in-Papx.is (test ∙ sym (is_bare-plain c.args.run.now c.if-run-eq0.true))
