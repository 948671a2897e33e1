use Rattle.loss_report.proofs.ReportLemmas.{range_cut}
use Rattle.loss_report.proofs.reporting.units_between.Goals as goal

pub returns : goal.returns
returns c = rw c.min.ensures (range_cut c.args.units.now c.args.from c.args.to c.min-end.result c.requires
    c.min-end.ensures)
