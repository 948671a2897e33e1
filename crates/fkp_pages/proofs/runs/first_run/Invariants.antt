use Rattle.std.proofs.Common.{◌≡◌}
use Rattle.fkp_pages.specs.Fkp.{page_fc}
use Rattle.fkp_pages.proofs.StretchLemmas.{HasPassedRuns}
use Rattle.fkp_pages.proofs.runs.first_run.Given as goal

abbrev pub invariant-loop-run : goal.invariant-loop-run
invariant-loop-run l = record {
  passed : HasPassedRuns l.page l.fc l.run l.gap.first l.gap.last l.gap.least;
  begin : l.begin ≡ page_fc l.page l.run;
}
