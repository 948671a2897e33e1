use Rattle.fkp_pages.proofs.PageSteps.{HasFirstRuns}
use Rattle.fkp_pages.proofs.page_writer.push_page.Given as goal

abbrev pub invariant-loop-run : goal.invariant-loop-run
invariant-loop-run l = HasFirstRuns l.kind l.runs l.run-index l.initial.bytes l.bytes l.lists l.limit
