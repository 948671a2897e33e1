use Rattle.page_copies.proofs.CopyLemmas.{IsCopied}
use Rattle.page_copies.proofs.skips.skip_page.Given as goal

abbrev pub invariant-loop-run : goal.invariant-loop-run
invariant-loop-run l = IsCopied l.kind l.fn.page l.page l.run
