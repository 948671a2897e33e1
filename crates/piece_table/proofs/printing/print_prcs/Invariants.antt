use Rattle.piece_table.specs.PrintSteps.{ArePrinted, prc_table}
use Rattle.piece_table.proofs.printing.print_prcs.Given as goal

-- the Prcs of the entries before this one are printed
abbrev pub invariant-loop-k : goal.invariant-loop-k
invariant-loop-k l = ArePrinted l.modifiers l.entries l.k (prc_table l.printed)
