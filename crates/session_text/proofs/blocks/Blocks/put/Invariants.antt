use Rattle.session_text.proofs.GrowLemmas.{Grown}
use Rattle.session_text.proofs.blocks.Blocks.put.Given as goal

-- the blocks of the changes so far are put
abbrev pub invariant-loop-k : goal.invariant-loop-k
invariant-loop-k l = Grown l.document l.fn.ends l.changes l.initial.self.added l.k l.self.added l.stories
    l.self.splices.items
