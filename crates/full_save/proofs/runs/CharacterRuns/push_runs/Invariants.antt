use Rattle.doc_model.specs.declared.item.Item.{Item}
use Rattle.full_save.specs.RunsSoFar.{AreCharactersSoFar}
use Rattle.full_save.proofs.ColumnRuns.{IsWalked}
use Rattle.full_save.proofs.runs.CharacterRuns.push_runs.Given as goal

abbrev pub invariant-loop-run : goal.invariant-loop-run
invariant-loop-run l = IsWalked AreCharactersSoFar (λ (item : Item). item.chp) l.runs l.start l.run-index
    l.at l.initial.self l.self
