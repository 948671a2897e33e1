use Rattle.char_formats.specs.Changes.{over_all, IsChangeOf}
use Rattle.char_formats.specs.Styles.{AreKnownChanges}
use Rattle.char_formats.proofs.ChainLemmas.{properties_upto}
use Rattle.char_formats.proofs.style_changes.change_of_chain.Given as goal

-- the change is that of the styles so far
abbrev pub invariant-loop-i : goal.invariant-loop-i
invariant-loop-i l = record {
  said : IsChangeOf (over_all (properties_upto l.sheet l.chain l.i)) l.change;
  known : AreKnownChanges l.sheet l.known.items;
}
