use Rattle.std.proofs.Common.{◌≡◌, length}
use Rattle.char_formats.specs.Styles.{AreKnownChanges}
use Rattle.char_formats.proofs.ChainLemmas.{AreSlotChanges}
use Rattle.char_formats.proofs.style_changes.style_changes.Given as goal

abbrev pub invariant-loop-slot : goal.invariant-loop-slot
invariant-loop-slot l = record {
  known : AreKnownChanges l.sheet l.known.items;
  count : length l.changes.items ≡ l.slot;
  right : AreSlotChanges l.sheet l.changes.items;
}
