use Rattle.cfb_streams.specs.Container.{AreNamesOf}
use Rattle.cfb_streams.proofs.layout.names_of.Given as goal

abbrev pub invariant-loop-entry : goal.invariant-loop-entry
invariant-loop-entry l = AreNamesOf l.entries.file l.entries.directory l.listed l.entry-index l.names.items
