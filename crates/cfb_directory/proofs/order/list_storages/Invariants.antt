use Rattle.cfb_directory.specs.Storages.{IsStorageWithChild}
use Rattle.cfb_directory.proofs.OrderLemmas.{ListsFront}
use Rattle.cfb_directory.proofs.order.list_storages.Given as goal

abbrev pub invariant-loop-entry : goal.invariant-loop-entry
invariant-loop-entry l = ListsFront l.file l.directory l.order (IsStorageWithChild l.file l.directory) l.entry-index
    l.entries.items
