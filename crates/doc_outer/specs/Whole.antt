-- How the fault of one read is that of the whole file.
use Rattle.doc_outer.specs.declared.shelf.ShelfFault.{ShelfFault}
use Rattle.doc_outer.specs.declared.shelf.ShelfFault.TheVariants as one
use Rattle.doc_outer.specs.declared.whole.ReadFail.{ReadFail}
use Rattle.doc_outer.specs.declared.whole.ReadFail.TheVariants as whole

abbrev pub fail_of : ShelfFault → ReadFail
fail_of one.Missing = whole.Missing
fail_of one.Failed = whole.Failed
fail_of one.Memory = whole.Memory
