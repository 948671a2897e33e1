use Rattle.doc_read.proofs.column_file.format_fault.Goals as goal

pub unreachable-requires : goal.unreachable-requires
unreachable-requires c = c.requires.wrong c.in-Ok.ensures
