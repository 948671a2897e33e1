-- What is beside the item that ends the section is changed.
use Rattle.doc_patch.proofs.ModifyLemmas.{sections_kept, section_text}
use Rattle.doc_patch.proofs.modify.section_over.Goals as goal

pub change_attachments-requires-clause-kept : goal.change_attachments-requires-clause-kept
change_attachments-requires-clause-kept c = sections_kept c.args.set.now c.requires.set

pub returns : goal.returns
returns c = section_text c.args.set.now c.args.at c.args.main c.in_ok-made.made c.requires.within c.in_ok-made.ensures
