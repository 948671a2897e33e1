use Rattle.plain_doc.proofs.Public.{sound_is_valid}
use Rattle.doc_view.proofs.view.write_page.Goals as goal

pub needs_of-requires-clause-bases : goal.needs_of-requires-clause-bases
needs_of-requires-clause-bases g c = (sound_is_valid c.args.document.now c.requires).bases
