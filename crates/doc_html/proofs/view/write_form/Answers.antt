use Rattle.plain_doc.proofs.Public.{sound_is_valid}
use Rattle.doc_html.proofs.view.write_form.Goals as goal

pub needs_of-requires-clause-bases : goal.needs_of-requires-clause-bases
needs_of-requires-clause-bases g c = (sound_is_valid c.args.source.now.document.now c.requires).bases
