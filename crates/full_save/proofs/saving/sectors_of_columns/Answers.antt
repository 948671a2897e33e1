use Rattle.plain_doc.proofs.Public.{sound_is_valid}
use Rattle.full_save.proofs.TextLaidOut.{few_items}
use Rattle.full_save.proofs.saving.sectors_of_columns.Goals as goal

pub text_of-requires : goal.text_of-requires
text_of-requires c = (few_items c.args.document.now (sound_is_valid c.args.document.now c.requires)).all

pub sectors_with-sectors-requires-clause-right : goal.sectors_with-sectors-requires-clause-right
sectors_with-sectors-requires-clause-right c = sound_is_valid c.args.document.now c.requires
