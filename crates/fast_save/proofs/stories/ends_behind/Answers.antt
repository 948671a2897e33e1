use Rattle.std.proofs.Common.{ap, length, arith}
use Rattle.doc_model.specs.declared.document.Document.{Document}
use Rattle.doc_model.specs.Collected.{joined_texts}
use Rattle.plain_doc.proofs.Public.{sound_is_valid}
use Rattle.full_save.proofs.Public.{few_items}
use Rattle.fast_save.proofs.stories.ends_behind.Goals as goal

pub has_end-requires : goal.has_end-requires
has_end-requires c =
    let few = few_items c.args.document.now (sound_is_valid c.args.document.now c.requires) in
    let notes = few.notes in
    omega (arith, ap (λ (d : Document). length (joined_texts d.notes)) c.document.view_is)

pub has_end-requires-2 : goal.has_end-requires-2
has_end-requires-2 c =
    let few = few_items c.args.document.now (sound_is_valid c.args.document.now c.requires) in
    let heads = few.heads in
    omega (arith, ap (λ (d : Document). length (joined_texts d.heads)) c.document.view_is)
