use Rattle.std.proofs.Common.{List, sym, subst, ◌∙◌}
use Rattle.fkp_pages.specs.declared.kind.PageKind.TheVariants.{Chpx, Papx}
use Rattle.fkp_pages.specs.declared.lists.Run.{Run}
use Rattle.fkp_pages.specs.Runs.{AreRuns}
use Rattle.plain_doc.proofs.Public.{sound_is_valid}
use Rattle.full_save.proofs.TextLaidOut.{few_items, runs_are}
use Rattle.full_save.proofs.LengthLemmas.{runs_counted}
use Rattle.full_save.proofs.saving.table_len_of_columns.Goals as goal

pub text_of-requires : goal.text_of-requires
text_of-requires c = (few_items c.args.document.now (sound_is_valid c.args.document.now c.requires)).all

pub of-pages-requires-clause-characters : goal.of-pages-requires-clause-characters
of-pages-requires-clause-characters c =
    let right = sound_is_valid c.args.document.now c.requires in
    subst (λ (runs : List Run). AreRuns Chpx runs) (sym c.in_ok-text.ensures.characters)
    (runs_are Chpx c.args.document.now c.columns_are_formed.ensures right).right

pub of-pages-requires-clause-paragraphs : goal.of-pages-requires-clause-paragraphs
of-pages-requires-clause-paragraphs c =
    let right = sound_is_valid c.args.document.now c.requires in
    subst (λ (runs : List Run). AreRuns Papx runs) (sym c.in_ok-text.ensures.paragraphs)
    (runs_are Papx c.args.document.now c.columns_are_formed.ensures right).right

pub table_len_with-requires-clause-right : goal.table_len_with-requires-clause-right
table_len_with-requires-clause-right c = sound_is_valid c.args.document.now c.requires

pub table_len_with-requires-clause-pages : goal.table_len_with-requires-clause-pages
table_len_with-requires-clause-pages c =
    c.of-pages.ensures ∙ runs_counted c.args.document.now c.in_ok-text.text c.in_ok-text.ensures
