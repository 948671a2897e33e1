use Rattle.std.proofs.Common.{◌≡◌, ◌∙◌, ap, subst}
use Rattle.doc_model.specs.declared.document.Document.{Document}
use Rattle.plain_doc.specs.RulesOfSheet.{item_count}
use Rattle.doc_read.specs.Holds.{IsAccepted}
use Rattle.script_run.specs.GeneratedRuns.{mark_count}
use Rattle.script_run.proofs.GeneratedImageLemmas.{generated_by}
use Rattle.script_run.proofs.generating.left_by.Goals as goal

pub returns : goal.returns
returns c =
    let now = c.args.session.now in
    let document : c.columns-document.result.now ≡ now.document = c.columns-document.ensures.same in
    let units = c.all_items-units.ensures ∙ ap item_count document in
    let paragraphs = c.marks_in-paragraphs.ensures
    ∙ ap (λ (d : Document). mark_count d.main) (c.document.view_is ∙ document) in
    let saves = c.generated_saves.ensures in
    generated_by c.args.seed now (record {
      image = c.in_ok-from_slice.field-0;
      units = c.all_items-units.result;
      paragraphs = c.marks_in-paragraphs.result;
      saves = c.generated_saves.result;
    }) c.requires.few c.requires.run (c.in_ok-from_slice.ensures ∙ c.bytes.ensures.bytes)
    (subst IsAccepted c.bytes.ensures.bytes c.bytes.ensures.accepted) units paragraphs saves.fast saves.full
