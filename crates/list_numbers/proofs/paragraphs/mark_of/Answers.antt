-- By what is beside the last item of the paragraph.
use Rattle.std.proofs.Common.{◌≡◌, ◌∙◌, length, ap, sym, arith}
use Rattle.std.proofs.lemmas.List.{length-map}
use Rattle.run_lists.specs.Spread.{expanded}
use Rattle.run_lists.proofs.Public.{length-spread}
use Rattle.doc_columns.specs.Attached.{attached_of}
use Rattle.doc_columns.proofs.Public.{end_attached}
use Rattle.list_numbers.proofs.ParagraphLemmas.{ends_before}
use Rattle.list_numbers.proofs.paragraphs.mark_of.Goals as goal

pub returns-clause-found : goal.returns-clause-found
returns-clause-found c = λ text is.
    let attachments = c.args.attachments.now in
    let end = c.paragraph_end-end.ensures in
    let long : c.args.len ≡ length text =
    sym c.requires.long ∙ sym (length-spread attachments) ∙ ap length is ∙ length-map text attached_of in
    ends_before text c.args.at c.paragraph_end-end.result c.as_ref.result
    (end_attached text (expanded attachments) c.args.at c.paragraph_end-end.result c.seek-last.result.now
    c.as_ref.result is
    end.some (omega (arith, end.within, long)) end.inside (λ more. end.ends (omega (arith, more, long)))
    c.seek-last.ensures.value c.as_ref.ensures.value)
