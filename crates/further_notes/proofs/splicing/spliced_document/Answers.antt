use Rattle.std.proofs.Common.{◌≡◌, ◌∙◌, ap, List}
use Rattle.doc_model.specs.declared.item.Item.{Item}
use Rattle.doc_model.specs.declared.document.Document.{Document}
use Rattle.further_notes.specs.Sources.{note_kinds, note_texts}
use Rattle.further_notes.specs.Splices.{text_noted, sources_of}
use Rattle.further_notes.proofs.splicing.spliced_document.Goals as goal

pub returns : goal.returns
returns c =
    let form = c.args.form.now in
    let document : Document = c.args.document.now in
    let other : Document = c.args.other.now in
    let own_main : c.document.inside.main ≡ document.main = ap (λ (d : Document). d.main) c.document.view_is in
    let own_notes : c.document.inside.notes ≡ document.notes = ap (λ (d : Document). d.notes) c.document.view_is in
    let more_notes : c.other.inside.notes ≡ other.notes = ap (λ (d : Document). d.notes) c.other.view_is in
    let main : c.in_ok-main.main ≡ text_noted form.story (note_kinds other.main) document.main =
    c.in_ok-main.ensures ∙ (λ i. text_noted form.story (c.requires.others i) (own_main i)) in
    let notes : c.in_ok-notes.notes ≡ note_texts form document.notes other.notes (sources_of document other) =
    c.in_ok-notes.ensures ∙ (λ i. note_texts form (own_notes i) (more_notes i) (c.requires.sources i)) in
    c.with_texts.ensures ∙ (λ i. record (c.in_ok-copy.ensures i) { main = main i; notes = notes i })
