use Rattle.std.proofs.Common.{◌≡◌, ◌+◌, ◌∷◌, ◌++◌, [], ◌≤◌, List, Option, ℕ, arith, subst, sym, ap, true, ◌∙◌, length, take}
use Rattle.std.proofs.lemmas.Option.{same_Some}
use Rattle.doc_columns.specs.Walks.{items_in}
use Rattle.document_bookmarks.specs.declared.bookmark_order.Bookmark.{Bookmark}
use Rattle.doc_model.specs.declared.item.Item.{Item}
use Rattle.plain_doc.specs.RightDocument.{HoldsAtItems}
use Rattle.plain_doc.specs.RulesOfTexts.{HasParagraphStyle}
use Rattle.view_places.specs.declared.element.Element.{Element}
use Rattle.doc_view.specs.declared.reading.Manner.{Manner}
use Rattle.list_numbers.specs.declared.paragraph_values.ParagraphValues.{ParagraphValues}
use Rattle.doc_view.specs.Seen.{Paragraph, paragraphs_of, with_values}
use Rattle.doc_view.proofs.Public.{no_values, none_met}
use Rattle.doc_places.specs.declared.cells.TableCells.{TableCells}
use Rattle.doc_places.specs.Places.{hypertext_of, no_cells, note_path, text_places}
use Rattle.form_page.specs.Forms.{PutsPlaces}
use Rattle.doc_html.proofs.NoteLemmas.{is_hidden, is_not_hidden, note_hidden, note_shown}
use Rattle.doc_view.specs.declared.reading.TextKind.TheVariants as text_kind
use Rattle.doc_html.proofs.notes.Notes.write_note.Goals as goal

pub write_text-requires-clause-room : goal.write_text-requires-clause-room
write_text-requires-clause-room g c =
    let none = none_met c.args.self.now.hidden c.args.self.now.fonts (items_in c.parts.result) in omega (arith, none)

pub write_text-requires-clause-styles : goal.write_text-requires-clause-styles
write_text-requires-clause-styles g c =
    subst (λ (items : List Item). HoldsAtItems items (λ i item. HasParagraphStyle c.args.self.now.formats.now item)) (sym
    c.parts.ensures.items) (c.requires.styles c.args.k c.get.result.now c.get.ensures)

pub write_text-requires-clause-depth : goal.write_text-requires-clause-depth
write_text-requires-clause-depth g c =
    subst (λ (path : List Element). length path + 21 ≤ 24) (sym c.open_note.ensures.path) (omega arith)

pub returns-then-not-reference-clause-puts : goal.returns-then-not-reference-clause-puts
returns-then-not-reference-clause-puts g c = λ formats note are there.
    note_hidden g.K.Sink c.args.out.now c.args.writer.now.page formats (record {
      hidden = c.args.self.now.hidden;
      kind = text_kind.Note;
      fonts = c.args.self.now.fonts;
    }) (c.args.k + 1) c.args.reference note (is_hidden c.args.reference.is_shown c.if-not-reference.true)

pub returns-clause-puts : goal.returns-clause-puts
returns-clause-puts g c = λ formats note are there.
    let manner : Manner = record { hidden = c.args.self.now.hidden; kind = text_kind.Note; fonts = c.args.self.now.fonts } in
    let text = c.write_text in
    let label = c.open_note in
    let plain : (all : List Paragraph) → with_values c.new-values.result all ≡ all = λ all.
    ap (λ (values : List ParagraphValues). with_values values all) c.new-values.ensures ∙ no_values all in
    let same : items_in c.parts.result ≡ note = c.parts.ensures.items ∙ same_Some c.get.result.now note
    (sym c.get.ensures ∙ there) in
    note_shown g.K.Sink c.args.out.now label.new.out text.new.out c.args.writer.now.page label.new.writer.page
    text.new.writer.page formats manner (c.args.k + 1) c.args.reference note (is_not_hidden c.args.reference.is_shown c.if-not-reference.false) label.ensures.puts
    (subst (λ (items : List Item). PutsPlaces g.K.Sink label.new.out label.new.writer.page text.new.out
    text.new.writer.page
    (text_places (hypertext_of [] (c.args.k + 1) items no_cells) (note_path (c.args.k + 1)) (paragraphs_of formats manner items))) same
    (subst (λ (path : List Element). PutsPlaces g.K.Sink label.new.out label.new.writer.page text.new.out
    text.new.writer.page
    (text_places (hypertext_of [] (c.args.k + 1) (items_in c.parts.result) no_cells) path (paragraphs_of formats manner (items_in
    c.parts.result)))) label.ensures.path (subst (λ (bookmarks : List Bookmark). PutsPlaces g.K.Sink label.new.out
    label.new.writer.page text.new.out text.new.writer.page (text_places (hypertext_of bookmarks (c.args.k + 1)
    (items_in c.parts.result) no_cells) label.new.writer.path (paragraphs_of formats manner (items_in c.parts.result))))
    c.new-bookmarks.ensures (subst (λ (cells : TableCells). PutsPlaces g.K.Sink label.new.out
    label.new.writer.page text.new.out text.new.writer.page (text_places (hypertext_of c.new-bookmarks.result (c.args.k +
    1) (items_in c.parts.result) cells) label.new.writer.path (paragraphs_of formats manner (items_in c.parts.result))))
    c.new-cells.ensures (subst (λ (all : List Paragraph). PutsPlaces g.K.Sink label.new.out label.new.writer.page
    text.new.out text.new.writer.page (text_places (hypertext_of c.new-bookmarks.result (c.args.k + 1) (items_in
    c.parts.result) c.new-cells.result) label.new.writer.path all)) (plain (paragraphs_of formats manner (items_in
    c.parts.result))) (text.ensures.puts formats are))))))
