-- The main text, and then the notes.
use Rattle.std.proofs.Common.{◌≡◌, ◌∙◌, ◌++◌, ◌+◌, ◌≤◌, [], ℕ, List, Some, sym, ap, subst, false, true, refl, length}
use Rattle.std.proofs.Common.{arith}
use Rattle.std.specs.Prelude.{slice_get}
use Rattle.style_sheet.specs.Sheet.{Sheet}
use Rattle.doc_bits.specs.declared.places.Where.TheVariants.{Main, Note}
use Rattle.doc_model.specs.declared.document.Document.{Document}
use Rattle.doc_model.specs.declared.item.Item.{Item}
use Rattle.plain_doc.specs.RightDocument.{HoldsAtItems}
use Rattle.plain_doc.specs.RulesOfTexts.{HasParagraphStyle}
use Rattle.doc_columns.specs.Walks.{items_in}
use Rattle.view_places.specs.declared.element.Element.{Element}
use Rattle.form_page.specs.Forms.{PutsPlaces}
use Rattle.form_page.specs.Forms.{Places}
use Rattle.form_page.proofs.Public.{places_then}
use Rattle.doc_view.specs.declared.reading.Manner.{Manner}
use Rattle.doc_view.specs.Kept.{KeptReferences}
use Rattle.symbol_fonts.specs.declared.fonts.SymbolFonts.{SymbolFonts}
use Rattle.doc_view.specs.Page.{AreFormats, fonts_of}
use Rattle.doc_view.specs.Seen.{Paragraph, paragraphs_of, references_of, with_values}
use Rattle.doc_view.proofs.Public.{sound_normal, sound_styles}
use Rattle.doc_places.specs.Places.{table_cells_of, hypertext_of, notes_places, text_places}
use Rattle.doc_view.specs.declared.reading.TextKind.TheVariants as text_kind
use Rattle.doc_html.proofs.view.Shown.write_places.Goals as goal

pub write_text-references-requires-clause-normal : goal.write_text-references-requires-clause-normal
write_text-references-requires-clause-normal g c =
    sound_normal c.args.self.now.source.document.now c.args.self.now.formats.now c.requires.sound c.requires.formats

pub write_text-references-requires-clause-styles : goal.write_text-references-requires-clause-styles
write_text-references-requires-clause-styles g c =
    let document = c.args.self.now.source.document.now in
    let sheet = c.args.self.now.formats.now in
    let same : items_in c.parts.result ≡ document.main =
    c.parts.ensures.items ∙ ap (λ (d : Document). d.main) c.document.view_is in
    subst (λ (text : List Item). HoldsAtItems text (λ i item. HasParagraphStyle sheet item)) (sym same)
    (sound_styles document sheet Main document.main c.requires.sound c.requires.formats refl)

pub write_text-references-requires-clause-depth : goal.write_text-references-requires-clause-depth
write_text-references-requires-clause-depth g c =
    subst (λ (path : List Element). length path + 21 ≤ 24) (sym c.requires.path) (omega arith)

pub write-requires-clause-normal : goal.write-requires-clause-normal
write-requires-clause-normal g c =
    sound_normal c.args.self.now.source.document.now c.args.self.now.formats.now c.requires.sound c.requires.formats

pub write-requires-clause-styles : goal.write-requires-clause-styles
write-requires-clause-styles g c = λ k note there.
    let document = c.args.self.now.source.document.now in
    let sheet = c.args.self.now.formats.now in
    let same : c.document.inside.notes ≡ document.notes = ap (λ (d : Document). d.notes) c.document.view_is in
    sound_styles document sheet (Note k) note c.requires.sound c.requires.formats
    (subst (λ (notes : List (List Item)). slice_get notes k ≡ Some note) same there)

pub returns : goal.returns
returns g c = λ formats are.
    let document = c.args.self.now.source.document.now in
    let right : AreFormats c.args.self.now.formats.now formats =
    subst (λ (s : Sheet). AreFormats s formats) (sym c.requires.formats) are in
    let main_manner : SymbolFonts → Manner = λ fonts.
    record { hidden = c.args.self.now.options.hidden; kind = text_kind.Main; fonts = fonts } in
    let note_manner : SymbolFonts → Manner = λ fonts.
    record { hidden = c.args.self.now.options.hidden; kind = text_kind.Note; fonts = fonts } in
    let fonts = fonts_of document in
    let known : c.fonts_of-fonts.result ≡ fonts = c.fonts_of-fonts.ensures in
    let main = c.write_text-references in
    let same : items_in c.parts.result ≡ document.main =
    c.parts.ensures.items ∙ ap (λ (d : Document). d.main) c.document.view_is in
    let same_notes : c.document.inside.notes ≡ document.notes = ap (λ (d : Document). d.notes) c.document.view_is in
    let same_bookmarks : c.document.inside.bookmarks ≡ document.bookmarks = ap (λ (d : Document). d.bookmarks)
    c.document.view_is in
    let values = c.args.self.now.values.now in
    let all : SymbolFonts → List Item → List Paragraph = λ fonts items.
    with_values values (paragraphs_of formats (main_manner fonts) items) in
    let met : main.result.list ≡ references_of (all fonts document.main) =
    main.ensures.references formats right
    ∙ ap (λ (r : KeptReferences). r.list ++ references_of (all c.fonts_of-fonts.result (items_in c.parts.result)))
    c.requires.references
    ∙ (λ i. references_of (all (known i) (same i))) in
    let before = c.args.writer.now.page in
    let hypertext = hypertext_of document.bookmarks 0 document.main (table_cells_of document.bookmarks values
    document.main) in
    let text : PutsPlaces g.K.Sink c.args.out.now before main.new.out main.new.writer.page (text_places hypertext [] (all
    fonts document.main)) =
    subst (λ (places : Places). PutsPlaces g.K.Sink c.args.out.now before main.new.out main.new.writer.page places) (λ
    i. text_places (hypertext_of (same_bookmarks i) 0 (same i) (c.requires.cells i)) (c.requires.path i) (all (known i) (same i)))
    (main.ensures.puts formats right) in
    let notes : PutsPlaces g.K.Sink main.new.out main.new.writer.page c.write.new.out c.write.new.writer.page
    (notes_places formats (note_manner fonts) 1 (references_of (all fonts document.main)) document.notes) =
    subst (λ (places : Places). PutsPlaces g.K.Sink main.new.out main.new.writer.page c.write.new.out
    c.write.new.writer.page
    places) (λ i. notes_places formats (note_manner (known i)) 1 (met i) (same_notes i)) (c.write.ensures.puts formats right) in
    places_then g.K.Sink c.args.out.now main.new.out c.write.new.out before main.new.writer.page c.write.new.writer.page
    (text_places hypertext [] (all fonts document.main)) (notes_places formats (note_manner fonts) 1 (references_of
    (all fonts document.main)) document.notes) text notes
