-- The main text, the notes, and then the header texts.
use Rattle.std.proofs.Common.{◌≡◌, ◌∙◌, ◌++◌, [], ℕ, List, Some, sym, ap, subst, false, refl}
use Rattle.std.specs.Prelude.{slice_get}
use Rattle.style_sheet.specs.Sheet.{Sheet}
use Rattle.doc_bits.specs.declared.places.Where.TheVariants.{Main, Note}
use Rattle.doc_model.specs.declared.document.Document.{Document}
use Rattle.doc_model.specs.declared.item.Item.{Item}
use Rattle.plain_doc.specs.RightDocument.{HoldsAtItems}
use Rattle.plain_doc.specs.RulesOfTexts.{HasParagraphStyle}
use Rattle.doc_columns.specs.Walks.{items_in}
use Rattle.doc_view.specs.declared.reading.Manner.{Manner}
use Rattle.doc_view.specs.Kept.{KeptReferences}
use Rattle.doc_view.specs.Layout.{layout_of}
use Rattle.doc_view.specs.Lines.{lead_text}
use Rattle.doc_view.specs.Notes.{notes_from}
use Rattle.symbol_fonts.specs.declared.fonts.SymbolFonts.{SymbolFonts}
use Rattle.doc_view.specs.Page.{AreFormats, fonts_of, headers_text}
use Rattle.page_out.specs.Printed.{Prints}
use Rattle.doc_view.specs.Seen.{Paragraph, paragraphs_of, references_of, with_values}
use Rattle.doc_view.proofs.PageLemmas.{sound_normal, sound_styles}
use Rattle.page_out.proofs.Public.{three_put}
use Rattle.doc_view.specs.declared.reading.TextKind.TheVariants as text_kind
use Rattle.doc_view.proofs.view.Shown.push.Goals as goal

pub push-references-requires-clause-normal : goal.push-references-requires-clause-normal
push-references-requires-clause-normal g c =
    sound_normal c.args.self.now.document.now c.args.self.now.formats.now c.requires.sound c.requires.formats

pub push-references-requires-clause-styles : goal.push-references-requires-clause-styles
push-references-requires-clause-styles g c =
    let document = c.args.self.now.document.now in
    let sheet = c.args.self.now.formats.now in
    let same : items_in c.parts.result ≡ document.main =
    c.parts.ensures.items ∙ ap (λ (d : Document). d.main) c.document.view_is in
    subst (λ (text : List Item). HoldsAtItems text (λ i item. HasParagraphStyle sheet item)) (sym same)
    (sound_styles document sheet Main document.main c.requires.sound c.requires.formats refl)

pub push-requires-clause-normal : goal.push-requires-clause-normal
push-requires-clause-normal g c =
    sound_normal c.args.self.now.document.now c.args.self.now.formats.now c.requires.sound c.requires.formats

pub push-requires-clause-styles : goal.push-requires-clause-styles
push-requires-clause-styles g c = λ k note there.
    let document = c.args.self.now.document.now in
    let sheet = c.args.self.now.formats.now in
    let same : c.document.inside.notes ≡ document.notes = ap (λ (d : Document). d.notes) c.document.view_is in
    sound_styles document sheet (Note k) note c.requires.sound c.requires.formats
    (subst (λ (notes : List (List Item)). slice_get notes k ≡ Some note) same there)

pub returns : goal.returns
returns g c = λ formats are.
    let document = c.args.self.now.document.now in
    let right : AreFormats c.args.self.now.formats.now formats =
    subst (λ (s : Sheet). AreFormats s formats) (sym c.requires.formats) are in
    let main_manner : SymbolFonts → Manner = λ fonts.
    record { hidden = c.args.self.now.options.hidden; kind = text_kind.Main; fonts = fonts } in
    let note_manner : SymbolFonts → Manner = λ fonts.
    record { hidden = c.args.self.now.options.hidden; kind = text_kind.Note; fonts = fonts } in
    let fonts = fonts_of document in
    let known : c.fonts_of-fonts.result ≡ fonts = c.fonts_of-fonts.ensures in
    let same : items_in c.parts.result ≡ document.main =
    c.parts.ensures.items ∙ ap (λ (d : Document). d.main) c.document.view_is in
    let same_notes : c.document.inside.notes ≡ document.notes = ap (λ (d : Document). d.notes) c.document.view_is in
    let values = c.args.self.now.values.now in
    let paragraphs : SymbolFonts → List Item → List Paragraph = λ fonts items.
    with_values values (paragraphs_of formats (main_manner fonts) items) in
    let met : c.push-references.result.0.list ≡ references_of (paragraphs fonts document.main) =
    c.push-references.ensures.references formats right
    ∙ ap (λ (r : KeptReferences). r.list ++ references_of (paragraphs c.fonts_of-fonts.result (items_in c.parts.result)))
    c.requires.references
    ∙ (λ i. references_of (paragraphs (known i) (same i))) in
    let text = layout_of [] (paragraphs fonts document.main) in
    let notes = notes_from formats (note_manner fonts) false (references_of (paragraphs fonts document.main))
    document.notes in
    let headers = headers_text formats c.args.self.now.options document in
    three_put g.K.Sink c.args.out.now c.push-references.new.out c.push.new.out c.push_headers.new.out c.args.page.now
    c.push-references.new.page c.push.new.page c.push_headers.new.page text notes headers
    (subst (λ (text : List ℕ). Prints g.K.Sink c.args.out.now c.args.page.now c.push-references.new.out
    c.push-references.new.page text)
    (λ i. layout_of (lead_text (c.none.ensures i)) (paragraphs (known i) (same i)))
    (c.push-references.ensures.text formats right))
    (subst (λ (text : List ℕ). Prints g.K.Sink c.push-references.new.out c.push-references.new.page c.push.new.out
    c.push.new.page text)
    (λ i. notes_from formats (note_manner (known i)) false (met i) (same_notes i)) (c.push.ensures formats right))
    (c.push_headers.ensures formats are)
