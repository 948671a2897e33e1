use Rattle.std.proofs.Common.{◌≡◌, ◌∙◌, ℕ, List, refl, sym, ap, subst}
use Rattle.style_sheet.specs.Sheet.{Sheet}
use Rattle.doc_bits.specs.declared.places.Where.TheVariants.{Main}
use Rattle.doc_model.specs.declared.document.Document.{Document}
use Rattle.doc_model.specs.declared.item.Item.{Item}
use Rattle.plain_doc.specs.RightDocument.{HoldsAtItems}
use Rattle.plain_doc.specs.RulesOfTexts.{HasParagraphStyle}
use Rattle.doc_columns.specs.Walks.{items_in}
use Rattle.doc_view.proofs.Public.{sound_normal, sound_styles, no_references}
use Rattle.symbol_fonts.specs.declared.fonts.SymbolFonts.{SymbolFonts}
use Rattle.doc_view.specs.declared.reading.Manner.{Manner}
use Rattle.doc_view.specs.declared.reading.TextKind.TheVariants as text_kind
use Rattle.doc_view.specs.Page.{AreFormats}
use Rattle.doc_view.specs.Seen.{paragraphs_of}
use Rattle.doc_html.specs.Head.{title_in}
use Rattle.doc_html.proofs.title.title_of.Goals as goal

pub title_in-requires-clause-normal : goal.title_in-requires-clause-normal
title_in-requires-clause-normal c =
    sound_normal c.args.document.now c.args.formats.now c.requires.sound c.requires.formats

pub title_in-requires-clause-styles : goal.title_in-requires-clause-styles
title_in-requires-clause-styles c =
    let document = c.args.document.now in
    let sheet = c.args.formats.now in
    let same : items_in c.parts.result ≡ document.main =
    c.parts.ensures.items ∙ ap (λ (d : Document). d.main) c.document.view_is in
    subst (λ (text : List Item). HoldsAtItems text (λ i item. HasParagraphStyle sheet item)) (sym same)
    (sound_styles document sheet Main document.main c.requires.sound c.requires.formats refl)

pub title_in-requires-clause-room : goal.title_in-requires-clause-room
title_in-requires-clause-room c = no_references c.args.options.hidden c.fonts_of.result (items_in c.parts.result)

pub returns : goal.returns
returns c = λ all are.
    let document = c.args.document.now in
    let right : AreFormats c.args.formats.now all =
    subst (λ (s : Sheet). AreFormats s all) (sym c.requires.formats) are in
    let same : items_in c.parts.result ≡ document.main =
    c.parts.ensures.items ∙ ap (λ (d : Document). d.main) c.document.view_is in
    let manner : SymbolFonts → Manner = λ fonts.
    record { hidden = c.args.options.hidden; kind = text_kind.Header; fonts = fonts } in
    c.in_ok-title.ensures all right ∙ (λ i. title_in (paragraphs_of all (manner (c.fonts_of.ensures i)) (same i)))
