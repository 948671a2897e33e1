use Rattle.std.proofs.Common.{◌≡◌, ◌∙◌, ◌+◌, ◌==◌, Bool, not, ◌&&◌, Option}
use Rattle.std.specs.Prelude.{is_some}
use Rattle.text_codes.specs.Paragraph.{cell_mark}
use Rattle.plain_doc.specs.Rows.{is_byte_one, mark_value_in}
use Rattle.doc_columns.specs.Columns.{item_of}
use Rattle.view_places.specs.declared.glyph.Glyph.{Glyph}
use Rattle.doc_view.specs.Glyphs.{visible_glyph}
use Rattle.doc_view.specs.Seen.{counts, is_shown, reference_kind, reference_of, visible}
use Rattle.doc_view.proofs.reading.see.Goals as goal

pub returns : goal.returns
returns c = λ chp.
    let manner = c.args.manner in
    let format = c.args.format.now in
    let item = item_of c.args.unit chp c.args.attached.now in
    let number = c.args.front.numbered + 1 in
    let kind : c.reference_kind-kind.result ≡ reference_kind manner item.note = c.reference_kind-kind.ensures in
    let section : c.is_some.result ≡ is_some item.sect = c.is_some.ensures in
    let shown : c.is_shown-shown.result ≡ is_shown manner format c.args.front item = c.is_shown-shown.ensures chp in
    let row : Bool = c.args.unit == cell_mark && is_byte_one (mark_value_in item.mark 0x2417) in
    let text : c.is_text-text.result ≡ (is_shown manner format c.args.front item && not row) =
    c.is_text-text.ensures ∙ (λ i. shown i && not row) in
    let drawn : c.glyph_of-drawn.result ≡ visible_glyph manner.fonts format (is_some item.sect) c.args.unit =
    c.glyph_of-drawn.ensures ∙ (λ i. visible_glyph manner.fonts format (section i) c.args.unit) in
    let glyph : c.visible-glyph.result
    ≡ visible (reference_kind manner item.note) number (visible_glyph manner.fonts format (is_some item.sect)
    c.args.unit) =
    c.visible-glyph.ensures ∙ (λ i. visible (kind i) number (drawn i)) in
    let seen : c.is_seen.result
    ≡ (counts manner.kind (visible (reference_kind manner item.note) number (visible_glyph manner.fonts format (is_some
    item.sect) c.args.unit)) && (is_shown manner format c.args.front item && not row)) =
    c.is_seen.ensures ∙ (λ i. counts manner.kind (glyph i) && text i) in
    let reference : c.reference_of.result
    ≡ reference_of (reference_kind manner item.note) number (is_shown manner format c.args.front item) =
    c.reference_of.ensures ∙ (λ i. reference_of (kind i) number (shown i)) in
    λ i. record { is_shown = seen i; glyph = glyph i; reference = reference i; format = format }
