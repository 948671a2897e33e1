-- A document has one page.
use Rattle.std.proofs.Common.{◌≡◌, ◌∙◌, ℕ, Bool, true, false, List, sym, ap, refl}
use Rattle.std.specs.Prelude.{encode_utf8_all, ◌==◌}
use Rattle.prop_map.specs.Settings.{Properties}
use Rattle.style_sheet.specs.Sheet.{Sheet}
use Rattle.style_sheet.specs.Chain.{style_kind_at}
use Rattle.char_formats.proofs.Public.{format_one}
use Rattle.list_numbers.specs.declared.paragraph_values.ParagraphValues.{ParagraphValues}
use Rattle.list_numbers.proofs.Public.{paragraph_values_of_one}
use Rattle.doc_view.specs.Laws.{PageIsOne}
use Rattle.doc_view.specs.Page.{AreFormats, page_text}
use Rattle.doc_view.specs.Seen.{Formats}
use Rattle.doc_view.proofs.PageLemmas.{is_one, is_other}

same_by : (sheet : Sheet) (one other : Formats) → AreFormats sheet one → AreFormats sheet other → (istd : ℕ)
    (direct : Properties) (is_paragraph : Bool) → (style_kind_at sheet istd == 1) ≡ is_paragraph →
    one istd direct ≡ other istd direct
same_by sheet one other a b istd direct true is =
    let kind = is_one (style_kind_at sheet istd) is in
    format_one sheet istd direct (one istd direct) (other istd direct) (a.right istd direct kind)
    (b.right istd direct kind)
same_by sheet one other a b istd direct false is =
    let kind = is_other (style_kind_at sheet istd) is in a.none istd direct kind ∙ sym (b.none istd direct kind)

-- a sheet has one list of formats
pub same_formats : (sheet : Sheet) (one other : Formats) → AreFormats sheet one → AreFormats sheet other → one ≡ other
same_formats sheet one other a b = λ i istd direct. same_by sheet one other a b istd direct (style_kind_at sheet istd ==
    1) refl i

pub pages_one : PageIsOne
pages_one options document one other a b =
    a.text
    ∙ ap (λ (formats : Formats). encode_utf8_all (page_text formats a.values options document))
    (same_formats document.sheet a.formats b.formats a.are b.are)
    ∙ ap (λ (values : List ParagraphValues). encode_utf8_all (page_text b.formats values options document))
    (paragraph_values_of_one document a.values b.values a.are_values b.are_values)
    ∙ sym b.text
