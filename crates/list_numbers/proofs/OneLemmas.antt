-- A document has one list of numbers, one text of lines, and one list of values of its paragraphs.
use Rattle.std.proofs.Common.{◌≡◌, ◌<◌, List, ◌∷◌, [], ◌++◌, length, sym, ap, ◌∙◌, subst}
use Rattle.std.specs.Prelude.{get_or}
use Rattle.std.proofs.lemmas.List.{same_lists}
use Rattle.std.proofs.lemmas.Option.{same_Some, slice_get-get_or}
use Rattle.style_sheet.proofs.Public.{base_chains_agree}
use Rattle.style_sheet.specs.Sheet.{Sheet}
use Rattle.effective_props.specs.Layers.{paragraph_properties, properties_of_styles}
use Rattle.doc_model.specs.declared.item.Item.{Item}
use Rattle.doc_model.specs.declared.item.Mark.{Mark}
use Rattle.doc_model.specs.declared.document.Document.{Document}
use Rattle.list_numbers.specs.declared.mark_values.MarkValues.{MarkValues}
use Rattle.list_numbers.specs.MarkValues.{AreMarkValues, mark_values_in}
use Rattle.list_numbers.specs.Places.{AreParagraphValues}
use Rattle.list_numbers.specs.Numbers.{AreDocumentValues, numbers_of}
use Rattle.list_numbers.specs.Outline.{outline_of}
use Rattle.list_numbers.specs.Places.{paragraphs}
use Rattle.list_numbers.specs.ParagraphValues.{paragraph_values_of}
use Rattle.list_numbers.specs.Laws.{NumbersAreOne, OutlineLinesAreOne, ParagraphValuesAreOne}

-- a mark has one set of values
mark_values_one : (sheet : Sheet) (mark : Mark) (one other : MarkValues) → AreMarkValues sheet mark one →
    AreMarkValues sheet mark other → one ≡ other
mark_values_one sheet mark one other h k =
    let a = h.are.style in
    let b = k.are.style in
    let style : h.are.of_style ≡ k.are.of_style = a.are ∙ (ap (properties_of_styles paragraph_properties sheet)
    (base_chains_agree sheet mark.istd a.chain b.chain a.bases b.bases) ∙ sym b.are) in
    let layers : h.layers ≡ k.layers = h.are.are ∙ (ap (λ l. l ++ mark.pap ∷ []) style ∙ sym k.are.are) in
    h.said ∙ (ap mark_values_in layers ∙ sym k.said)

paragraph_values_one : (document : Document) (paragraph : List Item) (one other : MarkValues) →
    AreParagraphValues document paragraph one → AreParagraphValues document paragraph other → one ≡ other
paragraph_values_one document paragraph one other h k =
    let item : h.ends.item ≡ k.ends.item = same_Some h.ends.item k.ends.item (sym h.ends.last ∙ k.ends.last) in
    let mark : h.mark ≡ k.mark = same_Some h.mark k.mark (sym h.ends.has ∙ (ap (λ (i : Item). i.mark) item ∙
    k.ends.has)) in
    mark_values_one document.sheet k.mark one other (subst (λ m. AreMarkValues document.sheet m one) mark h.are) k.are

-- a document has one list of values
pub values_are_one : (document : Document) (one other : List MarkValues) → AreDocumentValues document one →
    AreDocumentValues document other → one ≡ other
values_are_one document one other a b =
    let texts = paragraphs document.main in
    let same : length one ≡ length other = a.count ∙ sym b.count in
    same_lists one other same (λ k d low.
    let here : k < length texts = subst (λ n. k < n) a.count low in
    let there : k < length other = subst (λ n. k < n) same low in
    let paragraph = get_or texts k [] in
    paragraph_values_one document paragraph (get_or one k d) (get_or other k d)
    (a.each k paragraph (get_or one k d) (slice_get-get_or texts k [] here) (slice_get-get_or one k d low))
    (b.each k paragraph (get_or other k d) (slice_get-get_or texts k [] here) (slice_get-get_or other k d there)))

pub numbers_one : NumbersAreOne
numbers_one document one other a b =
    a.made ∙ (ap (numbers_of document) (values_are_one document a.values b.values a.are b.are) ∙ sym b.made)

pub lines_one : OutlineLinesAreOne
lines_one document one other a b =
    a.lines ∙ (ap (λ vs. outline_of (paragraphs document.main) vs (numbers_of document vs)) (values_are_one document
    a.values b.values a.are b.are) ∙ sym b.lines)

pub paragraph_values_of_one : ParagraphValuesAreOne
paragraph_values_of_one document one other a b =
    a.made ∙ (ap (paragraph_values_of document) (values_are_one document a.values b.values a.are b.are) ∙ sym b.made)
