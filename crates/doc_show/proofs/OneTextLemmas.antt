-- An item of a document has one text of property lines.
use Rattle.std.proofs.Common.{◌≡◌, ◌∙◌, ap, sym, subst, ℕ, List, ◌++◌, arith}
use Rattle.std.specs.List.{slice_get}
use Rattle.std.proofs.lemmas.Option.{same_Some}
use Rattle.effective_props.specs.Effective.{IsEffectiveCharacter, IsEffectiveParagraph}
use Rattle.effective_props.proofs.Public.{character_one, paragraph_one}
use Rattle.doc_model.specs.declared.item.Item.{Item}
use Rattle.doc_model.specs.declared.item.Mark.{Mark}
use Rattle.doc_show.specs.Properties.{IsMarkFrom, item_lines, mark_lines}
use Rattle.doc_show.specs.Laws.{PropertyLinesAreOne}

-- a paragraph has one mark
mark_one : (items : List Item) (from : ℕ) (one other : Mark) → IsMarkFrom items from one →
    IsMarkFrom items from other → one ≡ other
mark_one items from one other x y =
    let up = x.is_end.least y.end y.is_end.after y.is_end.ends in
    let down = y.is_end.least x.end x.is_end.after x.is_end.ends in
    let end : x.end ≡ y.end = omega arith in
    let item : x.item ≡ y.item = same_Some x.item y.item (sym x.there ∙ (ap (slice_get items) end ∙ y.there)) in
    same_Some one other (sym x.has ∙ (ap (λ i. i.mark) item ∙ y.has))

pub lines_one : PropertyLinesAreOne
lines_one document pos one other x y =
    let f = x.found in
    let g = y.found in
    let sheet = document.sheet in
    let item : f.item ≡ g.item = same_Some f.item g.item (sym x.are.item ∙ y.are.item) in
    let mark : f.mark ≡ g.mark = mark_one document.main pos f.mark g.mark x.are.mark y.are.mark in
    let characters : f.characters ≡ g.characters =
    character_one sheet g.mark.istd g.item.chp f.characters g.characters
    (subst (λ i. IsEffectiveCharacter sheet g.mark.istd i.chp f.characters) item
    (subst (λ m. IsEffectiveCharacter sheet m.istd f.item.chp f.characters) mark x.are.characters))
    y.are.characters in
    let paragraph : f.paragraph ≡ g.paragraph =
    paragraph_one sheet g.mark.istd g.mark.pap f.paragraph g.paragraph
    (subst (λ m. IsEffectiveParagraph sheet m.istd m.pap f.paragraph) mark x.are.paragraph)
    y.are.paragraph in
    x.lines
    ∙ (ap (λ i. item_lines i f.mark.istd f.characters ++ mark_lines f.mark f.paragraph) item
    ∙ (ap (λ m. item_lines g.item m.istd f.characters ++ mark_lines m f.paragraph) mark
    ∙ (ap (λ c. item_lines g.item g.mark.istd c ++ mark_lines g.mark f.paragraph) characters
    ∙ (ap (λ p. item_lines g.item g.mark.istd g.characters ++ mark_lines g.mark p) paragraph
    ∙ sym y.lines))))
