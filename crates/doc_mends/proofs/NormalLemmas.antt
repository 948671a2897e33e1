-- Marks that get style 0.
use Rattle.std.proofs.Common.{◌≡◌, ◌∙◌, ap, sym, refl, subst, ℕ, Bool, true, false}
use Rattle.std.proofs.Common.{List, [], ◌++◌, length, map, drop, arith, Option, Some, None, slice_get}
use Rattle.std.specs.Prelude.{option_map, if◌then◌else◌}
use Rattle.std.specs.Option.{ForSome, option_and_then, unwrap_or}
use Rattle.std.proofs.lemmas.List.{append-nil, drop_all}
use Rattle.std.proofs.lemmas.Option.{same_Some, slice_get_within}
use Rattle.doc_bits.specs.declared.places.Story.{Story}
use Rattle.doc_bits.specs.declared.places.Story.TheVariants.{Main}
use Rattle.prop_map.specs.Formed.{IsPropertyMap, paragraph_groups, section_groups}
use Rattle.run_lists.specs.Changed.{IsChanged}
use Rattle.style_sheet.specs.Sheet.{Sheet}
use Rattle.doc_model.specs.declared.item.Item.{Item}
use Rattle.doc_model.specs.declared.item.Mark.{Mark}
use Rattle.doc_model.specs.declared.document.Document.{Document}
use Rattle.plain_doc.specs.declared.rules_texts.Side.{Side}
use Rattle.plain_doc.specs.declared.rules_texts.Side.TheVariants.{Notes, Heads}
use Rattle.doc_columns.specs.declared.attached.Attached.{Attached}
use Rattle.doc_columns.specs.Attached.{attached_of}
use Rattle.doc_columns.specs.Columns.{item_of}
use Rattle.doc_columns.specs.Changes.{HasOtherAttached, KeepsMaps}
use Rattle.doc_patch.proofs.Public.{changed_is, whole_range}
use Rattle.doc_mends.specs.declared.mends.WrongMark.{WrongMark}
use Rattle.doc_mends.specs.Sides.{side_name}
use Rattle.doc_mends.specs.Attachments.{BecomesNormal}
use Rattle.doc_mends.specs.NormalMarks.{is_wrong_mark, normal_mark, normal_item, normal_text, with_normal_marks}
use Rattle.doc_mends.specs.NormalMarks.{wrong_mark, wrong_mark_at, text_wrong_marks, texts_wrong_marks, wrong_marks}
use Rattle.doc_bits.proofs.Public.{from_map}
use Rattle.doc_losses.proofs.Public.{none_listed, none_joined, left_nil, right_nil}
use Rattle.doc_mends.proofs.TextLemmas.{same_map}

-- ---- maps stay well formed

same_pap : (wrong : Bool) (mark : Mark) → (if◌then◌else◌ {A = Mark} wrong (record mark { istd = 0 }) mark).pap ≡
    mark.pap
same_pap true mark = refl
same_pap false mark = refl

normal_some : (sheet : Sheet) (o : Option Mark) → ForSome o (λ mark. IsPropertyMap paragraph_groups mark.pap) →
    ForSome (option_map (normal_mark sheet) o) (λ mark. IsPropertyMap paragraph_groups mark.pap)
normal_some sheet None there made is = absurd (cc is)
normal_some sheet (Some mark) there made is =
    subst (λ (m : Mark). IsPropertyMap paragraph_groups m.pap) (same_Some (normal_mark sheet mark) made is)
    (subst (IsPropertyMap paragraph_groups) (sym (same_pap (is_wrong_mark sheet mark) mark)) (there mark refl))

pub normal_kept : (sheet : Sheet) → KeepsMaps (BecomesNormal sheet)
normal_kept sheet before after maps becomes = record {
  pap =
      subst (λ (b : Attached). ForSome b.mark (λ mark. IsPropertyMap paragraph_groups mark.pap)) (sym becomes)
      (normal_some sheet before.mark maps.pap);
  sect = subst (λ (b : Attached). ForSome b.sect (IsPropertyMap section_groups)) (sym becomes) maps.sect;
}

-- ---- a text

made_item : (sheet : Sheet) (before after : Item) → HasOtherAttached (BecomesNormal sheet) before after →
    after ≡ normal_item sheet before
made_item sheet before after other =
    other.rest ∙ ap (λ (attached : Attached). item_of before.unit before.chp attached) other.attached

pub normal_made : (sheet : Sheet) (len : ℕ) (text made : List Item) → len ≡ length text →
    IsChanged (HasOtherAttached (BecomesNormal sheet)) 0 len text made → made ≡ normal_text sheet text
normal_made sheet len text made is changes =
    changed_is (HasOtherAttached (BecomesNormal sheet)) (normal_item sheet) 0 len text made changes (made_item sheet)
    ∙ (ap (λ (t : List Item). map (normal_item sheet) t ++ drop len text) (whole_range text len is)
    ∙ (ap (λ (t : List Item). map (normal_item sheet) text ++ t) (drop_all len text (omega (arith, is)))
    ∙ append-nil (map (normal_item sheet) text)))

-- ---- nothing is wrong

not_wrong : (sheet : Sheet) (story : Story) (at : ℕ) (mark : Mark) (wrong : Bool) →
    if◌then◌else◌ {A = Option WrongMark} wrong (Some (record { story = story; at = at; istd = mark.istd })) None ≡ None →
    if◌then◌else◌ {A = Mark} wrong (record mark { istd = 0 }) mark ≡ mark
not_wrong sheet story at mark true is = absurd (cc is)
not_wrong sheet story at mark false is = refl

same_mark : (sheet : Sheet) (story : Story) (at : ℕ) (o : Option Mark) →
    option_and_then (wrong_mark sheet story at) o ≡ None → option_map (normal_mark sheet) o ≡ o
same_mark sheet story at None is = refl
same_mark sheet story at (Some mark) is =
    ap (λ (m : Mark). Some m) (not_wrong sheet story at mark (is_wrong_mark sheet mark) is)

pub right_text : (sheet : Sheet) (story : Story) (text : List Item) → text_wrong_marks sheet story text ≡ [] →
    normal_text sheet text ≡ text
right_text sheet story text none =
    same_map (normal_item sheet) text (λ i item is.
    let right : wrong_mark_at sheet story text i ≡ None =
    none_listed (wrong_mark_at sheet story text) (length text) none i (slice_get_within text i item is) in
    let mark : option_and_then (wrong_mark sheet story i) item.mark ≡ None =
    sym (ap (option_and_then (λ (it : Item). option_and_then (wrong_mark sheet story i) it.mark)) is) ∙ right in
    ap (λ (m : Option Mark). record item { mark = m }) (same_mark sheet story i item.mark mark))

pub right_texts : (sheet : Sheet) (side : Side) (texts : List (List Item)) → texts_wrong_marks sheet side texts ≡ [] →
    map (normal_text sheet) texts ≡ texts
right_texts sheet side texts none =
    same_map (normal_text sheet) texts (λ i text is.
    let right : text_wrong_marks sheet (side_name side i) (unwrap_or (slice_get texts i) []) ≡ [] =
    none_joined (λ (number : ℕ). text_wrong_marks sheet (side_name side number) (unwrap_or (slice_get texts number)
    [])) (length texts) none i (slice_get_within texts i text is) in
    right_text sheet (side_name side i) text
    (sym (ap (λ (o : Option (List Item)). text_wrong_marks sheet (side_name side i) (unwrap_or o [])) is) ∙ right))

pub right_document : (document : Document) → wrong_marks document ≡ [] → with_normal_marks document ≡ document
right_document document none =
    let sheet = document.sheet in
    let main : List WrongMark = text_wrong_marks sheet Main document.main in
    let notes : List WrongMark = texts_wrong_marks sheet Notes document.notes in
    let heads : List WrongMark = texts_wrong_marks sheet Heads document.heads in
    let behind : notes ++ heads ≡ [] = right_nil main (notes ++ heads) none in
    ap (λ (t : List Item). record document {
      main = t;
      notes = map (normal_text sheet) document.notes;
      heads = map (normal_text sheet) document.heads;
    }) (right_text sheet Main document.main (left_nil main (notes ++ heads) none))
    ∙ (ap (λ (t : List (List Item)). record document { notes = t; heads = map (normal_text sheet) document.heads })
    (right_texts sheet Notes document.notes (left_nil notes heads behind))
    ∙ ap (λ (t : List (List Item)). record document { heads = t })
    (right_texts sheet Heads document.heads (right_nil notes heads behind)))

-- ---- the mark at a place

pub wrong_is : (sheet : Sheet) (story : Story) (text : List Item) (at : ℕ) (attached : Attached) →
    slice_get (map attached_of text) at ≡ Some attached →
    wrong_mark_at sheet story text at ≡ option_and_then (wrong_mark sheet story at) attached.mark
wrong_is sheet story text at attached there =
    let item = from_map attached_of text at attached there in
    ap (option_and_then (λ (it : Item). option_and_then (wrong_mark sheet story at) it.mark)) item.1.0
    ∙ ap (λ (b : Attached). option_and_then (wrong_mark sheet story at) b.mark) item.1.1
