-- Each main paragraph of a sound document has values in effect.
use Rattle.std.proofs.Common.{◌≡◌, inl, inr, ℕ, zero, suc, ◌-◌, ◌<◌, Bool, true, false, not, if◌then◌else◌, List, []}
use Rattle.std.proofs.Common.{◌∷◌, ◌++◌, length, Option, Some, None, refl, sym, ap, ◌∙◌, subst, arith}
use Rattle.std.specs.Prelude.{slice_get, is_some, IsSome}
use Rattle.std.specs.List.{AllByRecursion}
use Rattle.std.specs.Option.{ForSome}
use Rattle.std.proofs.lemmas.Bool.{cases_Bool}
use Rattle.std.proofs.lemmas.Option.{same_Some, none-some}
use Rattle.style_sheet.specs.Sheet.{Sheet}
use Rattle.style_sheet.specs.Chain.{style_kind_at, HasSoundBases}
use Rattle.effective_props.specs.Layers.{paragraph_properties, properties_of_styles}
use Rattle.doc_model.specs.declared.item.Item.{Item}
use Rattle.doc_model.specs.declared.item.Mark.{Mark}
use Rattle.doc_model.specs.declared.document.Document.{Document}
use Rattle.plain_doc.specs.RightDocument.{HoldsAtItems}
use Rattle.plain_doc.specs.RulesOfTexts.{HasParagraphStyle}
use Rattle.doc_model.specs.Settings.{is_inside}
use Rattle.plain_doc.specs.Sound.{IsSound}
use Rattle.doc_model.specs.Stretches.{stretch_from, stretches}
use Rattle.doc_model.proofs.Public.{Leads, leads}
use Rattle.plain_doc.proofs.Public.{sound_is_valid, main_right, main_ends, last_marked}
use Rattle.list_numbers.specs.declared.mark_values.MarkValues.{MarkValues}
use Rattle.list_numbers.specs.MarkValues.{AreMarkValues, mark_values_in}
use Rattle.list_numbers.specs.Places.{paragraphs, IsEndedByMark, AreParagraphValues}
use Rattle.list_numbers.specs.Numbers.{AreDocumentValues, numbers_of}
use Rattle.list_numbers.specs.Outline.{outline_of}
use Rattle.list_numbers.specs.ParagraphValues.{paragraph_values_of}
use Rattle.list_numbers.specs.Laws.{NumbersExist, OutlineLinesExist, ParagraphValuesExist}

-- ---- a paragraph ends with a mark, whose style is one of paragraphs

pub record HasParagraphMark (sheet : Sheet) (paragraph : List Item) : Type 0 where
  pub mark : Mark
  pub ends : IsEndedByMark paragraph mark
  pub style : style_kind_at sheet mark.istd ≡ 1

alone_with : (sheet : Sheet) (item : Item) (mark : Option Mark) → item.mark ≡ mark → IsSome mark →
    ForSome mark (λ own. style_kind_at sheet own.istd ≡ 1) → HasParagraphMark sheet (item ∷ [])
alone_with sheet item None is some style = absurd (cc some)
alone_with sheet item (Some mark) is some style = record {
  mark = mark;
  ends = record { item = item; last = refl; has = is };
  style = style mark refl;
}

alone : (sheet : Sheet) (item : Item) → is_some item.mark ≡ true → HasParagraphStyle sheet item →
    HasParagraphMark sheet (item ∷ [])
alone sheet item some style = alone_with sheet item item.mark refl some style

longer : (sheet : Sheet) (item next : Item) (front : List Item) → HasParagraphMark sheet (next ∷ front) →
    HasParagraphMark sheet (item ∷ next ∷ front)
longer sheet item next front h =
    let here : length (next ∷ front) - 1 ≡ length front = omega arith in
    let there : length (item ∷ next ∷ front) - 1 ≡ suc (length front) = omega arith in
    record {
      mark = h.mark;
      ends = record {
        item = h.ends.item;
        last =
            ap (slice_get (item ∷ next ∷ front)) there ∙ (ap (slice_get (next ∷ front)) (sym here) ∙ h.ends.last);
        has = h.ends.has;
      };
      style = h.style;
    }

-- an item before paragraphs that have marks: a paragraph of its own, or the first item of the first of these
before : (sheet : Sheet) (item next : Item) (front : List Item) (more : List (List Item)) (own : Bool) →
    is_some item.mark ≡ own → HasParagraphStyle sheet item →
    AllByRecursion (HasParagraphMark sheet) ((next ∷ front) ∷ more) →
    AllByRecursion (HasParagraphMark sheet)
    (if not own then (item ∷ next ∷ front) ∷ more else (item ∷ []) ∷ (next ∷ front) ∷ more)
before sheet item next front more true is style rest = (alone sheet item is style, rest)
before sheet item next front more false is style rest = (longer sheet item next front rest.0, rest.1)

marked : (sheet : Sheet) (item : Item) (items : List Item) → HoldsAtItems (item ∷ items) (λ i it. HasParagraphStyle
    sheet it) → (last : Item) → slice_get (item ∷ items) (length (item ∷ items) - 1) ≡ Some last → IsSome last.mark →
    AllByRecursion (HasParagraphMark sheet) (stretches is_inside (item ∷ items))
unfolding stretches
marked sheet item [] styles last here some =
    let same : item ≡ last = same_Some item last here in
    (alone sheet item (subst (λ it. IsSome it.mark) (sym same) some) (styles 0 item refl), tt)
marked sheet item (next ∷ items) styles last here some =
    let first : length (next ∷ items) - 1 ≡ length items = omega arith in
    let second : length (item ∷ next ∷ items) - 1 ≡ suc (length items) = omega arith in
    let later : slice_get (next ∷ items) (length (next ∷ items) - 1) ≡ Some last =
    ap (slice_get (next ∷ items)) first ∙ (ap (slice_get (item ∷ next ∷ items)) (sym second) ∙ here) in
    let rest = marked sheet next items (λ i it there. styles (suc i) it there) last later some in
    let begins : Leads next (stretches is_inside (next ∷ items)) = leads is_inside next (stretches is_inside items) in
    let parts = subst (AllByRecursion (HasParagraphMark sheet)) begins.is rest in
    let made = before sheet item next begins.front begins.more (is_some item.mark) refl (styles 0 item refl) parts in
    subst (λ l. AllByRecursion (HasParagraphMark sheet) (stretch_from is_inside item l)) (sym begins.is) made

all_marked : (sheet : Sheet) (items : List Item) → HoldsAtItems items (λ i it. HasParagraphStyle sheet it) →
    (last : Item) → slice_get items (length items - 1) ≡ Some last → IsSome last.mark →
    AllByRecursion (HasParagraphMark sheet) (paragraphs items)
unfolding stretches
all_marked sheet [] styles last here some = tt
all_marked sheet (item ∷ items) styles last here some = marked sheet item items styles last here some

-- ---- its values, and those of all paragraphs

mark_values : (sheet : Sheet) (mark : Mark) → HasSoundBases sheet → style_kind_at sheet mark.istd ≡ 1 →
    (values : MarkValues) × AreMarkValues sheet mark values
mark_values sheet mark sound kind =
    let chain = sound.chains mark.istd (omega (arith, kind)) in
    let of_style = properties_of_styles paragraph_properties sheet chain.0 in (
      mark_values_in (of_style ++ mark.pap ∷ []),
      record {
        layers = of_style ++ mark.pap ∷ [];
        are = record {
          of_style = of_style;
          style = record { chain = chain.0; bases = chain.1; are = refl };
          are = refl;
        };
        said = refl;
      },
    )

-- values of some paragraphs
pub record HasValues (document : Document) (parts : List (List Item)) : Type 0 where
  pub values : List MarkValues
  pub count : length values ≡ length parts
  pub each :
      (i : ℕ) (paragraph : List Item) (own : MarkValues) → slice_get parts i ≡ Some paragraph →
      slice_get values i ≡ Some own → AreParagraphValues document paragraph own

each_more : (document : Document) (part : List Item) (first : MarkValues) (parts : List (List Item)) →
    AreParagraphValues document part first → (rest : HasValues document parts) → (i : ℕ) (paragraph : List Item)
    (own : MarkValues) → slice_get (part ∷ parts) i ≡ Some paragraph → slice_get (first ∷ rest.values) i ≡ Some own →
    AreParagraphValues document paragraph own
each_more document part first parts are rest zero paragraph own here has =
    let same : part ≡ paragraph = same_Some part paragraph here in
    let value : first ≡ own = same_Some first own has in
    subst (AreParagraphValues document paragraph) value (subst (λ p. AreParagraphValues document p first) same are)
each_more document part first parts are rest (suc i) paragraph own here has = rest.each i paragraph own here has

values_of : (document : Document) (parts : List (List Item)) → HasSoundBases document.sheet →
    AllByRecursion (HasParagraphMark document.sheet) parts → HasValues document parts
values_of document [] sound all = record {
  values = [];
  count = refl;
  each = λ i paragraph own here has. absurd (none-some paragraph here);
}
values_of document (part ∷ parts) sound all =
    let own = mark_values document.sheet all.0.mark sound all.0.style in
    let rest = values_of document parts sound all.1 in
    record {
      values = own.0 ∷ rest.values;
      count = ap suc rest.count;
      each =
          each_more document part own.0 parts (record { mark = all.0.mark; ends = all.0.ends; are = own.1 }) rest;
    }

document_values : (document : Document) → IsSound document →
    (values : List MarkValues) × AreDocumentValues document values
document_values document sound =
    let valid = sound_is_valid document sound in
    let main = main_right document valid in
    let last = main_ends document valid in
    let all = all_marked document.sheet document.main main.styles last.item last.here (last_marked document valid) in
    let made = values_of document (paragraphs document.main) valid.bases all in
    (made.values, record { count = made.count; each = made.each })

pub numbers_there : NumbersExist
numbers_there document sound =
    let made = document_values document sound in
    (numbers_of document made.0, record { values = made.0; are = made.1; made = refl })

pub lines_there : OutlineLinesExist
lines_there document sound =
    let made = document_values document sound in (
      outline_of (paragraphs document.main) made.0 (numbers_of document made.0),
      record { values = made.0; are = made.1; lines = refl },
    )

pub values_there : ParagraphValuesExist
values_there document sound =
    let made = document_values document sound in
    (paragraph_values_of document made.0, record { values = made.0; are = made.1; made = refl })
