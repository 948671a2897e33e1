-- The main text of what is generated: its items and its section stay such by each edit.
use Rattle.std.proofs.Common.{◌≡◌, ◌∙◌, ◌⊎◌, refl, sym, ap, subst, inl, inr, ℕ, zero, suc, ◌+◌, ◌-◌, ◌<◌, ◌≤◌, ◌^◌}
use Rattle.std.proofs.Common.{Bool, true, not, List, [], ◌∷◌, ◌++◌, length, take, drop, map, replicate, Option}
use Rattle.std.proofs.Common.{Some, None, codes, arith, length-append}
use Rattle.std.specs.Prelude.{slice_range}
use Rattle.std.specs.List.{All, splice, list_all}
use Rattle.std.specs.Option.{option_map, option_and_then, ForSome}
use Rattle.std.specs.FinMap.{empty}
use Rattle.std.specs.Fmt.{decimal}
use Rattle.std.proofs.Math.Dec.{ltb}
use Rattle.std.proofs.lemmas.Bool.{ltb-true}
use Rattle.std.proofs.lemmas.Fmt.{decimal-digits_of}
use Rattle.std.proofs.lemmas.Int.Digits.{all_below_base_digits_of}
use Rattle.std.specs.Int.Digits.{digits_of}
use Rattle.std.proofs.lemmas.List.{take-append-drop, map-append, take-map, drop-map, append_assoc}
use Rattle.std.proofs.lemmas.List.{replicate-append-replicate, length-map, length-replicate}
use Rattle.std.proofs.lemmas.List.Elements.{All-append, All-take, All-drop, All-map, All-head, All-tail}
use Rattle.std.proofs.lemmas.List.Elements.{All-from_recursion}
use Rattle.std.proofs.lemmas.List.Folds.{drop_split}
use Rattle.std.proofs.lemmas.List.Sums.{AllPass-from_list_all}
use Rattle.std.proofs.lemmas.Option.{same_Some, slice_get_cases, none-some}
use Rattle.doc_bits.proofs.Public.{All_at}
use Rattle.text_codes.specs.Paragraph.{paragraph_mark}
use Rattle.prop_map.specs.Settings.{Properties}
use Rattle.prop_map.specs.declared.modifiers.Modifier.{Modifier}
use Rattle.prop_map.specs.Modifiers.{mark_style}
use Rattle.prop_map.specs.Overlay.{modified_paragraph}
use Rattle.prop_map.proofs.Public.{empty-overlay}
use Rattle.doc_model.specs.declared.item.Item.{Item}
use Rattle.doc_model.specs.declared.item.Mark.{Mark}
use Rattle.edit_ops.specs.Fresh.{unit_item, unit_items, is_row_code, split_mark, mark_item}
use Rattle.doc_patch.specs.Places.{mark_place, paragraph_mark_at}
use Rattle.doc_patch.specs.Changes.{map_range, modified_item, modified_mark}
use Rattle.edit_ops.specs.Edits.{property_characters, naming_style}
use Rattle.edit_generator.specs.Generated.{line_text}
use Rattle.edit_generator.specs.GeneratedDocuments.{bold, IsBoldOrNone, IsPrinted, IsLetter, IsPlainMark}
use Rattle.edit_generator.specs.GeneratedDocuments.{IsGeneratedItem}
use Rattle.edit_generator.specs.GeneratedDocuments.{IsGeneratedText}
use Rattle.edit_generator.proofs.BoldLemmas.{kept_by, none_kept, set_bold}

-- ---- the line that an insertion puts

abbrev printed_all : List ℕ → Bool
printed_all text = list_all (λ unit. ltb unit 0x80) text

abbrev high_all : List ℕ → Bool
high_all text = list_all (λ unit. ltb 0x1F unit) text

-- units that a test finds to be such
are_printed : (text : List ℕ) → printed_all text ≡ true → high_all text ≡ true → All IsPrinted text
are_printed text below above k d within =
    let high = ltb-true _ _ (AllPass-from_list_all (λ unit. ltb unit 0x80) text below k d within) in
    let low = ltb-true _ _ (AllPass-from_list_all (λ unit. ltb 0x1F unit) text above k d within) in
    record { low = omega (arith, low); high = omega (arith, high) }

digits_printed : (edit : ℕ) → 0 < edit → edit < 2 ^ 64 → All IsPrinted (decimal edit)
digits_printed edit some few =
    let below : All (λ digit. digit < 10) (digits_of 10 edit) =
    All-from_recursion (λ digit. digit < 10) (digits_of 10 edit) (all_below_base_digits_of 10 edit (omega arith)) in
    subst (All IsPrinted) (sym (decimal-digits_of edit some few))
    (All-map IsPrinted (λ digit. 48 + digit) (digits_of 10 edit)
    (λ k d within. let small = below k d within in record { low = omega (arith, small); high = omega (arith, small) }))

pub line_printed : (edit : ℕ) → 0 < edit → edit < 2 ^ 64 → All IsPrinted (line_text edit)
line_printed edit some few =
    All-append IsPrinted (codes "line ") (decimal edit ++ codes " of the text ") (are_printed (codes "line ") refl refl)
    (All-append IsPrinted (decimal edit) (codes " of the text ") (digits_printed edit some few)
    (are_printed (codes " of the text ") refl refl))

-- ---- items that are put

letter : (chp : Properties) (unit : ℕ) → IsBoldOrNone chp → IsPrinted unit → IsGeneratedItem (unit_item chp unit)
letter chp unit properties printed = record {
  chp = properties;
  fld = refl;
  note = refl;
  kind = inl (record { unit = printed; mark = refl; sect = refl });
}

pub letters : (chp : Properties) (text : List ℕ) → IsBoldOrNone chp → All IsPrinted text →
    All IsGeneratedItem (unit_items chp text)
letters chp text properties printed =
    All-map IsGeneratedItem (unit_item chp) text (λ k d within. letter chp _ properties (printed k d within))

-- a mark of what is generated
pub record IsSmallMark (mark : Mark) : Type 0 where
  pub style : mark.istd ≤ 1
  pub pap : mark.pap ≡ empty

pub marked : (item : Item) (mark : Mark) → IsGeneratedItem item → item.mark ≡ Some mark → IsSmallMark mark
marked item mark is has = elim is.kind [
  | inl letter ↦ absurd (none-some mark (sym letter.mark ∙ has))
  | inr end ↦ subst IsSmallMark (same_Some end.mark mark (sym end.has ∙ has))
      (record { style = end.style; pap = end.pap })
]

split_small : (found : Option Mark) → ForSome found IsSmallMark → IsSmallMark (split_mark found)
split_small None small = record { style = omega arith; pap = refl }
split_small (Some mark) small =
    let is = small mark refl in
    record {
      style = is.style;
      pap = ap (kept_by (λ code. not (is_row_code code))) is.pap
          ∙ none_kept (λ code. not (is_row_code code));
    }

mark_small : (main : List Item) (at : ℕ) → All IsGeneratedItem main → ForSome (paragraph_mark_at main at) IsSmallMark
mark_small main at each mark is = elim (slice_get_cases main (mark_place main at)).1 [
  | inl w ↦
      let has : w.0.mark ≡ Some mark = sym (ap (option_and_then (λ (item : Item). item.mark)) w.2) ∙ is in
      marked w.0 mark (All_at IsGeneratedItem main (mark_place main at) w.0 each w.2) has
  | inr past ↦ absurd (none-some mark (sym (ap (option_and_then (λ (item : Item). item.mark)) past.1) ∙ is))
]

-- the mark that splits a paragraph
pub split_generated : (main : List Item) (at : ℕ) (chp : Properties) → All IsGeneratedItem main → IsBoldOrNone chp →
    IsGeneratedItem (mark_item chp paragraph_mark (split_mark (paragraph_mark_at main at)))
split_generated main at chp each properties =
    let small = split_small (paragraph_mark_at main at) (mark_small main at each) in
    record {
      chp = properties;
      fld = refl;
      note = refl;
      kind = inr (record {
        unit = refl;
        mark = split_mark (paragraph_mark_at main at);
        has = refl;
        style = small.style;
        pap = small.pap;
        sect = λ sect is. absurd (none-some sect is);
      });
    }

-- ---- items that are put into the text

abbrev sections : List Item → List (Option Properties)
sections items = map (λ (item : Item). item.sect) items

no_sections : (items : List Item) → All (λ (item : Item). item.sect ≡ None) items →
    sections items ≡ replicate (length items) None
no_sections [] none = refl
no_sections (item ∷ items) none =
    let first : item.sect ≡ None = All-head (λ (item : Item). item.sect ≡ None) item items none in
    let rest = no_sections items (All-tail (λ (item : Item). item.sect ≡ None) item items none) in
    λ i. first i ∷ rest i

-- where no section ends, more places where none does
more_none : (front more at : ℕ) (last : List (Option Properties)) → at ≤ front →
    take at (replicate front None ++ last) ++
    (replicate more None ++ drop at (replicate front None ++ last)) ≡ replicate (front + more) None ++ last
more_none front more zero last within =
    let count : more + front ≡ front + more = omega arith in
    sym (append_assoc (replicate more None) (replicate front None) last)
    ∙ ap (λ xs. xs ++ last) (replicate-append-replicate more front None ∙ ap (λ n. replicate n None) count)
more_none zero more (suc at) last within = absurd (omega (arith, within))
more_none (suc front) more (suc at) last within =
    let count : suc (front + more) ≡ suc front + more = omega arith in
    ap (λ xs. None ∷ xs) (more_none front more at last (omega (arith, within)))
    ∙ ap (λ n. replicate n None ++ last) count

pub put_generated : (main fresh : List Item) (at : ℕ) → at < length main → IsGeneratedText main →
    All IsGeneratedItem fresh → All (λ (item : Item). item.sect ≡ None) fresh →
    IsGeneratedText (splice main at at fresh)
put_generated main fresh at within text each none =
    let section : Item → Option Properties = λ item. item.sect in
    let last : List (Option Properties) = Some empty ∷ [] in
    let size = ap length text.sections in
    let all = length-map main section in
    let both = length-append (replicate text.front None) last in
    let front = length-replicate {A = Option Properties} text.front None in
    record {
      each =
          All-append IsGeneratedItem (take at main) (fresh ++ drop at main) (All-take IsGeneratedItem at main text.each)
          (All-append IsGeneratedItem fresh (drop at main) each (All-drop IsGeneratedItem at main text.each));
      front = text.front + length fresh;
      sections =
          map-append section (take at main) (fresh ++ drop at main)
          ∙ ap (λ xs. sections (take at main) ++ xs) (map-append section fresh (drop at main))
          ∙ (λ i. sym (take-map section at main) i ++ (no_sections fresh none i ++ sym (drop-map section at main) i))
          ∙ ap (λ xs. take at xs ++ (replicate (length fresh) None ++ drop at xs)) text.sections
          ∙ more_none text.front (length fresh) at last (omega (arith, within, size, all, both, front));
    }

-- ---- items of a range changed

whole_in_parts : (main : List Item) (from to : ℕ) → from ≤ to →
    take from main ++ (slice_range main from to ++ drop to main) ≡ main
whole_in_parts main from to ordered =
    ap (λ xs. take from main ++ xs) (sym (drop_split main from to ordered)) ∙ take-append-drop from main

sections_stay : (f : Item → Item) (items : List Item) → ((item : Item) → (f item).sect ≡ item.sect) →
    sections (map f items) ≡ sections items
sections_stay f [] same = refl
sections_stay f (item ∷ items) same =
    let first = same item in
    let rest = sections_stay f items same in
    λ i. first i ∷ rest i

same_sections : (f : Item → Item) (main : List Item) (from to : ℕ) → from ≤ to →
    ((item : Item) → (f item).sect ≡ item.sect) → sections (map_range f main from to) ≡ sections main
same_sections f main from to ordered same =
    let section : Item → Option Properties = λ item. item.sect in
    let middle = slice_range main from to in
    map-append section (take from main) (map f middle ++ drop to main)
    ∙ ap (λ xs. sections (take from main) ++ xs)
    (map-append section (map f middle) (drop to main)
    ∙ ap (λ xs. xs ++ sections (drop to main)) (sections_stay f middle same)
    ∙ sym (map-append section middle (drop to main)))
    ∙ sym (map-append section (take from main) (middle ++ drop to main))
    ∙ ap sections (whole_in_parts main from to ordered)

pub range_generated : (f : Item → Item) (main : List Item) (from to : ℕ) → from ≤ to →
    ((item : Item) → IsGeneratedItem item → IsGeneratedItem (f item)) → ((item : Item) → (f item).sect ≡ item.sect) →
    IsGeneratedText main → IsGeneratedText (map_range f main from to)
range_generated f main from to ordered stays same text =
    let middle = slice_range main from to in
    let part = All-take IsGeneratedItem (to - from) (drop from main) (All-drop IsGeneratedItem from main text.each) in
    record {
      each =
          All-append IsGeneratedItem (take from main) (map f middle ++ drop to main)
          (All-take IsGeneratedItem from main text.each)
          (All-append IsGeneratedItem (map f middle) (drop to main)
          (All-map IsGeneratedItem f middle (λ k d within. stays _ (part k d within)))
          (All-drop IsGeneratedItem to main text.each));
      front = text.front;
      sections = same_sections f main from to ordered same ∙ text.sections;
    }

pub length-map_range : (f : Item → Item) (main : List Item) (from to : ℕ) → from ≤ to →
    length (map_range f main from to) ≡ length main
length-map_range f main from to ordered =
    let middle = slice_range main from to in
    let a = length-append (take from main) (map f middle ++ drop to main) in
    let b = length-append (map f middle) (drop to main) in
    let c = length-map middle f in
    let d = length-append (take from main) (middle ++ drop to main) in
    let e = length-append middle (drop to main) in
    let whole = ap length (whole_in_parts main from to ordered) in
    omega (arith, a, b, c, d, e, whole)

-- ---- bold, and a style

modified_kind : (modifier : Modifier) (item : Item) → ((istd : ℕ) → istd ≤ 1 → mark_style modifier istd ≤ 1) →
    ((pap : Properties) → modified_paragraph modifier pap ≡ pap) → IsLetter item ⊎ IsPlainMark item →
    IsLetter (modified_item modifier item) ⊎ IsPlainMark (modified_item modifier item)
modified_kind modifier item styles same (inl letter) =
    inl (record { unit = letter.unit; mark = ap (option_map (modified_mark modifier)) letter.mark; sect = letter.sect })
modified_kind modifier item styles same (inr end) =
    inr (record {
      unit = end.unit;
      mark = modified_mark modifier end.mark;
      has = ap (option_map (modified_mark modifier)) end.has;
      style = styles end.mark.istd end.style;
      pap = same end.mark.pap ∙ end.pap;
      sect = end.sect;
    })

pub bold_generated : (item : Item) → IsGeneratedItem item →
    IsGeneratedItem (modified_item (property_characters bold) item)
bold_generated item is = record {
  chp = inr (set_bold item.chp is.chp);
  fld = is.fld;
  note = is.note;
  kind = modified_kind (property_characters bold) item (λ style small. small) (λ pap. empty-overlay pap) is.kind;
}

pub style_generated : (istd : ℕ) → istd ≤ 1 → (item : Item) → IsGeneratedItem item →
    IsGeneratedItem (modified_item (naming_style istd) item)
style_generated istd small item is = record {
  chp = subst IsBoldOrNone (sym (empty-overlay item.chp)) is.chp;
  fld = is.fld;
  note = is.note;
  kind = modified_kind (naming_style istd) item (λ style before. small) (λ pap. empty-overlay pap) is.kind;
}
