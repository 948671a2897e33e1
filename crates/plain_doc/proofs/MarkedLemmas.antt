-- In a right text a mark is exactly where a paragraph ends.
use Rattle.std.proofs.Common.{◌≡◌, ◌⊎◌, inl, inr, ℕ, Bool, true, false, List, length, Some, refl, sym, subst}
use Rattle.std.specs.Prelude.{is_some, IsTrue, IsSome, slice_get}
use Rattle.std.proofs.lemmas.Bool.{cases_eq, ne_eqb, false≢true}
use Rattle.std.proofs.lemmas.Option.{slice_get_within, get_or_from_slice_get}
use Rattle.text_codes.specs.Paragraph.{paragraph_mark, cell_mark, section_mark, is_paragraph_end}
use Rattle.doc_bits.specs.declared.places.Where.{Where}
use Rattle.style_sheet.specs.Sheet.{Sheet}
use Rattle.doc_model.specs.declared.item.Item.{Item}
use Rattle.plain_doc.specs.RulesOfItems.{IsPlacedRight}
use Rattle.plain_doc.specs.RulesOfTexts.{EndsRight}
use Rattle.plain_doc.specs.RightDocument.{IsValidText}
use Rattle.plain_doc.proofs.TextWalkLemmas.{last_is_mark}

-- the three units that end a paragraph
EndsBy : ℕ → Bool → Type 0
EndsBy unit section_end = (unit ≡ paragraph_mark) ⊎ ((unit ≡ cell_mark) ⊎ ((unit ≡ section_mark) × IsTrue section_end))

ends_by : (unit : ℕ) (section_end : Bool) → EndsBy unit section_end → IsTrue (is_paragraph_end unit section_end)
unfolding EndsBy
ends_by unit section_end ends = elim ends [
  | inl mark ↦ subst (λ u. IsTrue (is_paragraph_end u section_end)) (sym mark) refl
  | inr more ↦ elim more [
    | inl cell ↦ subst (λ u. IsTrue (is_paragraph_end u section_end)) (sym cell) refl
    | inr section ↦ subst (λ u. IsTrue (is_paragraph_end u section_end)) (sym section.0) section.1
  ]
]

by_ends : (unit : ℕ) (section_end : Bool) → IsTrue (is_paragraph_end unit section_end) → EndsBy unit section_end
unfolding EndsBy
by_ends unit section_end ends = elim (cases_eq unit paragraph_mark) [
  | inl mark ↦ inl mark
  | inr a ↦ elim (cases_eq unit cell_mark) [
    | inl cell ↦ inr (inl cell)
    | inr b ↦ elim (cases_eq unit section_mark) [
      | inl section ↦ inr (inr (section, subst (λ u. IsTrue (is_paragraph_end u section_end)) section ends))
      | inr c ↦ absurd (false≢true (rw (ne_eqb unit 0x0D a, ne_eqb unit 0x07 b, ne_eqb unit 0x0C c) at ends))
    ]
  ]
]

same_tests : (a b : Bool) → (IsTrue a → IsTrue b) → (IsTrue b → IsTrue a) → a ≡ b
same_tests true true to from = refl
same_tests true false to from = absurd (false≢true (to refl))
same_tests false true to from = absurd (false≢true (from refl))
same_tests false false to from = refl

-- where a section ends the unit ends a paragraph
section_unit : (part : Where) (text : List Item) (i : ℕ) (item : Item) → EndsRight part text →
    IsPlacedRight part (length text) i item →
    slice_get text i ≡ Some item → IsSome item.sect → EndsBy item.unit (is_some item.sect)
unfolding EndsBy
section_unit part text i item ends placed here sect =
    let alone = placed.section.alone sect in
    elim alone.1 [
      | inl last ↦
          inl (last_is_mark text i item (slice_get_within text i item here)
          (sym (get_or_from_slice_get text i item item here))
          (subst (λ p. EndsRight p text) alone.0 ends) last)
      | inr unit ↦ inr (inr (unit, sect))
    ]

pub marked_at_ends : (sheet : Sheet) (part : Where) (text : List Item) (i : ℕ) (item : Item) →
    IsValidText sheet part text →
    slice_get text i ≡ Some item → is_some item.mark ≡ is_paragraph_end item.unit (is_some item.sect)
unfolding EndsBy
marked_at_ends sheet part text i item right here =
    let placed = right.placed i item here in
    same_tests (is_some item.mark) (is_paragraph_end item.unit (is_some item.sect))
    (λ marked. ends_by item.unit (is_some item.sect) (elim (placed.mark.0 marked) [
      | inl mark ↦ inl mark
      | inr more ↦ elim more [
        | inl cell ↦ inr (inl cell)
        | inr sect ↦ section_unit part text i item right.ends placed here sect
      ]
    ]))
    (λ ends. placed.mark.1 (elim (by_ends item.unit (is_some item.sect) ends) [
      | inl mark ↦ inl mark
      | inr more ↦ elim more [ inl cell ↦ inr (inl cell) | inr section ↦ inr (inr section.1) ]
    ]))
