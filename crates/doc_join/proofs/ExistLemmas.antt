-- What is in effect at each item of a sound document is there.
use Rattle.std.proofs.Common.{◌≡◌, inl, inr, ℕ, zero, suc, ◌+◌, ◌-◌, List, length, Option, Some, None}
use Rattle.std.proofs.Common.{refl, sym, ap, ◌∙◌, subst, arith}
use Rattle.std.specs.Prelude.{slice_get, IsSome, is_some}
use Rattle.std.proofs.lemmas.Bool.{cases_lt}
use Rattle.std.proofs.lemmas.Option.{same_Some, none-some, slice_get_cases, slice_get_within}
use Rattle.doc_bits.specs.declared.places.Where.{Where}
use Rattle.style_sheet.specs.Sheet.{Sheet}
use Rattle.style_sheet.specs.Chain.{style_kind_at}
use Rattle.effective_props.proofs.Public.{characters_there, paragraphs_there}
use Rattle.doc_model.specs.declared.item.Item.{Item}
use Rattle.doc_model.specs.declared.item.Mark.{Mark}
use Rattle.doc_model.specs.Paragraphs.{EndsParagraph, IsParagraphEnd}
use Rattle.plain_doc.specs.RightDocument.{IsValidText}
use Rattle.plain_doc.proofs.Public.{ends_with_mark, sound_is_valid}
use Rattle.doc_join.specs.Effects.{Effects, IsMarkFrom}
use Rattle.doc_join.specs.Laws.{EffectsExist}

-- ---- the end of the paragraph that holds an item

pub record HasEnd (text : List Item) (from : ℕ) : Type 0 where
  pub end : ℕ
  pub is : IsParagraphEnd text from end

end_here : (text : List Item) (from : ℕ) → EndsParagraph text from → HasEnd text from
end_here text from ends = record {
  end = from;
  is = record { after = omega arith; ends = ends; least = λ at after other. after };
}

end_later : (text : List Item) (from : ℕ) (item : Item) → slice_get text from ≡ Some item → item.mark ≡ None →
    HasEnd text (from + 1) → HasEnd text from
end_later text from item here none later = record {
  end = later.end;
  is =
      let after = later.is.after in
      record {
        after = omega (arith, after);
        ends = later.is.ends;
        least = λ at past ends.
            elim (cases_lt from at) [
              | inl more ↦ later.is.least at (omega (arith, more)) ends
              | inr same ↦
                  let at_from : at ≡ from = omega (arith, past, same) in
                  let one = same_Some item ends.item (sym here ∙ (ap (slice_get text) (sym at_from) ∙ ends.here)) in
                  absurd (cc (ends.marked, ap is_some (sym (ap (λ (it : Item). it.mark) one) ∙ none)))
            ];
      };
}

by_mark : (text : List Item) (from : ℕ) (item : Item) (mark : Option Mark) → slice_get text from ≡ Some item →
    item.mark ≡ mark → (mark ≡ None → HasEnd text (from + 1)) → HasEnd text from
by_mark text from item None here is later = end_later text from item here is (later refl)
by_mark text from item (Some mark) here is later = end_here text from (record {
  item = item;
  here = here;
  marked = subst (λ m. IsSome m) (sym is) refl;
})

-- from each item before one with a mark on there is an end
end_before : (text : List Item) (last : ℕ) → EndsParagraph text last → (n from : ℕ) → from + n ≡ last →
    HasEnd text from
end_before text last ends zero from is =
    let same : last ≡ from = omega (arith, is) in
    end_here text from (subst (EndsParagraph text) same ends)
end_before text last ends (suc n) from is =
    elim (slice_get_cases text from).1 [
      | inl w ↦ by_mark text from w.0 w.0.mark w.2 refl (λ none. end_before text last ends n (from + 1) (omega (
        arith,
        is,
      )))
      | inr past ↦
          let within = slice_get_within text last ends.item ends.here in
          let beyond = past.0 in
          absurd (omega (arith, is, within, beyond))
    ]

-- ---- the effects there

last_ends : (sheet : Sheet) (part : Where) (text : List Item) (at : ℕ) (item : Item) → IsValidText sheet part text →
    slice_get text at ≡ Some item → EndsParagraph text (length text - 1)
last_ends sheet part text at item right here =
    elim right.ends [
      | inl unit ↦
          let last = ends_with_mark text unit in
          record {
            item = last.item;
            here = last.here;
            marked = (right.placed (length text - 1) last.item last.here).mark.1 (inl last.unit);
          }
      | inr head ↦ absurd (none-some item (ap (λ l. slice_get l at) (sym head.1) ∙ here))
    ]

mark_from : (text : List Item) (from : ℕ) (end : HasEnd text from) (mark : Option Mark) →
    end.is.ends.item.mark ≡ mark → IsSome mark → (own : Mark) × IsMarkFrom text from own
mark_from text from end None is some = absurd (cc some)
mark_from text from end (Some own) is some = (
  own,
  record {
    end = end.end;
    is_end = end.is;
    item = end.is.ends.item;
    there = end.is.ends.here;
    has = is;
  },
)

pub effects_there : EffectsExist
effects_there document sound place text item part here =
    let valid = sound_is_valid document sound in
    let right = valid.texts place.0 text part in
    let within = slice_get_within text place.1 item here in
    let last = last_ends document.sheet place.0 text place.1 item right here in
    let end = end_before text (length text - 1) last (length text - 1 - place.1) place.1 (omega (arith, within)) in
    let mark = mark_from text place.1 end end.is.ends.item.mark refl end.is.ends.marked in
    let kind : style_kind_at document.sheet mark.0.istd ≡ 1 =
    right.styles mark.1.end mark.1.item mark.1.there mark.0 mark.1.has in
    let characters = characters_there document.sheet mark.0.istd item.chp valid.bases kind in
    let paragraph = paragraphs_there document.sheet mark.0.istd mark.0.pap valid.bases kind in
    let found : Effects =
    record { item = item; mark = mark.0; characters = characters.0; paragraph = paragraph.0 } in (
      found,
      record {
        text = text;
        there = part;
        item = here;
        mark = mark.1;
        characters = characters.1;
        paragraph = paragraph.1;
      },
    )
