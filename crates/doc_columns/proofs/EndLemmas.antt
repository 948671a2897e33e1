-- Where a paragraph ends, by what is beside its items.
use Rattle.std.proofs.Common.{◌≡◌, ◌∙◌, inl, inr, ap, sym, subst, ℕ, ◌+◌, ◌-◌, ◌<◌, ◌≤◌, List, length, map}
use Rattle.std.proofs.Common.{Option, Some, None, Bor, arith}
use Rattle.std.specs.Prelude.{slice_get, is_some, IsSome}
use Rattle.std.specs.Option.{option_copied, MatchOption}
use Rattle.std.proofs.lemmas.Bool.{cases_lt, false≢true}
use Rattle.std.proofs.lemmas.Option.{same_Some, slice_get_within}
use Rattle.doc_bits.proofs.Public.{there_is, get-map}
use Rattle.doc_model.specs.declared.item.Item.{Item}
use Rattle.doc_model.specs.declared.item.Mark.{Mark}
use Rattle.doc_model.specs.Paragraphs.{EndsParagraph, IsParagraphEnd, HasNoParagraphEnd}
use Rattle.doc_columns.specs.declared.attached.Attached.{Attached}
use Rattle.doc_columns.specs.Attached.{attached_of}

-- the paragraph of an item ends at a place, with this mark
pub record EndsAt (text : List Item) (from place : ℕ) (mark : Mark) : Type 0 where
  pub is_end : IsParagraphEnd text from place
  pub item : Item
  pub here : slice_get text place ≡ Some item
  pub has : item.mark ≡ Some mark

no_mark : (attached : Attached) → attached.mark ≡ None → IsSome attached.mark → ⊥
no_mark attached none some = false≢true (sym (ap is_some none) ∙ some)

-- an item that ends a paragraph has its mark beside it
marked_there : (text : List Item) (attachments : List Attached) (at : ℕ) → attachments ≡ map attached_of text →
    (ends : EndsParagraph text at) → slice_get attachments at ≡ Some (attached_of ends.item)
marked_there text attachments at is ends =
    ap (λ (xs : List Attached). slice_get xs at) is ∙ get-map attached_of text at ends.item ends.here

-- no item before the last one of the range ends a paragraph
none_before : (text : List Item) (attachments : List Attached) (pos end at : ℕ) → attachments ≡ map attached_of text →
    ((k : ℕ) (attached : Attached) → pos ≤ k → k + 1 < end → slice_get attachments k ≡ Some attached → attached.mark ≡
    None) →
    pos ≤ at → at + 1 < end → EndsParagraph text at → ⊥
none_before text attachments pos end at is inside le low ends =
    no_mark (attached_of ends.item) (inside at (attached_of ends.item) le low (marked_there text attachments at is
    ends))
    ends.marked

-- what is beside the last item of a paragraph, or of the text, has the first mark or there is none
pub end_attached : (text : List Item) (attachments : List Attached) (pos end : ℕ) (last : Attached) (found : Option (Bor
    Mark)) →
    attachments ≡ map attached_of text → pos < end → end ≤ length text →
    ((k : ℕ) (attached : Attached) → pos ≤ k → k + 1 < end → slice_get attachments k ≡ Some attached → attached.mark ≡
    None) →
    (end < length text → (attached : Attached) → slice_get attachments (end - 1) ≡ Some attached → IsSome attached.mark)
    →
    slice_get attachments (end - 1) ≡ Some last → option_copied found ≡ last.mark →
    MatchOption found (HasNoParagraphEnd text pos) (λ mark. EndsAt text pos (end - 1) mark.now)
end_attached text attachments pos end last None is some within inside ends here mark = λ at le paragraph.
    elim (cases_lt (at + 1) end) [
      | inl low ↦ none_before text attachments pos end at is inside le low paragraph
      | inr high ↦ elim (cases_lt (end - 1) at) [
        | inl behind ↦
            no_mark last (sym mark)
            (ends (omega (arith, behind, slice_get_within text at paragraph.item paragraph.here)) last here)
        | inr until ↦
            (let place : at ≡ end - 1 = omega (arith, high, until) in
            let there = subst (λ n. slice_get attachments n ≡ Some (attached_of paragraph.item)) place
            (marked_there text attachments at is paragraph) in
            let same : last ≡ attached_of paragraph.item = same_Some last (attached_of paragraph.item) (sym here ∙
            there) in
            no_mark (attached_of paragraph.item) (subst (λ (b : Attached). b.mark ≡ None) same (sym mark))
            paragraph.marked)
      ]
    ]
end_attached text attachments pos end last (Some found) is some within inside ends here mark =
    let one = there_is text (end - 1) (omega (arith, some, within)) in
    let there : slice_get attachments (end - 1) ≡ Some (attached_of one.0) =
    ap (λ (xs : List Attached). slice_get xs (end - 1)) is ∙ get-map attached_of text (end - 1) one.0 one.1 in
    let same : last ≡ attached_of one.0 = same_Some last (attached_of one.0) (sym here ∙ there) in
    let has : one.0.mark ≡ Some found.now = sym (mark ∙ ap (λ (b : Attached). b.mark) same) in
    record {
      is_end =
          record {
            after = omega (arith, some);
            ends = record { item = one.0; here = one.1; marked = ap is_some has };
            least = λ at le paragraph.
                elim (cases_lt (at + 1) end) [
                  | inl low ↦ absurd (none_before text attachments pos end at is inside le low paragraph)
                  | inr high ↦ omega (arith, high)
                ];
          };
      item = one.0;
      here = one.1;
      has = has;
    }
