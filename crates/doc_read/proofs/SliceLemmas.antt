-- The items of a part of the text.
use Rattle.std.proofs.Common.{◌≡◌, ◌∙◌, inl, inr, refl, sym, ap, subst, ℕ, ◌+◌, ◌-◌, ◌<◌, ◌≤◌, List, [], ◌∷◌}
use Rattle.std.proofs.Common.{◌++◌, length, take, drop, slice_get, slice_index, slice_range}
use Rattle.std.proofs.Common.{arith, length-append, length-take, length-drop}
use Rattle.std.proofs.lemmas.List.{map-id}
use Rattle.std.proofs.lemmas.Option.{none-some}
use Rattle.doc_parts.specs.Cps.{AreCpsInOrder}
use Rattle.doc_parts.specs.Stories.{cut_cps, AreCuts}
use Rattle.doc_model.specs.declared.item.Item.{Item}
use Rattle.doc_bits.proofs.Public.{slice_get-take, zero_more}
use Rattle.fib_form.specs.declared.table_parts.TablePart.TheVariants.{PlcffndTxt}
use Rattle.fib_form.specs.declared.stories.StoryKind.TheVariants.{Notes}
use Rattle.file_rules.specs.Source.{DocSource, table_part_bytes, story_length}
use Rattle.file_rules.specs.NoteRules.{HasNoteCuts}
use Rattle.doc_read.specs.Items.{TextParts, IsItemAt, HoldsItems, HoldsTexts}
use Rattle.doc_read.specs.Texts.{AreCutsWithin, AreCutFrom}
use Rattle.doc_read.proofs.SettingsLemmas.{pushed}
use Rattle.doc_columns.proofs.Public.{range_got}

-- a part of the text has the items of its CPs
pub holds_range : (parts : TextParts) (total from to : ℕ) (text : List Item) → from ≤ to → to ≤ length text →
    HoldsItems parts 0 total text → HoldsItems parts from to (slice_range text from to)
holds_range parts total from to text order within holds = record {
  len = simp (length-take, length-drop) (omega arith);
  each = λ i item e. subst (λ cp. IsItemAt parts cp item) (zero_more (from + i)) (holds.each (from + i) item
      (range_got text from to i item e));
}

-- so has its front
pub holds_front : (parts : TextParts) (total to : ℕ) (text : List Item) → to ≤ length text →
    HoldsItems parts 0 total text → HoldsItems parts 0 to (take to text)
holds_front parts total to text within holds = record {
  len = simp length-take (omega arith);
  each = λ i item e. holds.each i item (slice_get-take to text i item e);
}

-- and each text that is cut out of it
pub holds_texts : (parts : TextParts) (total begin count : ℕ) (cuts : List ℕ) (items : List Item) (texts : List
    (List Item)) →
    HoldsItems parts 0 total items → AreCutsWithin begin cuts (length items) → AreCutFrom items begin cuts count texts →
    HoldsTexts parts begin cuts count texts
holds_texts parts total begin count cuts items texts holds within cut = record {
  len = cut.len;
  there = λ k text e more.
      let from = begin + slice_index cuts k in
      let to = begin + slice_index cuts (k + 1) in
      let order = within.order k more in
      subst (HoldsItems parts from to) (sym (cut.there k text e more)) (holds_range parts total from to items
      (omega arith) (within.within (k + 1) more) holds);
  missing = cut.missing;
}

-- the cuts of a story are within the text
pub cuts_within : (plc : List ℕ) (story_len begin len : ℕ) (cuts : List ℕ) → AreCuts plc story_len cuts →
    begin + story_len ≤ len → AreCutsWithin begin cuts len
cuts_within plc story_len begin len cuts are h =
    let cps : AreCpsInOrder (cut_cps story_len) cuts =
    subst (AreCpsInOrder (cut_cps story_len)) (map-id cuts) are.leading.in_order in
    record {
      order = λ k more. (cps (k + 1) more).after k refl;
      within = λ k less. let here = (cps k less).within in omega arith;
    }

-- those of the notes too; without references there are none
pub note_cuts_within : (source : DocSource) (begin len : ℕ) (cuts : List ℕ) → HasNoteCuts source cuts →
    begin + story_length source Notes ≤ len → AreCutsWithin begin cuts len
note_cuts_within source begin len cuts (inl some) h =
    cuts_within (table_part_bytes source PlcffndTxt) (story_length source Notes) begin len cuts some.1 h
note_cuts_within source begin len cuts (inr none) h =
    subst (λ list. AreCutsWithin begin list len) (sym none.1)
    (record { order = λ k more. absurd (omega arith); within = λ k less. absurd (omega arith) })

-- no text has been cut out yet
pub texts_none : (items : List Item) (begin : ℕ) (cuts : List ℕ) → AreCutFrom items begin cuts 0 []
texts_none items begin cuts = record {
  len = refl;
  there = λ k text e more. absurd (none-some text e);
  missing = λ k text e over. absurd (none-some text e);
}

-- one more
pub texts_more : (items : List Item) (begin : ℕ) (cuts : List ℕ) (count : ℕ) (texts : List (List Item)) (text : List
    Item) →
    AreCutFrom items begin cuts count texts →
    (count + 1 < length cuts → text ≡ slice_range items (begin + slice_index cuts count) (begin + slice_index cuts
    (count + 1))) →
    (length cuts ≤ count + 1 → text ≡ []) → AreCutFrom items begin cuts (count + 1) (texts ++ text ∷ [])
texts_more items begin cuts count texts text are there missing = record {
  len = omega (arith, are.len, length-append texts (text ∷ []));
  there = λ k other g more. elim (pushed texts text other k g) [
    | inl before ↦ are.there k other before more
    | inr last ↦
        let same : k ≡ count = last.0 ∙ are.len in
        let here : text ≡ slice_range items (begin + slice_index cuts count) (begin + slice_index cuts (count + 1)) =
        there (omega arith) in
        last.1 ∙ (here ∙ ap (λ n. slice_range items (begin + slice_index cuts n) (begin + slice_index cuts (n + 1)))
        (sym same))
  ];
  missing = λ k other g over. elim (pushed texts text other k g) [
    | inl before ↦ are.missing k other before over
    | inr last ↦ let same : k ≡ count = last.0 ∙ are.len in last.1 ∙ missing (omega arith)
  ];
}

-- the same by other names
pub cut_as : (items : List Item) (begin other : ℕ) (cuts list : List ℕ) (count many : ℕ) (texts : List (List Item)) →
    begin ≡ other → cuts ≡ list → count ≡ many → AreCutFrom items begin cuts count texts →
    AreCutFrom items other list many texts
cut_as items begin other cuts list count many texts begin_is cuts_are count_is cut =
    subst (λ b. AreCutFrom items b list many texts) begin_is
    (subst (λ cs. AreCutFrom items begin cs many texts) cuts_are (subst (λ n. AreCutFrom items begin cuts n texts)
    count_is cut))

-- the same texts are cut out of the same items
pub cut_same : (items other : List Item) (begin : ℕ) (cuts : List ℕ) (count : ℕ) (texts : List (List Item)) →
    items ≡ other → AreCutFrom items begin cuts count texts → AreCutFrom other begin cuts count texts
cut_same items other begin cuts count texts same cut =
    subst (λ (xs : List Item). AreCutFrom xs begin cuts count texts) same cut

-- and the cuts are within as many of them
pub within_same : (items other : List Item) (begin : ℕ) (cuts : List ℕ) → items ≡ other →
    AreCutsWithin begin cuts (length other) → AreCutsWithin begin cuts (length items)
within_same items other begin cuts same within =
    subst (λ (xs : List Item). AreCutsWithin begin cuts (length xs)) (sym same) within

pub within_as : (begin other : ℕ) (cuts list : List ℕ) (len : ℕ) → other ≡ begin → list ≡ cuts →
    AreCutsWithin begin cuts len → AreCutsWithin other list len
within_as begin other cuts list len begin_is cuts_are within =
    subst (λ b. AreCutsWithin b list len) (sym begin_is) (subst (λ cs. AreCutsWithin begin cs len) (sym cuts_are)
    within)
