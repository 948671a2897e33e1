-- A splice within one text, of as many items as it takes away, and a modifier on items, in the whole text.
use Rattle.std.specs.Prelude.{slice_get, slice_set, slice_range, List, ℕ}
use Rattle.std.specs.List.{splice, AllZip}
use Rattle.std.specs.Option.{option_map}
use Rattle.std.proofs.Common.{◌≡◌, ◌∙◌, ◌++◌, ◌∷◌, ◌+◌, ◌-◌, ◌≤◌, [], refl, sym, ap, subst, Bool}
use Rattle.std.proofs.Common.{Some, None, Option, ◌<◌, length, map, take, drop, arith, set}
use Rattle.std.proofs.lemmas.List.{length-map, length-append, length-take, length-drop}
use Rattle.std.proofs.lemmas.List.{append_assoc, append-nil, set-get_or}
use Rattle.std.proofs.lemmas.Option.{same_Some, get_or_from_slice_get}
use Rattle.std.proofs.Math.Seq.{take-append_seam, drop-append_seam}
use Rattle.doc_bits.specs.declared.places.Story.{Story}
use Rattle.doc_bits.specs.declared.places.Story.TheVariants.{Main, Note, Head}
use Rattle.prop_map.specs.declared.modifiers.Modifier.{Modifier}
use Rattle.prop_map.proofs.Public.{is_modified_characters, is_modified_paragraph}
use Rattle.doc_model.specs.declared.item.Item.{Item}
use Rattle.doc_model.specs.declared.item.Mark.{Mark}
use Rattle.doc_model.specs.declared.document.Document.{Document}
use Rattle.doc_model.specs.Collected.{joined_texts}
use Rattle.doc_patch.specs.Places.{story_text}
use Rattle.doc_patch.specs.Changes.{text_changed, put_changed, map_range, modified_item, modified_mark}
use Rattle.doc_patch.specs.Changes.{changed}
use Rattle.doc_patch.specs.declared.changes.Change.TheVariants.{ModifyItems}
use Rattle.save_laws.specs.Places.{IsMarkedAfter}
use Rattle.save_laws.specs.Slots.{Slot, shown, StoryEnds, note_slots, head_slots, document_slots}
use Rattle.save_laws.specs.Sessions.{IsSlotAfter, AreSlotsAfter}
use Rattle.save_laws.proofs.Public.{main_splices}
use Rattle.doc_bits.proofs.Public.{range_mid}
use Rattle.session_text.specs.StoryMarks.{end_after, marks_come, marks_go, IsSplicedWhole, nth_text_begin}
use Rattle.session_text.specs.StoryMarks.{ends_with_notes, ends_with_heads}
use Rattle.session_text.specs.SessionChanges.{text_begin, ModifiersAct}
use Rattle.session_text.proofs.MarkLemmas.{notes_splice, heads_splice, one_text_splices}
use Rattle.doc_columns.proofs.Public.{own_range}

-- ---- a text put in place of another

abbrev pub text_put : Document → Story → List Item → Document
text_put document Main text = record document { main = text }
text_put document (Note number) text = record document { notes = slice_set document.notes number text }
text_put document (Head number) text = record document { heads = slice_set document.heads number text }

-- a text that is there, changed
pub put_text : (change : List Item → List Item) (document : Document) (story : Story) (text : List Item) →
    story_text document story ≡ Some text → text_changed change story document ≡ text_put document story (change text)
put_text change document Main text there =
    ap (λ t. record document { main = change t }) (same_Some document.main text there)
put_text change document (Note number) text there =
    ap (λ o. record document { notes = put_changed document.notes number change o }) there
put_text change document (Head number) text there =
    ap (λ o. record document { heads = put_changed document.heads number change o }) there

set_same : {A : Type 0} (xs : List A) (k : ℕ) (x : A) → slice_get xs k ≡ Some x → slice_set xs k x ≡ xs
set_same xs k x there =
    ap (λ y. set xs k y) (sym (get_or_from_slice_get xs k x x there)) ∙ set-get_or xs k x

put_same : (document : Document) (story : Story) (text : List Item) → story_text document story ≡ Some text →
    text_put document story text ≡ document
put_same document Main text there = ap (λ t. record document { main = t }) (sym (same_Some document.main text there))
put_same document (Note number) text there =
    ap (λ l. record document { notes = l }) (set_same document.notes number text there)
put_same document (Head number) text there =
    ap (λ l. record document { heads = l }) (set_same document.heads number text there)

-- ---- a splice of as many items

-- stories with items before and after keep their marks
record AreMarksKept (end : Bool) (items new : List Item) (other : List Slot) : Type 0 where
  end_is : end_after end items new ≡ end
  come : marks_come end items new other ≡ []
  go : marks_go end items new other ≡ 0

marks_kept : (end : Bool) (items new : List Item) (other : List Slot) → length new ≡ length items →
    AreMarksKept end items new other
marks_kept end [] [] other same = record { end_is = refl; come = refl; go = refl }
marks_kept end [] (y ∷ ys) other same = absurd (omega (arith, same))
marks_kept end (x ∷ xs) [] other same = absurd (omega (arith, same))
marks_kept end (x ∷ xs) (y ∷ ys) other same = record { end_is = refl; come = refl; go = refl }

length-splice : {A : Type 0} (xs ys : List A) (from to : ℕ) → from ≤ to → to ≤ length xs → length ys ≡ to - from →
    length (splice xs from to ys) ≡ length xs
length-splice xs ys from to order within same =
    omega (
      arith,
      order,
      within,
      same,
      length-append (take from xs) (ys ++ drop to xs),
      length-append ys (drop to xs),
      length-take from xs,
      length-drop to xs,
    )

whole_by : (old : Document) (new : Document) (ends made : StoryEnds) (begin from to go : ℕ) (fresh come : List Slot) →
    IsSplicedWhole old ends new made (begin + from) (begin + (to + go)) (fresh ++ come) → made ≡ ends → go ≡ 0 →
    come ≡ [] → document_slots new ends ≡ splice (document_slots old ends) (begin + from) (begin + to) fresh
whole_by old new ends made begin from to go fresh come spliced same none empty =
    let n : begin + (to + go) ≡ begin + to = omega (arith, none) in
    let w = document_slots old ends in
    ap (document_slots new) (sym same)
    ∙ (spliced.whole
    ∙ (ap (λ k. splice w (begin + from) k (fresh ++ come)) n
    ∙ (ap (λ l. splice w (begin + from) (begin + to) (fresh ++ l)) empty
    ∙ ap (splice w (begin + from) (begin + to)) (append-nil fresh))))

-- as many items in a text, in place of a range
pub text_splices : (document : Document) (ends : StoryEnds) (story : Story) (from to : ℕ) (text fresh : List Item) →
    story_text document story ≡ Some text → from ≤ to → to ≤ length text → length fresh ≡ to - from →
    document_slots (text_put document story (splice text from to fresh)) ends
    ≡ splice (document_slots document ends) (text_begin document ends story + from) (text_begin document ends story +
    to)
    (map shown fresh)
text_splices document ends Main from to text fresh there order within same =
    let is : document.main ≡ text = same_Some document.main text there in
    let inside : to ≤ length document.main = omega (arith, within, ap length is) in
    let a : 0 + from ≡ from = omega arith in
    let b : 0 + to ≡ to = omega arith in
    ap (λ t. document_slots (record document { main = splice t from to fresh }) ends) (sym is)
    ∙ (main_splices document ends from to fresh order inside
    ∙ (ap (λ k. splice (document_slots document ends) k to (map shown fresh)) (sym a)
    ∙ ap (λ k. splice (document_slots document ends) (0 + from) k (map shown fresh)) (sym b)))
text_splices document ends (Note number) from to text fresh there order within same =
    let texts = slice_set document.notes number (splice text from to fresh) in
    let one = one_text_splices document.notes number text fresh from to there order within in
    let begin : ℕ = nth_text_begin document.notes number in
    let len : length (joined_texts texts) ≡ length (joined_texts document.notes) =
    ap length one.items
    ∙ length-splice (joined_texts document.notes) fresh (begin + from) (begin + to) one.order one.within
    (omega (arith, same, order)) in
    let kept =
    marks_kept ends.notes (joined_texts document.notes) (joined_texts texts) (head_slots document ends) len in
    let main : ℕ = length document.main in
    let a : main + (begin + from) ≡ main + begin + from = omega arith in
    let b : main + (begin + to) ≡ main + begin + to = omega arith in
    whole_by document (record document { notes = texts }) ends (ends_with_notes document ends texts) main
    (begin + from) (begin + to)
    (marks_go ends.notes (joined_texts document.notes) (joined_texts texts) (head_slots document ends))
    (map shown fresh)
    (marks_come ends.notes (joined_texts document.notes) (joined_texts texts) (head_slots document ends))
    (notes_splice document ends texts (begin + from) (begin + to) fresh one)
    (ap (λ e. record { notes = e; heads = ends.heads }) kept.end_is) kept.go kept.come
    ∙ (ap (λ k. splice (document_slots document ends) k (main + (begin + to)) (map shown fresh)) a
    ∙ ap (λ k. splice (document_slots document ends) (main + begin + from) k (map shown fresh)) b)
text_splices document ends (Head number) from to text fresh there order within same =
    let texts = slice_set document.heads number (splice text from to fresh) in
    let one = one_text_splices document.heads number text fresh from to there order within in
    let begin : ℕ = nth_text_begin document.heads number in
    let len : length (joined_texts texts) ≡ length (joined_texts document.heads) =
    ap length one.items
    ∙ length-splice (joined_texts document.heads) fresh (begin + from) (begin + to) one.order one.within
    (omega (arith, same, order)) in
    let kept =
    marks_kept ends.heads (joined_texts document.heads) (joined_texts texts) (note_slots document ends) len in
    let front : ℕ = length document.main + length (note_slots document ends) in
    let a : front + (begin + from) ≡ front + begin + from = omega arith in
    let b : front + (begin + to) ≡ front + begin + to = omega arith in
    whole_by document (record document { heads = texts }) ends (ends_with_heads document ends texts) front
    (begin + from) (begin + to)
    (marks_go ends.heads (joined_texts document.heads) (joined_texts texts) (note_slots document ends))
    (map shown fresh)
    (marks_come ends.heads (joined_texts document.heads) (joined_texts texts) (note_slots document ends))
    (heads_splice document ends texts (begin + from) (begin + to) fresh one)
    (ap (λ e. record { notes = ends.notes; heads = e }) kept.end_is) kept.go kept.come
    ∙ (ap (λ k. splice (document_slots document ends) k (front + (begin + to)) (map shown fresh)) a
    ∙ ap (λ k. splice (document_slots document ends) (front + begin + from) k (map shown fresh)) b)

-- ---- a modifier on the items of a range

mark_modified : (by : Modifier) (mark : Option Mark) → IsMarkedAfter by mark (option_map (modified_mark by) mark)
mark_modified by None = tt
mark_modified by (Some mark) = (refl, is_modified_paragraph by mark.pap)

items_modified : (by : Modifier) (items : List Item) →
    AllZip (IsSlotAfter by) (map shown items) (map shown (map (modified_item by) items))
items_modified by [] = tt
items_modified by (item ∷ items) = (
  record {
    unit = refl;
    characters = is_modified_characters by item.chp;
    mark = mark_modified by item.mark;
  },
  items_modified by items,
)

-- what is before and behind the middle of three lists
taken : {A : Type 0} (front rest whole : List A) (from : ℕ) → length front ≡ from → whole ≡ front ++ rest →
    take from whole ≡ front
taken front rest whole from len is =
    ap (take from) is ∙ (ap (λ n. take n (front ++ rest)) (sym len) ∙ take-append_seam front rest)

dropped : {A : Type 0} (front middle back whole : List A) (to : ℕ) → length front + length middle ≡ to →
    whole ≡ front ++ (middle ++ back) → drop to whole ≡ back
dropped front middle back whole to len is =
    let n : to ≡ length (front ++ middle) = omega (arith, len, length-append front middle) in
    ap (drop to) is
    ∙ (ap (drop to) (sym (append_assoc front middle back))
    ∙ (ap (λ k. drop k ((front ++ middle) ++ back)) n ∙ drop-append_seam (front ++ middle) back))

-- a list that is its own splice reaches as far as the range
end_within : {A : Type 0} (xs ys : List A) (from to : ℕ) → xs ≡ splice xs from to ys → from < to →
    length ys ≡ to - from → to ≤ length xs
end_within xs ys from to is order same =
    omega (
      arith,
      ap length is,
      order,
      same,
      length-append (take from xs) (ys ++ drop to xs),
      length-append ys (drop to xs),
      length-take from xs,
      length-drop to xs,
    )

-- two splices at one range, of as many slots as it has
slots_after : (whole : List Slot) (old new : List Slot) (ys zs : List Slot) (by : Modifier) (from to : ℕ) → from ≤ to →
    to ≤ length whole → length ys ≡ to - from → length zs ≡ to - from → old ≡ splice whole from to ys →
    new ≡ splice whole from to zs → AllZip (IsSlotAfter by) ys zs → AreSlotsAfter by from to old new
slots_after whole old new ys zs by from to order within one two first second zipped =
    let front = take from whole in
    let back = drop to whole in
    let len : length front ≡ from = omega (arith, length-take from whole, order, within) in
    let ylen : length front + length ys ≡ to = omega (arith, len, one, order) in
    let zlen : length front + length zs ≡ to = omega (arith, len, two, order) in
    let before_old : take from old ≡ front = taken front (ys ++ back) old from len first in
    let before_new : take from new ≡ front = taken front (zs ++ back) new from len second in
    let after_old : drop to old ≡ back = dropped front ys back old to ylen first in
    let after_new : drop to new ≡ back = dropped front zs back new to zlen second in
    let middle_old : slice_range old from to ≡ ys = range_mid old front ys back from to first (sym len) (sym ylen) in
    let middle_new : slice_range new from to ≡ zs = range_mid new front zs back from to second (sym len) (sym zlen) in
    record {
      before = before_new ∙ sym before_old;
      modified =
          subst (λ l. AllZip (IsSlotAfter by) l (slice_range new from to)) (sym middle_old)
          (subst (AllZip (IsSlotAfter by) ys) (sym middle_new) zipped);
      after = after_new ∙ sym after_old;
    }

-- the whole text before and after a modifier on the items of a range: splices, of the items and of what becomes of them
record IsActedOn (document : Document) (ends : StoryEnds) (story : Story) (from to : ℕ) (by : Modifier)
    (text : List Item) : Type 0 where
  old :
      document_slots document ends
      ≡ splice (document_slots document ends) (text_begin document ends story + from) (text_begin document ends story +
      to)
      (map shown (slice_range text from to))
  new :
      document_slots (changed (ModifyItems story from to by) document) ends
      ≡ splice (document_slots document ends) (text_begin document ends story + from) (text_begin document ends story +
      to)
      (map shown (map (modified_item by) (slice_range text from to)))
  count : length (slice_range text from to) ≡ to - from
  inside : text_begin document ends story + to ≤ length (document_slots document ends)

acted_on : (document : Document) (ends : StoryEnds) (story : Story) (from to : ℕ) (by : Modifier) (text : List Item) →
    story_text document story ≡ Some text → from < to → to ≤ length text →
    IsActedOn document ends story from to by text
acted_on document ends story from to by text there some within =
    let order : from ≤ to = omega (arith, some) in
    let begin : ℕ = text_begin document ends story in
    let range : List Item = slice_range text from to in
    let made : List Item = map (modified_item by) range in
    let count : length range ≡ to - from =
    length-take (to - from) (drop from text) ∙ omega (arith, length-drop from text, order, within) in
    let many : length made ≡ to - from = length-map range (modified_item by) ∙ count in
    let back : splice text from to range ≡ text = own_range text from to order in
    let whole = document_slots document ends in
    let old : whole ≡ splice whole (begin + from) (begin + to) (map shown range) =
    ap (λ d. document_slots d ends)
    (sym (ap (text_put document story) back ∙ put_same document story text there))
    ∙ text_splices document ends story from to text range there order within count in
    let new : document_slots (changed (ModifyItems story from to by) document) ends
    ≡ splice whole (begin + from) (begin + to) (map shown made) =
    ap (λ d. document_slots d ends)
    (put_text (λ t. map_range (modified_item by) t from to) document story text there)
    ∙ text_splices document ends story from to text made there order within many in
    record {
      old = old;
      new = new;
      count = count;
      inside =
          end_within whole (map shown range) (begin + from) (begin + to) old (omega (arith, some))
          (omega (arith, length-map range shown, count));
    }

pub modifiers_act : ModifiersAct
modifiers_act document ends story from to by text there some within =
    let acted = acted_on document ends story from to by text there some within in
    let begin : ℕ = text_begin document ends story in
    let range : List Item = slice_range text from to in
    let made : List Item = map (modified_item by) range in
    let count = acted.count in
    let whole = document_slots document ends in
    slots_after whole whole (document_slots (changed (ModifyItems story from to by) document) ends) (map shown range)
    (map shown made) by (begin + from) (begin + to) (omega (arith, some)) acted.inside
    (omega (arith, length-map range shown, count, some))
    (omega (arith, length-map made shown, length-map range (modified_item by), count, some)) acted.old acted.new
    (items_modified by range)

-- the slots of the range after it, and where the range ends
pub record IsActedRange (document : Document) (ends : StoryEnds) (story : Story) (from to : ℕ) (by : Modifier)
    (text : List Item) : Type 0 where
  pub within : text_begin document ends story + to ≤ length (document_slots document ends)
  pub slots :
      slice_range (document_slots (changed (ModifyItems story from to by) document) ends)
      (text_begin document ends story + from) (text_begin document ends story + to)
      ≡ map shown (map (modified_item by) (slice_range text from to))

pub acted_range : (document : Document) (ends : StoryEnds) (story : Story) (from to : ℕ) (by : Modifier)
    (text : List Item) → story_text document story ≡ Some text → from < to → to ≤ length text →
    IsActedRange document ends story from to by text
acted_range document ends story from to by text there some within =
    let acted = acted_on document ends story from to by text there some within in
    let begin : ℕ = text_begin document ends story in
    let range : List Item = slice_range text from to in
    let made : List Item = map (modified_item by) range in
    let whole = document_slots document ends in
    let front = take (begin + from) whole in
    let inside = acted.inside in
    let len : length front ≡ begin + from = omega (arith, length-take (begin + from) whole, inside, some) in
    record {
      within = inside;
      slots =
          range_mid (document_slots (changed (ModifyItems story from to by) document) ends) front (map shown made)
          (drop (begin + to) whole) (begin + from) (begin + to) acted.new (sym len)
          (omega (arith, len, length-map made shown, length-map range (modified_item by), acted.count, some));
    }
