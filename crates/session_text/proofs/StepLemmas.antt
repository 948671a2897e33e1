-- The steps of a text: splices of the main text and of stories.
use Rattle.std.specs.Prelude.{slice_range, List, ℕ, nat_lt}
use Rattle.std.proofs.Common.{◌≡◌, ◌∙◌, ◌++◌, ◌∷◌, ◌+◌, ◌-◌, ◌<◌, ◌≤◌, [], refl, sym, ap, subst, inl, inr}
use Rattle.std.proofs.Common.{Bool, true, false}
use Rattle.std.proofs.Common.{length, map, take, arith}
use Rattle.std.proofs.lemmas.List.{length-map, length-append, append-nil}
use Rattle.std.proofs.lemmas.Bool.{lt-ltb}
use Rattle.std.proofs.Math.Seq.{take-length}
use Rattle.doc_bits.specs.Together.{AreTogether}
use Rattle.doc_model.specs.declared.item.Item.{Item}
use Rattle.doc_model.specs.declared.document.Document.{Document}
use Rattle.doc_model.specs.Collected.{joined_texts}
use Rattle.doc_model.specs.Marks.{main_spliced}
use Rattle.doc_model.proofs.Public.{length-splice}
use Rattle.save_laws.specs.Slots.{Slot, shown, StoryEnds, loose_if, note_slots, head_slots, last_slots, document_slots}
use Rattle.save_laws.specs.Ends.{ends_of}
use Rattle.save_laws.specs.declared.ends.Ends.{Ends}
use Rattle.save_laws.proofs.Public.{main_splices, length-story_slots}
use Rattle.session_text.specs.declared.stories.Stories.{Stories}
use Rattle.session_text.specs.declared.stories.StoryPlace.{StoryPlace}
use Rattle.session_text.specs.declared.stories.StoryCut.{StoryCut}
use Rattle.session_text.specs.declared.steps.TextStep.{TextStep}
use Rattle.session_text.specs.StoryMarks.{end_after, marks_come, marks_go, AreSplicedTexts, IsSplicedWhole}
use Rattle.session_text.specs.StoryMarks.{nth_text_begin}
use Rattle.session_text.specs.StoryMarks.{ends_with_notes, ends_with_heads}
use Rattle.session_text.specs.AddedText.{IsAddedFor, marked_block}
use Rattle.session_text.specs.TextSteps.{AreStories, HasNewStory, has_any, IsStoryCut, StandAlike, IsSplicedText}
use Rattle.session_text.specs.TextSteps.{IsTextStep}
use Rattle.session_text.proofs.MarkLemmas.{notes_splice, heads_splice}
use Rattle.session_text.proofs.BlockLemmas.{items_added, block_added, none_added}

-- ---- whether there are some

pub some_any : {A : Type 0} (xs : List A) (n : ℕ) → n ≡ length xs → nat_lt 0 n ≡ has_any xs
some_any [] n is = ap (nat_lt 0) is
some_any (x ∷ xs) n is = lt-ltb 0 n (omega (arith, is))

-- the slots of a story by its items
pub story_slots_counted : (texts : List (List Item)) (end : Bool) (items slots : ℕ) →
    items ≡ length (joined_texts texts) → slots ≡ items + length (loose_if end) →
    slots ≡ length (map shown (joined_texts texts) ++ loose_if end)
story_slots_counted texts end items slots count is =
    is ∙ (ap (λ n. n + length (loose_if end)) count ∙ sym (length-story_slots texts end))

-- ---- the marks that come

pub marks_few : (end : Bool) (items new : List Item) (other : List Slot) → length (marks_come end items new other) ≤ 2
marks_few end [] [] other = omega arith
marks_few true [] (y ∷ ys) other = omega arith
marks_few false [] (y ∷ ys) [] = omega arith
marks_few false [] (y ∷ ys) (slot ∷ slots) = omega arith
marks_few end (x ∷ xs) new other = omega arith

-- they come with items where there were none
pub marks_first : (end : Bool) (items new : List Item) (other : List Slot) (removed fresh : ℕ) →
    length new + removed ≡ length items + fresh → 0 < length (marks_come end items new other) → 0 < fresh
marks_first end [] [] other removed fresh count some = absurd (omega (arith, some))
marks_first end [] (y ∷ ys) other removed fresh count some = omega (arith, count)
marks_first end (x ∷ xs) new other removed fresh count some = absurd (omega (arith, some))

-- and where there were none
marks_empty : (end : Bool) (items new : List Item) (other : List Slot) →
    0 < length (marks_come end items new other) → (items ≡ []) × (0 < length new)
marks_empty end [] [] other some = absurd (omega (arith, some))
marks_empty end [] (y ∷ ys) other some = (refl, omega arith)
marks_empty end (x ∷ xs) new other some = absurd (omega (arith, some))

-- ---- steps

-- a range of all items
pub whole_range : (items : List Item) (len : ℕ) → len ≡ length items → slice_range items 0 len ≡ items
whole_range items len is =
    let n : len - 0 ≡ length items = omega (arith, is) in
    ap (λ k. take k items) n ∙ take-length items

-- what represents the whole text represents it
pub same_stands : (document : Document) (ends : StoryEnds) → StandAlike document document ends
same_stands document ends = record { len = refl; marks = refl; stand = λ old plan places stands. stands }

pub spliced_text : (document changed : Document) (ends after : StoryEnds) (from to : ℕ) (slots : List Slot) →
    IsSplicedWhole document ends changed after from to slots → IsSplicedText document ends changed after from to slots
spliced_text document changed ends after from to slots whole =
    record { made = changed; whole = whole; alike = same_stands changed after }

text_step : (document changed : Document) (ends : Ends) (step : TextStep) (made : StoryEnds) (from to marks : ℕ)
    (fresh : List Item) (slots : List Slot) →
    IsSplicedText document (ends_of ends) changed made from to slots →
    AreTogether IsAddedFor (marked_block fresh marks) slots → ends_of step.after.ends ≡ made → step.from ≡ from →
    step.to ≡ to → step.items ≡ fresh → step.marks ≡ marks → marks ≤ 2 → (0 < marks → 0 < length fresh) →
    (0 < marks → HasNewStory document changed) → AreStories changed step.after → IsTextStep document changed ends step
text_step document changed ends step made from to marks fresh slots spliced added end begin last items count few first
    empty stories = record {
      slots = slots;
      whole =
          subst (λ e. IsSplicedText document (ends_of ends) changed e step.from step.to slots) (sym end)
          (subst (λ n. IsSplicedText document (ends_of ends) changed made n step.to slots) (sym begin)
          (subst (λ n. IsSplicedText document (ends_of ends) changed made from n slots) (sym last) spliced));
      block =
          subst (λ l. AreTogether IsAddedFor (marked_block l step.marks) slots) (sym items)
          (subst (λ n. AreTogether IsAddedFor (marked_block fresh n) slots) (sym count) added);
      few = omega (arith, few, count);
      first = λ some. omega (arith, first (omega (arith, some, count)), ap length items);
      empty = λ some. empty (omega (arith, some, count));
      stories = stories;
    }

pub main_text_step : (document : Document) (stories : Stories) (step : TextStep) (from to count : ℕ)
    (fresh : List Item) → AreStories document stories → from ≤ to → to ≤ stories.main → count ≡ length fresh →
    step ≡ record {
      from = from;
      to = to;
      items = fresh;
      marks = 0;
      after = record {
        main = stories.main - (to - from) + count;
        notes = stories.notes;
        heads = stories.heads;
        ends = stories.ends;
      };
    } → IsTextStep document (main_spliced from to fresh document) stories.ends step
unfolding document_slots
main_text_step document stories step from to count fresh are order within many is =
    let ends = ends_of stories.ends in
    let notes = note_slots document ends in
    let heads = head_slots document ends in
    let rest : List Slot = notes ++ (heads ++ last_slots (notes ++ heads)) in
    let len = length-append (map shown document.main) rest in
    let inside : to ≤ length document.main = omega (arith, within, are.main) in
    let changed : Document = main_spliced from to fresh document in
    let spliced : IsSplicedWhole document ends changed ends from to (map shown fresh) =
    record {
      order = order;
      within = omega (arith, len, inside, length-map document.main shown);
      whole = main_splices document ends from to fresh order inside;
    } in
    text_step document changed stories.ends step ends from to 0 fresh (map shown fresh)
    (spliced_text document changed ends ends from to (map shown fresh) spliced)
    (subst (λ l. AreTogether IsAddedFor l (map shown fresh)) (sym (append-nil fresh)) (items_added fresh))
    (ap (λ s. ends_of s.after.ends) is) (ap (λ s. s.from) is) (ap (λ s. s.to) is) (ap (λ s. s.items) is)
    (ap (λ s. s.marks) is) (omega arith) (λ some. absurd (omega (arith, some)))
    (λ some. absurd (omega (arith, some)))
    (record {
      main =
          omega (
            arith,
            ap (λ s. s.after.main) is,
            are.main,
            many,
            order,
            inside,
            length-splice document.main fresh from to order inside,
          );
      notes = ap (λ s. s.after.notes) is ∙ are.notes;
      heads = ap (λ s. s.after.heads) is ∙ are.heads;
    })

-- as many items as are put in place of others
pub spliced_count : (texts new : List (List Item)) (from to : ℕ) (fresh : List Item) →
    AreSplicedTexts texts new from to fresh →
    length (joined_texts new) + (to - from) ≡ length (joined_texts texts) + length fresh
spliced_count texts new from to fresh spliced =
    omega (
      arith,
      spliced.order,
      spliced.within,
      ap length spliced.items,
      length-splice (joined_texts texts) fresh from to spliced.order spliced.within,
    )

-- all items of texts are before the end of the last one
pub begin_of-all : (texts : List (List Item)) → nth_text_begin texts (length texts) ≡ length (joined_texts texts)
begin_of-all texts = ap (λ l. length (joined_texts l)) (take-length texts)

pub note_spliced : (document : Document) (stories : Stories) (step : TextStep) (place : StoryPlace) (cut : StoryCut)
    (notes : List (List Item)) (from to count : ℕ) (fresh : List Item) → AreStories document stories →
    AreSplicedTexts document.notes notes from to fresh → count ≡ length fresh → place.begin ≡ stories.main →
    place.end ≡ stories.ends.notes →
    IsStoryCut place (joined_texts document.notes) (joined_texts notes) (head_slots document (ends_of stories.ends))
    from to cut → step ≡ record {
      from = cut.from;
      to = cut.to;
      items = fresh;
      marks = cut.marks;
      after = record {
        main = stories.main;
        notes = stories.notes - (to - from) + count;
        heads = stories.heads;
        ends = record { notes = cut.end; heads = stories.ends.heads };
      };
    } → IsTextStep document (record document { notes = notes }) stories.ends step
note_spliced document stories step place cut notes from to count fresh are spliced many begin end is step_is =
    let ends = ends_of stories.ends in
    let items : List Item = joined_texts document.notes in
    let new : List Item = joined_texts notes in
    let other : List Slot = head_slots document ends in
    let main : ℕ = length document.main in
    let changed : Document = record document { notes = notes } in
    let front : place.begin ≡ main = begin ∙ are.main in
    let first : cut.from ≡ main + from = is.from_is ∙ ap (λ n. n + from) front in
    let last : cut.to ≡ main + (to + marks_go ends.notes items new other) =
    is.to_is ∙ (ap (λ n. n + (to + marks_go place.end items new other)) front
    ∙ ap (λ e. main + (to + marks_go e items new other)) end) in
    let marks : cut.marks ≡ length (marks_come ends.notes items new other) =
    is.marks ∙ ap (λ e. length (marks_come e items new other)) end in
    let after : cut.end ≡ end_after ends.notes items new = is.end_is ∙ ap (λ e. end_after e items new) end in
    let counted = spliced_count document.notes notes from to fresh spliced in
    let come : List Slot = marks_come ends.notes items new other in
    text_step document changed stories.ends step (ends_with_notes document ends notes) (main + from)
    (main + (to + marks_go ends.notes items new other)) (length come) fresh (map shown fresh ++ come)
    (spliced_text document changed ends (ends_with_notes document ends notes) (main + from)
    (main + (to + marks_go ends.notes items new other)) (map shown fresh ++ come)
    (notes_splice document ends notes from to fresh spliced))
    (block_added ends.notes items new fresh other)
    (ap (λ s. ends_of s.after.ends) step_is ∙ ap (λ e. record { notes = e; heads = ends.heads }) after)
    (ap (λ s. s.from) step_is ∙ first) (ap (λ s. s.to) step_is ∙ last) (ap (λ s. s.items) step_is)
    (ap (λ s. s.marks) step_is ∙ marks) (marks_few ends.notes items new other)
    (λ some. marks_first ends.notes items new other (to - from) (length fresh) counted some)
    (λ some. inl (marks_empty ends.notes items new other some))
    (record {
      main = ap (λ s. s.after.main) step_is ∙ are.main;
      notes =
          omega (
            arith,
            ap (λ s. s.after.notes) step_is,
            are.notes,
            many,
            counted,
            spliced.order,
            spliced.within,
          );
      heads = ap (λ s. s.after.heads) step_is ∙ are.heads;
    })

pub head_spliced : (document : Document) (stories : Stories) (step : TextStep) (place : StoryPlace) (cut : StoryCut)
    (heads : List (List Item)) (from to count : ℕ) (fresh : List Item) → AreStories document stories →
    AreSplicedTexts document.heads heads from to fresh → count ≡ length fresh →
    place.begin ≡ length document.main + length (note_slots document (ends_of stories.ends)) →
    place.end ≡ stories.ends.heads →
    IsStoryCut place (joined_texts document.heads) (joined_texts heads) (note_slots document (ends_of stories.ends))
    from to cut → step ≡ record {
      from = cut.from;
      to = cut.to;
      items = fresh;
      marks = cut.marks;
      after = record {
        main = stories.main;
        notes = stories.notes;
        heads = stories.heads - (to - from) + count;
        ends = record { notes = stories.ends.notes; heads = cut.end };
      };
    } → IsTextStep document (record document { heads = heads }) stories.ends step
head_spliced document stories step place cut heads from to count fresh are spliced many begin end is step_is =
    let ends = ends_of stories.ends in
    let items : List Item = joined_texts document.heads in
    let new : List Item = joined_texts heads in
    let other : List Slot = note_slots document ends in
    let front : ℕ = length document.main + length other in
    let changed : Document = record document { heads = heads } in
    let first : cut.from ≡ front + from = is.from_is ∙ ap (λ n. n + from) begin in
    let last : cut.to ≡ front + (to + marks_go ends.heads items new other) =
    is.to_is ∙ (ap (λ n. n + (to + marks_go place.end items new other)) begin
    ∙ ap (λ e. front + (to + marks_go e items new other)) end) in
    let marks : cut.marks ≡ length (marks_come ends.heads items new other) =
    is.marks ∙ ap (λ e. length (marks_come e items new other)) end in
    let after : cut.end ≡ end_after ends.heads items new = is.end_is ∙ ap (λ e. end_after e items new) end in
    let counted = spliced_count document.heads heads from to fresh spliced in
    let come : List Slot = marks_come ends.heads items new other in
    text_step document changed stories.ends step (ends_with_heads document ends heads) (front + from)
    (front + (to + marks_go ends.heads items new other)) (length come) fresh (map shown fresh ++ come)
    (spliced_text document changed ends (ends_with_heads document ends heads) (front + from)
    (front + (to + marks_go ends.heads items new other)) (map shown fresh ++ come)
    (heads_splice document ends heads from to fresh spliced))
    (block_added ends.heads items new fresh other)
    (ap (λ s. ends_of s.after.ends) step_is ∙ ap (λ e. record { notes = ends.notes; heads = e }) after)
    (ap (λ s. s.from) step_is ∙ first) (ap (λ s. s.to) step_is ∙ last) (ap (λ s. s.items) step_is)
    (ap (λ s. s.marks) step_is ∙ marks) (marks_few ends.heads items new other)
    (λ some. marks_first ends.heads items new other (to - from) (length fresh) counted some)
    (λ some. inr (marks_empty ends.heads items new other some))
    (record {
      main = ap (λ s. s.after.main) step_is ∙ are.main;
      notes = ap (λ s. s.after.notes) step_is ∙ are.notes;
      heads =
          omega (
            arith,
            ap (λ s. s.after.heads) step_is,
            are.heads,
            many,
            counted,
            spliced.order,
            spliced.within,
          );
    })

-- ---- a change that leaves the text

pub nothing_put : (document changed : Document) (stories : Stories) (step : TextStep) →
    StandAlike document changed (ends_of stories.ends) → AreStories changed stories →
    step ≡ record { from = 0; to = 0; items = []; marks = 0; after = stories } →
    IsTextStep document changed stories.ends step
nothing_put document changed stories step alike are is =
    let ends = ends_of stories.ends in
    let whole : IsSplicedWhole document ends document ends 0 0 [] =
    record { order = omega arith; within = omega arith; whole = refl } in
    text_step document changed stories.ends step ends 0 0 0 [] []
    (record { made = document; whole = whole; alike = alike })
    none_added (ap (λ s. ends_of s.after.ends) is) (ap (λ s. s.from) is) (ap (λ s. s.to) is) (ap (λ s. s.items) is)
    (ap (λ s. s.marks) is) (omega arith) (λ some. absurd (omega (arith, some)))
    (λ some. absurd (omega (arith, some)))
    (subst (AreStories changed) (sym (ap (λ s. s.after) is)) are)
