-- The step of a text for each change of its document.
use Rattle.std.specs.Prelude.{slice_get, slice_set, is_some, Bool, MatchOption}
use Rattle.std.specs.List.{splice}
use Rattle.std.proofs.Common.{◌≡◌, ◌∙◌, ◌+◌, ◌<◌, ◌≤◌, refl, sym, ap, subst, ℕ, List, Option, Some, None, length}
use Rattle.std.proofs.Common.{arith}
use Rattle.std.proofs.lemmas.Option.{slice_get_within}
use Rattle.doc_bits.specs.declared.places.Story.TheVariants.{Main, Note, Head}
use Rattle.document_bookmarks.specs.declared.bookmark_order.Bookmark.{Bookmark}
use Rattle.prop_map.specs.Settings.{Properties}
use Rattle.doc_model.specs.declared.item.Item.{Item}
use Rattle.doc_model.specs.declared.document.Document.{Document}
use Rattle.doc_model.specs.Collected.{joined_texts}
use Rattle.doc_patch.specs.declared.changes.Change.{Change}
use Rattle.doc_patch.specs.declared.changes.Change.TheVariants.{SpliceText, ModifyItems, SetSection, SpliceNotes}
use Rattle.doc_patch.specs.declared.changes.Change.TheVariants.{SpliceHeads, SetStyleCharacters, SetStyleParagraphs}
use Rattle.doc_patch.specs.declared.changes.Change.TheVariants.{SetBookmarks}
use Rattle.doc_patch.specs.Changes.{changed, changed_at, with_section}
use Rattle.doc_patch.specs.Makes.{CanSplice}
use Rattle.save_laws.specs.Places.{GivenUnit, given_of}
use Rattle.save_laws.specs.ByRuns.{slot_end}
use Rattle.save_laws.specs.Slots.{Slot, StoryEnds, shown, note_slots, head_slots, last_slots, document_slots}
use Rattle.save_laws.specs.Ends.{ends_of}
use Rattle.save_laws.specs.FastSaves.{StandsInEither, IsGivenBy}
use Rattle.session_text.specs.declared.stories.Stories.{Stories}
use Rattle.session_text.specs.declared.steps.TextStep.{TextStep}
use Rattle.session_text.specs.StoryMarks.{AreSplicedTexts, nth_text_begin}
use Rattle.session_text.specs.EditSteps.{KeepsNamed, IsPutStep}
use Rattle.session_text.specs.TextSteps.{AreStories, StandAlike, IsTextStep, IsRangeOf, IsCountedRange, HasCountedRange}
use Rattle.session_text.specs.TextSteps.{CanStep}
use Rattle.std.proofs.Common.{[], ◌++◌, map}
use Rattle.std.proofs.lemmas.List.{length-map, length-append, map-append}
use Rattle.doc_bits.proofs.Public.{map-map}
use Rattle.session_text.proofs.MarkLemmas.{one_text_splices, texts_splice}
use Rattle.session_text.proofs.ModifyLemmas.{put_text}
use Rattle.session_text.proofs.SectionLemmas.{given_stays, put_given, length-put}
use Rattle.session_text.proofs.StepLemmas.{nothing_put}

-- a text that is there
pub record IsThere {A : Type 0} (o : Option A) (P : A → Type 0) : Type 0 where
  pub value : A
  pub there : o ≡ Some value
  pub is : P value

pub is_there : {A : Type 0} (o : Option A) (P : A → Type 0) → MatchOption o ⊥ P → IsThere o P
is_there None P found = absurd found
is_there (Some value) P found = record { value = value; there = refl; is = found }

-- ---- a splice within one text

pub note_text_step : (texts : List (List Item)) (now : Document) (stories : Stories) (number from to first last : ℕ)
    (fresh : List Item) (step : TextStep) →
    ((notes : List (List Item)) → AreSplicedTexts now.notes notes first last fresh →
    IsTextStep now (record now { notes = notes }) stories.ends step) → now.notes ≡ texts →
    first ≡ nth_text_begin texts number + from → last ≡ nth_text_begin texts number + to →
    MatchOption (slice_get texts number) ⊥ (IsRangeOf from to) →
    IsTextStep now (changed (SpliceText (Note number) from to fresh) now) stories.ends step
note_text_step texts now stories number from to first last fresh step given same begin end has =
    let found = is_there (slice_get texts number) (IsRangeOf from to) has in
    let there : slice_get now.notes number ≡ Some found.value = ap (λ l. slice_get l number) same ∙ found.there in
    let new : List (List Item) = slice_set now.notes number (splice found.value from to fresh) in
    let spliced =
    one_text_splices now.notes number found.value fresh from to there found.is.order found.is.within in
    let a : first ≡ nth_text_begin now.notes number + from = begin ∙ ap (λ l. nth_text_begin l number + from) (sym same)
    in
    let b : last ≡ nth_text_begin now.notes number + to = end ∙ ap (λ l. nth_text_begin l number + to) (sym same) in
    subst (λ d. IsTextStep now d stories.ends step)
    (sym (put_text (λ t. splice t from to fresh) now (Note number) found.value there))
    (given new
    (subst (λ n. AreSplicedTexts now.notes new n last fresh) (sym a)
    (subst (λ n. AreSplicedTexts now.notes new (nth_text_begin now.notes number + from) n fresh) (sym b) spliced)))

pub head_text_step : (texts : List (List Item)) (now : Document) (stories : Stories) (number from to first last : ℕ)
    (fresh : List Item) (step : TextStep) →
    ((heads : List (List Item)) → AreSplicedTexts now.heads heads first last fresh →
    IsTextStep now (record now { heads = heads }) stories.ends step) → now.heads ≡ texts →
    first ≡ nth_text_begin texts number + from → last ≡ nth_text_begin texts number + to →
    MatchOption (slice_get texts number) ⊥ (IsRangeOf from to) →
    IsTextStep now (changed (SpliceText (Head number) from to fresh) now) stories.ends step
head_text_step texts now stories number from to first last fresh step given same begin end has =
    let found = is_there (slice_get texts number) (IsRangeOf from to) has in
    let there : slice_get now.heads number ≡ Some found.value = ap (λ l. slice_get l number) same ∙ found.there in
    let new : List (List Item) = slice_set now.heads number (splice found.value from to fresh) in
    let spliced =
    one_text_splices now.heads number found.value fresh from to there found.is.order found.is.within in
    let a : first ≡ nth_text_begin now.heads number + from = begin ∙ ap (λ l. nth_text_begin l number + from) (sym same)
    in
    let b : last ≡ nth_text_begin now.heads number + to = end ∙ ap (λ l. nth_text_begin l number + to) (sym same) in
    subst (λ d. IsTextStep now d stories.ends step)
    (sym (put_text (λ t. splice t from to fresh) now (Head number) found.value there))
    (given new
    (subst (λ n. AreSplicedTexts now.heads new n last fresh) (sym a)
    (subst (λ n. AreSplicedTexts now.heads new (nth_text_begin now.heads number + from) n fresh) (sym b) spliced)))

-- ---- a splice of texts

-- at numbers that are those of the range
pub spliced_at : (texts other fresh : List (List Item)) (first last from to : ℕ) (items : List Item) → other ≡ texts →
    first ≡ nth_text_begin texts from → last ≡ nth_text_begin texts to → items ≡ joined_texts fresh → from ≤ to →
    to ≤ length texts → AreSplicedTexts other (splice other from to fresh) first last items
spliced_at texts other fresh first last from to items same begin end put order within =
    let inside : to ≤ length other = omega (arith, within, ap length same) in
    let new = splice other from to fresh in
    let a : first ≡ nth_text_begin other from = begin ∙ ap (λ l. nth_text_begin l from) (sym same) in
    let b : last ≡ nth_text_begin other to = end ∙ ap (λ l. nth_text_begin l to) (sym same) in
    subst (λ n. AreSplicedTexts other new n last items) (sym a)
    (subst (λ n. AreSplicedTexts other new (nth_text_begin other from) n items) (sym b)
    (subst (AreSplicedTexts other new (nth_text_begin other from) (nth_text_begin other to)) (sym put)
    (texts_splice other fresh from to order inside)))

-- the begins of texts
pub texts_range : (texts : List (List Item)) (from to first last : ℕ) → first ≡ nth_text_begin texts from →
    last ≡ nth_text_begin texts to → from ≤ to → to ≤ length texts →
    (first ≤ last) × (last ≤ length (joined_texts texts))
texts_range texts from to first last begin end order within =
    let whole = texts_splice texts [] from to order within in
    (omega (arith, begin, end, whole.order), omega (arith, end, whole.within))

-- ---- a change that leaves the text

-- items that are given alike end paragraphs alike
marks_stay : (main new : List Item) (rest : List Slot) → map given_of new ≡ map given_of main →
    map slot_end (map shown new ++ rest) ≡ map slot_end (map shown main ++ rest)
marks_stay main new rest same =
    let ends : GivenUnit → Option Bool = λ given. Some (is_some given.mark) in
    let both : (items : List Item) → map slot_end (map shown items) ≡ map ends (map given_of items) = λ items.
    map-map slot_end shown items ∙ sym (map-map ends given_of items) in
    map-append slot_end (map shown new) rest
    ∙ (ap (λ l. l ++ map slot_end rest) (both new ∙ (ap (map ends) same ∙ sym (both main)))
    ∙ sym (map-append slot_end (map shown main) rest))

pub section_alike : (document : Document) (ends : StoryEnds) (at : ℕ) (set : Properties) →
    StandAlike document (changed (SetSection at set) document) ends
unfolding document_slots
section_alike document ends at set =
    let notes = note_slots document ends in
    let heads = head_slots document ends in
    let rest = notes ++ (heads ++ last_slots (notes ++ heads)) in
    let new : List Item = changed_at document.main at (with_section set) in
    record {
      len =
          omega (
            arith,
            length-append (map shown document.main) rest,
            length-append (map shown new) rest,
            length-map document.main shown,
            length-map new shown,
            length-put document.main at set,
          );
      marks = marks_stay document.main new rest (put_given document.main at set (slice_get document.main at) refl);
      stand = λ old plan places stands.
          given_stays (StandsInEither old plan) (IsGivenBy old plan) places document.main new rest
          (put_given document.main at set (slice_get document.main at) refl) stands;
    }

pub section_step : (now : Document) (stories : Stories) (step : TextStep) (at : ℕ) (set : Properties) →
    AreStories now stories → step ≡ record { from = 0; to = 0; items = []; marks = 0; after = stories } →
    IsTextStep now (changed (SetSection at set) now) stories.ends step
section_step now stories step at set are is =
    nothing_put now (changed (SetSection at set) now) stories step (section_alike now (ends_of stories.ends) at set)
    (record { main = omega (arith, are.main, length-put now.main at set); notes = are.notes; heads = are.heads }) is

pub characters_step : (now : Document) (stories : Stories) (step : TextStep) (istd : ℕ) (set : Properties) →
    AreStories now stories → step ≡ record { from = 0; to = 0; items = []; marks = 0; after = stories } →
    IsTextStep now (changed (SetStyleCharacters istd set) now) stories.ends step
unfolding document_slots
characters_step now stories step istd set are is =
    nothing_put now (changed (SetStyleCharacters istd set) now) stories step
    (record { len = refl; marks = refl; stand = λ old plan places stands. stands })
    (record { main = are.main; notes = are.notes; heads = are.heads }) is

pub paragraphs_step : (now : Document) (stories : Stories) (step : TextStep) (istd : ℕ) (set : Properties) →
    AreStories now stories → step ≡ record { from = 0; to = 0; items = []; marks = 0; after = stories } →
    IsTextStep now (changed (SetStyleParagraphs istd set) now) stories.ends step
unfolding document_slots
paragraphs_step now stories step istd set are is =
    nothing_put now (changed (SetStyleParagraphs istd set) now) stories step
    (record { len = refl; marks = refl; stand = λ old plan places stands. stands })
    (record { main = are.main; notes = are.notes; heads = are.heads }) is

pub bookmarks_step : (now : Document) (stories : Stories) (step : TextStep) (list : List Bookmark) →
    AreStories now stories → step ≡ record { from = 0; to = 0; items = []; marks = 0; after = stories } →
    IsTextStep now (changed (SetBookmarks list) now) stories.ends step
unfolding document_slots
bookmarks_step now stories step list are is =
    nothing_put now (changed (SetBookmarks list) now) stories step
    (record { len = refl; marks = refl; stand = λ old plan places stands. stands })
    (record { main = are.main; notes = are.notes; heads = are.heads }) is

-- ---- when a change has a step

-- a text that has a range, with items that can be put there
pub range_there : (o : Option (List Item)) (from to : ℕ) (fresh : List Item) →
    MatchOption o ⊥ (CanSplice from to fresh) → MatchOption o ⊥ (IsRangeOf from to)
range_there None from to fresh has = has
range_there (Some text) from to fresh has = record { order = has.ordered; within = has.within }

counted_text : (count : ℕ) (texts other : List (List Item)) (number from to : ℕ) (fresh : List Item) →
    count ≡ length (joined_texts other) → other ≡ texts →
    MatchOption (slice_get other number) ⊥ (CanSplice from to fresh) → HasCountedRange count texts number from to
counted_text count texts other number from to fresh counted same has = record {
  many = counted ∙ ap (λ l. length (joined_texts l)) same;
  range =
      subst (λ l. MatchOption (slice_get l number) ⊥ (IsRangeOf from to)) same
      (range_there (slice_get other number) from to fresh has);
}

counted_texts : (count : ℕ) (texts other fresh : List (List Item)) (from to : ℕ) →
    count ≡ length (joined_texts other) → other ≡ texts → CanSplice from to fresh other →
    IsCountedRange count texts from to
counted_texts count texts other fresh from to counted same can =
    let within = can.within in
    record {
      many = counted ∙ ap (λ l. length (joined_texts l)) same;
      order = can.ordered;
      within = omega (arith, within, ap length same);
    }

pub can_step : (document now : Document) (stories : Stories) (change : Change) → AreStories now stories →
    IsPutStep document now change → CanStep document stories change
can_step document now stories (SpliceText Main from to fresh) are put =
    let named = put.named in
    let within = put.can.0.within in
    (are.main ∙ ap length named, record { order = put.can.0.ordered; within = omega (arith, within, ap length named) })
can_step document now stories (SpliceText (Note number) from to fresh) are put =
    counted_text stories.notes document.notes now.notes number from to fresh are.notes put.named put.can.0
can_step document now stories (SpliceText (Head number) from to fresh) are put =
    counted_text stories.heads document.heads now.heads number from to fresh are.heads put.named put.can.0
can_step document now stories (ModifyItems story from to by) are put = put.named
can_step document now stories (SetSection at set) are put = tt
can_step document now stories (SpliceNotes from to fresh) are put =
    counted_texts stories.notes document.notes now.notes fresh from to are.notes put.named put.can
can_step document now stories (SpliceHeads from to fresh) are put =
    counted_texts stories.heads document.heads now.heads fresh from to are.heads put.named put.can
can_step document now stories (SetStyleCharacters istd set) are put = tt
can_step document now stories (SetStyleParagraphs istd set) are put = tt
can_step document now stories (SetBookmarks list) are put = tt

-- a range of a text ends before the items of all do
pub range_within : (texts : List (List Item)) (number from to : ℕ) →
    MatchOption (slice_get texts number) ⊥ (IsRangeOf from to) →
    (number < length texts) × ((from ≤ to) × (nth_text_begin texts number + to ≤ length (joined_texts texts)))
range_within texts number from to has =
    let found = is_there (slice_get texts number) (IsRangeOf from to) has in
    let spliced =
    one_text_splices texts number found.value [] from to found.there found.is.order found.is.within in
    (slice_get_within texts number found.value found.there, (found.is.order, spliced.within))

-- ---- each change

pub notes_change : (document now : Document) (stories : Stories) (change : Change) (from to first last : ℕ)
    (fresh : List (List Item)) (items : List Item) (step : TextStep) → change ≡ SpliceNotes from to fresh →
    CanStep document stories change → KeepsNamed document now change → items ≡ joined_texts fresh →
    first ≡ nth_text_begin document.notes from → last ≡ nth_text_begin document.notes to →
    ((notes : List (List Item)) → AreSplicedTexts now.notes notes first last items →
    IsTextStep now (record now { notes = notes }) stories.ends step) →
    IsTextStep now (changed change now) stories.ends step
notes_change document now stories change from to first last fresh items step is can named put begin end given =
    let counted : IsCountedRange stories.notes document.notes from to = subst (CanStep document stories) is can in
    let same : now.notes ≡ document.notes = subst (KeepsNamed document now) is named in
    subst (λ c. IsTextStep now (changed c now) stories.ends step) (sym is)
    (given (splice now.notes from to fresh)
    (spliced_at document.notes now.notes fresh first last from to items same begin end put counted.order
    counted.within))

pub heads_change : (document now : Document) (stories : Stories) (change : Change) (from to first last : ℕ)
    (fresh : List (List Item)) (items : List Item) (step : TextStep) → change ≡ SpliceHeads from to fresh →
    CanStep document stories change → KeepsNamed document now change → items ≡ joined_texts fresh →
    first ≡ nth_text_begin document.heads from → last ≡ nth_text_begin document.heads to →
    ((heads : List (List Item)) → AreSplicedTexts now.heads heads first last items →
    IsTextStep now (record now { heads = heads }) stories.ends step) →
    IsTextStep now (changed change now) stories.ends step
heads_change document now stories change from to first last fresh items step is can named put begin end given =
    let counted : IsCountedRange stories.heads document.heads from to = subst (CanStep document stories) is can in
    let same : now.heads ≡ document.heads = subst (KeepsNamed document now) is named in
    subst (λ c. IsTextStep now (changed c now) stories.ends step) (sym is)
    (given (splice now.heads from to fresh)
    (spliced_at document.heads now.heads fresh first last from to items same begin end put counted.order
    counted.within))

pub section_change : (now : Document) (stories : Stories) (change : Change) (step : TextStep) (at : ℕ)
    (set : Properties) → change ≡ SetSection at set → AreStories now stories →
    step ≡ record { from = 0; to = 0; items = []; marks = 0; after = stories } →
    IsTextStep now (changed change now) stories.ends step
section_change now stories change step at set is are none =
    subst (λ c. IsTextStep now (changed c now) stories.ends step) (sym is)
    (section_step now stories step at set are none)

pub characters_change : (now : Document) (stories : Stories) (change : Change) (step : TextStep) (istd : ℕ)
    (set : Properties) → change ≡ SetStyleCharacters istd set → AreStories now stories →
    step ≡ record { from = 0; to = 0; items = []; marks = 0; after = stories } →
    IsTextStep now (changed change now) stories.ends step
characters_change now stories change step istd set is are none =
    subst (λ c. IsTextStep now (changed c now) stories.ends step) (sym is)
    (characters_step now stories step istd set are none)

pub paragraphs_change : (now : Document) (stories : Stories) (change : Change) (step : TextStep) (istd : ℕ)
    (set : Properties) → change ≡ SetStyleParagraphs istd set → AreStories now stories →
    step ≡ record { from = 0; to = 0; items = []; marks = 0; after = stories } →
    IsTextStep now (changed change now) stories.ends step
paragraphs_change now stories change step istd set is are none =
    subst (λ c. IsTextStep now (changed c now) stories.ends step) (sym is)
    (paragraphs_step now stories step istd set are none)

pub bookmarks_change : (now : Document) (stories : Stories) (change : Change) (step : TextStep)
    (list : List Bookmark) → change ≡ SetBookmarks list → AreStories now stories →
    step ≡ record { from = 0; to = 0; items = []; marks = 0; after = stories } →
    IsTextStep now (changed change now) stories.ends step
bookmarks_change now stories change step list is are none =
    subst (λ c. IsTextStep now (changed c now) stories.ends step) (sym is)
    (bookmarks_step now stories step list are none)
