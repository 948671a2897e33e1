-- The changes of an accepted edit are steps of a text.
use Rattle.std.specs.Prelude.{slice_get, slice_set, slice_range, List, ℕ, IsSome, is_some}
use Rattle.std.specs.List.{splice, All, sum_by, position_or_len}
use Rattle.std.specs.Option.{unwrap_or, option_map}
use Rattle.std.proofs.Common.{◌≡◌, ◌∙◌, ◌⊎◌, ◌++◌, ◌∷◌, ◌+◌, ◌-◌, ◌<◌, ◌≤◌, [], refl, sym, ap, subst, zero, suc, inl}
use Rattle.std.proofs.Common.{inr, Bool, true, false}
use Rattle.std.proofs.Common.{Some, length, map, take, drop, replicate, arith}
use Rattle.std.proofs.lemmas.List.{length-take}
use Rattle.std.proofs.lemmas.List.Elements.{All-nil}
use Rattle.std.proofs.lemmas.List.Sums.{sum_by-cons, passes_at_first}
use Rattle.std.proofs.lemmas.Option.{slice_get_within, none-some, get_or_from_slice_get}
use Rattle.doc_bits.specs.declared.places.Story.{Story}
use Rattle.doc_bits.specs.declared.places.Story.TheVariants.{Main, Note as NoteText, Head as HeadText}
use Rattle.doc_bits.proofs.Public.{All_at, All-from_slice_get, get-map, slice_get-take, in_front, in_back, got_drop}
use Rattle.prop_map.specs.declared.modifiers.Modifier.{Modifier}
use Rattle.prop_map.specs.Settings.{Properties}
use Rattle.prop_map.specs.Modifiers.{no_modifier, IsFormedModifier}
use Rattle.doc_model.specs.declared.item.Item.{Item}
use Rattle.doc_model.specs.declared.document.Document.{Document}
use Rattle.doc_model.specs.Collected.{joined_texts}
use Rattle.plain_doc.specs.RightDocument.{IsValidDocument}
use Rattle.plain_doc.specs.RulesOfItems.{HasShortProperties}
use Rattle.plain_doc.proofs.Public.{sound_is_valid}
use Rattle.doc_model.proofs.Public.{length-splice}
use Rattle.edit_script.specs.declared.commands.Command.{Command}
use Rattle.edit_script.specs.declared.commands.Command.TheVariants.{Insert, Erase, Char, Plain, Para, Style, Field}
use Rattle.edit_script.specs.declared.commands.Command.TheVariants.{Note, Split, Merge, Sect, Row, StyleChar}
use Rattle.edit_script.specs.declared.commands.Command.TheVariants.{StylePara, Bookmark, Unmark, Save}
use Rattle.doc_patch.specs.declared.changes.Change.{Change}
use Rattle.doc_patch.specs.declared.changes.Change.TheVariants.{SpliceText, ModifyItems, SetSection, SpliceNotes}
use Rattle.doc_patch.specs.declared.changes.Change.TheVariants.{SpliceHeads, SetStyleCharacters, SetStyleParagraphs}
use Rattle.doc_patch.specs.declared.changes.Change.TheVariants.{SetBookmarks}
use Rattle.doc_patch.specs.Changes.{changed, all_changed, modified_item, map_range}
use Rattle.edit_ops.specs.Bookmarks.{new_bookmark, with_bookmark, without_bookmark}
use Rattle.edit_ops.specs.Edits.{changes_of, erased, section_changes, property_characters, property_paragraphs}
use Rattle.edit_ops.specs.Edits.{clearing, naming_style}
use Rattle.edit_ops.specs.Fresh.{inserted_items, field_items, base_properties, note_reference, note_items, split_item}
use Rattle.edit_ops.specs.Fresh.{section_item, row_items}
use Rattle.doc_patch.specs.Makes.{CanSplice, CanMakeAll}
use Rattle.doc_patch.specs.Places.{story_text, items_at, mark_place, section_place, note_number, head_number}
use Rattle.edit_ops.specs.Ranges.{HasText, HasRange}
use Rattle.edit_ops.proofs.Public.{can_make, right_text}
use Rattle.session_text.specs.EditSteps.{KeepsNamed, ArePutSteps, IsShortAfter, IsActStep, AreEditSteps}
use Rattle.session_text.specs.EditSteps.{CommandsAreSteps, PiecesAreFew, items_put, block_pieces, cut_count}
use Rattle.session_text.specs.EditSteps.{pieces_added}
use Rattle.session_text.proofs.MarkLemmas.{texts_splice}
use Rattle.session_text.proofs.ModifyLemmas.{text_put, put_text}
use Rattle.session_text.proofs.StepLemmas.{spliced_count}
use Rattle.session_text.proofs.TextChangeLemmas.{is_there}
use Rattle.session_text.proofs.GrowLemmas.{length-joined, joined_one}

-- ---- texts of the changed document

set_there : {A : Type 0} (xs : List A) (k : ℕ) (x y : A) → slice_get xs k ≡ Some x →
    slice_get (slice_set xs k y) k ≡ Some y
set_there [] k x y there = absurd (none-some x there)
set_there (a ∷ xs) zero x y there = refl
set_there (a ∷ xs) (suc k) x y there = set_there xs k x y there

put_there : (document : Document) (story : Story) (old new : List Item) → story_text document story ≡ Some old →
    story_text (text_put document story new) story ≡ Some new
put_there document Main old new there = refl
put_there document (NoteText number) old new there = set_there document.notes number old new there
put_there document (HeadText number) old new there = set_there document.heads number old new there

short_text : (document : Document) (story : Story) (text : List Item) → IsValidDocument document →
    story_text document story ≡ Some text → All HasShortProperties text
short_text document story text right there =
    All-from_slice_get HasShortProperties text (right_text document story text right there).short

-- what holds of all entries after a splice holds of those that were put
all_middle : {A : Type 0} (P : A → Type 0) (xs ys : List A) (from to : ℕ) → All P (splice xs from to ys) → All P ys
all_middle P xs ys from to all =
    let front = take from xs in
    All-from_slice_get P ys
    (λ k y here.
    All_at P (splice xs from to ys) (length front + k) y all
    (in_back front (ys ++ drop to xs) k (length front + k) y (in_front ys (drop to xs) k y here) refl))

-- the text after a splice
spliced_there : (document : Document) (story : Story) (from to : ℕ) (fresh text : List Item) →
    story_text document story ≡ Some text →
    story_text (changed (SpliceText story from to fresh) document) story ≡ Some (splice text from to fresh)
spliced_there document Main from to fresh text there = ap (option_map (λ t. splice t from to fresh)) there
spliced_there document (NoteText number) from to fresh text there =
    let story = NoteText number in
    ap (λ d. story_text d story) (put_text (λ t. splice t from to fresh) document story text there)
    ∙ put_there document story text (splice text from to fresh) there
spliced_there document (HeadText number) from to fresh text there =
    let story = HeadText number in
    ap (λ d. story_text d story) (put_text (λ t. splice t from to fresh) document story text there)
    ∙ put_there document story text (splice text from to fresh) there

spliced_short : (document : Document) (story : Story) (from to : ℕ) (fresh : List Item) →
    HasText document story (CanSplice from to fresh) →
    IsValidDocument (changed (SpliceText story from to fresh) document) → All HasShortProperties fresh
spliced_short document story from to fresh has right =
    let found = is_there (story_text document story) (CanSplice from to fresh) has in
    let text = found.value in
    all_middle HasShortProperties text fresh from to
    (short_text (changed (SpliceText story from to fresh) document) story (splice text from to fresh) right
    (spliced_there document story from to fresh text found.there))

-- ---- puts

named_text : (document : Document) (story : Story) (from to : ℕ) (fresh : List Item) →
    KeepsNamed document document (SpliceText story from to fresh)
named_text document Main from to fresh = refl
named_text document (NoteText number) from to fresh = refl
named_text document (HeadText number) from to fresh = refl

one_put : (document : Document) (story : Story) (from to : ℕ) (fresh : List Item) →
    CanMakeAll (SpliceText story from to fresh ∷ []) document →
    IsValidDocument (changed (SpliceText story from to fresh) document) →
    ArePutSteps document document (SpliceText story from to fresh ∷ [])
one_put document story from to fresh can right = (
  record {
    can = can.0;
    named = named_text document story from to fresh;
    few = right.few;
    short =
        subst (All HasShortProperties) (sym (joined_one fresh))
        (spliced_short document story from to fresh can.0.0 right);
  },
  tt,
)

-- how many items texts have after a splice
splice_less : (texts : List (List Item)) (from to : ℕ) → from ≤ to → to ≤ length texts →
    sum_by length (splice texts from to []) ≤ sum_by length texts
splice_less texts from to order within =
    let spliced = texts_splice texts [] from to order within in
    omega (
      arith,
      spliced.order,
      spliced.within,
      spliced_count texts (splice texts from to []) _ _ (joined_texts []) spliced,
      length-joined texts,
      length-joined (splice texts from to []),
    )

splice_more : (texts fresh : List (List Item)) (at : ℕ) → at ≤ length texts →
    sum_by length texts ≤ sum_by length (splice texts at at fresh)
splice_more texts fresh at within =
    let spliced = texts_splice texts fresh at at (omega arith) within in
    omega (
      arith,
      spliced.order,
      spliced.within,
      spliced_count texts (splice texts at at fresh) _ _ (joined_texts fresh) spliced,
      length-joined texts,
      length-joined (splice texts at at fresh),
    )

erased_steps : (document : Document) (story : Story) (from to : ℕ) →
    CanMakeAll (erased document story from to) document → IsValidDocument document →
    IsValidDocument (all_changed (erased document story from to) document) →
    ArePutSteps document document (erased document story from to)
erased_steps document Main from to can right after =
    let few : length document.main + (sum_by length document.notes + sum_by length document.heads) ≤ 499998 =
    right.few in
    let main = can.0.0 in
    let notes = can.1.0 in
    let less = length-splice document.main [] from to main.ordered main.within in
    let fewer = splice_less document.notes _ _ notes.ordered notes.within in (
      record {
        can = can.0;
        named = refl;
        few = omega (arith, few, less, main.ordered, main.within);
        short = All-nil HasShortProperties;
      },
      (
        record {
          can = notes;
          named = refl;
          few = omega (arith, few, less, main.ordered, main.within, fewer);
          short = All-nil HasShortProperties;
        },
        (record { can = can.1.1.0; named = refl; few = after.few; short = All-nil HasShortProperties }, tt),
      ),
    )
erased_steps document (NoteText number) from to can right after =
    one_put document (NoteText number) from to [] can after
erased_steps document (HeadText number) from to can right after =
    one_put document (HeadText number) from to [] can after

-- an entry that was put
put_at : {A : Type 0} (xs : List A) (at : ℕ) (y : A) → at ≤ length xs →
    slice_get (splice xs at at (y ∷ [])) at ≡ Some y
put_at xs at y within =
    in_back (take at xs) (y ∷ drop at xs) 0 at y refl (omega (arith, length-take at xs, within))

note_steps : (document : Document) (at number : ℕ) (reference : Item) (note : List Item) →
    CanMakeAll (SpliceText Main at at (reference ∷ []) ∷ SpliceNotes number number (note ∷ []) ∷ []) document →
    IsValidDocument
    (all_changed (SpliceText Main at at (reference ∷ []) ∷ SpliceNotes number number (note ∷ []) ∷ []) document) →
    ArePutSteps document document
    (SpliceText Main at at (reference ∷ []) ∷ SpliceNotes number number (note ∷ []) ∷ [])
note_steps document at number reference note can after =
    let main : List Item = splice document.main at at (reference ∷ []) in
    let notes : List (List Item) = splice document.notes number number (note ∷ []) in
    let changes = SpliceText Main at at (reference ∷ []) ∷ SpliceNotes number number (note ∷ []) ∷ [] in
    let final : Document = all_changed changes document in
    let few : length main + (sum_by length notes + sum_by length document.heads) ≤ 499998 = after.few in
    let more = splice_more document.notes (note ∷ []) number can.1.0.within in (
      record {
        can = can.0;
        named = refl;
        few = omega (arith, few, more);
        short =
            subst (All HasShortProperties) (sym (joined_one (reference ∷ [])))
            (all_middle HasShortProperties document.main (reference ∷ []) at at (short_text final Main main after
            refl));
      },
      (
        record {
          can = can.1.0;
          named = refl;
          few = after.few;
          short =
              subst (All HasShortProperties) (sym (joined_one note))
              (short_text final (NoteText number) note after (put_at document.notes number note can.1.0.within));
        },
        tt,
      ),
    )

no_items : (count : ℕ) → joined_texts (replicate {A = List Item} count []) ≡ []
no_items zero = refl
no_items (suc count) = no_items count

section_steps : (document : Document) (at number : ℕ) (item : Item) →
    CanMakeAll (SpliceText Main at at (item ∷ []) ∷ SpliceHeads number number (replicate 6 []) ∷ []) document →
    IsValidDocument
    (all_changed (SpliceText Main at at (item ∷ []) ∷ SpliceHeads number number (replicate 6 []) ∷ []) document) →
    ArePutSteps document document
    (SpliceText Main at at (item ∷ []) ∷ SpliceHeads number number (replicate 6 []) ∷ [])
section_steps document at number item can after =
    let main : List Item = splice document.main at at (item ∷ []) in
    let heads : List (List Item) = splice document.heads number number (replicate 6 []) in
    let changes = SpliceText Main at at (item ∷ []) ∷ SpliceHeads number number (replicate 6 []) ∷ [] in
    let final : Document = all_changed changes document in
    let few : length main + (sum_by length document.notes + sum_by length heads) ≤ 499998 = after.few in
    let more = splice_more document.heads (replicate 6 []) number can.1.0.within in (
      record {
        can = can.0;
        named = refl;
        few = omega (arith, few, more);
        short =
            subst (All HasShortProperties) (sym (joined_one (item ∷ [])))
            (all_middle HasShortProperties document.main (item ∷ []) at at (short_text final Main main after refl));
      },
      (
        record {
          can = can.1.0;
          named = refl;
          few = after.few;
          short = subst (All HasShortProperties) (sym (no_items 6)) (All-nil HasShortProperties);
        },
        tt,
      ),
    )

section_edit : (document : Document) (at : ℕ) (new : Bool) (set : Properties) →
    CanMakeAll (section_changes document.main at new set) document →
    IsValidDocument (all_changed (section_changes document.main at new set) document) →
    ArePutSteps document document (section_changes document.main at new set)
section_edit document at false set can after =
    (record { can = can.0; named = refl; few = after.few; short = All-nil HasShortProperties }, tt)
section_edit document at true set can after =
    section_steps document at _ (section_item document.main at set) can after

-- ---- modifiers

-- each item of the range has a mark, or the modifier sets no marks
abbrev IsMarkedRange : Document → Story → ℕ → ℕ → Modifier → Type 0
IsMarkedRange document story from to by =
    (text : List Item) (k : ℕ) (item : Item) → story_text document story ≡ Some text → from ≤ k → k < to →
    slice_get text k ≡ Some item → (by.pap ≡ no_modifier.pap) ⊎ IsSome item.mark

act_step : (document : Document) (story : Story) (from to : ℕ) (by : Modifier) →
    HasText document story (HasRange from to) → IsFormedModifier by →
    IsValidDocument (changed (ModifyItems story from to by) document) → IsMarkedRange document story from to by →
    IsActStep document story from to by
act_step document story from to by has formed right marked =
    let found = is_there (story_text document story) (HasRange from to) has in
    let text : List Item = found.value in
    let range : List Item = slice_range text from to in
    let made : List Item = map (modified_item by) range in
    let new : List Item = splice text from to made in
    let after : Document = text_put document story new in
    let some = found.is.0 in
    let short : All HasShortProperties made =
    all_middle HasShortProperties text made from to
    (short_text after story new
    (subst IsValidDocument
    (put_text (λ t. map_range (modified_item by) t from to) document story text found.there) right)
    (put_there document story text new found.there)) in
    record {
      text = text;
      there = found.there;
      range = found.is;
      formed = formed;
      short =
          All-from_slice_get (IsShortAfter by) range
          (λ k item here.
          let below = slice_get_within range k item here in
          record {
            short =
                All_at HasShortProperties made k (modified_item by item) short
                (get-map (modified_item by) range k item here);
            marked =
                marked text (from + k) item found.there (omega arith)
                (omega (arith, below, length-take (to - from) (drop from text), some))
                (got_drop from text k item (slice_get-take (to - from) (drop from text) k item here));
          });
    }

-- the item at the place of a mark has one
first_passes : {A : Type 0} (p : A → Bool) (xs : List A) (x : A) → slice_get xs (position_or_len p xs) ≡ Some x →
    p x ≡ true
first_passes p xs x here =
    let at = position_or_len p xs in
    ap p (sym (get_or_from_slice_get xs at x x here)) ∙ passes_at_first p xs x (slice_get_within xs at x here)

get_behind : {A : Type 0} (n : ℕ) (xs : List A) (k : ℕ) (x : A) → slice_get xs (n + k) ≡ Some x →
    slice_get (drop n xs) k ≡ Some x
get_behind zero xs k x here =
    let e : 0 + k ≡ k = omega arith in
    ap (slice_get xs) (sym e) ∙ here
get_behind (suc n) [] k x here = absurd (none-some x here)
get_behind (suc n) (y ∷ xs) k x here =
    let e : suc n + k ≡ suc (n + k) = omega arith in
    get_behind n xs k x (ap (slice_get (y ∷ xs)) (sym e) ∙ here)

mark_there : (text : List Item) (at : ℕ) (item : Item) → slice_get text (mark_place text at) ≡ Some item →
    IsSome item.mark
mark_there text at item here =
    first_passes (λ (i : Item). is_some i.mark) (drop at text) item
    (get_behind at text (position_or_len (λ (i : Item). is_some i.mark) (drop at text)) item here)

marked_place : (document : Document) (story : Story) (at : ℕ) (set : Properties) →
    IsMarkedRange document story (mark_place (items_at document story) at)
    (mark_place (items_at document story) at + 1) (property_paragraphs set)
marked_place document story at set text k item there from to here =
    let place : ℕ = mark_place (items_at document story) at in
    let is : k ≡ place = omega (arith, from, to) in
    let items : items_at document story ≡ text = ap (λ o. unwrap_or o []) there in
    let same : place ≡ mark_place text at = ap (λ l. mark_place l at) items in
    inr (mark_there text at item (ap (slice_get text) (sym (is ∙ same)) ∙ here))

-- ---- commands

pub commands_are_steps : CommandsAreSteps
commands_are_steps document command sound accepted =
    by_kind command (can_make document command sound accepted.tried) (sound_is_valid document sound)
    (sound_is_valid (all_changed (changes_of document command) document) accepted.sound)
  where
    by_kind : (command : Command) → CanMakeAll (changes_of document command) document → IsValidDocument document →
        IsValidDocument (all_changed (changes_of document command) document) →
        AreEditSteps document (changes_of document command)
    by_kind (Insert story at text) can right after = inr (one_put document story at at _ can after)
    by_kind (Erase story from to) can right after = inr (erased_steps document story from to can right after)
    by_kind (Char story from to set) can right after =
        inl
        (act_step document story from to (property_characters set) can.0.0 can.0.1 after
        (λ text k item there low high here. inl refl))
    by_kind (Plain story from to) can right after =
        inl
        (act_step document story from to clearing can.0.0 can.0.1 after
        (λ text k item there low high here. inl refl))
    by_kind (Para story at set) can right after =
        inl
        (act_step document story (mark_place (items_at document story) at) (mark_place (items_at document story) at + 1)
        (property_paragraphs set) can.0.0 can.0.1 after (marked_place document story at set))
    by_kind (Style story at istd) can right after =
        inl
        (act_step document story (mark_place (items_at document story) at) (mark_place (items_at document story) at + 1)
        (naming_style istd) can.0.0 can.0.1 after (λ text k item there low high here. inl refl))
    by_kind (Field story at type code shown) can right after = inr (one_put document story at at _ can after)
    by_kind (Note at text) can right after = inr (note_steps document at _ _ (note_items text) can after)
    by_kind (Split story at) can right after = inr (one_put document story at at _ can after)
    by_kind (Merge story at) can right after = inr (erased_steps document story _ _ can right after)
    by_kind (Sect at new set) can right after = inr (section_edit document at new set can after)
    by_kind (Row story at width cells) can right after = inr (one_put document story at at _ can after)
    by_kind (StyleChar istd set) can right after =
        inr (record { can = can.0; named = tt; few = after.few; short = All-nil HasShortProperties }, tt)
    by_kind (StylePara istd set) can right after =
        inr (record { can = can.0; named = tt; few = after.few; short = All-nil HasShortProperties }, tt)
    by_kind (Bookmark name from to) can right after =
        inr (record { can = can.0; named = tt; few = after.few; short = All-nil HasShortProperties }, tt)
    by_kind (Unmark name) can right after =
        inr (record { can = can.0; named = tt; few = after.few; short = All-nil HasShortProperties }, tt)
    by_kind (Save full) can right after = inr tt

-- ---- how many pieces

one_block : (items : List Item) → block_pieces items ≤ 1
one_block [] = omega arith
one_block (item ∷ items) = omega arith

one_change : (change : Change) → cut_count change ≤ 2 → sum_by pieces_added (change ∷ []) ≤ 4
one_change change cuts =
    omega (arith, sum_by-cons pieces_added change [], one_block (items_put change), cuts)

two_changes : (change other : Change) → cut_count change ≤ 1 → cut_count other ≤ 1 →
    sum_by pieces_added (change ∷ other ∷ []) ≤ 4
two_changes change other cuts more =
    omega (
      arith,
      sum_by-cons pieces_added change (other ∷ []),
      sum_by-cons pieces_added other [],
      one_block (items_put change),
      one_block (items_put other),
      cuts,
      more,
    )

erased_pieces : (document : Document) (story : Story) (from to : ℕ) →
    sum_by pieces_added (erased document story from to) ≤ 4
erased_pieces document Main from to =
    let main = SpliceText Main from to [] in
    let notes = SpliceNotes (note_number document.main from) (note_number document.main to) [] in
    let heads = SpliceHeads (head_number document.main from) (head_number document.main to) [] in
    omega (
      arith,
      sum_by-cons pieces_added main (notes ∷ heads ∷ []),
      sum_by-cons pieces_added notes (heads ∷ []),
      sum_by-cons pieces_added heads [],
    )
erased_pieces document (NoteText number) from to =
    one_change (SpliceText (NoteText number) from to []) (omega arith)
erased_pieces document (HeadText number) from to =
    one_change (SpliceText (HeadText number) from to []) (omega arith)

section_pieces : (main : List Item) (at : ℕ) (new : Bool) (set : Properties) →
    sum_by pieces_added (section_changes main at new set) ≤ 4
section_pieces main at false set = one_change (SetSection (section_place main at) set) (omega arith)
section_pieces main at true set =
    two_changes (SpliceText Main at at (section_item main at set ∷ []))
    (SpliceHeads (head_number main at) (head_number main at) (replicate 6 [])) (omega arith)
    (omega arith)

pub pieces_are_few : PiecesAreFew
pieces_are_few document (Insert story at text) =
    one_change (SpliceText story at at (inserted_items (items_at document story) at text)) (omega arith)
pieces_are_few document (Erase story from to) = erased_pieces document story from to
pieces_are_few document (Char story from to set) =
    one_change (ModifyItems story from to (property_characters set)) (omega arith)
pieces_are_few document (Plain story from to) = one_change (ModifyItems story from to clearing) (omega arith)
pieces_are_few document (Para story at set) =
    one_change
    (ModifyItems story (mark_place (items_at document story) at) (mark_place (items_at document story) at + 1)
    (property_paragraphs set)) (omega arith)
pieces_are_few document (Style story at istd) =
    one_change
    (ModifyItems story (mark_place (items_at document story) at) (mark_place (items_at document story) at + 1)
    (naming_style istd)) (omega arith)
pieces_are_few document (Field story at type code shown) =
    one_change
    (SpliceText story at at (field_items (base_properties (items_at document story) at) type code shown)) (omega arith)
pieces_are_few document (Note at text) =
    two_changes (SpliceText Main at at (note_reference (base_properties document.main at) ∷ []))
    (SpliceNotes (note_number document.main at) (note_number document.main at) (note_items text ∷ [])) (omega arith)
    (omega arith)
pieces_are_few document (Split story at) =
    one_change (SpliceText story at at (split_item (items_at document story) at ∷ [])) (omega arith)
pieces_are_few document (Merge story at) = erased_pieces document story _ _
pieces_are_few document (Sect at new set) = section_pieces document.main at new set
pieces_are_few document (Row story at width cells) =
    one_change (SpliceText story at at (row_items width cells)) (omega arith)
pieces_are_few document (StyleChar istd set) = one_change (SetStyleCharacters istd set) (omega arith)
pieces_are_few document (StylePara istd set) = one_change (SetStyleParagraphs istd set) (omega arith)
pieces_are_few document (Bookmark name from to) =
    one_change (SetBookmarks (with_bookmark (new_bookmark name from to) document.bookmarks)) (omega arith)
pieces_are_few document (Unmark name) =
    one_change (SetBookmarks (without_bookmark name document.bookmarks)) (omega arith)
pieces_are_few document (Save full) = omega arith
