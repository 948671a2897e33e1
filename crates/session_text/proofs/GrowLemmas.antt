-- The added text while the blocks of changes are put last, one after another.
use Rattle.std.specs.Prelude.{slice_get, List, ℕ, MatchOption, ⊤}
use Rattle.std.specs.List.{splice, All, sum_by}
use Rattle.std.proofs.Common.{◌≡◌, ◌∙◌, ◌++◌, ◌∷◌, ◌+◌, ◌*◌, ◌^◌, ◌<◌, ◌≤◌, [], refl, sym, ap, subst, zero, suc}
use Rattle.std.proofs.Common.{inl, inr}
use Rattle.std.proofs.Common.{Option, Some, length, map, take, drop, replicate, get_or, arith}
use Rattle.std.proofs.Math.Seq.{drop-cons, take-length}
use Rattle.std.proofs.lemmas.List.{length-map, length-append, append_assoc, append-nil, map-append}
use Rattle.std.proofs.lemmas.List.Concat.{flat_map-cons, length-flat_map}
use Rattle.std.proofs.lemmas.Grind.{flat_map-append}
use Rattle.std.proofs.lemmas.List.Elements.{All-append, All-replicate}
use Rattle.std.proofs.lemmas.List.Sums.{fold-append, fold_more}
use Rattle.std.proofs.lemmas.Option.{slice_get_within, get_or_from_slice_get, none-some, same_Some}
use Rattle.doc_bits.specs.declared.places.Story.TheVariants.{Main, Note, Head}
use Rattle.std.specs.FinMap.{empty}
use Rattle.prop_map.specs.Printing.{printed_list}
use Rattle.prop_map.proofs.Public.{entries-empty}
use Rattle.piece_table.specs.declared.pieces.Piece.{Piece}
use Rattle.piece_table.specs.Piece.{IsPiece}
use Rattle.doc_model.specs.declared.item.Item.{Item}
use Rattle.doc_model.specs.declared.item.Mark.{Mark}
use Rattle.doc_model.specs.declared.document.Document.{Document}
use Rattle.doc_model.specs.Collected.{joined_texts}
use Rattle.plain_doc.specs.RulesOfItems.{HasShortProperties}
use Rattle.plain_doc.specs.RulesOfSheet.{item_count}
use Rattle.plain_doc.proofs.Public.{sound_is_valid}
use Rattle.doc_model.proofs.Public.{length-splice, take_next}
use Rattle.plain_doc.specs.Sound.{IsSound}
use Rattle.doc_patch.specs.declared.changes.Change.{Change}
use Rattle.doc_patch.specs.declared.changes.Change.TheVariants.{SpliceText, ModifyItems, SetSection, SpliceNotes}
use Rattle.doc_patch.specs.declared.changes.Change.TheVariants.{SpliceHeads, SetStyleCharacters, SetStyleParagraphs}
use Rattle.doc_patch.specs.declared.changes.Change.TheVariants.{SetBookmarks}
use Rattle.doc_patch.specs.Changes.{changed, all_changed}
use Rattle.doc_patch.specs.Makes.{CanSplice}
use Rattle.full_save.specs.Text.{extra_mark}
use Rattle.save_laws.specs.Slots.{Slot, shown, StoryEnds, loose_if, note_slots, head_slots, last_slots, document_slots}
use Rattle.save_laws.specs.Ends.{ends_of}
use Rattle.save_laws.specs.declared.ends.Ends.{Ends}
use Rattle.save_laws.proofs.Public.{length-story_slots, length-loose_if}
use Rattle.session_text.specs.declared.added.Added.{Added}
use Rattle.session_text.specs.declared.session_text.TextSplice.{TextSplice}
use Rattle.session_text.specs.declared.stories.Stories.{Stories}
use Rattle.session_text.specs.declared.steps.TextStep.{TextStep}
use Rattle.session_text.specs.AddedText.{added_piece, marked_block}
use Rattle.session_text.specs.TextSteps.{AreStories, HasNewStory, IsTextStep}
use Rattle.session_text.specs.EditSteps.{KeepsNamed, IsPutStep, ArePutSteps, NamesEmptyStory, items_put}
use Rattle.session_text.specs.Puts.{ends_after_all, Put, IsPut, ArePuts, HavePuts}
use Rattle.session_text.proofs.MarkLemmas.{one_text_splices, texts_splice}
use Rattle.session_text.proofs.ModifyLemmas.{put_text}
use Rattle.session_text.proofs.StepLemmas.{spliced_count}
use Rattle.session_text.proofs.TextChangeLemmas.{is_there}
use Rattle.session_text.proofs.PutLemmas.{changes_of_puts, splices_of_puts, blocks_of_puts, puts_snoc, length-marked}

-- ---- how many items there are

pub length-joined : (texts : List (List Item)) → length (joined_texts texts) ≡ sum_by length texts
length-joined texts = length-flat_map (λ text. text) texts

pub joined_one : (text : List Item) → joined_texts (text ∷ []) ≡ text
joined_one text = flat_map-cons (λ t. t) text [] ∙ append-nil text

pub stories_counted : (document : Document) (stories : Stories) → AreStories document stories →
    stories.main + (stories.notes + stories.heads) ≡ item_count document
stories_counted document stories are =
    omega
    (arith, are.main, are.notes, are.heads, length-joined document.notes, length-joined document.heads)

-- a sound document has not too many
pub sound_few : (document : Document) → IsSound document →
    length document.main + (length (joined_texts document.notes) + length (joined_texts document.heads)) ≤ 499998
sound_few document sound =
    let right = sound_is_valid document sound in
    let few : length document.main + (sum_by length document.notes + sum_by length document.heads) ≤ 499998 =
    right.few in
    omega (arith, few, length-joined document.notes, length-joined document.heads)

-- a change puts no more items than there are after it
pub put_few : (document now : Document) (change : Change) → IsPutStep document now change →
    length (items_put change) ≤ item_count (changed change now)
put_few document now (SpliceText Main from to fresh) put =
    let can = put.can.0 in
    omega (
      arith,
      ap length (joined_one fresh),
      length-splice now.main fresh from to can.ordered can.within,
    )
put_few document now (SpliceText (Note number) from to fresh) put =
    let found = is_there (slice_get now.notes number) (CanSplice from to fresh) put.can.0 in
    let spliced =
    one_text_splices now.notes number found.value fresh from to found.there found.is.ordered found.is.within in
    let new = put_text (λ t. splice t from to fresh) now (Note number) found.value found.there in
    let texts = changed (SpliceText (Note number) from to fresh) now in
    omega (
      arith,
      ap length (joined_one fresh),
      spliced.order,
      spliced.within,
      spliced_count now.notes _ _ _ fresh spliced,
      ap (λ (d : Document). length (joined_texts d.notes)) new,
      length-joined texts.notes,
    )
put_few document now (SpliceText (Head number) from to fresh) put =
    let found = is_there (slice_get now.heads number) (CanSplice from to fresh) put.can.0 in
    let spliced =
    one_text_splices now.heads number found.value fresh from to found.there found.is.ordered found.is.within in
    let new = put_text (λ t. splice t from to fresh) now (Head number) found.value found.there in
    let texts = changed (SpliceText (Head number) from to fresh) now in
    omega (
      arith,
      ap length (joined_one fresh),
      spliced.order,
      spliced.within,
      spliced_count now.heads _ _ _ fresh spliced,
      ap (λ (d : Document). length (joined_texts d.heads)) new,
      length-joined texts.heads,
    )
put_few document now (ModifyItems story from to by) put = absurd put.named
put_few document now (SetSection at set) put = omega arith
put_few document now (SpliceNotes from to fresh) put =
    let can = put.can in
    let spliced = texts_splice now.notes fresh from to can.ordered can.within in
    omega (
      arith,
      spliced.order,
      spliced.within,
      spliced_count now.notes _ _ _ (joined_texts fresh) spliced,
      length-joined (splice now.notes from to fresh),
    )
put_few document now (SpliceHeads from to fresh) put =
    let can = put.can in
    let spliced = texts_splice now.heads fresh from to can.ordered can.within in
    omega (
      arith,
      spliced.order,
      spliced.within,
      spliced_count now.heads _ _ _ (joined_texts fresh) spliced,
      length-joined (splice now.heads from to fresh),
    )
put_few document now (SetStyleCharacters istd set) put = omega arith
put_few document now (SetStyleParagraphs istd set) put = omega arith
put_few document now (SetBookmarks list) put = omega arith

-- ---- how long the whole text is

last_few : (slots : List Slot) → length (last_slots slots) ≤ 1
last_few [] = omega arith
last_few (slot ∷ slots) = omega arith

pub whole_length : (document : Document) (ends : StoryEnds) →
    length (document_slots document ends) ≤ item_count document + 3
unfolding document_slots
whole_length document ends =
    let notes = note_slots document ends in
    let heads = head_slots document ends in
    let behind = last_slots (notes ++ heads) in
    omega (
      arith,
      length-append (map shown document.main) (notes ++ (heads ++ behind)),
      length-append notes (heads ++ behind),
      length-append heads behind,
      length-map document.main shown,
      length-story_slots document.notes ends.notes,
      length-story_slots document.heads ends.heads,
      length-joined document.notes,
      length-joined document.heads,
      length-loose_if ends.notes,
      length-loose_if ends.heads,
      last_few (notes ++ heads),
    )

-- ---- pieces and marks

piece_right : (at n : ℕ) → at + 2 * n < 2 ^ 32 → MatchOption (added_piece at n) ⊤ IsPiece
piece_right at zero within = tt
piece_right at (suc n) within = record { some = omega arith; end = omega (arith, within) }

pub mark_short : HasShortProperties extra_mark
mark_short = record {
  chp = rw entries-empty (omega arith);
  pap = λ mark is.
      subst (λ (m : Mark). length (printed_list m.pap) ≤ 480) (same_Some (record { istd = 0; pap = empty }) mark is)
      (rw entries-empty (omega arith));
  sect = λ properties is. absurd (none-some properties is);
}

block_short : (items : List Item) (marks : ℕ) → All HasShortProperties items →
    All HasShortProperties (marked_block items marks)
block_short items marks short =
    All-append HasShortProperties items (replicate marks extra_mark) short
    (All-replicate HasShortProperties marks extra_mark mark_short)

-- ---- the blocks so far

pub record Grown
    (document : Document) (ends : Ends) (changes : List Change) (old : Added) (k : ℕ) (added : Added)
    (stories : Stories) (splices : List TextSplice) : Type 0 where
  pub puts : List Put
  pub changes_are : changes_of_puts puts ≡ take k changes
  pub splices_are : splices_of_puts puts ≡ splices
  pub each : ArePuts document old.base old.items document ends puts
  pub items : added.items ≡ old.items ++ joined_texts (blocks_of_puts puts)
  pub base : added.base ≡ old.base
  pub stories_are : AreStories (all_changed (take k changes) document) stories
  pub ends_are : stories.ends ≡ ends_after_all ends (splices_of_puts puts)
  pub steps : ArePutSteps document (all_changed (take k changes) document) (drop k changes)
  pub few : item_count (all_changed (take k changes) document) ≤ 499998
  pub short : All HasShortProperties old.items → All HasShortProperties added.items
  pub room : length added.items ≤ length old.items + 500000 * k

pub nothing_grown : (document : Document) (ends : Ends) (changes : List Change) (old : Added) (stories : Stories)
    (splices : List TextSplice) → AreStories document stories → stories.ends ≡ ends → item_count document ≤ 499998 →
    ArePutSteps document document changes → splices ≡ [] → Grown document ends changes old 0 old stories splices
nothing_grown document ends changes old stories splices are same few steps none = record {
  puts = [];
  changes_are = refl;
  splices_are = sym none;
  each = tt;
  items = sym (append-nil old.items);
  base = refl;
  stories_are = are;
  ends_are = same;
  steps = steps;
  few = few;
  short = λ short. short;
  room = omega arith;
}

pub have_grown : (document : Document) (ends : Ends) (changes : List Change) (old : Added) (k : ℕ) (added : Added)
    (stories : Stories) (splices : List TextSplice) → Grown document ends changes old k added stories splices →
    k ≡ length changes → HavePuts document ends changes old added splices
have_grown document ends changes old k added stories splices grown all = record {
  puts = grown.puts;
  changes_are = grown.changes_are ∙ (ap (λ n. take n changes) all ∙ take-length changes);
  splices_are = grown.splices_are;
  each = grown.each;
  items = grown.items;
  short = grown.short;
}

-- ---- one change more

pub step_here : (document now : Document) (changes : List Change) (k : ℕ) (change : Change) →
    ArePutSteps document now (drop k changes) → slice_get changes k ≡ Some change →
    IsPutStep document now change × ArePutSteps document (changed change now) (drop (k + 1) changes)
step_here document now changes k change steps there =
    let low = slice_get_within changes k change there in
    let read : get_or changes k change ≡ change = get_or_from_slice_get changes k change change there in
    let next : suc k ≡ k + 1 = omega arith in
    let is : drop k changes ≡ change ∷ drop (k + 1) changes =
    drop-cons changes k change low
    ∙ (ap (λ c. c ∷ drop (suc k) changes) read ∙ ap (λ n. change ∷ drop n changes) next) in
    let both : ArePutSteps document now (change ∷ drop (k + 1) changes) = subst (ArePutSteps document now) is steps in
    both

pub changed_more : (document : Document) (changes : List Change) (k : ℕ) (change : Change) →
    slice_get changes k ≡ Some change →
    all_changed (take (k + 1) changes) document ≡ changed change (all_changed (take k changes) document)
changed_more document changes k change there =
    fold_more (λ now c. changed c now) document changes k change (slice_get_within changes k change there)
    ∙ ap (λ c. changed c (all_changed (take k changes) document))
    (get_or_from_slice_get changes k change change there)

-- how much a step adds
pub record FitsRoom (stories : Stories) (items : ℕ) : Type 0 where
  pub items_few : items ≤ 499998
  pub stories_few : stories.main + (stories.notes + stories.heads) ≤ 499998

pub step_fits : (document : Document) (ends : Ends) (changes : List Change) (old : Added) (k : ℕ) (added : Added)
    (stories : Stories) (splices : List TextSplice) (change : Change) →
    Grown document ends changes old k added stories splices → slice_get changes k ≡ Some change →
    FitsRoom stories (length (items_put change))
step_fits document ends changes old k added stories splices change grown there =
    let now : Document = all_changed (take k changes) document in
    let here = step_here document now changes k change grown.steps there in
    let few = here.0.few in
    let before = grown.few in
    record {
      items_few = omega (arith, few, put_few document now change here.0);
      stories_few = omega (arith, before, stories_counted now stories grown.stories_are);
    }

-- items that are not there are not there
gone : (texts : List (List Item)) → joined_texts texts ≡ [] → 0 < length (joined_texts texts) → ⊥
gone texts none some = omega (arith, some, ap length none)

-- a story that gets its first items is named by the change
names_empty : (document now : Document) (change : Change) → KeepsNamed document now change →
    HasNewStory now (changed change now) → NamesEmptyStory document change
names_empty document now (SpliceText Main from to fresh) named (inl notes) = absurd (gone now.notes notes.0 notes.1)
names_empty document now (SpliceText Main from to fresh) named (inr heads) = absurd (gone now.heads heads.0 heads.1)
names_empty document now (SpliceText (Note number) from to fresh) named (inl notes) =
    ap joined_texts (sym named) ∙ notes.0
names_empty document now (SpliceText (Note number) from to fresh) named (inr heads) =
    absurd (gone now.heads heads.0 heads.1)
names_empty document now (SpliceText (Head number) from to fresh) named (inl notes) =
    absurd (gone now.notes notes.0 notes.1)
names_empty document now (SpliceText (Head number) from to fresh) named (inr heads) =
    ap joined_texts (sym named) ∙ heads.0
names_empty document now (ModifyItems story from to by) named new = named
names_empty document now (SetSection at set) named (inl notes) = absurd (gone now.notes notes.0 notes.1)
names_empty document now (SetSection at set) named (inr heads) = absurd (gone now.heads heads.0 heads.1)
names_empty document now (SpliceNotes from to fresh) named (inl notes) = ap joined_texts (sym named) ∙ notes.0
names_empty document now (SpliceNotes from to fresh) named (inr heads) = absurd (gone now.heads heads.0 heads.1)
names_empty document now (SpliceHeads from to fresh) named (inl notes) = absurd (gone now.notes notes.0 notes.1)
names_empty document now (SpliceHeads from to fresh) named (inr heads) = ap joined_texts (sym named) ∙ heads.0
names_empty document now (SetStyleCharacters istd set) named (inl notes) = absurd (gone now.notes notes.0 notes.1)
names_empty document now (SetStyleCharacters istd set) named (inr heads) = absurd (gone now.heads heads.0 heads.1)
names_empty document now (SetStyleParagraphs istd set) named (inl notes) = absurd (gone now.notes notes.0 notes.1)
names_empty document now (SetStyleParagraphs istd set) named (inr heads) = absurd (gone now.heads heads.0 heads.1)
names_empty document now (SetBookmarks list) named (inl notes) = absurd (gone now.notes notes.0 notes.1)
names_empty document now (SetBookmarks list) named (inr heads) = absurd (gone now.heads heads.0 heads.1)

step_put : (added : Added) (document now : Document) (stories : Stories) (change : Change) (step : TextStep)
    (block : Option Piece) → IsPutStep document now change →
    IsTextStep now (changed change now) stories.ends step → step.items ≡ items_put change →
    block ≡ added_piece (added.base + 2 * length added.items) (length step.items + step.marks) →
    added.base + 2 * (length added.items + (length step.items + step.marks)) < 2 ^ 32 →
    IsPut document added.base added.items now stories.ends (record {
      change = change;
      block = marked_block step.items step.marks;
      splice = record { from = step.from; to = step.to; block = block; ends = step.after.ends };
    })
step_put added document now stories change step block put is items piece room =
    let at : ℕ = added.base + 2 * length added.items in
    let few = put.few in
    record {
      slots = is.slots;
      whole = is.whole;
      added = is.block;
      piece = piece ∙ ap (added_piece at) (sym (length-marked step.items step.marks));
      is_piece =
          subst (λ o. MatchOption o ⊤ IsPiece) (sym piece)
          (piece_right at (length step.items + step.marks) (omega (arith, room)));
      block_is = record {
        marks = step.marks;
        few = is.few;
        first = λ some. omega (arith, is.first some, ap length items);
        empty = λ some. names_empty document now change put.named (is.empty some);
        is = ap (λ l. marked_block l step.marks) items;
      };
      short = omega (arith, few, whole_length (changed change now) (ends_of step.after.ends));
    }

ends_more : (ends : Ends) (splices : List TextSplice) (one : TextSplice) →
    ends_after_all ends (splices ++ one ∷ []) ≡ one.ends
ends_more ends splices one = fold-append (λ now (splice : TextSplice). splice.ends) ends splices (one ∷ [])

blocks_more : (blocks : List (List Item)) (block : List Item) →
    joined_texts (blocks ++ block ∷ []) ≡ joined_texts blocks ++ block
blocks_more blocks block =
    flat_map-append (λ t. t) blocks (block ∷ []) ∙ ap (λ l. joined_texts blocks ++ l) (joined_one block)

pub grown_more : (document : Document) (ends : Ends) (changes : List Change) (old added new : Added) (k : ℕ)
    (stories : Stories) (splices made : List TextSplice) (change : Change) (step : TextStep) (block : Option Piece) →
    Grown document ends changes old k added stories splices → slice_get changes k ≡ Some change →
    ((now : Document) → AreStories now stories → KeepsNamed document now change →
    IsTextStep now (changed change now) stories.ends step) → step.items ≡ items_put change →
    block ≡ added_piece (added.base + 2 * length added.items) (length step.items + step.marks) →
    new.items ≡ added.items ++ marked_block step.items step.marks → new.base ≡ added.base →
    added.base + 2 * (length added.items + (length step.items + step.marks)) < 2 ^ 32 →
    made ≡ splices ++ record { from = step.from; to = step.to; block = block; ends = step.after.ends } ∷ [] →
    Grown document ends changes old (k + 1) new step.after made
grown_more document ends changes old added new k stories splices made change step block grown there given items piece
    added_is base room made_is =
    let now : Document = all_changed (take k changes) document in
    let after : Document = all_changed (take (k + 1) changes) document in
    let next : after ≡ changed change now = changed_more document changes k change there in
    let here = step_here document now changes k change grown.steps there in
    let is = given now grown.stories_are here.0.named in
    let one : TextSplice = record { from = step.from; to = step.to; block = block; ends = step.after.ends } in
    let put : Put = record { change = change; block = marked_block step.items step.marks; splice = one } in
    let puts = grown.puts in
    let first : IsPut document added.base added.items now stories.ends put =
    step_put added document now stories change step block here.0 is items piece room in
    let second : IsPut document old.base (old.items ++ joined_texts (blocks_of_puts puts)) now stories.ends put =
    subst (λ n. IsPut document n (old.items ++ joined_texts (blocks_of_puts puts)) now stories.ends put) grown.base
    (subst (λ l. IsPut document added.base l now stories.ends put) grown.items first) in
    let third : IsPut document old.base (old.items ++ joined_texts (blocks_of_puts puts))
    (all_changed (changes_of_puts puts) document) (ends_after_all ends (splices_of_puts puts)) put =
    subst
    (λ l. IsPut document old.base (old.items ++ joined_texts (blocks_of_puts puts)) (all_changed l document)
    (ends_after_all ends (splices_of_puts puts)) put) (sym grown.changes_are)
    (subst (λ e. IsPut document old.base (old.items ++ joined_texts (blocks_of_puts puts)) now e put) grown.ends_are
    second) in
    let splices_is : splices_of_puts (puts ++ put ∷ []) ≡ splices_of_puts puts ++ one ∷ [] =
    map-append (λ (p : Put). p.splice) puts (put ∷ []) in
    let fits = step_fits document ends changes old k added stories splices change grown there in
    let items_few = fits.items_few in
    let before = grown.room in
    record {
      puts = puts ++ put ∷ [];
      changes_are =
          map-append (λ (p : Put). p.change) puts (put ∷ [])
          ∙ (ap (λ l. l ++ change ∷ []) grown.changes_are
          ∙ sym (take_next changes k change (slice_get_within changes k change there) there));
      splices_are = splices_is ∙ (ap (λ l. l ++ one ∷ []) grown.splices_are ∙ sym made_is);
      each = puts_snoc document old.base old.items document ends puts put grown.each third;
      items =
          added_is ∙ (ap (λ l. l ++ put.block) grown.items
          ∙ (append_assoc old.items (joined_texts (blocks_of_puts puts)) put.block
          ∙ ap (λ l. old.items ++ l)
          (sym (ap joined_texts (map-append (λ (p : Put). p.block) puts (put ∷ []))
          ∙ blocks_more (blocks_of_puts puts) put.block))));
      base = base ∙ grown.base;
      stories_are = subst (λ d. AreStories d step.after) (sym next) is.stories;
      ends_are = sym (ap (ends_after_all ends) splices_is ∙ ends_more ends (splices_of_puts puts) one);
      steps = subst (λ d. ArePutSteps document d (drop (k + 1) changes)) (sym next) here.1;
      few = subst (λ d. item_count d ≤ 499998) (sym next) here.0.few;
      short = λ short.
          subst (All HasShortProperties) (sym added_is)
          (All-append HasShortProperties added.items put.block (grown.short short)
          (block_short step.items step.marks (subst (All HasShortProperties) (sym items) here.0.short)));
      room =
          omega (
            arith,
            before,
            items_few,
            is.few,
            ap length items,
            ap length added_is,
            length-append added.items put.block,
            length-marked step.items step.marks,
          );
    }

pub sound_count : (document : Document) → IsSound document → item_count document ≤ 499998
sound_count document sound = (sound_is_valid document sound).few

-- a step fits below 2^32
pub step_room : (document : Document) (ends : Ends) (changes : List Change) (old : Added) (k : ℕ) (added : Added)
    (stories : Stories) (splices : List TextSplice) (change : Change) (step : TextStep) →
    Grown document ends changes old k added stories splices → slice_get changes k ≡ Some change →
    ((now : Document) → AreStories now stories → KeepsNamed document now change →
    IsTextStep now (changed change now) stories.ends step) → step.items ≡ items_put change → k < 3 →
    old.base + (2 * length old.items + 3000000) < 2 ^ 32 →
    added.base + 2 * (length added.items + (length step.items + step.marks)) < 2 ^ 32
step_room document ends changes old k added stories splices change step grown there given items below room =
    let now : Document = all_changed (take k changes) document in
    let here = step_here document now changes k change grown.steps there in
    let is = given now grown.stories_are here.0.named in
    let fits = step_fits document ends changes old k added stories splices change grown there in
    let items_few = fits.items_few in
    let so_far = grown.room in
    omega (arith, grown.base, so_far, items_few, is.few, ap length items, below, room)
