-- The runs that edits add to the tables of a full save.
use Rattle.std.proofs.Common.{◌≡◌, ◌∙◌, refl, sym, ap, ℕ, ◌+◌, ◌≤◌, Bool, true, List, [], ◌∷◌, ◌++◌, length}
use Rattle.std.proofs.Common.{take, drop, map, Option, Some, None, arith}
use Rattle.std.specs.Prelude.{◌==◌, is_some, not, slice_range}
use Rattle.std.specs.List.{splice}
use Rattle.std.specs.Option.{option_map}
use Rattle.std.proofs.lemmas.List.{drop_more, append_assoc, take-append-drop, map-append}
use Rattle.std.proofs.lemmas.List.Folds.{drop_split}
use Rattle.std.proofs.lemmas.Bool.{cond_both, eqb-true}
use Rattle.std.specs.FinMap.{empty}
use Rattle.std.proofs.lemmas.Option.{slice_get_within, get_or_from_slice_get}
use Rattle.prop_map.specs.declared.modifiers.Modifier.{Modifier}
use Rattle.prop_map.specs.Overlay.{modified_characters}
use Rattle.prop_map.proofs.Public.{empty-overlay}
use Rattle.fkp_pages.specs.declared.kind.PageKind.{PageKind}
use Rattle.fkp_pages.specs.declared.kind.PageKind.TheVariants.{Chpx, Papx}
use Rattle.document_bookmarks.specs.declared.bookmark_order.Bookmark.{Bookmark}
use Rattle.document_bookmarks.specs.Bookmarks.{moved_bookmarks}
use Rattle.doc_model.specs.declared.item.Item.{Item}
use Rattle.doc_model.specs.declared.item.Mark.{Mark}
use Rattle.doc_model.specs.declared.document.Document.{Document}
use Rattle.doc_model.specs.Settings.{same_properties, is_alike, is_inside}
use Rattle.doc_model.proofs.Public.{same_properties-Decides}
use Rattle.full_save.specs.Text.{with_mark, note_story, head_story, text_items}
use Rattle.full_save.specs.Runs.{joins_run}
use Rattle.full_save.specs.WordDocument.{text_offset}
use Rattle.full_save.proofs.Public.{length-runs_from}
use Rattle.doc_model.specs.Stretches.{stretches}
use Rattle.edit_ops.specs.Fresh.{base_of_item, base_properties, plain_end, unit_item, unit_items}
use Rattle.edit_ops.specs.Fresh.{inserted_items, split_item}
use Rattle.doc_patch.specs.Places.{mark_place}
use Rattle.doc_patch.specs.Changes.{map_range, modified_item, modified_mark}
use Rattle.edit_ops.specs.Edits.{property_characters, naming_style}
use Rattle.edit_generator.specs.FewRuns.{runs_of, IsPlainAt, EditsAddFewRuns}
use Rattle.edit_generator.proofs.RunCountLemmas.{count, StandsFor, one_more_put, none_put, several_put, count_changed}
use Rattle.edit_generator.proofs.RunCountLemmas.{count_keys}

-- ---- the runs of a document are the stretches of its text, whose main text is first

abbrev behind : Document → List Item
behind document = with_mark (note_story document ++ head_story document)

-- bookmarks play no part
abbrev with_main : Document → List Item → List Bookmark → Document
with_main document main bookmarks = record document { main = main; bookmarks = bookmarks }

runs_with : (kind : PageKind) (document : Document) (main : List Item) (bookmarks : List Bookmark) →
    runs_of kind (with_main document main bookmarks) ≡ count (joins_run kind) (main ++ behind document)
unfolding text_items note_story head_story
runs_with kind document main bookmarks =
    length-runs_from kind text_offset (stretches (joins_run kind) (text_items (with_main document main bookmarks)))

runs_now : (kind : PageKind) (document : Document) → runs_of kind document ≡ count (joins_run kind) (document.main ++
    behind document)
unfolding text_items
runs_now kind document = length-runs_from kind text_offset (stretches (joins_run kind) (text_items document))

-- ---- the main text where an item is in it

module _ (main : List Item) (at : ℕ) (there : IsPlainAt main at) (rest : List Item) where
  from_item : drop at main ≡ there.item ∷ drop (at + 1) main
  from_item =
      drop_more main at there.item (slice_get_within main at there.item there.here)
      ∙ ap (λ x. x ∷ drop (at + 1) main) (get_or_from_slice_get main at there.item there.item there.here)

  main_is : main ++ rest ≡ take at main ++ there.item ∷ (drop (at + 1) main ++ rest)
  main_is =
      ap (λ xs. xs ++ rest) (sym (take-append-drop at main) ∙ ap (λ xs. take at main ++ xs) from_item)
      ∙ append_assoc (take at main) (there.item ∷ drop (at + 1) main) rest

  -- items put before it
  put_is : (fresh : List Item) → splice main at at fresh ++ rest ≡ take at main ++ (fresh ++ there.item ∷
      (drop (at + 1) main ++ rest))
  put_is fresh =
      append_assoc (take at main) (fresh ++ drop at main) rest
      ∙ ap (λ xs. take at main ++ xs) (append_assoc fresh (drop at main) rest ∙ ap (λ xs. fresh ++ (xs ++ rest))
      from_item)

-- ---- insertions

stands_for : (kind : PageKind) (item : Item) (unit : ℕ) → StandsFor (joins_run kind) (unit_item item.chp unit) item
stands_for Chpx item unit = record {
  joined = (same_properties-Decides item.chp item.chp).1 refl;
  alike = λ w. refl;
}
stands_for Papx item unit = record { joined = refl; alike = λ w. refl }

pub inserted_are : (main : List Item) (at : ℕ) (text : List ℕ) (there : IsPlainAt main at) → inserted_items main at
    text ≡ unit_items there.item.chp text
inserted_are [] at text there = let within = slice_get_within [] at there.item there.here in
    absurd (omega (arith, within))
inserted_are (first ∷ main) at text there =
    cond_both (length (first ∷ main) == 0) (unit_items empty text ++ plain_end ∷ plain_end ∷ [])
    (unit_items (base_properties (first ∷ main) at) text)
    (λ items. items ≡ unit_items (base_properties (first ∷ main) at) text)
    (λ e. let none = eqb-true (length (first ∷ main)) 0 e in absurd (omega (arith, none))) (λ e. refl)
    ∙ ap (λ chp. unit_items chp text) (ap base_of_item there.here ∙ there.plain)

insertion : (kind : PageKind) (main : List Item) (at : ℕ) (text : List ℕ) (there : IsPlainAt main at) (rest : List
    Item) → count (joins_run kind) (splice main at at (inserted_items main at text) ++ rest) ≡ count (joins_run kind)
    (main ++ rest)
insertion kind main at text there rest =
    let joins = joins_run kind in
    let more = drop (at + 1) main ++ rest in
    ap (λ fresh. count joins (splice main at at fresh ++ rest)) (inserted_are main at text there)
    ∙ ap (count joins) (put_is main at there rest (unit_items there.item.chp text))
    ∙ several_put joins (unit_item there.item.chp) text (take at main) there.item more (stands_for kind there.item)
    ∙ ap (count joins) (sym (main_is main at there rest))

-- ---- splits

split_chp : (main : List Item) (at : ℕ) (there : IsPlainAt main at) → (split_item main at).chp ≡ there.item.chp
split_chp main at there = ap base_of_item there.here ∙ there.plain

split_stands : (main : List Item) (at : ℕ) (there : IsPlainAt main at) → StandsFor is_alike (split_item main at)
    there.item
split_stands main at there = record {
  joined = (same_properties-Decides (split_item main at).chp there.item.chp).1 (split_chp main at there);
  alike = λ w. ap (same_properties w.chp) (split_chp main at there);
}

split_characters : (main : List Item) (at : ℕ) (there : IsPlainAt main at) (rest : List Item) →
    count is_alike (splice main at at (split_item main at ∷ []) ++ rest) ≡ count is_alike (main ++ rest)
split_characters main at there rest =
    ap (count is_alike) (put_is main at there rest (split_item main at ∷ []))
    ∙ none_put is_alike (take at main) (split_item main at) there.item (drop (at + 1) main ++ rest) (split_stands main
    at there)
    ∙ ap (count is_alike) (sym (main_is main at there rest))

split_paragraphs : (main : List Item) (at : ℕ) (there : IsPlainAt main at) (rest : List Item) → count is_inside
    (splice main at at (split_item main at ∷ []) ++ rest) ≤ count is_inside (main ++ rest) + 1
split_paragraphs main at there rest =
    let after = ap (count is_inside) (put_is main at there rest (split_item main at ∷ [])) in
    let now = ap (count is_inside) (main_is main at there rest) in
    let one = one_more_put is_inside (take at main) (split_item main at) there.item (drop (at + 1) main ++ rest)
    (λ w. refl) in
    omega (arith, after, now, one)

-- ---- items of a range changed

module _ (f : Item → Item) (main : List Item) (from to : ℕ) (rest : List Item) (ordered : from ≤ to) where
  range_is : main ++ rest ≡ take from main ++ (slice_range main from to ++ (drop to main ++ rest))
  range_is =
      ap (λ xs. xs ++ rest) (sym (take-append-drop from main) ∙ ap (λ xs. take from main ++ xs) (drop_split main from
      to ordered))
      ∙ append_assoc (take from main) (slice_range main from to ++ drop to main) rest
      ∙ ap (λ xs. take from main ++ xs) (append_assoc (slice_range main from to) (drop to main) rest)

  changed_is : map_range f main from to ++ rest ≡ take from main ++ (map f (slice_range main from to) ++ (drop to main
      ++ rest))
  changed_is =
      append_assoc (take from main) (map f (slice_range main from to) ++ drop to main) rest
      ∙ ap (λ xs. take from main ++ xs) (append_assoc (map f (slice_range main from to)) (drop to main) rest)

same_keys : {K : Type 0} (key : Item → K) (f : Item → Item) (xs : List Item) → ((x : Item) → key (f x) ≡ key x) →
    map key (map f xs) ≡ map key xs
same_keys key f [] same = refl
same_keys key f (x ∷ xs) same = ap (λ k. k ∷ map key (map f xs)) (same x) ∙ ap (λ ks. key x ∷ ks) (same_keys key f xs
    same)

-- a change that keeps what joining goes by
keys_stay : {K : Type 0} (key : Item → K) (joins : K → K → Bool) (f : Item → Item) (main : List Item) (from to : ℕ)
    (rest : List Item) → from ≤ to → ((x : Item) → key (f x) ≡ key x) → count (λ x y. joins (key x) (key y))
    (map_range f main from to ++ rest) ≡ count (λ x y. joins (key x) (key y)) (main ++ rest)
keys_stay key joins f main from to rest ordered same =
    let front = take from main in
    let middle = slice_range main from to in
    let more = drop to main ++ rest in
    let keys : map key (front ++ (map f middle ++ more)) ≡ map key (front ++ (middle ++ more)) =
    map-append key front (map f middle ++ more)
    ∙ ap (λ ks. map key front ++ ks) (map-append key (map f middle) more ∙ ap (λ ks. ks ++ map key more)
    (same_keys key f middle same) ∙ sym (map-append key middle more))
    ∙ sym (map-append key front (middle ++ more)) in
    count_keys key joins (map_range f main from to ++ rest)
    ∙ ap (λ xs. count joins (map key xs)) (changed_is f main from to rest ordered)
    ∙ ap (count joins) keys
    ∙ ap (λ xs. count joins (map key xs)) (sym (range_is f main from to rest ordered))
    ∙ sym (count_keys key joins (main ++ rest))

-- characters that are set
alike_still : (modifier : Modifier) (x y : Item) → is_alike x y ≡ true → is_alike (modified_item modifier x)
    (modified_item modifier y) ≡ true
alike_still modifier x y joined =
    (same_properties-Decides (modified_characters modifier x.chp) (modified_characters modifier y.chp)).1
    (ap (modified_characters modifier) ((same_properties-Decides x.chp y.chp).0 joined))

characters_set : (modifier : Modifier) (main : List Item) (from to : ℕ) (rest : List Item) → from ≤ to →
    count is_alike (map_range (modified_item modifier) main from to ++ rest) ≤ count is_alike (main ++ rest) + 2
characters_set modifier main from to rest ordered =
    let f = modified_item modifier in
    let after = ap (count is_alike) (changed_is f main from to rest ordered) in
    let now = ap (count is_alike) (range_is f main from to rest ordered) in
    let two = count_changed is_alike f (take from main) (slice_range main from to) (drop to main ++ rest) (alike_still
    modifier) in
    omega (arith, after, now, two)

-- marks stay where they are
marked_still : (modifier : Modifier) (mark : Option Mark) → is_some (option_map (modified_mark modifier) mark) ≡
    is_some mark
marked_still modifier None = refl
marked_still modifier (Some mark) = refl

paragraphs_stay : (modifier : Modifier) (main : List Item) (from to : ℕ) (rest : List Item) → from ≤ to →
    count is_inside (map_range (modified_item modifier) main from to ++ rest) ≡ count is_inside (main ++ rest)
paragraphs_stay modifier main from to rest ordered =
    keys_stay (λ item. is_some item.mark) (λ one next. not one) (modified_item modifier) main from to rest ordered
    (λ item. marked_still modifier item.mark)

characters_stay : (istd : ℕ) (main : List Item) (from to : ℕ) (rest : List Item) → from ≤ to →
    count is_alike (map_range (modified_item (naming_style istd)) main from to ++ rest) ≡ count is_alike (main ++ rest)
characters_stay istd main from to rest ordered =
    keys_stay (λ item. item.chp) same_properties (modified_item (naming_style istd)) main from to rest ordered
    (λ item. empty-overlay item.chp)

style_named : (kind : PageKind) (main : List Item) (at istd : ℕ) (rest : List Item) → count (joins_run kind)
    (map_range (modified_item (naming_style istd)) main (mark_place main at) (mark_place main at + 1) ++ rest) ≡ count
    (joins_run kind) (main ++ rest)
style_named Chpx main at istd rest = characters_stay istd main (mark_place main at) (mark_place main at + 1) rest
    (omega arith)
style_named Papx main at istd rest = paragraphs_stay (naming_style istd) main (mark_place main at) (mark_place main at
    + 1) rest (omega arith)

-- ---- documents

-- the bookmarks after items were put
abbrev marks_after : Document → ℕ → List Item → List Bookmark
marks_after document at fresh = moved_bookmarks at at (length fresh) document.bookmarks

pub few_added : EditsAddFewRuns
few_added = record {
  insertion = λ kind document at text there.
      let fresh = inserted_items document.main at text in
      runs_with kind document (splice document.main at at fresh) (marks_after document at fresh)
      ∙ (insertion kind document.main at text there (behind document) ∙ sym (runs_now kind document));
  split_characters = λ document at there.
      let fresh : List Item = split_item document.main at ∷ [] in
      runs_with Chpx document (splice document.main at at fresh) (marks_after document at fresh)
      ∙ (split_characters document.main at there (behind document) ∙ sym (runs_now Chpx document));
  split_paragraphs = λ document at there.
      let fresh : List Item = split_item document.main at ∷ [] in
      let after = runs_with Papx document (splice document.main at at fresh) (marks_after document at fresh) in
      let now = runs_now Papx document in
      let one = split_paragraphs document.main at there (behind document) in
      omega (arith, after, now, one);
  characters = λ document from to set ordered.
      let set_main = map_range (modified_item (property_characters set)) document.main from to in
      let after = runs_with Chpx document set_main document.bookmarks in
      let now = runs_now Chpx document in
      let two = characters_set (property_characters set) document.main from to (behind document) ordered in
      omega (arith, after, now, two);
  paragraphs = λ document from to set ordered.
      let set_main = map_range (modified_item (property_characters set)) document.main from to in
      runs_with Papx document set_main document.bookmarks
      ∙ (paragraphs_stay (property_characters set) document.main from to (behind document) ordered ∙ sym (runs_now Papx
      document));
  style = λ kind document at istd.
      let place = mark_place document.main at in
      let named = map_range (modified_item (naming_style istd)) document.main place (place + 1) in
      runs_with kind document named document.bookmarks
      ∙ (style_named kind document.main at istd (behind document) ∙ sym (runs_now kind document));
}
