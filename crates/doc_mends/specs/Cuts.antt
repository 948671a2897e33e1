-- References to stories that are left out, cut from the texts. The ends of bookmarks go with the main text.
use Rattle.std.specs.Prelude.{◌≡◌, ℕ, ◌+◌, ◌≤◌, Bool, true, false, not, List, [], ◌∷◌, length, map, take, is_some}
use Rattle.std.specs.Prelude.{Some, slice_get}
use Rattle.std.specs.List.{count_by}
use Rattle.doc_bits.specs.declared.places.Story.{Story}
use Rattle.doc_bits.specs.declared.places.Story.TheVariants.{Main, Head}
use Rattle.document_bookmarks.specs.declared.bookmark_order.Bookmark.{Bookmark}
use Rattle.document_bookmarks.specs.Bookmarks.{bookmark_cmp}
use Rattle.document_bookmarks.specs.Order.{in_order}
use Rattle.doc_parts.specs.Tabulated.{tabulate}
use Rattle.doc_model.specs.declared.item.Item.{Item}
use Rattle.doc_model.specs.declared.document.Document.{Document}
use Rattle.doc_losses.specs.References.{Names, text_marks, head_begin, head_at}

-- which items of a text are such references
abbrev pub reference_flags : Names → Story → ℕ → List Item → List Bool
reference_flags names story begin text = map is_some (text_marks names story begin text)

-- the entries of a list that have no flag
unfoldable pub unflagged : {A : Type 0} → List Bool → List A → List A
unflagged flags [] = []
unflagged [] (entry ∷ entries) = entry ∷ entries
unflagged (true ∷ flags) (entry ∷ entries) = unflagged flags entries
unflagged (false ∷ flags) (entry ∷ entries) = entry ∷ unflagged flags entries

abbrev pub cut_text : Names → Story → ℕ → List Item → List Item
cut_text names story begin text = unflagged (reference_flags names story begin text) text

abbrev pub cut_heads : Names → List (List Item) → List (List Item)
cut_heads names heads =
    tabulate (λ number. cut_text names (Head number) (head_begin heads number) (head_at heads number)) (length heads)

-- where an end goes: before it are the items that were before it and stay
abbrev pub end_left : List Bool → ℕ → ℕ
end_left flags end = count_by not (take end flags)

-- that of each place up to the end
pub record AreEndCounts (flags : List Bool) (counts : List ℕ) : Type 0 where
  pub len : length counts ≡ length flags + 1
  pub each : (k : ℕ) → k ≤ length flags → slice_get counts k ≡ Some (end_left flags k)

abbrev pub bookmark_left : List Bool → Bookmark → Bookmark
bookmark_left flags bookmark =
    record bookmark { from = end_left flags bookmark.from; to = end_left flags bookmark.to }

abbrev pub bookmarks_left : List Bool → List Bookmark → List Bookmark
bookmarks_left flags list = in_order bookmark_cmp (map (bookmark_left flags) list)

-- the document without them
abbrev pub references_cut : Names → Document → Document
references_cut names document = record document {
  main = cut_text names Main 0 document.main;
  heads = cut_heads names document.heads;
  bookmarks = bookmarks_left (reference_flags names Main 0 document.main) document.bookmarks;
}
