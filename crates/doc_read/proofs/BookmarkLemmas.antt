-- The numbers of the bookmarks of a file.
use Rattle.std.proofs.Common.{sym, subst, inl, inr, ℕ, List, [], length}
use Rattle.std.specs.Prelude.{All, Bool, false, nat_lt, ◌≡◌, if◌then◌else◌}
use Rattle.std.proofs.lemmas.Bool.{cases_lt, le-ltb}
use Rattle.std.proofs.lemmas.List.Elements.{All-nil}
use Rattle.doc_bits.specs.Number.{AreBytes}
use Rattle.document_bookmarks.specs.declared.bookmark_order.Bookmark.{Bookmark}
use Rattle.document_bookmarks.specs.Order.{in_order}
use Rattle.document_bookmarks.specs.Bookmarks.{bookmark_cmp, HasFileNumbers}
use Rattle.doc_parts.specs.BookmarkParts.{BookmarkParts, kept_bookmarks, bookmarks_of}
use Rattle.doc_parts.proofs.Public.{kept_numbers, read_some}
use Rattle.document_bookmarks.proofs.Public.{all_in_order}

-- the bookmarks that bytes spell have the numbers of a file
pub bookmarks-numbers : (parts : BookmarkParts) (main_len : ℕ) → AreBytes parts.names → AreBytes parts.starts →
    AreBytes parts.ends → All HasFileNumbers (bookmarks_of parts main_len)
bookmarks-numbers parts main_len names starts ends =
    let kept : List Bookmark = kept_bookmarks parts main_len in
    elim (cases_lt 6 (length parts.names)) [
      | inl some ↦
          subst (All HasFileNumbers) (sym (read_some parts main_len some))
          (all_in_order HasFileNumbers bookmark_cmp kept (kept_numbers parts main_len names starts ends))
      | inr few ↦
          let test : nat_lt 6 (length parts.names) ≡ false = le-ltb 6 (length parts.names) few in
          subst (λ (b : Bool). All HasFileNumbers (if b then in_order bookmark_cmp kept else [])) (sym test)
          (All-nil HasFileNumbers)
    ]
