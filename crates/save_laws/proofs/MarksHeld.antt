-- The bookmarks of a saved document are read again, and break no rule.
use Rattle.std.specs.Prelude.{slice_get}
use Rattle.std.proofs.Common.{◌≡◌, ◌∙◌, refl, sym, ap, subst, inl, inr, ℕ, List, [], ◌∷◌, length, Some, arith}
use Rattle.doc_bits.specs.Rules.{Hold, Nowhere}
use Rattle.fib_form.specs.TableEntries.{entry}
use Rattle.fib_form.specs.TableParts.{pair_number}
use Rattle.fib_form.specs.declared.table_parts.TablePart.{TablePart}
use Rattle.fib_form.specs.declared.table_parts.TablePart.TheVariants.{SttbfBkmk, PlcfBkf, PlcfBkl}
use Rattle.doc_parts.specs.BookmarkParts.{BookmarkParts, parts_at, bookmarks_of, bookmark_rules}
use Rattle.doc_parts.specs.PrintedBookmarks.{printed_names, printed_starts, printed_ends, printed_parts}
use Rattle.doc_parts.proofs.Public.{bookmarks_back}
use Rattle.file_rules.specs.Source.{part_place}
use Rattle.file_rules.specs.BookmarkRules.{bookmark_parts, IsLeavingPair, HasLeavingPair, rules_of_bookmarks}
use Rattle.file_rules.specs.BookmarkRules.{HasBookmarks}
use Rattle.file_rules.proofs.Public.{bookmarks-hold}
use Rattle.save_laws.specs.Saves.{saved_entries}
use Rattle.save_laws.proofs.SavedLemmas.{Save, the_source, main_len, few_units, part_is}

-- the three parts as they are printed, at the places that the pairs name
abbrev the_marks : Save → BookmarkParts
the_marks s =
    let source = the_source s in
    printed_parts s.document.bookmarks (length s.document.main) (part_place source SttbfBkmk)
    (part_place source PlcfBkf) (part_place source PlcfBkl)

marks_are : (s : Save) → bookmark_parts (the_source s) ≡ the_marks s
marks_are s =
    let source = the_source s in
    let list = s.document.bookmarks in
    let len = length s.document.main in
    let names = part_is s 11 SttbfBkmk (printed_names list) refl in
    let starts = part_is s 12 PlcfBkf (printed_starts list len) refl in
    let ends = part_is s 13 PlcfBkl (printed_ends list len) refl in
    λ i.
    parts_at (names i) (starts i) (ends i)
    (part_place source SttbfBkmk ∷ part_place source PlcfBkf ∷ part_place source PlcfBkl ∷ [])

-- no part leaves the table stream
stays : (s : Save) (k : ℕ) (part : TablePart) (bytes : List ℕ) (place : ℕ) →
    slice_get (saved_entries s.document s.saved) k ≡ Some (entry (pair_number part) bytes) →
    ¬ (IsLeavingPair (the_source s) part place)
stays s k part bytes place here leaves =
    let within = (s.is.parts k (entry (pair_number part) bytes) here).within in
    let beyond = leaves.1 in
    omega (arith, within, beyond)

-- what is said of them
pub record AreBookmarksHeld (s : Save) : Type 0 where
  pub rules : Hold (rules_of_bookmarks (the_source s))
  pub has : HasBookmarks (the_source s) s.document.bookmarks

pub bookmarks_held : (s : Save) → AreBookmarksHeld s
bookmarks_held s =
    let source = the_source s in
    let list = s.document.bookmarks in
    let len = length s.document.main in
    let few = (few_units s).few in
    let back =
    bookmarks_back list len (part_place source SttbfBkmk) (part_place source PlcfBkf) (part_place source PlcfBkl)
    s.right.few_bookmarks (omega (arith, few)) s.formed.bookmarks s.right.bookmarks in
    let marks = marks_are s in
    let holds : Hold (bookmark_rules (bookmark_parts source)) =
    subst (λ (parts : BookmarkParts). Hold (bookmark_rules parts)) (sym marks) back.0 in
    let inside : Nowhere (HasLeavingPair source) = λ place leaves. elim leaves [
      | inl one ↦ stays s 11 SttbfBkmk (printed_names list) place refl one
      | inr (inl two) ↦ stays s 12 PlcfBkf (printed_starts list len) place refl two
      | inr (inr three) ↦ stays s 13 PlcfBkl (printed_ends list len) place refl three
    ] in
    record {
      rules = bookmarks-hold source inside holds;
      has =
          sym back.1
          ∙ (ap (λ (parts : BookmarkParts). bookmarks_of parts len) (sym marks)
          ∙ ap (bookmarks_of (bookmark_parts source)) (sym (main_len s)));
    }
