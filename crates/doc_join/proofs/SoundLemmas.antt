-- What two sound documents have that a join asks for.
use Rattle.std.proofs.Common.{◌≡◌, ◌∙◌, inl, inr, refl, sym, ap, subst, ℕ, ◌+◌, ◌-◌, ◌^◌, ◌<◌, ◌≤◌, List, [], ◌∷◌}
use Rattle.std.proofs.Common.{length}
use Rattle.std.proofs.Common.{map, take}
use Rattle.std.proofs.Common.{drop, get_or, Some, arith, length-append, length-take, length-drop}
use Rattle.std.specs.Prelude.{All, is_some, Result, Ok, Err, MatchResult, IsOk}
use Rattle.std.proofs.lemmas.List.{length-map}
use Rattle.std.proofs.lemmas.List.Elements.{All-weaker}
use Rattle.std.proofs.lemmas.List.Sums.{count_by-le-length}
use Rattle.std.proofs.lemmas.Option.{slice_get-get_or, none-some}
use Rattle.doc_bits.specs.Places.{rank}
use Rattle.doc_bits.specs.declared.places.Where.{Where}
use Rattle.doc_bits.specs.declared.places.Where.TheVariants.{Main, Note, Head}
use Rattle.style_sheet.proofs.Public.{there}
use Rattle.doc_model.specs.declared.item.Item.{Item}
use Rattle.doc_model.specs.declared.document.Document.{Document}
use Rattle.document_bookmarks.specs.declared.bookmark_order.Bookmark.{Bookmark}
use Rattle.document_bookmarks.specs.Bookmarks.{IsFormedBookmark, AreFormedBookmarks}
use Rattle.doc_model.specs.Marks.{HasFormedBookmarks}
use Rattle.plain_doc.specs.RightDocument.{IsValidDocument}
use Rattle.plain_doc.specs.RulesOfTexts.{text_of_place, last_unit}
use Rattle.plain_doc.specs.Sound.{IsSound, NamesFirstRule, document_rules}
use Rattle.plain_doc.proofs.Public.{sound_is_valid}
use Rattle.doc_join.specs.declared.renumbering.Renumbering.{Renumbering}
use Rattle.doc_join.specs.Texts.{renumbered_item, renumbered_text, ending_section, section_ended, joined_main}
use Rattle.doc_join.specs.Texts.{HaveOwnStyles, AllHaveOwnStyles}
use Rattle.doc_join.specs.Join.{document_join, first_numbers, second_numbers, slots_together, most_slots}
use Rattle.doc_join.specs.declared.fault.JoinFault.{JoinFault}
use Rattle.doc_join.specs.declared.fault.JoinFault.TheVariants.{Styles, Unsound, Memory}
use Rattle.doc_join.specs.Faults.{IsJoinedDocument, IsJoinFault, IsUnsoundJoin}
use Rattle.doc_join.proofs.BookmarkLemmas.{joined_form}

-- ---- marks have styles of the sheet

own_styles : (document : Document) (numbers : Renumbering) (part : Where) (text : List Item) →
    IsValidDocument document → numbers.slots ≡ length document.sheet.styles → text_of_place document part ≡ Some text →
    HaveOwnStyles numbers text
own_styles document numbers part text right slots is k d within mark marked =
    let para =
    (right.texts part text is).styles k (get_or text k d) (slice_get-get_or text k d within) mark marked in
    let here = there document.sheet mark.istd (omega (arith, para)) in
    omega (arith, here, slots)

pub main_styles : (document : Document) (numbers : Renumbering) → IsSound document →
    numbers.slots ≡ length document.sheet.styles → HaveOwnStyles numbers document.main
main_styles document numbers sound slots =
    own_styles document numbers Main document.main (sound_is_valid document sound) slots refl

pub note_styles : (document : Document) (numbers : Renumbering) → IsSound document →
    numbers.slots ≡ length document.sheet.styles → AllHaveOwnStyles numbers document.notes
note_styles document numbers sound slots k d within =
    own_styles document numbers (Note k) (get_or document.notes k d) (sound_is_valid document sound) slots
    (slice_get-get_or document.notes k d within)

pub head_styles : (document : Document) (numbers : Renumbering) → IsSound document →
    numbers.slots ≡ length document.sheet.styles → AllHaveOwnStyles numbers document.heads
head_styles document numbers sound slots k d within =
    own_styles document numbers (Head k) (get_or document.heads k d) (sound_is_valid document sound) slots
    (slice_get-get_or document.heads k d within)

-- ---- how many there are

pub record AreFew (document : Document) : Type 0 where
  pub some : 0 < length document.main
  pub main : length document.main ≤ 499998
  pub notes : length document.notes ≤ 499998
  pub heads : length document.heads ≤ 2999994
  pub separators : 6 ≤ length document.heads
  pub bookmarks : length document.bookmarks ≤ 16000

some_item : (document : Document) → IsValidDocument document → 0 < length document.main
some_item document right = elim (right.texts Main document.main refl).ends [
  | inl unit ↦ has_items document.main unit
  | inr head ↦ let same = ap rank head.0.1 in absurd (omega (arith, same))
]
  where
    has_items : (text : List Item) → last_unit text ≡ Some 0x0D → 0 < length text
    has_items [] unit = absurd (none-some 0x0D unit)
    has_items (item ∷ text) unit = omega arith

pub are_few : (document : Document) → IsSound document → AreFew document
are_few document sound =
    let right = sound_is_valid document sound in
    let few = right.few in
    let notes = count_by-le-length (λ (item : Item). is_some item.note) document.main in
    let sections = count_by-le-length (λ (item : Item). is_some item.sect) document.main in
    record {
      some = some_item document right;
      main = omega (arith, few);
      notes = omega (arith, few, notes, right.notes);
      heads = omega (arith, few, sections, right.heads);
      separators = omega (arith, right.heads);
      bookmarks = right.few_bookmarks;
    }

-- the bookmarks of a second document may be behind a first main text
pub record DoFit (before : ℕ) (list : List Bookmark) : Type 0 where
  pub starts : All (λ bookmark. bookmark.from + before < 2 ^ 32) list
  pub ends : All (λ bookmark. bookmark.to + before < 2 ^ 32) list

pub bookmarks_fit : (first second : Document) (before : ℕ) → IsSound first → IsSound second →
    before ≡ length first.main → DoFit before second.bookmarks
bookmarks_fit first second before sound next_sound is =
    let one = (are_few first sound).main in
    let other = (are_few second next_sound).main in
    let each = next_sound.bookmarks.each in
    record {
      starts =
          All-weaker (IsFormedBookmark (length second.main)) (λ bookmark. bookmark.from + before < 2 ^ 32)
          (λ bookmark formed. let low = formed.ordered in let high = formed.within in
          omega (arith, low, high, one, other, is)) second.bookmarks each;
      ends =
          All-weaker (IsFormedBookmark (length second.main)) (λ bookmark. bookmark.to + before < 2 ^ 32)
          (λ bookmark formed. let high = formed.within in omega (arith, high, one, other, is)) second.bookmarks each;
    }

-- ---- the bookmarks are formed

pub length-ended : (text : List Item) → length (section_ended text) ≡ length text
length-ended text =
    let last = length text - 1 in
    omega (
      arith,
      length-append (take last text) (map ending_section (drop last text)),
      length-take last text,
      length-map (drop last text) ending_section,
      length-drop last text,
    )

pub length-main : (first_maps second_maps : Renumbering) (first second : List Item) →
    length (joined_main first_maps first second_maps second) ≡ length first + length second
length-main first_maps second_maps first second =
    omega (
      arith,
      length-append (section_ended (renumbered_text first_maps first)) (renumbered_text second_maps second),
      length-ended (renumbered_text first_maps first),
      length-map first (renumbered_item first_maps),
      length-map second (renumbered_item second_maps),
    )

pub joined_bookmarks_formed : (first second : Document) → IsSound first → IsSound second →
    HasFormedBookmarks (document_join first second)
joined_bookmarks_formed first second sound next_sound =
    subst (λ len. AreFormedBookmarks len (document_join first second).bookmarks)
    (sym (length-main (first_numbers first) (second_numbers first second) first.main second.main))
    (joined_form (length first.main) (length second.main) first.bookmarks second.bookmarks sound.bookmarks
    next_sound.bookmarks)

-- ---- what the check answers

fault_of : (first second made : Document) (fault : JoinFault) → made ≡ document_join first second →
    slots_together first second ≤ most_slots → IsUnsoundJoin made fault → IsJoinFault first second fault
fault_of first second made (Styles slots) is fits unsound = absurd unsound
fault_of first second made (Unsound rule place at) is fits unsound =
    (fits, subst (λ d. NamesFirstRule (document_rules d) (record { rule = rule; place = place; at = at })) is unsound)
fault_of first second made Memory is fits unsound = tt

pub outcome : (first second made : Document) (verdict : Result (Unit {0}) JoinFault)
    (answer : Result Document JoinFault) → made ≡ document_join first second →
    slots_together first second ≤ most_slots → MatchResult verdict (λ _. IsSound made) (IsUnsoundJoin made) →
    MatchResult answer (λ given. (given ≡ made) × IsOk verdict) (λ fault. verdict ≡ Err fault) →
    MatchResult answer (IsJoinedDocument first second) (IsJoinFault first second)
outcome first second made (Ok done) (Ok given) is fits judged given_is = record {
  is = given_is.0 ∙ is;
  fits = fits;
  sound = subst IsSound (sym given_is.0) judged;
}
outcome first second made (Err fault) (Ok given) is fits judged given_is = absurd (cc given_is.1)
outcome first second made verdict (Err fault) is fits judged given_is =
    fault_of first second made fault is fits
    (subst (λ (v : Result (Unit {0}) JoinFault). MatchResult v (λ _. IsSound made) (IsUnsoundJoin made)) given_is
    judged)
