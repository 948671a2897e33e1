-- What is right of the joined document: all that a sound document says but how many items and bookmarks there are.
use Rattle.std.proofs.Common.{◌≡◌, ◌∙◌, inl, inr, refl, sym, ap, subst, ℕ, ◌+◌, ◌-◌, Bool, cond, List, []}
use Rattle.std.proofs.Common.{◌∷◌, ◌++◌, length, drop, Some, arith, is_some, length-append}
use Rattle.std.proofs.Common.{length-drop}
use Rattle.std.specs.Prelude.{slice_get}
use Rattle.std.specs.List.{count_by}
use Rattle.std.proofs.lemmas.Bool.{cases_lt}
use Rattle.std.proofs.lemmas.List.{length-map}
use Rattle.std.proofs.lemmas.List.Sums.{sum_by-cons, sum_by-append}
use Rattle.std.proofs.lemmas.Option.{same_Some, slice_get_within, get_or_from_slice_get, none-some}
use Rattle.doc_bits.proofs.Public.{from_map, slice_get_before, from_behind, got_drop}
use Rattle.doc_bits.specs.Rules.{Nowhere}
use Rattle.doc_bits.specs.Places.{rank}
use Rattle.doc_bits.specs.declared.places.Where.{Where}
use Rattle.doc_bits.specs.declared.places.Where.TheVariants.{File, Wd, Table, Sheet as SheetPart, Main, Note, Head}
use Rattle.document_bookmarks.specs.Names.{HasSameName}
use Rattle.style_sheet.specs.Sheet.{Sheet}
use Rattle.style_sheet.specs.Chain.{HasSoundBases}
use Rattle.style_sheet.specs.Written.{IsWritable}
use Rattle.doc_model.specs.declared.item.Item.{Item}
use Rattle.doc_model.specs.declared.document.Document.{Document}
use Rattle.doc_model.specs.Document.{IsFormedText}
use Rattle.doc_model.specs.Formed.{IsFormed}
use Rattle.plain_doc.specs.RulesOfTexts.{text_of_place}
use Rattle.plain_doc.specs.RulesOfSheet.{HasShortStyle, note_count, head_count}
use Rattle.plain_doc.specs.RightDocument.{IsValidText, IsValidDocument}
use Rattle.plain_doc.proofs.Public.{sound_is_valid}
use Rattle.doc_join.specs.declared.renumbering.Renumbering.{Renumbering}
use Rattle.doc_join.specs.Texts.{renumbered_item, renumbered_text, renumbered_texts, ending_section, section_ended}
use Rattle.doc_join.specs.Texts.{joined_main, texts_of_both}
use Rattle.doc_join.specs.Join.{document_join, first_numbers, second_numbers}
use Rattle.doc_join.specs.Laws.{CanBeJoined}
use Rattle.doc_join.proofs.SoundLemmas.{are_few}
use Rattle.doc_join.proofs.PartLemmas.{IsSheetPart, first_part, second_part}
use Rattle.doc_join.proofs.RightTextLemmas.{IsLikePart, text_stays_right}
use Rattle.doc_join.proofs.RightMainLemmas.{has_last, main_ends, main_joined_right}
use Rattle.doc_join.proofs.RightSheetLemmas.{joined_bases, joined_short, joined_writable}
use Rattle.doc_join.proofs.BookmarkLemmas.{joined_apart}

-- ---- what is right of the joined document

-- all that a right document says but the numbers of items and of bookmarks
pub record IsValidAttachedCounts (document : Document) : Type 0 where
  pub texts :
      (part : Where) (text : List Item) → text_of_place document part ≡ Some text → IsValidText document.sheet part text
  pub notes : length document.notes ≡ note_count document.main
  pub heads : length document.heads ≡ head_count document.main
  pub bases : HasSoundBases document.sheet
  pub short : (istd : ℕ) → HasShortStyle document.sheet istd
  pub writable : IsWritable document.sheet
  pub names : Nowhere (HasSameName document.bookmarks)

-- ---- counts

counted_same : (p : Item → Bool) (numbers : Renumbering) (text : List Item) →
    ((item : Item) → p (renumbered_item numbers item) ≡ p item) →
    count_by p (renumbered_text numbers text) ≡ count_by p text
counted_same p numbers [] same = refl
counted_same p numbers (item ∷ text) same =
    let one : Item → ℕ = λ x. cond (p x) 1 0 in
    omega (
      arith,
      sum_by-cons one (renumbered_item numbers item) (renumbered_text numbers text),
      sum_by-cons one item text,
      ap {B = ℕ} (λ b. cond b 1 0) (same item),
      counted_same p numbers text same,
    )

-- an end of a section is counted as the item before it
counted_ended : (p : Item → Bool) (text : List Item) (sheet : Sheet) → IsValidText sheet Main text →
    ((item : Item) → p (ending_section item) ≡ p item) → count_by p (section_ended text) ≡ count_by p text
counted_ended p text sheet right same =
    let one : Item → ℕ = λ x. cond (p x) 1 0 in
    let last = has_last text (main_ends sheet text right) in
    omega (
      arith,
      ap (count_by p) last.ended,
      ap (count_by p) last.split,
      sum_by-append one last.front (ending_section last.item ∷ []),
      sum_by-append one last.front (last.item ∷ []),
      sum_by-cons one (ending_section last.item) [],
      sum_by-cons one last.item [],
      ap {B = ℕ} (λ b. cond b 1 0) (same last.item),
    )

main_counted : (p : Item → Bool) (first_maps second_maps : Renumbering) (first second : List Item) (sheet : Sheet) →
    IsValidText sheet Main (renumbered_text first_maps first) → ((item : Item) → p (ending_section item) ≡ p item) →
    ((numbers : Renumbering) (item : Item) → p (renumbered_item numbers item) ≡ p item) →
    count_by p (joined_main first_maps first second_maps second) ≡ count_by p first + count_by p second
main_counted p first_maps second_maps first second sheet right same each =
    omega (
      arith,
      sum_by-append (λ (x : Item). cond (p x) 1 0) (section_ended (renumbered_text first_maps first))
          (renumbered_text second_maps second),
      counted_ended p (renumbered_text first_maps first) sheet right same,
      counted_same p first_maps first (each first_maps),
      counted_same p second_maps second (each second_maps),
    )

length-texts : (from : ℕ) (first_maps second_maps : Renumbering) (first second : List (List Item)) →
    length (texts_of_both from first_maps first second_maps second) ≡ length first + (length second - from)
length-texts from first_maps second_maps first second =
    omega (
      arith,
      length-append (renumbered_texts first_maps first) (renumbered_texts second_maps (drop from second)),
      length-map first (renumbered_text first_maps),
      length-map (drop from second) (renumbered_text second_maps),
      length-drop from second,
    )

-- ---- texts

same_part : (part : Where) → IsLikePart part part
same_part part = record { main = λ is. is; back = λ is. is; head = λ is. is }

notes_alike : (one other : ℕ) → IsLikePart (Note one) (Note other)
notes_alike one other = record {
  main = λ is. let h = ap rank is in absurd (omega (arith, h));
  back = λ is. let h = ap rank is in absurd (omega (arith, h));
  head = λ is. let h = ap rank is.1 in absurd (omega (arith, h));
}

heads_alike : (one other : ℕ) → IsLikePart (Head one) (Head other)
heads_alike one other = record {
  main = λ is. let h = ap rank is in absurd (omega (arith, h));
  back = λ is. let h = ap rank is in absurd (omega (arith, h));
  head = λ is. (other, refl);
}

-- the texts of a well-formed document
formed_text : (document : Document) (part : Where) (text : List Item) → IsFormed document →
    text_of_place document part ≡ Some text → IsFormedText text
formed_text document File text formed is = absurd (none-some text is)
formed_text document Wd text formed is = absurd (none-some text is)
formed_text document Table text formed is = absurd (none-some text is)
formed_text document SheetPart text formed is = absurd (none-some text is)
formed_text document Main text formed is = subst IsFormedText (same_Some document.main text is) formed.main
formed_text document (Note number) text formed is =
    subst IsFormedText (get_or_from_slice_get document.notes number text text is)
    (formed.notes.each number text (slice_get_within document.notes number text is))
formed_text document (Head number) text formed is =
    subst IsFormedText (get_or_from_slice_get document.heads number text text is)
    (formed.heads.each number text (slice_get_within document.heads number text is))

-- a text of a document stays right in the joined one
stays : (document : Document) (numbers : Renumbering) (joined : Sheet) (part other : Where) (text : List Item) →
    IsFormed document → IsValidDocument document → IsSheetPart numbers document.sheet joined → IsLikePart part other →
    text_of_place document part ≡ Some text → IsValidText joined other (renumbered_text numbers text)
stays document numbers joined part other text formed right within like is =
    text_stays_right numbers document.sheet joined part other text within like
    (formed_text document part text formed is) (right.texts part text is)

-- a text of a joined list is one of the first, or one of the second
texts_right : (from : ℕ) (first_maps second_maps : Renumbering) (first second : List (List Item)) (P : List Item → Type
    0) →
    ((i : ℕ) (text : List Item) → slice_get first i ≡ Some text → P (renumbered_text first_maps text)) →
    ((i : ℕ) (text : List Item) → slice_get second i ≡ Some text → P (renumbered_text second_maps text)) →
    (i : ℕ) (text : List Item) → slice_get (texts_of_both from first_maps first second_maps second) i ≡ Some text → P
    text
texts_right from first_maps second_maps first second P one other i text is =
    let front = renumbered_texts first_maps first in
    let back = renumbered_texts second_maps (drop from second) in
    elim (cases_lt i (length front)) [
      | inl low ↦
          let found =
          from_map (renumbered_text first_maps) first i text (sym (slice_get_before front back i low) ∙ is) in
          subst P found.1.1 (one i found.0 found.1.0)
      | inr high ↦
          let j = i - length front in
          let at : i ≡ length front + j = omega (arith, high) in
          let found =
          from_map (renumbered_text second_maps) (drop from second) j text
          (sym (from_behind front back j) ∙ (ap (slice_get (front ++ back)) (sym at) ∙ is)) in
          subst P found.1.1 (other (from + j) found.0 (got_drop from second j found.0 found.1.0))
    ]

main_right : (first second : Document) → CanBeJoined first second →
    IsValidText (document_join first second).sheet Main (document_join first second).main
main_right first second can =
    let sheet = (document_join first second).sheet in
    let one = sound_is_valid first can.sound_first in
    let other = sound_is_valid second can.sound_second in
    let some = (are_few second can.sound_second).some in
    main_joined_right sheet (renumbered_text (first_numbers first) first.main)
    (renumbered_text (second_numbers first second) second.main)
    (stays first (first_numbers first) sheet Main Main first.main can.formed_first one
    (first_part first.sheet second.sheet can.fits) (same_part Main) refl)
    (stays second (second_numbers first second) sheet Main Main second.main can.formed_second other
    (second_part first.sheet second.sheet can.fits) (same_part Main) refl)
    (omega (arith, some, length-map second.main (renumbered_item (second_numbers first second))))

all_texts_right : (first second : Document) → CanBeJoined first second → (part : Where) (text : List Item) →
    text_of_place (document_join first second) part ≡ Some text → IsValidText (document_join first second).sheet part
    text
all_texts_right first second can File text is = absurd (none-some text is)
all_texts_right first second can Wd text is = absurd (none-some text is)
all_texts_right first second can Table text is = absurd (none-some text is)
all_texts_right first second can SheetPart text is = absurd (none-some text is)
all_texts_right first second can Main text is =
    let sheet = (document_join first second).sheet in
    subst (IsValidText sheet Main) (same_Some (document_join first second).main text is) (main_right first second can)
all_texts_right first second can (Note number) text is =
    let sheet = (document_join first second).sheet in
    texts_right 0 (first_numbers first) (second_numbers first second) first.notes second.notes
    (IsValidText sheet (Note number))
    (λ i t there.
    stays first (first_numbers first) sheet (Note i) (Note number) t can.formed_first
    (sound_is_valid first can.sound_first) (first_part first.sheet second.sheet can.fits) (notes_alike i number)
    there)
    (λ i t there.
    stays second (second_numbers first second) sheet (Note i) (Note number) t can.formed_second
    (sound_is_valid second can.sound_second) (second_part first.sheet second.sheet can.fits) (notes_alike i number)
    there)
    number text is
all_texts_right first second can (Head number) text is =
    let sheet = (document_join first second).sheet in
    texts_right 6 (first_numbers first) (second_numbers first second) first.heads second.heads
    (IsValidText sheet (Head number))
    (λ i t there.
    stays first (first_numbers first) sheet (Head i) (Head number) t can.formed_first
    (sound_is_valid first can.sound_first) (first_part first.sheet second.sheet can.fits) (heads_alike i number)
    there)
    (λ i t there.
    stays second (second_numbers first second) sheet (Head i) (Head number) t can.formed_second
    (sound_is_valid second can.sound_second) (second_part first.sheet second.sheet can.fits) (heads_alike i number)
    there)
    number text is

pub right_attached_counts : (first second : Document) → CanBeJoined first second →
    IsValidAttachedCounts (document_join first second)
right_attached_counts first second can =
    let joined = document_join first second in
    let first_maps = first_numbers first in
    let second_maps = second_numbers first second in
    let one = sound_is_valid first can.sound_first in
    let other = sound_is_valid second can.sound_second in
    let start =
    stays first first_maps joined.sheet Main Main first.main can.formed_first one
    (first_part first.sheet second.sheet can.fits) (same_part Main) refl in
    let noted =
    main_counted (λ item. is_some item.note) first_maps second_maps first.main second.main joined.sheet start (λ item.
    refl)
    (λ numbers item. refl) in
    let sections =
    main_counted (λ item. is_some item.sect) first_maps second_maps first.main second.main joined.sheet start (λ item.
    refl)
    (λ numbers item. refl) in
    record {
      texts = all_texts_right first second can;
      notes =
          omega (arith, length-texts 0 first_maps second_maps first.notes second.notes, one.notes, other.notes, noted);
      heads =
          omega (
            arith,
            length-texts 6 first_maps second_maps first.heads second.heads,
            one.heads,
            other.heads,
            sections,
          );
      bases = joined_bases first.sheet second.sheet can.fits one.bases other.bases;
      short =
          joined_short first.sheet second.sheet can.formed_first.sheet can.formed_second.sheet one.short other.short;
      writable =
          joined_writable first.sheet second.sheet can.formed_first.sheet can.formed_second.sheet one.writable
          other.writable;
      names = joined_apart (length first.main) first.bookmarks second.bookmarks one.names other.names;
    }
