-- The values of the paragraphs of a document, one after the other.
use Rattle.std.proofs.Common.{◌≡◌, inl, inr, ℕ, ◌+◌, ◌<◌, ◌≤◌, List, [], ◌∷◌, ◌++◌, length, map, replicate, Option}
use Rattle.std.proofs.Common.{Some, None, sym, ◌∙◌, subst, arith, length-append}
use Rattle.std.specs.Prelude.{slice_get}
use Rattle.std.proofs.lemmas.Bool.{cases_lt}
use Rattle.std.proofs.lemmas.List.{get_or-replicate, length-replicate, length-map}
use Rattle.std.proofs.lemmas.Option.{same_Some, none-some, slice_get_within, get_or_from_slice_get}
use Rattle.doc_bits.proofs.Public.{slice_get_push, slice_get_before}
use Rattle.style_sheet.specs.Sheet.{Sheet}
use Rattle.style_sheet.specs.Chain.{style_kind_at}
use Rattle.doc_model.specs.declared.item.Item.{Item}
use Rattle.doc_model.specs.declared.item.Mark.{Mark}
use Rattle.doc_model.specs.declared.document.Document.{Document}
use Rattle.doc_model.specs.Paragraphs.{IsParagraphEnd}
use Rattle.plain_doc.specs.Sound.{IsSound}
use Rattle.plain_doc.proofs.Public.{main_right, sound_is_valid}
use Rattle.list_numbers.specs.declared.mark_values.MarkValues.{MarkValues}
use Rattle.list_numbers.specs.MarkValues.{AreMarkValues, AreKnownValues}
use Rattle.list_numbers.specs.Places.{paragraphs, AreParagraphValues, IsMarkAt}
use Rattle.list_numbers.specs.Numbers.{AreDocumentValues}
use Rattle.list_numbers.proofs.ParagraphLemmas.{BeginsParagraph, first_begins, next_begins, paragraph_there, none_left}
use Rattle.list_numbers.proofs.ParagraphLemmas.{paragraph_from, last_of_paragraph, few_paragraphs}

-- no style was met
pub none_known : (sheet : Sheet) (count : ℕ) → AreKnownValues sheet (replicate count None)
none_known sheet count istd values there =
    let nones : List (Option MarkValues) = replicate count None in
    let within : istd < length nones = slice_get_within nones istd (Some values) there in
    let low : istd < count = subst (λ n. istd < n) (length-replicate count None) within in
    absurd (none-some values (sym (get_or-replicate count istd None None low)
    ∙ get_or_from_slice_get nones istd (Some values) None there))

-- the style of a mark in the main text is one of paragraphs
pub style_of_mark : (document : Document) (at : ℕ) (mark : Mark) → IsSound document → IsMarkAt document.main at mark →
    style_kind_at document.sheet mark.istd ≡ 1
style_of_mark document at mark sound m =
    (main_right document (sound_is_valid document sound)).styles at m.item m.here mark m.has

-- the values of the first paragraphs; the text from a place on has the others
pub record HaveValues (document : Document) (values : List MarkValues) (at : ℕ) : Type 0 where
  pub begins : BeginsParagraph document.main at (length values)
  pub few : length values ≤ length (paragraphs document.main)
  pub each :
      (i : ℕ) (paragraph : List Item) (own : MarkValues) → slice_get (paragraphs document.main) i ≡ Some paragraph →
      slice_get values i ≡ Some own → AreParagraphValues document paragraph own

pub no_values : (document : Document) → HaveValues document [] 0
no_values document = record {
  begins = first_begins document.main;
  few = omega arith;
  each = λ i paragraph own there none. absurd (none-some own none);
}

-- one paragraph more
pub more_values : (document : Document) (values : List MarkValues) (at end : ℕ) (mark : Mark) (own : MarkValues) →
    HaveValues document values at → IsParagraphEnd document.main at end → IsMarkAt document.main end mark →
    AreMarkValues document.sheet mark own → HaveValues document (values ++ own ∷ []) (end + 1)
more_values document values at end mark own h ends m are =
    let items : List Item = document.main in
    let here = paragraph_there items at (length values) end h.begins ends in
    let low : length values < length (paragraphs items) = slice_get_within (paragraphs items) (length values)
    (paragraph_from items at end) here in
    let size : length (values ++ own ∷ []) ≡ length values + 1 = length-append values (own ∷ []) in
    record {
      begins =
          subst (BeginsParagraph items (end + 1)) (sym size) (next_begins items at (length values) end h.begins ends);
      few = omega arith;
      each = λ i paragraph v there got. elim (cases_lt i (length values)) [
        | inl old ↦ h.each i paragraph v there (sym (slice_get_before values (own ∷ []) i old) ∙ got)
        | inr up ↦
            let within : i < length (values ++ own ∷ []) = slice_get_within (values ++ own ∷ []) i v got in
            let e : i ≡ length values = omega arith in
            let last : slice_get (values ++ own ∷ []) (length values) ≡ Some v = subst
            (λ n. slice_get (values ++ own ∷ []) n ≡ Some v) e got in
            let same : own ≡ v = same_Some own v (sym (slice_get_push values own) ∙ last) in
            let text : paragraph_from items at end ≡ paragraph = same_Some (paragraph_from items at end) paragraph
            (sym here ∙ subst (λ n. slice_get (paragraphs items) n ≡ Some paragraph) e there) in
            subst (AreParagraphValues document paragraph) same (subst (λ p. AreParagraphValues document p own) text
            (record {
              mark = mark;
              ends = record {
                item = m.item;
                last = last_of_paragraph items at end m.item ends.after m.here;
                has = m.has;
              };
              are = are;
            }))
      ];
    }

-- where the text is used up all paragraphs have their values
pub all_values : (document : Document) (values : List MarkValues) (at : ℕ) → HaveValues document values at →
    length document.main ≤ at → AreDocumentValues document values
all_values document values at h past =
    let few = h.few in
    let all = none_left document.main at (length values) h.begins past in
    record { count = omega arith; each = h.each }

-- a sound document has fewer than 2^32 paragraphs, and so many places
pub few_paragraphs_there : (document : Document) → IsSound document → length (paragraphs document.main) + 1 < 4294967296
few_paragraphs_there document sound =
    let few = (sound_is_valid document sound).few in
    let most = few_paragraphs document.main in
    omega arith

pub few_values : (document : Document) (values : List MarkValues) {A : Type 0} (f : MarkValues → A) → IsSound document →
    AreDocumentValues document values → length (map f values) + 1 < 4294967296
few_values document values f sound are =
    let few = few_paragraphs_there document sound in
    let count = are.count in
    omega (arith, length-map values f)
