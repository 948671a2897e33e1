-- The lines of an outline, one paragraph after the other.
use Rattle.std.proofs.Common.{◌≡◌, ℕ, ◌+◌, ◌<◌, ◌≤◌, List, [], ◌∷◌, ◌++◌, length, take, drop}
use Rattle.std.proofs.Common.{Option, Some, refl, sym, ap, ◌∙◌}
use Rattle.std.proofs.Common.{subst, append_assoc}
use Rattle.std.specs.Prelude.{slice_get}
use Rattle.std.specs.List.{flat_map, enumerate_from}
use Rattle.std.proofs.lemmas.List.{drop_all, append-nil}
use Rattle.doc_model.specs.declared.item.Item.{Item}
use Rattle.doc_model.specs.Paragraphs.{IsParagraphEnd}
use Rattle.list_numbers.specs.declared.list_format.ListFormat.{ListFormat}
use Rattle.list_numbers.specs.declared.list_place.ListPlace.{ListPlace}
use Rattle.list_numbers.specs.declared.mark_values.MarkValues.{MarkValues}
use Rattle.list_numbers.specs.Places.{paragraphs}
use Rattle.list_numbers.specs.Counters.{HaveCounted}
use Rattle.list_numbers.specs.Numbers.{numbers_at, number_at_place}
use Rattle.list_numbers.specs.Outline.{outline_level, outline_line, level_at_entry, number_at_entry}
use Rattle.list_numbers.specs.Outline.{paragraph_line, outline_of}
use Rattle.list_numbers.proofs.TabulatedLemmas.{slice_get-tabulate}
use Rattle.list_numbers.proofs.NumberedLemmas.{place_taken, own_number, number_is_own}
use Rattle.list_numbers.proofs.ParagraphLemmas.{BeginsParagraph, first_begins, next_begins, one_and_others}
use Rattle.list_numbers.proofs.ParagraphLemmas.{paragraph_from}

-- the values and the places of the paragraphs of a text, and the lists that the places are in
pub record Numbered : Type 0 where
  pub items : List Item
  pub lists : List ListFormat
  pub values : List MarkValues
  pub places : List (Option ListPlace)

abbrev pub numbers_in : Numbered → List (Option (List ℕ))
numbers_in doc = numbers_at doc.lists doc.places

-- the lines of all paragraphs are the text and those of the paragraphs from one on
pub record HasLines (doc : Numbered) (text counts : List ℕ) (at number : ℕ) : Type 0 where
  pub begins : BeginsParagraph doc.items at number
  pub counted : HaveCounted (take number doc.places) (length doc.lists) counts
  pub lines :
      text ++ flat_map (paragraph_line doc.values (numbers_in doc))
      (enumerate_from number (drop number (paragraphs doc.items)))
      ≡ outline_of (paragraphs doc.items) doc.values (numbers_in doc)

pub no_lines : (doc : Numbered) (counts : List ℕ) → HaveCounted [] (length doc.lists) counts →
    HasLines doc [] counts 0 0
no_lines doc counts h = record { begins = first_begins doc.items; counted = h; lines = refl }

-- one paragraph more
pub one_line : (doc : Numbered) (text new counts after : List ℕ) (at end number : ℕ) (own : MarkValues)
    (place : Option ListPlace) (units : Option (List ℕ)) →
    HasLines doc text counts at number → IsParagraphEnd doc.items at end →
    slice_get doc.values number ≡ Some own → slice_get doc.places number ≡ Some place → number < length doc.places →
    HaveCounted (take number doc.places ++ place ∷ []) (length doc.lists) after →
    units ≡ number_at_place doc.lists (take number doc.places ++ place ∷ []) place →
    new ≡ text ++ outline_line number (outline_level own.outline) units (paragraph_from doc.items at end) →
    HasLines doc new after (end + 1) (number + 1)
one_line doc text new counts after at end number own place units h ends value there low counted is line =
    let numbers : List (Option (List ℕ)) = numbers_in doc in
    let texts : List (List Item) = paragraphs doc.items in
    let part : List Item = paragraph_from doc.items at end in
    let f : ℕ × List Item → List ℕ = paragraph_line doc.values numbers in
    let here : slice_get numbers number ≡ Some units =
    slice_get-tabulate (own_number doc.lists doc.places) (length doc.places) number low
    ∙ ap Some (sym (number_is_own doc.lists doc.places number place units there low is)) in
    let said : f (number, part) ≡ outline_line number (outline_level own.outline) units part =
    ap (λ v. outline_line number (level_at_entry v) (number_at_entry (slice_get numbers number)) part) value
    ∙ ap (λ n. outline_line number (outline_level own.outline) (number_at_entry n) part) here in
    let rest : List ℕ = flat_map f (enumerate_from (number + 1) (drop (number + 1) texts)) in
    let whole : text ++ (f (number, part) ++ rest) ≡ outline_of texts doc.values numbers =
    subst (λ parts. text ++ flat_map f (enumerate_from number parts) ≡ outline_of texts doc.values numbers)
    (one_and_others doc.items at number end h.begins ends) h.lines in
    record {
      begins = next_begins doc.items at number end h.begins ends;
      counted =
          subst (λ ps. HaveCounted ps (length doc.lists) after) (sym (place_taken doc.places number place there low))
          counted;
      lines =
          ap (λ t. t ++ rest) (line ∙ ap (λ l. text ++ l) (sym said)) ∙ (append_assoc text (f (number, part)) rest
          ∙ whole);
    }

-- where all paragraphs are written the text is the outline
pub all_lines : (doc : Numbered) (text counts : List ℕ) (at number : ℕ) → HasLines doc text counts at number →
    length (paragraphs doc.items) ≤ number →
    text ≡ outline_of (paragraphs doc.items) doc.values (numbers_in doc)
all_lines doc text counts at number h past =
    let f : ℕ × List Item → List ℕ = paragraph_line doc.values (numbers_in doc) in
    let none : drop number (paragraphs doc.items) ≡ [] = drop_all number (paragraphs doc.items) past in
    sym (append-nil text) ∙ (ap (λ parts. text ++ flat_map f (enumerate_from number parts)) (sym none) ∙ h.lines)
