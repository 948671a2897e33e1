-- The notes are written one by one.
use Rattle.std.proofs.Common.{◌≡◌, ◌∙◌, ℕ, ◌+◌, ◌<◌, ◌≤◌, List, [], ◌∷◌, ◌++◌, length, drop, refl, sym, ap, subst}
use Rattle.std.proofs.Common.{arith}
use Rattle.std.proofs.Common.{append_assoc, append-nil, Some, Bool, true, false, not, ◌⊎◌, inl, inr}
use Rattle.std.specs.Prelude.{slice_get, if◌then◌else◌}
use Rattle.std.proofs.Math.ListN.{drop_of_length-le}
use Rattle.run_lists.proofs.Public.{run_and_rest}
use Rattle.doc_model.specs.declared.item.Item.{Item}
use Rattle.doc_outer.specs.declared.sink.Sink.{Ghosts}
use Rattle.view_places.specs.declared.element.Element.{Element}
use Rattle.view_places.specs.declared.element.Element.TheVariants.{BackLink}
use Rattle.form_page.specs.declared.page.FormPage.{FormPage}
use Rattle.form_page.specs.Forms.{Places}
use Rattle.form_page.specs.Forms.{PutsPlaces}
use Rattle.form_page.proofs.Public.{places_none, places_then}
use Rattle.doc_view.specs.declared.reading.Manner.{Manner}
use Rattle.doc_view.specs.declared.references.Reference.{Reference}
use Rattle.doc_view.specs.Seen.{Formats, paragraphs_of}
use Rattle.doc_places.specs.Places.{hypertext_of, label_of, no_cells, note_path, note_places, notes_places, shown_place}
use Rattle.doc_places.specs.Places.{text_places}
use Rattle.doc_html.proofs.WriteLemmas.{puts_same}

-- what was written of the notes, where those from a place on are left
pub record NotesAt {K : Type 0} (sink : Ghosts K) (start : K) (page : FormPage) (out : K) (now : FormPage) (formats :
    Formats)
    (manner : Manner) (number : ℕ) (references rest : List Reference) (notes others : List (List Item)) : Type 0 where
  pub places : Places
  pub puts : PutsPlaces sink start page out now places
  pub whole : places ++ notes_places formats manner number rest others ≡ notes_places formats manner 1 references notes

pub notes_start : {K : Type 0} (sink : Ghosts K) (start : K) (page : FormPage) (formats : Formats) (manner : Manner)
    (references :
    List Reference) (notes : List (List Item)) → NotesAt sink start page start page formats manner 1 references (drop
    0 references)
    notes (drop 0 notes)
notes_start sink start page formats manner references notes =
    record { places = []; puts = places_none sink start page; whole = refl }

pub note_on : {K : Type 0} (sink : Ghosts K) (start : K) (page : FormPage) (out : K) (now : FormPage) (next : K)
    (after : FormPage)
    (formats : Formats) (manner : Manner) (references : List Reference) (notes : List (List Item)) (k : ℕ) (reference
    : Reference)
    (note : List Item) → NotesAt sink start page out now formats manner (k + 1) references (drop k references) notes
    (drop k notes)
    → slice_get references k ≡ Some reference → slice_get notes k ≡ Some note → PutsPlaces sink out now next after
    (note_places
    formats manner (k + 1) reference note) → NotesAt sink start page next after formats manner (k + 1 + 1) references
    (drop (k + 1)
    references) notes (drop (k + 1) notes)
unfolding notes_places
note_on sink start page out now next after formats manner references notes k reference note at here there put =
    let said = note_places formats manner (k + 1) reference note in
    let rest = drop (k + 1) references in
    let others = drop (k + 1) notes in
    record {
      places = at.places ++ said;
      puts = places_then sink start out next page now after at.places said at.puts put;
      whole =
          append_assoc at.places said (notes_places formats manner (k + 1 + 1) rest others)
          ∙ (λ i. at.places ++ notes_places formats manner (k + 1) (sym (run_and_rest references k reference here) i)
          (sym (run_and_rest notes k note there) i))
          ∙ at.whole;
    }

no_notes : (formats : Formats) (manner : Manner) (number : ℕ) (references : List Reference) →
    notes_places formats manner number references [] ≡ []
unfolding notes_places
no_notes formats manner number [] = refl
no_notes formats manner number (reference ∷ references) = refl

none_left : (formats : Formats) (manner : Manner) (number : ℕ) (references : List Reference)
    (notes : List (List Item)) (k : ℕ) → (length references ≤ k) ⊎ (length notes ≤ k) →
    notes_places formats manner number (drop k references) (drop k notes) ≡ []
unfolding notes_places
none_left formats manner number references notes k (inl h) =
    ap (λ (r : List Reference). notes_places formats manner number r (drop k notes)) (drop_of_length-le references h)
none_left formats manner number references notes k (inr h) =
    ap (λ (n : List (List Item)). notes_places formats manner number (drop k references) n) (drop_of_length-le notes h)
    ∙ no_notes formats manner number (drop k references)

pub notes_written : {K : Type 0} (sink : Ghosts K) (start : K) (page : FormPage) (out : K) (now : FormPage)
    (formats : Formats) (manner : Manner) (number : ℕ) (references : List Reference) (notes : List (List Item))
    (k : ℕ) → (length references ≤ k) ⊎ (length notes ≤ k) →
    NotesAt sink start page out now formats manner number references (drop k references) notes (drop k notes) →
    PutsPlaces sink start page out now (notes_places formats manner 1 references notes)
notes_written sink start page out now formats manner number references notes k ended at =
    puts_same sink start out page now at.places (notes_places formats manner 1 references notes)
    (sym (append-nil at.places)
    ∙ ap (λ (x : Places). at.places ++ x) (sym (none_left formats manner number references notes k ended))
    ∙ at.whole)
    at.puts

-- ---- one note

pub is_hidden : (shown_place : Bool) → not shown_place ≡ true → shown_place ≡ false
is_hidden true is = absurd (cc (is))
is_hidden false is = refl

pub is_not_hidden : (shown_place : Bool) → not shown_place ≡ false → shown_place ≡ true
is_not_hidden true is = refl
is_not_hidden false is = absurd (cc (is))

-- one that is not shown
pub note_hidden : {K : Type 0} (sink : Ghosts K) (a : K) (page : FormPage) (formats : Formats) (manner : Manner)
    (number : ℕ)
    (reference : Reference) (note : List Item) → reference.is_shown ≡ false → PutsPlaces sink a page a page
    (note_places formats
    manner number reference note)
note_hidden sink a page formats manner number reference note hidden =
    let none : Places = [] in
    puts_same sink a a page page none (note_places formats manner number reference note) (sym (ap (λ (b : Bool). if b
    then shown_place
    (note_path number ++ BackLink number ∷ []) (label_of reference.number) ∷ text_places (hypertext_of [] number note no_cells) (note_path number)
    (paragraphs_of formats
    manner note) else none) hidden)) (places_none sink a page)

-- one that is shown: its label, and its text
pub note_shown : {K : Type 0} (sink : Ghosts K) (a b c : K) (p q r : FormPage) (formats : Formats) (manner : Manner)
    (number : ℕ)
    (reference : Reference) (note : List Item) → reference.is_shown ≡ true → PutsPlaces sink a p b q (shown_place
    (note_path
    number ++
    BackLink number ∷ []) (label_of reference.number) ∷ []) → PutsPlaces sink b q c r (text_places (hypertext_of [] number note no_cells) (note_path number)
    (paragraphs_of
    formats manner note)) → PutsPlaces sink a p c r (note_places formats manner number reference note)
note_shown sink a b c p q r formats manner number reference note is label text =
    let label_place = shown_place (note_path number ++ BackLink number ∷ []) (label_of reference.number) in
    let rest = text_places (hypertext_of [] number note no_cells) (note_path number) (paragraphs_of formats manner note) in
    let none : Places = [] in
    puts_same sink a c p r (label_place ∷ rest) (note_places formats manner number reference note) (sym (ap (λ (b :
    Bool). if b
    then label_place ∷ rest else none) is)) (places_then sink a b c p q r (label_place ∷ []) rest label text)
