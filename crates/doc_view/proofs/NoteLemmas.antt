-- The notes are put one by one.
use Rattle.std.proofs.Common.{◌≡◌, ◌∙◌, ℕ, ◌+◌, ◌≤◌, List, [], ◌∷◌, ◌++◌, length, drop, refl, sym, ap, subst}
use Rattle.std.proofs.Common.{append_assoc, append-nil, Option, Some, Bool, true, false, not, ◌||◌, ◌⊎◌, inl, inr}
use Rattle.std.specs.Prelude.{slice_get, if◌then◌else◌}
use Rattle.std.specs.List.{count_by}
use Rattle.std.proofs.Math.ListN.{drop_of_length-le}
use Rattle.run_lists.proofs.Public.{run_and_rest}
use Rattle.doc_model.specs.declared.item.Item.{Item}
use Rattle.doc_outer.specs.declared.sink.Sink.{Ghosts}
use Rattle.page_out.specs.declared.page.Page.{Page}
use Rattle.symbol_fonts.specs.declared.fonts.SymbolFonts.{SymbolFonts}
use Rattle.doc_view.specs.declared.line.Title.{Title}
use Rattle.doc_view.specs.Lines.{lead_text, title_text}
use Rattle.doc_view.specs.declared.reading.Manner.{Manner}
use Rattle.doc_view.specs.declared.references.Reference.{Reference}
use Rattle.doc_view.specs.Course.{has_reference}
use Rattle.doc_view.specs.Layout.{layout_of, some_here}
use Rattle.doc_view.specs.Notes.{has_lines, note_label, note_lead, note_text, notes_from}
use Rattle.page_out.specs.Printed.{Prints}
use Rattle.doc_view.specs.Seen.{Formats, paragraphs_of, with_values}
use Rattle.list_numbers.specs.declared.paragraph_values.ParagraphValues.{ParagraphValues}
use Rattle.doc_view.proofs.TextLemmas.{no_values}
use Rattle.page_out.proofs.Public.{put_then}
use Rattle.doc_view.specs.declared.reading.TextKind.TheVariants as text_kind

-- a note refers to none
pub none_met : (hidden : Bool) (fonts : SymbolFonts) (items : List Item) →
    count_by (has_reference (record { hidden = hidden; kind = text_kind.Note; fonts = fonts })) items ≡ 0
none_met hidden fonts [] = refl
none_met hidden fonts (item ∷ items) = none_met hidden fonts items

-- what is before a note
pub same_lead : (begun : Bool) (number : Option ℕ) (title : Title) → title_text title ≡ note_label number →
    lead_text (record { is_apart = not begun; title = title }) ≡ note_lead begun number
same_lead true number title is = is
same_lead false number title is = ap (λ (text : List ℕ). 10 ∷ text) is

pub shown_by : (shown : Bool) → not shown ≡ false → shown ≡ true
shown_by true is = refl
shown_by false is = sym is

-- a note that is put is that of its reference
pub note_here : {K : Type 0} (sink : Ghosts K) (a b : K) (p q : Page) (formats : Formats) (manner : Manner)
    (begun : Bool) (reference : Reference) (note items : List Item) (title : Title) (values : List ParagraphValues) →
    reference.is_shown ≡ true → title_text title ≡ note_label reference.number → values ≡ [] → items ≡ note →
    Prints sink a p b q (layout_of (lead_text (record { is_apart = not begun; title = title }))
    (with_values values (paragraphs_of formats manner items))) →
    Prints sink a p b q (if reference.is_shown then note_text formats manner begun reference.number note else [])
note_here sink a b p q formats manner begun reference note items title values shown named none same put =
    subst (λ (text : List ℕ). Prints sink a p b q text)
    ((λ i. layout_of (same_lead begun reference.number title named i)
    (with_values (none i) (paragraphs_of formats manner (same i))))
    ∙ ap (layout_of (note_lead begun reference.number)) (no_values (paragraphs_of formats manner note))
    ∙ sym (ap (λ (b : Bool). if b then note_text formats manner begun reference.number note else []) shown)) put

-- and something of it is here where the note has lines
pub note_some : (formats : Formats) (manner : Manner) (reference : Reference) (note items : List Item)
    (values : List ParagraphValues) (some : Bool) → reference.is_shown ≡ true → values ≡ [] → items ≡ note →
    some ≡ some_here (with_values values (paragraphs_of formats manner items)) →
    some ≡ has_lines formats manner reference note
note_some formats manner reference note items values some shown none same is =
    is
    ∙ (λ i. some_here (with_values (none i) (paragraphs_of formats manner (same i))))
    ∙ ap some_here (no_values (paragraphs_of formats manner note))
    ∙ sym (ap (λ (b : Bool). if b then some_here (paragraphs_of formats manner note) else false) shown)

-- what was put of the notes, where those from a place on are left
pub record NotesAt {K : Type 0} (sink : Ghosts K) (start : K) (page : Page) (out : K) (now : Page) (formats : Formats)
    (manner : Manner) (begun : Bool) (references rest : List Reference) (notes others : List (List Item)) : Type 0 where
  pub text : List ℕ
  pub prints : Prints sink start page out now text
  pub whole :
      text ++ notes_from formats manner begun rest others ≡ notes_from formats manner false references notes

pub note_on : {K : Type 0} (sink : Ghosts K) (start : K) (page : Page) (out : K) (now : Page) (next : K) (after : Page)
    (formats : Formats) (manner : Manner) (begun some : Bool) (references : List Reference) (notes : List (List Item))
    (k : ℕ) (reference : Reference) (note : List Item) →
    NotesAt sink start page out now formats manner begun references (drop k references) notes (drop k notes) →
    slice_get references k ≡ Some reference → slice_get notes k ≡ Some note →
    Prints sink out now next after
    (if reference.is_shown then note_text formats manner begun reference.number note else []) →
    some ≡ (begun || has_lines formats manner reference note) →
    NotesAt sink start page next after formats manner some references (drop (k + 1) references) notes
    (drop (k + 1) notes)
unfolding notes_from
note_on sink start page out now next after formats manner begun some references notes k reference note at here there put is =
    let said = if reference.is_shown then note_text formats manner begun reference.number note else [] in
    let rest = drop (k + 1) references in
    let others = drop (k + 1) notes in
    record {
      text = at.text ++ said;
      prints = put_then sink start out next page now after at.text said at.prints put;
      whole =
          append_assoc at.text said (notes_from formats manner some rest others)
          ∙ ap (λ (b : Bool). at.text ++ (said ++ notes_from formats manner b rest others)) is
          ∙ (λ i. at.text ++ notes_from formats manner begun (sym (run_and_rest references k reference here) i)
          (sym (run_and_rest notes k note there) i))
          ∙ at.whole;
    }

no_notes : (formats : Formats) (manner : Manner) (begun : Bool) (references : List Reference) →
    notes_from formats manner begun references [] ≡ []
unfolding notes_from
no_notes formats manner begun [] = refl
no_notes formats manner begun (reference ∷ references) = refl

none_left : (formats : Formats) (manner : Manner) (begun : Bool) (references : List Reference)
    (notes : List (List Item)) (k : ℕ) → (length references ≤ k) ⊎ (length notes ≤ k) →
    notes_from formats manner begun (drop k references) (drop k notes) ≡ []
unfolding notes_from
none_left formats manner begun references notes k (inl h) =
    ap (λ (r : List Reference). notes_from formats manner begun r (drop k notes)) (drop_of_length-le references h)
none_left formats manner begun references notes k (inr h) =
    ap (λ (n : List (List Item)). notes_from formats manner begun (drop k references) n) (drop_of_length-le notes h)
    ∙ no_notes formats manner begun (drop k references)

pub notes_put : {K : Type 0} (sink : Ghosts K) (start : K) (page : Page) (out : K) (now : Page)
    (formats : Formats) (manner : Manner) (begun : Bool) (references : List Reference) (notes : List (List Item))
    (k : ℕ) → (length references ≤ k) ⊎ (length notes ≤ k) →
    NotesAt sink start page out now formats manner begun references (drop k references) notes (drop k notes) →
    Prints sink start page out now (notes_from formats manner false references notes)
notes_put sink start page out now formats manner begun references notes k ended at =
    subst (λ (text : List ℕ). Prints sink start page out now text)
    (sym (append-nil at.text)
    ∙ ap (λ (x : List ℕ). at.text ++ x) (sym (none_left formats manner begun references notes k ended))
    ∙ at.whole)
    at.prints
