-- The lists of the mends of a document, each grouped by the texts that its entries are of.
use Rattle.std.proofs.Common.{◌≡◌, ◌∙◌, ap, sym, refl, ℕ, ◌+◌, ◌-◌, Bool, true, false, not}
use Rattle.std.proofs.Common.{◌&&◌, ◌||◌, List, [], ◌∷◌, ◌++◌, length, take}
use Rattle.std.proofs.Common.{Option, Some, None, slice_get}
use Rattle.std.specs.Prelude.{All, if◌then◌else◌}
use Rattle.std.specs.Option.{unwrap_or}
use Rattle.std.specs.List.{flat_map, list_any}
use Rattle.std.proofs.lemmas.List.Elements.{All-cons, All-nil}
use Rattle.std.proofs.lemmas.Option.{same_Some}
use Rattle.doc_bits.specs.declared.places.Story.{Story}
use Rattle.doc_bits.specs.declared.places.Story.TheVariants.{Main, Note, Head}
use Rattle.doc_parts.specs.Tabulated.{tabulate}
use Rattle.fib_versions.specs.declared.further.Further.{Further}
use Rattle.text_losses.specs.declared.features.Reference.{Reference}
use Rattle.doc_model.specs.declared.item.Item.{Item}
use Rattle.doc_model.specs.declared.document.Document.{Document}
use Rattle.plain_doc.specs.declared.rules_texts.Side.TheVariants.{Notes, Heads}
use Rattle.doc_losses.specs.References.{Names, head_at, head_begin, head_references, references, reference_at}
use Rattle.doc_losses.specs.References.{text_marks}
use Rattle.doc_losses.specs.References.{text_references}
use Rattle.doc_losses.proofs.Public.{nothing_joined}
use Rattle.doc_mends.specs.declared.mends.BrokenRow.{BrokenRow}
use Rattle.doc_mends.specs.Sides.{side_name}
use Rattle.doc_mends.specs.BrokenRows.{broken_row_at, broken_rows, cells_of_row, fits_behind, mark_length}
use Rattle.doc_mends.specs.BrokenRows.{open_length, text_broken_rows}
use Rattle.doc_mends.specs.Ends.{is_ended, is_heads, open_stories, open_text}
use Rattle.doc_mends.specs.UnitsStay.{is_story}
use Rattle.doc_mends.proofs.GroupLemmas.{Groups, is_of}
use Rattle.doc_mends.proofs.RowLemmas.{listed_all}

row_story : (fits : Bool) (row other : BrokenRow) (story : Story) → row.story ≡ story →
    (if fits then None else Some row) ≡ Some other → other.story ≡ story
row_story true row other story of is = absurd (cc is)
row_story false row other story of is = ap (λ (r : BrokenRow). r.story) (sym (same_Some row other is)) ∙ of

pub rows_of_story : (story : Story) (text : List Item) → All (λ row. row.story ≡ story) (text_broken_rows story text)
rows_of_story story text =
    listed_all (λ (row : BrokenRow). row.story ≡ story) (broken_row_at story text) (length text + 1)
    (λ at row low is.
    let len : ℕ = open_length (take at text) in
    let cells : ℕ = cells_of_row (take at text) in
    let behind : Option Item = slice_get text at in
    row_story (fits_behind cells behind)
    (record { story = story; from = at - len; len = len + mark_length behind; cells = cells }) row story refl is)

abbrev pub rows_grouped : (document : Document) → Groups (λ (row : BrokenRow). row.story) (broken_rows document)
rows_grouped document = record {
  main = text_broken_rows Main document.main;
  notes = λ number. text_broken_rows (side_name Notes number) (unwrap_or (slice_get document.notes number) []);
  note_count = length document.notes;
  heads = λ number. text_broken_rows (side_name Heads number) (unwrap_or (slice_get document.heads number) []);
  head_count = length document.heads;
  all_are = refl;
  of_main = rows_of_story Main document.main;
  of_note = λ k. rows_of_story (Note k) (unwrap_or (slice_get document.notes k) []);
  of_head = λ k. rows_of_story (Head k) (unwrap_or (slice_get document.heads k) []);
}

reference_story : (story : Story) (at : ℕ) (mark : Option Further) (reference : Reference) →
    reference_at story at mark ≡ Some reference → reference.story ≡ story
reference_story story at None reference is = absurd (cc is)
reference_story story at (Some to) reference is =
    sym (ap (λ (r : Reference). r.story) (same_Some (record { to = to; story = story; at = at }) reference is))

pub references_of_story : (names : Names) (story : Story) (begin : ℕ) (text : List Item) →
    All (λ reference. reference.story ≡ story) (text_references names story begin text)
references_of_story names story begin text =
    let marks : List (Option Further) = text_marks names story begin text in
    listed_all (λ (reference : Reference). reference.story ≡ story)
    (λ (at : ℕ). reference_at story at (unwrap_or (slice_get marks at) None)) (length marks)
    (λ at reference low is. reference_story story at (unwrap_or (slice_get marks at) None) reference is)

abbrev pub references_grouped : (names : Names) (document : Document) →
    Groups (λ (reference : Reference). reference.story) (references names document)
references_grouped names document =
    let main : List Reference = text_references names Main 0 document.main in
    let heads : List Reference =
    flat_map (λ (l : List Reference). l) (tabulate (head_references names document.heads) (length document.heads)) in
    record {
      main = main;
      notes = λ number. [];
      note_count = length document.notes;
      heads = head_references names document.heads;
      head_count = length document.heads;
      all_are = ap (λ (l : List Reference). main ++ (l ++ heads))
          (sym (nothing_joined (λ (number : ℕ). []) (length document.notes) (λ k low. refl)));
      of_main = references_of_story names Main 0 document.main;
      of_note = λ k. All-nil (λ (reference : Reference). reference.story ≡ Note k);
      of_head = λ k. references_of_story names (Head k) (head_begin document.heads k) (head_at document.heads k);
    }

pub open_of_story : (is_head : Bool) (story : Story) (text : List Item) →
    All (λ other. other ≡ story) (open_text is_head story text)
open_of_story is_head story text = by_case (is_ended is_head text)
  where
    by_case : (is : Bool) → All (λ other. other ≡ story) (if is then [] else story ∷ [])
    by_case true = All-nil (λ (other : Story). other ≡ story)
    by_case false =
        All-cons (λ (other : Story). other ≡ story) story [] refl (All-nil (λ (other : Story). other ≡ story))

abbrev pub open_grouped : (document : Document) → Groups (λ (story : Story). story) (open_stories document)
open_grouped document = record {
  main = open_text false Main document.main;
  notes = λ number.
      open_text (is_heads Notes) (side_name Notes number) (unwrap_or (slice_get document.notes number) []);
  note_count = length document.notes;
  heads = λ number.
      open_text (is_heads Heads) (side_name Heads number) (unwrap_or (slice_get document.heads number) []);
  head_count = length document.heads;
  all_are = refl;
  of_main = open_of_story false Main document.main;
  of_note = λ k. open_of_story false (Note k) (unwrap_or (slice_get document.notes k) []);
  of_head = λ k. open_of_story true (Head k) (unwrap_or (slice_get document.heads k) []);
}

pub any_story : (story : Story) (list : List Story) →
    list_any (λ ended. is_story ended story) list ≡ list_any (is_of (λ s. s) (λ s. true) story) list
any_story story [] = refl
any_story story (other ∷ list) =
    ap (λ (b : Bool). b || list_any (λ (s : Story). is_story s story) list) (both (is_story other story))
    ∙ ap (λ (b : Bool). (is_story other story && true) || b) (any_story story list)
  where
    both : (b : Bool) → b ≡ (b && true)
    both true = refl
    both false = refl

pub any_open : (is_head : Bool) (story : Story) (text : List Item) →
    list_any (λ s. true) (open_text is_head story text) ≡ not (is_ended is_head text)
any_open is_head story text = by_case (is_ended is_head text)
  where
    by_case : (is : Bool) → list_any (λ s. true) (if is then [] else story ∷ []) ≡ not is
    by_case true = refl
    by_case false = refl
