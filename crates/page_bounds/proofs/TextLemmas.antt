-- What the places of texts cost, and those of a document.
use Rattle.std.proofs.Common.{◌≡◌, ℕ, zero, suc, ◌+◌, ◌-◌, ◌*◌, ◌<◌, ◌≤◌, Bool, true, false, List, [], ◌∷◌, ◌++◌, map}
use Rattle.std.proofs.Common.{length}
use Rattle.std.proofs.Common.{Option, None, Some, refl, sym, ap, subst, ◌∙◌, arith, if◌then◌else◌, append_assoc}
use Rattle.std.proofs.Common.{length-append, add-mul}
use Rattle.std.specs.Prelude.{⊤, slice_get}
use Rattle.std.specs.List.{All, sum_by}
use Rattle.std.proofs.lemmas.List.Elements.{All-head, All-nil, All-tail}
use Rattle.std.proofs.lemmas.List.Sums.{sum_by-cons}
use Rattle.std.proofs.lemmas.Nat.{mul-le}
use Rattle.doc_model.specs.declared.document.Document.{Document}
use Rattle.doc_model.specs.declared.item.Item.{Item}
use Rattle.plain_doc.specs.RulesOfSheet.{item_count as all_items}
use Rattle.plain_doc.specs.Sound.{IsSound}
use Rattle.plain_doc.proofs.Public.{sound_is_valid}
use Rattle.list_numbers.specs.declared.paragraph_values.ParagraphValues.{ParagraphValues}
use Rattle.list_numbers.specs.ParagraphValues.{AreParagraphValuesOf}
use Rattle.document_bookmarks.specs.declared.bookmark_order.Bookmark.{Bookmark}
use Rattle.view_paths.specs.Paths.{PathPlace, behind_shared, last_path}
use Rattle.view_paths.specs.Openings.{opened_from}
use Rattle.view_paths.proofs.Public.{behind_less, glyph_cost, total, total-append, total-less}
use Rattle.view_places.specs.declared.element.Element.{Element}
use Rattle.view_places.specs.declared.element.Element.TheVariants.{Anchor, BackLink}
use Rattle.view_places.specs.declared.glyph.Glyph.{Glyph}
use Rattle.view_places.specs.declared.glyph.Glyph.TheVariants.{NoteMark, Unit}
use Rattle.view_places.specs.Same.{same}
use Rattle.view_places.proofs.Public.{AreFew, IsSmall, IsSmallSpanIn, IsOuter, few_cost, few_joined, few_none}
use Rattle.view_places.proofs.Public.{few_within, outer_small}
use Rattle.doc_view.specs.declared.reading.Manner.{Manner}
use Rattle.doc_view.specs.declared.reading.Seen.{Seen}
use Rattle.doc_view.specs.declared.references.Reference.{Reference}
use Rattle.doc_view.specs.declared.view.Options.{Options}
use Rattle.doc_view.specs.Page.{main_manner, note_manner}
use Rattle.doc_view.specs.Seen.{Formats, Paragraph, paragraphs_of, references_in, references_of, with_values}
use Rattle.doc_view.proofs.Public.{IsSmallNumber, IsSmallReference, references_few, IsSmall as IsSmallGlyph, IsShort}
use Rattle.doc_view.proofs.Public.{items_of, of_text, references_short, values_short, with_values_long}
use Rattle.doc_view.proofs.Public.{with_values_short}
use Rattle.doc_places.specs.Places.{Hypertext, Places, anchors_of, paragraph_block, table_cells_of, hypertext_of}
use Rattle.doc_places.specs.Places.{paragraphs_len}
use Rattle.doc_places.specs.Places.{label_of, lead, no_cells, document_places}
use Rattle.doc_places.specs.Places.{note_path, note_places, notes_places, consecutive, paragraph_places}
use Rattle.doc_places.specs.Places.{paragraphs_places}
use Rattle.doc_places.specs.Places.{shown_place, text_places}
use Rattle.doc_places.proofs.Public.{lead_few, lead_more, lead_none, few_block, few_note_path, small_cells}
use Rattle.cell_spans.proofs.Public.{small_span_at}
use Rattle.page_bounds.proofs.CostLemmas.{AreSmall, Costs, IsShape, cost-append, cost_from, each, one_cost}
use Rattle.page_bounds.proofs.CostLemmas.{paragraph_cost}
use Rattle.page_bounds.proofs.CostLemmas.{path_behind, spread, spread-suc, text_cost}

-- ---- anchors

-- what the bookmarks cost that begin between two places
abbrev pub anchors_total : (Element → ℕ) → List Bookmark → ℕ → ℕ → ℕ
anchors_total cost bookmarks begin end = total (λ number. cost (Anchor number)) (anchors_of bookmarks begin end)

numbers-add : (first one other : ℕ) → consecutive first (one + other) ≡ consecutive first one ++ consecutive (first +
    one) other
numbers-add first zero other =
    let none : 0 + other ≡ other = omega arith in
    let same : first ≡ first + 0 = omega arith in
    ap (λ (n : ℕ). consecutive first n) none ∙ ap (λ (n : ℕ). consecutive n other) same
numbers-add first (suc one) other =
    let more : suc one + other ≡ suc (one + other) = omega arith in
    let next : (first + 1) + one ≡ first + suc one = omega arith in
    ap (λ (n : ℕ). consecutive first n) more ∙ (ap (λ (rest : List ℕ). first ∷ rest) (numbers-add (first + 1) one other)
    ∙ ap (λ (n : ℕ). (first ∷ consecutive (first + 1) one) ++ consecutive n other) next)

anchors_joined : (cost : Element → ℕ) (bookmarks : List Bookmark) (begin middle end : ℕ) → begin ≤ middle → middle ≤
    end →
    anchors_total cost bookmarks begin middle + anchors_total cost bookmarks middle end ≡ anchors_total cost bookmarks
    begin end
anchors_joined cost bookmarks begin middle end low high =
    let first = lead bookmarks begin in
    let second = lead bookmarks middle in
    let third = lead bookmarks end in
    let one = lead_more bookmarks begin middle low in
    let other = lead_more bookmarks middle end high in
    let all : third - first ≡ (second - first) + (third - second) = omega (arith, one, other) in
    let on : first + (second - first) ≡ second = omega (arith, one) in
    let split : consecutive first (third - first) ≡ consecutive first (second - first) ++ consecutive second (third -
    second) =
    ap (λ (n : ℕ). consecutive first n) all ∙ (numbers-add first (second - first) (third - second)
    ∙ ap (λ (n : ℕ). consecutive first (second - first) ++ consecutive n (third - second)) on) in
    omega (
      arith,
      ap (total (λ (number : ℕ). cost (Anchor number))) split,
      total-append (λ (number : ℕ). cost (Anchor number)) (consecutive first (second - first)) (consecutive second
          (third -
          second)),
    )

no_anchors : (bookmarks : List Bookmark) (begin count : ℕ) → count ≡ 0 → anchors_of bookmarks begin (begin + count) ≡ []
no_anchors bookmarks begin count is =
    let same : begin + count ≡ begin = omega (arith, is) in
    let none : lead bookmarks begin - lead bookmarks begin ≡ 0 = omega arith in
    ap (λ (end : ℕ). anchors_of bookmarks begin end) same ∙ ap (λ (n : ℕ). consecutive (lead bookmarks begin) n) none

-- of all bookmarks
all_anchors : (cost : Element → ℕ) (bookmarks : List Bookmark) (end : ℕ) → anchors_total cost bookmarks 0 end ≤ total (λ
    number. cost (Anchor number)) (consecutive 0 (length bookmarks))
all_anchors cost bookmarks end =
    let here = lead bookmarks end in
    let first : lead bookmarks 0 ≡ 0 = lead_none bookmarks in
    let rest = length bookmarks - here in
    let all : length bookmarks ≡ here + rest = omega (arith, lead_few bookmarks end) in
    let same : here - 0 ≡ here = omega arith in
    let start : anchors_of bookmarks 0 end ≡ consecutive 0 here =
    ap (λ (n : ℕ). consecutive n (here - n)) first ∙ ap (λ (n : ℕ). consecutive 0 n) same in
    let split : consecutive 0 (length bookmarks) ≡ consecutive 0 here ++ consecutive (0 + here) rest =
    ap (λ (n : ℕ). consecutive 0 n) all ∙ numbers-add 0 here rest in
    omega (
      arith,
      ap (total (λ (number : ℕ). cost (Anchor number))) start,
      ap (total (λ (number : ℕ). cost (Anchor number))) split,
      total-append (λ (number : ℕ). cost (Anchor number)) (consecutive 0 here) (consecutive (0 + here) rest),
    )

-- numbers of entries of a list
shifted : (f : ℕ → ℕ) (first count : ℕ) → total f (consecutive (first + 1) count) ≡ total (λ n. f (suc n)) (consecutive
    first
    count)
shifted f first zero = refl
shifted f first (suc count) =
    let one : first + 1 ≡ suc first = omega arith in
    let long : f (first + 1) + total f (consecutive ((first + 1) + 1) count) ≡ f (suc first) + total (λ (n : ℕ). f (suc
    n))
    (consecutive (first + 1) count) =
    omega (arith, ap f one, shifted f (first + 1) count) in
    long

pub numbered_total : {A : Type 0} (f : Option A → ℕ) (xs : List A) → total (λ number. f (slice_get xs number))
    (consecutive 0
    (length xs)) ≡ total (λ x. f (Some x)) xs
numbered_total f [] = refl
numbered_total f (x ∷ xs) =
    let rest : total (λ number. f (slice_get (x ∷ xs) number)) (consecutive (0 + 1) (length xs)) ≡ total (λ number. f
    (slice_get
    xs number)) (consecutive 0 (length xs)) =
    shifted (λ number. f (slice_get (x ∷ xs) number)) 0 (length xs) in
    let long : f (Some x) + total (λ number. f (slice_get (x ∷ xs) number)) (consecutive (0 + 1) (length xs)) ≡ f (Some
    x) +
    total (λ x. f (Some x)) xs =
    omega (arith, rest, numbered_total f xs) in
    long

pub length-numbers : (first count : ℕ) → length (consecutive first count) ≡ count
length-numbers first zero = refl
length-numbers first (suc count) = ap suc (length-numbers (first + 1) count)

pub sum_is : {A : Type 0} (f : A → ℕ) (xs : List A) → total f xs ≡ sum_by f xs
sum_is f [] = refl
sum_is f (x ∷ xs) = ap (λ (n : ℕ). f x + n) (sum_is f xs) ∙ sym (sum_by-cons f x xs)

-- ---- paragraphs

nil_length : {A : Type 0} (xs : List A) → xs ≡ [] → length xs ≡ 0
nil_length xs is = ap (λ ys. length ys) is

paragraphs_cost : (c : Costs) → AreSmall c → IsShape c → (hypertext : Hypertext) (bookmarks : List Bookmark) →
    hypertext.anchors ≡ anchors_of bookmarks → ((number : ℕ) →
    IsSmallSpanIn (hypertext.cells.spans number)) → (outer : List Element) → AreFew IsOuter 2 0 outer → (path : List
    Element)
    (before : List Paragraph) (count : ℕ) (paragraphs : List Paragraph) → All IsShort paragraphs → count + items_of
    paragraphs < 999999 → cost_from c path (paragraphs_places hypertext outer before count paragraphs) ≤ text_cost c *
    items_of paragraphs + anchors_total c.cost bookmarks (paragraphs_len before) (paragraphs_len before +
    items_of paragraphs)
unfolding paragraphs_places
paragraphs_cost c small shape hypertext bookmarks anchors cells outer few path before count [] short low = omega arith
paragraphs_cost c small shape hypertext bookmarks anchors cells outer few path before count (paragraph ∷ more) short
    low =
    let block = outer ++ paragraph_block hypertext.cells before paragraph more in
    let blocks = few_joined IsOuter 2 13 0 6 outer (paragraph_block hypertext.cells before paragraph more) few
    (few_block
    hypertext.cells
    cells before paragraph more) in
    let at = paragraphs_len before in
    let items = paragraph.items in
    let here = paragraph_places hypertext block count at paragraph in
    let behind_shared = count + length (references_in items) in
    let rest = paragraphs_places hypertext outer (paragraph ∷ before) behind_shared more in
    let bound = text_cost c in
    let own : hypertext.anchors at (at + length items) ≡ anchors_of bookmarks at (at + length items) =
    ap (λ (a : ℕ → ℕ → List ℕ). a at (at + length items)) anchors in
    let long : cost_from c path (here ++ rest) ≤ bound * (length items + items_of more) + anchors_total c.cost
    bookmarks at (at + (length items + items_of more)) =
    omega (
      arith,
      spread bound (length items) (items_of more),
      paragraph_cost c small shape path block blocks hypertext count at paragraph (All-head IsShort
          paragraph more short) (omega (arith, low)) (λ is. own ∙ no_anchors bookmarks at (length items) (nil_length
          items is)),
      each bound items,
      ap (total (λ (number : ℕ). c.cost (Anchor number))) own,
      cost-append c path here rest,
      paragraphs_cost c small shape hypertext bookmarks anchors cells outer few (path_behind c path here)
          (paragraph ∷ before) behind_shared more (All-tail IsShort paragraph more short) (omega (
            arith,
            low,
            references_few
                items,
          )),
      anchors_joined c.cost bookmarks at (at + length items) ((at + length items) + items_of more) (omega arith)
          (omega arith),
      ap (anchors_total c.cost bookmarks at) (ends at (length items) (items_of more)),
    ) in
    long
  where
    ends : (a b c : ℕ) → a + (b + c) ≡ (a + b) + c
    ends a b c = omega arith

-- ---- notes

-- a note costs what its text does, and the way back
abbrev pub note_cost : Costs → ℕ → ℕ
note_cost c label = c.element * 3 + label

abbrev pub IsLabelCost : (Glyph → ℕ) → ℕ → Type 0
IsLabelCost show label = (number : Option ℕ) → IsSmallNumber number → show (label_of number) ≤ label

no_cell_reaches : (number : ℕ) → IsSmallSpanIn ((hypertext_of [] 0 [] no_cells).cells.spans number)
no_cell_reaches number = small_span_at [] (All-nil IsSmallSpanIn) number

one_note : (c : Costs) (label : ℕ) → AreSmall c → IsShape c → IsLabelCost c.show label → (formats : Formats) (manner :
    Manner) (path : List Element) (number : ℕ) (reference :
    Reference) (note : List Item) → IsSmallReference reference → number < 1000000 → length note < 999999 → cost_from c
    path (note_places formats manner number reference note) ≤ note_cost c label + text_cost c *
    length note
one_note c label small shape labels formats manner path number reference note mark low few =
    where_shown reference.is_shown
  where
    where_shown : (is_shown : Bool) → cost_from c path (if is_shown then shown_place (note_path number ++ BackLink
        number ∷ []) (label_of reference.number) ∷ text_places (hypertext_of [] number note no_cells) (note_path number)
        (paragraphs_of formats manner note) else []) ≤ note_cost c label + text_cost c * length note
    where_shown false = omega arith
    where_shown true =
        let outer = note_path number in
        let here = outer ++ BackLink number ∷ [] in
        let first = shown_place here (label_of reference.number) ∷ [] in
        let paragraphs = paragraphs_of formats manner note in
        let hypertext = hypertext_of [] number note no_cells in
        let rest = text_places hypertext outer paragraphs in
        let text = of_text formats manner note few in
        let none : anchors_total c.cost [] 0 (0 + items_of paragraphs) ≡ 0 = refl in
        let last : total c.cost (BackLink number ∷ []) ≡ c.cost (BackLink number) + 0 = refl in
        let bound = text_cost c in
        let long : cost_from c path (first ++ rest) ≤ note_cost c label + bound * length note =
        omega (
          arith,
          none,
          last,
          cost-append c path first rest,
          one_cost c shape path here (label_of reference.number),
          total-append c.cost outer (BackLink number ∷ []),
          few_cost IsOuter c.cost c.element c.extra (λ e own. small.elements e (outer_small e own)) 2 0 outer
              (few_note_path
              number low),
          small.elements (BackLink number) low,
          labels reference.number mark.number,
          paragraphs_cost c small shape hypertext [] refl no_cell_reaches outer (few_note_path number low)
              (path_behind c
              path first) [] 0 paragraphs text.0 (omega (arith, text.1, few)),
          ap (λ (n : ℕ). bound * n) text.1,
        ) in
        long

notes_cost : (c : Costs) (label : ℕ) → AreSmall c → IsShape c → IsLabelCost c.show label → (formats : Formats) (manner
    : Manner) (path : List Element) (number : ℕ) (references : List
    Reference) (notes : List (List Item)) → All IsSmallReference references → number + length references < 1000000 →
    sum_by
    length notes < 999999 → cost_from c path (notes_places formats manner number references notes) ≤ note_cost c label
    * length references + text_cost c * sum_by length notes
unfolding notes_places
notes_cost c label small shape labels formats manner path number [] notes marks low few = omega arith
notes_cost c label small shape labels formats manner path number (reference ∷ references) [] marks low few = omega arith
notes_cost c label small shape labels formats manner path number (reference ∷ references) (note ∷ notes) marks low few =
    let here = note_places formats manner number reference note in
    let rest = notes_places formats manner (number + 1) references notes in
    let own = note_cost c label in
    let bound = text_cost c in
    let sum = sum_by-cons length note notes in
    let long : cost_from c path (here ++ rest) ≤ own * suc (length references) + bound * sum_by length (note ∷ notes) =
    omega (
      arith,
      spread-suc own (length references),
      spread bound (length note) (sum_by length notes),
      ap (λ (n : ℕ). bound * n) sum,
      cost-append c path here rest,
      one_note c label small shape labels formats manner path number reference note (All-head
          IsSmallReference reference references marks) (omega (arith, low)) (omega (arith, few, sum)),
      notes_cost c label small shape labels formats manner (path_behind c path here) (number + 1) references
          notes (All-tail IsSmallReference reference references marks) (omega (arith, low)) (omega (arith, few, sum)),
    ) in
    long

-- ---- a document

-- each paragraph refers to no more notes than it has items
few_references : (paragraphs : List Paragraph) → length (references_of paragraphs) ≤ items_of paragraphs
few_references [] = omega arith
few_references (paragraph ∷ more) =
    let long : length (references_in paragraph.items ++ references_of more) ≤ length paragraph.items + items_of more =
    omega (
      arith,
      references_few paragraph.items,
      few_references more,
      length-append (references_in paragraph.items) (references_of more),
    ) in
    long

pub document_cost : (c : Costs) (label : ℕ) → AreSmall c → IsShape c → IsLabelCost c.show label → (formats : Formats)
    (values : List ParagraphValues) (options : Options) (document :
    Document) → IsSound document → AreParagraphValuesOf document values → cost_from c [] (document_places formats values
    options document) ≤ (text_cost c + note_cost c label) * all_items document + total (λ
    number. c.cost (Anchor number)) (consecutive 0 (length document.bookmarks))
document_cost c label small shape labels formats values options document sound are_values =
    let right = sound_is_valid document sound in
    let main = paragraphs_of formats (main_manner options document) document.main in
    let paragraphs = with_values values main in
    let few : all_items document < 999999 = omega (arith, right.few) in
    let text = of_text formats (main_manner options document) document.main (omega (arith, few)) in
    let short = with_values_short values main (values_short document values are_values) text.0 in
    let same_count : items_of paragraphs ≡ length document.main = with_values_long values main ∙ text.1 in
    let cells = table_cells_of document.bookmarks values document.main in
    let hypertext = hypertext_of document.bookmarks 0 document.main cells in
    let first = text_places hypertext [] paragraphs in
    let references = references_of paragraphs in
    let second = notes_places formats (note_manner options document) 1 references document.notes in
    let bound = text_cost c in
    let own = note_cost c label in
    let referred : length references ≤ length document.main = omega (arith, few_references paragraphs, same_count) in
    let notes = sum_by length document.notes in
    let heads = sum_by length document.heads in
    let paid : own * length references ≤ own * all_items document =
    mul-le own (length references) own (all_items document) (omega arith) (omega (arith, referred)) in
    let long : cost_from c [] (first ++ second) ≤ (bound + own) * all_items document + total (λ (number : ℕ). c.cost
    (Anchor number)) (consecutive 0 (length document.bookmarks)) =
    omega (
      arith,
      add-mul bound own (all_items document),
      spread bound (length document.main) (notes + heads),
      spread bound notes heads,
      paid,
      cost-append c [] first second,
      paragraphs_cost c small shape hypertext document.bookmarks refl (small_span_at cells.spans
          (small_cells document.bookmarks values document.main)) [] few_nothing [] [] 0 paragraphs short (omega (
            arith,
            few,
            same_count,
          )),
      ap (λ (n : ℕ). bound * n) same_count,
      all_anchors c.cost document.bookmarks (0 + items_of paragraphs),
      notes_cost c label small shape labels formats (note_manner options document) (path_behind c [] first) 1
          references document.notes (references_short paragraphs short) (omega (arith, few, referred)) (omega (
            arith,
            few,
          )),
    ) in
    long
  where
    few_nothing : AreFew IsOuter 2 0 []
    few_nothing = few_within IsOuter 0 2 0 0 [] (omega arith) (omega arith) (few_none IsOuter)
