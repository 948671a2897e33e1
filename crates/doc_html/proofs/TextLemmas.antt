-- A text is written paragraph by paragraph.
use Rattle.std.proofs.Common.{◌≡◌, ◌∙◌, ℕ, zero, suc, ◌+◌, ◌≤◌, Bool, true, false, List, [], ◌∷◌, ◌++◌, length, refl, sym, ap}
use Rattle.std.proofs.Common.{subst, arith}
use Rattle.std.proofs.Common.{append_assoc, append-nil, length-append, Option, Some, None, not, ◌*◌, ◌||◌}
use Rattle.std.specs.Prelude.{if◌then◌else◌, ◌&&◌, nat_le}
use Rattle.std.specs.List.{flat_map}
use Rattle.std.proofs.lemmas.List.Concat.{flat_map-cons}
use Rattle.doc_outer.specs.declared.sink.Sink.{Ghosts}
use Rattle.view_places.specs.declared.element.Element.{Element}
use Rattle.view_places.specs.declared.element.Element.TheVariants.{Table, TableHead, TableBody, Row as TableRow}
use Rattle.view_places.specs.declared.element.Element.TheVariants.{Cell as TableCell, HeadCell}
use Rattle.list_numbers.specs.declared.paragraph_values.ParagraphValues.{ParagraphValues}
use Rattle.nested_tables.specs.declared.walk.NestedPlace.{NestedPlace}
use Rattle.form_page.specs.declared.page.FormPage.{FormPage}
use Rattle.form_page.specs.Forms.{Places, PutsPlaces}
use Rattle.form_page.proofs.Public.{places_none, places_then}
use Rattle.doc_view.specs.declared.reading.Seen.{Seen}
use Rattle.doc_view.specs.declared.references.Reference.{Reference}
use Rattle.doc_view.specs.declared.standing.Standing.{Standing}
use Rattle.doc_view.specs.declared.standing.Standing.TheVariants.{Outside, Inside, Cell, Row, HeadRow}
use Rattle.doc_view.specs.Layout.{is_in_table}
use Rattle.doc_view.specs.Seen.{Paragraph, is_here, references_in, references_of, some_shown}
use Rattle.doc_places.specs.declared.grid.Grid.{Grid}
use Rattle.doc_places.specs.declared.grid.InCell.{InCell}
use Rattle.doc_places.specs.Grid.{grid_after, grid_of}
use Rattle.doc_places.specs.declared.lists.Frame.{Frame}
use Rattle.doc_places.specs.declared.lists.ListItem.{ListItem}
use Rattle.doc_places.specs.declared.lists.Lists.{Lists}
use Rattle.doc_places.specs.declared.looks.Look.{Look}
use Rattle.doc_places.specs.Lists.{frame_at, frame_elements, level_elements, lists_after, open_lists_of, no_open_lists}
use Rattle.doc_places.specs.Lists.{with_item}
use Rattle.doc_places.specs.Looks.{label_units, look_of}
use Rattle.doc_places.specs.Places.{Hypertext, anchor_places, around_of, block_of, cell_at, cell_form, cell_of}
use Rattle.doc_places.specs.Places.{is_bare_in_cell}
use Rattle.doc_places.specs.Places.{paragraphs_len, item_elements, items_places, label_places, nested_cell}
use Rattle.doc_places.specs.Places.{nested_elements}
use Rattle.doc_places.specs.Places.{outer_cell, own_elements, paragraph_places, paragraphs_places, text_places}
use Rattle.doc_places.proofs.Public.{grid_of-cons}
use Rattle.doc_html.specs.Writes.{WrittenAt, WritesItems, head_by, label_before}

-- what was written of a text, where some paragraphs are left
pub record TextAt {K : Type 0} (sink : Ghosts K) (start : K) (page : FormPage) (out : K) (now : FormPage) (hypertext :
    Hypertext) (outer : List Element)
    (all rest : List Paragraph) (grid : Grid) (lists : Lists) (count place : ℕ) (first references : List Reference) : Type 0 where
  pub before : List Paragraph
  pub grid_is : grid ≡ grid_of before
  pub lists_is : lists ≡ open_lists_of before
  pub place_is : place ≡ paragraphs_len before
  pub places : Places
  pub puts : PutsPlaces sink start page out now places
  pub whole : places ++ paragraphs_places hypertext outer before count rest ≡ text_places hypertext outer all
  pub met : references ++ references_of rest ≡ first ++ references_of all

-- at the start all is left
pub text_start : {K : Type 0} (sink : Ghosts K) (start : K) (page : FormPage) (hypertext : Hypertext) (outer : List
    Element) (all : List Paragraph) (grid : Grid) (lists : Lists) (references : List Reference) →
    grid ≡ record { number = 0; table = 0; row = 0; cell = 0; ended = 0; heads = true } → lists ≡ no_open_lists →
    TextAt sink start page start page hypertext outer all all grid lists 0 0 references references
text_start sink start page hypertext outer all grid lists references is none = record {
  before = [];
  grid_is = is;
  lists_is = none;
  place_is = refl;
  places = [];
  puts = places_none sink start page;
  whole = refl;
  met = refl;
}

and_true : (b : Bool) → (b && true) ≡ b
and_true true = refl
and_true false = refl

-- the label and the items of a paragraph of which nothing was written before
label_first : (block : List Element) (label : List ℕ) (seen : List Seen) (begun : Bool) → begun ≡ false →
    label_before begun block label seen ≡ (if some_shown seen then label_places block label else [])
label_first block label seen begun none =
    let places = label_places block label in
    let other : Places = [] in
    (λ i. if some_shown seen && not (none i) then places else other)
    ∙ ap (λ (b : Bool). if b then places else other) (and_true (some_shown seen))

-- one paragraph more: its anchors, its label, and what is shown of it
pub text_on : {K : Type 0} (sink : Ghosts K) (start : K) (page : FormPage) (hypertext : Hypertext) (outer : List
    Element) (all there rest : List Paragraph) (grid : Grid) (lists : Lists) (first : List Reference) (a b : WrittenAt
    K)
    (out : K) (left : FormPage) (standing : Standing) (own : Option ParagraphValues) (seen : List Seen) → there ≡
    record { standing = standing; values = own; items = seen } ∷ rest → a.begun ≡ false →
    TextAt sink start page a.out a.page hypertext outer all there grid lists a.count a.place first a.references →
    PutsPlaces sink a.out a.page out left (anchor_places (outer ++ block_of grid (cell_at hypertext.cells grid standing
    (grid.heads && head_by standing rest)) (look_of own (is_in_table standing) (nat_le 2 (length seen))) lists)
    (hypertext.anchors a.place (a.place + length seen))) →
    WritesItems sink (record a { out = out; page = left }) b (hypertext.links a.place) (outer ++ block_of grid (cell_at
    hypertext.cells grid standing (grid.heads && head_by standing rest)) (look_of own (is_in_table standing) (nat_le 2
    (length seen))) lists)
    (label_units (look_of own (is_in_table standing) (nat_le 2 (length seen))).item own) seen →
    TextAt sink start page b.out b.page hypertext outer all rest (grid_after grid standing) (lists_after lists (look_of
    own (is_in_table standing) (nat_le 2 (length seen))).item grid.number b.begun) b.count b.place first b.references
unfolding paragraphs_places
text_on {K = K} sink start page hypertext outer all there rest grid lists first a b out left standing own seen is fresh
    at anchors writes =
    let paragraph : Paragraph = record { standing = standing; values = own; items = seen } in
    let head = head_by standing rest in
    let look = look_of own (is_in_table standing) (nat_le 2 (length seen)) in
    let label = label_units look.item own in
    let block : Grid → Lists → List Element = λ g l.
    outer ++ block_of g (cell_at hypertext.cells g standing (g.heads && head)) look l in
    let here : Grid → Lists → ℕ → Places = λ g l n. paragraph_places hypertext (block g l) a.count n paragraph in
    let next : ℕ → Places = λ n. paragraphs_places hypertext outer (paragraph ∷ at.before) n rest in
    let behind = next (a.count + length (references_in seen)) in
    let shown : Places = if some_shown seen then label_places (block grid lists) label else [] in
    let items = items_places (hypertext.links a.place) (block grid lists) a.count a.place seen in
    let put : PutsPlaces sink a.out a.page b.out b.page (here grid lists a.place) =
    places_then sink a.out out b.out a.page left b.page (anchor_places (block grid lists) (hypertext.anchors a.place
    (a.place + length seen))) (shown ++ items) anchors (subst (λ (before : Places). PutsPlaces sink out left b.out
    b.page (before ++ items)) (label_first (block grid lists) label seen a.begun fresh) writes.puts) in
    let begun : b.begun ≡ is_here paragraph = writes.begun ∙ ap (λ (x : Bool). x || some_shown seen) fresh in
    record {
      before = paragraph ∷ at.before;
      grid_is = ap (λ (g : Grid). grid_after g standing) at.grid_is ∙ sym (grid_of-cons paragraph at.before);
      lists_is = λ i. lists_after (at.lists_is i) look.item ((at.grid_is i).number) (begun i);
      place_is = writes.place ∙ ap (λ (n : ℕ). n + length seen) at.place_is;
      places = at.places ++ here grid lists a.place;
      puts = places_then sink start a.out b.out page a.page b.page at.places (here grid lists a.place) at.puts put;
      whole =
          append_assoc at.places (here grid lists a.place) (next b.count)
          ∙ ap (λ (n : ℕ). at.places ++ (here grid lists a.place ++ next n)) writes.count
          ∙ (λ i. at.places ++ (here (at.grid_is i) (at.lists_is i) (at.place_is i) ++ behind))
          ∙ ap (λ (ps : List Paragraph). at.places ++ paragraphs_places hypertext outer at.before a.count ps) (sym is)
          ∙ at.whole;
      met =
          ap (λ (r : List Reference). r ++ references_of rest) writes.references
          ∙ append_assoc a.references (references_in seen) (references_of rest)
          ∙ ap (λ (r : List Reference). a.references ++ r) (sym (flat_map-cons (λ (p : Paragraph). references_in
          p.items)
          paragraph rest))
          ∙ ap (λ (ps : List Paragraph). a.references ++ references_of ps) (sym is)
          ∙ at.met;
    }

-- where nothing is left
pub text_written : {K : Type 0} (sink : Ghosts K) (start : K) (page : FormPage) (out : K) (now : FormPage) (hypertext :
    Hypertext) (outer : List Element) (all rest : List Paragraph) (grid : Grid) (lists : Lists) (count place : ℕ)
    (first references : List Reference) → rest ≡ [] → TextAt sink start page out now hypertext outer all rest grid lists
    count place first references → PutsPlaces sink start page out now (text_places hypertext outer all)
unfolding paragraphs_places
text_written sink start page out now hypertext outer all rest grid lists count place first references none at =
    subst (λ (places : Places). PutsPlaces sink start page out now places) (sym (append-nil at.places) ∙ ap (λ (ps :
    List
    Paragraph). at.places ++ paragraphs_places hypertext outer at.before count ps) (sym none) ∙ at.whole) at.puts

pub all_met : {K : Type 0} (sink : Ghosts K) (start : K) (page : FormPage) (out : K) (now : FormPage) (hypertext :
    Hypertext) (outer : List Element) (all rest : List Paragraph) (grid : Grid) (lists : Lists) (count place : ℕ)
    (first references : List Reference) → rest ≡ [] → TextAt sink start page out now hypertext outer all rest grid lists
    count place first references → references ≡ first ++ references_of all
all_met sink start page out now hypertext outer all rest grid lists count place first references none at =
    sym (append-nil references) ∙ ap (λ (ps : List Paragraph). references ++ references_of ps) (sym none) ∙ at.met

-- ---- how much there is

frame_few : (frame : Option Frame) → length (frame_elements frame) ≤ 2
frame_few None = omega arith
frame_few (Some frame) = omega arith

level_few : (lists : Lists) (level : ℕ) → length (level_elements lists level) ≤ 2 * level
level_few lists zero = omega arith
level_few lists (suc level) =
    let before = level_few lists level in
    let here = frame_few (frame_at lists level) in
    let long = length-append (level_elements lists level) (frame_elements (frame_at lists level)) in
    omega (arith, before, here, long)

item_few : (lists : Lists) (item : Option ListItem) (number : ℕ) → length (item_elements lists item number) ≤ 12
item_few lists None number = omega arith
item_few lists (Some item) number = let few = level_few (with_item lists item number) 6 in omega (arith, few)

outer_few : (grid : Grid) (cell : InCell) → length (outer_cell grid cell) ≤ 4
outer_few grid cell =
    let form = cell_form grid cell in
    elim cell.in_head as (λ (b : Bool). length (if b then Table grid.table ∷ TableHead ∷ TableRow grid.row ∷ HeadCell
    form ∷ [] else Table grid.table ∷ TableBody ∷ TableRow grid.row ∷ TableCell form ∷ []) ≤ 4)
    [ true ↦ omega arith | false ↦ omega arith ]

nested_cell_few : (cell : Option ℕ) → length (nested_cell cell) ≤ 1
nested_cell_few None = omega arith
nested_cell_few (Some number) = omega arith

nested_few : (place : Option NestedPlace) → length (nested_elements place) ≤ 3
nested_few None = omega arith
nested_few (Some place) = let few = nested_cell_few place.cell in omega (arith, few)

cell_few_elements : (grid : Grid) (cell : InCell) → length (cell_of grid cell) ≤ 12
cell_few_elements grid cell =
    let second = nested_elements cell.nested.second in
    let third = nested_elements cell.nested.third in
    let few = outer_few grid cell in
    let two = nested_few cell.nested.second in
    let three = nested_few cell.nested.third in
    let both = length-append second third in
    let long = length-append (outer_cell grid cell) (second ++ third) in
    omega (arith, few, two, three, both, long)

around_few : (grid : Grid) (cell : Option InCell) (item : Option ListItem) (lists : Lists) → length (around_of grid cell
    item lists) ≤ 12
around_few grid None item lists = item_few lists item grid.number
around_few grid (Some cell) item lists = cell_few_elements grid cell

own_few : (bare : Bool) (number : ℕ) (look : Look) → length (own_elements bare number look) ≤ 1
own_few true number look = omega arith
own_few false number look = omega arith

pub block_few : (grid : Grid) (cell : Option InCell) (look : Look) (lists : Lists) → length (block_of grid cell look
    lists) ≤ 13
block_few grid cell look lists =
    let around = around_of grid cell look.item lists in
    let own = own_elements (is_bare_in_cell cell) grid.number look in
    let few = around_few grid cell look.item lists in
    let one = own_few (is_bare_in_cell cell) grid.number look in
    let long = length-append around own in
    omega (arith, few, one, long)

pub ended_few : (grid : Grid) (standing : Standing) → (grid_after grid standing).ended ≤ grid.ended + 1
ended_few grid Outside = omega arith
ended_few grid Inside = omega arith
ended_few grid Cell = omega arith
ended_few grid Row = omega arith
ended_few grid HeadRow = omega arith

pub cell_few : (grid : Grid) (standing : Standing) → (grid_after grid standing).cell ≤ grid.cell + 1
cell_few grid Outside = omega arith
cell_few grid Inside = omega arith
cell_few grid Cell = omega arith
cell_few grid Row = omega arith
cell_few grid HeadRow = omega arith
