-- The places of a document: each item that is shown has one, in their order, and so has the label of each note.
use Rattle.std.specs.Prelude.{zero, suc, ◌-◌, ◌==◌, nat_le, nat_lt, false, not, is_some, map, slice_get, take}
use Rattle.std.specs.Prelude.{ℕ, ◌+◌, Bool, ◌&&◌, ◌||◌, List, [], ◌∷◌, ◌++◌, length, Option, Some, None, if◌then◌else◌}
use Rattle.std.specs.List.{cons_option}
use Rattle.doc_model.specs.declared.item.Item.{Item}
use Rattle.doc_model.specs.declared.document.Document.{Document}
use Rattle.list_numbers.specs.declared.paragraph_values.ParagraphValues.{ParagraphValues}
use Rattle.char_formats.specs.declared.format.CharFormat.{CharFormat}
use Rattle.char_formats.specs.declared.format.Position.{Position}
use Rattle.char_formats.specs.declared.format.Position.TheVariants.{Normal, Raised as IsRaised, Lowered as IsLowered}
use Rattle.view_paths.specs.Paths.{PathPlace}
use Rattle.view_places.specs.declared.element.Element.{Element}
use Rattle.view_places.specs.declared.element.Element.TheVariants.{Notes, Note, Table, TableHead, TableBody, Row, Cell}
use Rattle.view_places.specs.declared.element.Element.TheVariants.{Paragraph as AParagraph, Reference as AReference}
use Rattle.view_places.specs.declared.element.Element.TheVariants.{BackLink, HeadCell, Label, NestedTable, NestedRow}
use Rattle.view_places.specs.declared.element.Element.TheVariants.{NestedCell}
use Rattle.view_places.specs.declared.element.Paragraph.{Paragraph as ParagraphForm}
use Rattle.view_places.specs.declared.element.Cell.{Cell as CellForm}
use Rattle.view_places.specs.declared.element.Span.{Span}
use Rattle.cell_spans.specs.Spans.{single, span_at}
use Rattle.nested_tables.specs.declared.tables.NestedPlaces.{NestedPlaces}
use Rattle.nested_tables.specs.declared.walk.NestedPlace.{NestedPlace}
use Rattle.nested_tables.specs.Tables.{no_nested_tables, places_at}
use Rattle.view_places.specs.declared.element.Element.TheVariants.{Bold, Italic, Underline, Strike, SmallCaps, Caps}
use Rattle.view_places.specs.declared.element.Element.TheVariants.{Raised, Lowered, Link as ALink, Anchor}
use Rattle.document_bookmarks.specs.declared.bookmark_order.Bookmark.{Bookmark}
use Rattle.view_places.specs.declared.element.Link.{Link}
use Rattle.field_links.specs.declared.places.OpenField.{OpenField}
use Rattle.field_links.specs.OpenFields.{hyperlink_in, open_fields}
use Rattle.view_places.specs.declared.glyph.Glyph.{Glyph}
use Rattle.view_places.specs.declared.glyph.Glyph.TheVariants.{NoteMark, Unit}
use Rattle.doc_view.specs.declared.references.Reference.{Reference}
use Rattle.doc_view.specs.declared.reading.Manner.{Manner}
use Rattle.doc_view.specs.declared.reading.Seen.{Seen}
use Rattle.doc_view.specs.declared.view.Options.{Options}
use Rattle.doc_view.specs.Layout.{is_in_table, row_goes_on}
use Rattle.doc_view.specs.declared.standing.Standing.{Standing}
use Rattle.doc_view.specs.Page.{main_manner, note_manner}
use Rattle.doc_view.specs.Labels.{label_glyphs}
use Rattle.doc_view.specs.Seen.{Formats, Paragraph, is_here, paragraphs_of, references_in, references_of, with_values}
use Rattle.doc_places.specs.declared.grid.Grid.{Grid}
use Rattle.doc_places.specs.declared.grid.InCell.{InCell}
use Rattle.doc_places.specs.declared.cells.TableCells.{TableCells}
use Rattle.doc_places.specs.Cells.{cells_in, nested_in}
use Rattle.doc_places.specs.Grid.{grid_of, is_head_row}
use Rattle.doc_places.specs.declared.lists.ListItem.{ListItem}
use Rattle.doc_places.specs.declared.lists.Lists.{Lists}
use Rattle.doc_places.specs.declared.looks.Look.{Look}
use Rattle.doc_places.specs.Looks.{look_in, units_of_label}
use Rattle.doc_places.specs.Lists.{list_elements, open_lists_of, with_item}

abbrev pub Places : Type 0
Places = List (PathPlace Element Glyph)

-- how far the cell with a number in its text reaches, where it is no part of another one; and where the paragraph with
-- a number is in tables inside of cells
pub record Cells : Type 0 where
  pub spans : ℕ → Option Span
  pub nested : ℕ → NestedPlaces

abbrev pub cells_by : TableCells → Cells
cells_by cells = record { spans = span_at cells.spans; nested = places_at cells.nested }

abbrev pub no_cells : TableCells
no_cells = record { spans = []; nested = no_nested_tables }

-- ---- what a glyph is in within its paragraph

abbrev pub element_if : Bool → Element → List Element
element_if there element = if there then element ∷ [] else []

abbrev pub position_elements : Position → List Element
position_elements Normal = []
position_elements IsRaised = Raised ∷ []
position_elements IsLowered = Lowered ∷ []

abbrev pub format_elements : CharFormat → List Element
format_elements format =
    element_if format.bold Bold
    ++ (element_if format.italic Italic
    ++ (element_if format.underline Underline
    ++ (element_if format.strike Strike
    ++ (element_if format.small_caps SmallCaps ++ (element_if format.caps Caps ++ position_elements format.position)))))

-- a reference to a note, behind so many others: a number is raised, and a mark of the document's own has its format
abbrev pub note_elements : ℕ → CharFormat → Option ℕ → List Element
note_elements count format (Some number) = Raised ∷ AReference (count + 1) ∷ []
note_elements count format None = format_elements format ++ AReference (count + 1) ∷ []

abbrev pub link_elements : Option Link → List Element
link_elements None = []
link_elements (Some link) = ALink link ∷ []

-- a reference to a note is a link by itself, and is in no other one
abbrev pub inline_elements : Option Link → ℕ → CharFormat → Option Reference → List Element
inline_elements link count format None = link_elements link ++ format_elements format
inline_elements link count format (Some reference) = note_elements count format reference.number

-- ---- the places of items

abbrev pub bare_place : List Element → PathPlace Element Glyph
bare_place path = record { path = path; glyph = None }

abbrev pub shown_place : List Element → Glyph → PathPlace Element Glyph
shown_place path glyph = record { path = path; glyph = Some glyph }

-- what is shown without a glyph is in no format, so that a link goes on behind it
abbrev pub glyph_place : List Element → Option Link → ℕ → Seen → Option Glyph → PathPlace Element Glyph
glyph_place block link count seen None = bare_place (block ++ link_elements link)
glyph_place block link count seen (Some glyph) = shown_place (block ++ inline_elements link count seen.format
    seen.reference)
    glyph

abbrev pub item_places : List Element → Option Link → ℕ → Seen → Places
item_places block link count seen = if seen.is_shown then glyph_place block link count seen seen.glyph ∷ [] else []

-- how many references there are
abbrev pub count_of : Option Reference → ℕ
count_of reference = length (cons_option reference [])

-- items from a place on, with the links of their places, behind so many references to notes
unfoldable pub items_places : (ℕ → Option Link) → List Element → ℕ → ℕ → List Seen → Places
items_places links block count place [] = []
items_places links block count place (seen ∷ more) =
    item_places block (links place) count seen
    ++ items_places links block (count + count_of seen.reference) (place + 1) more

-- ---- the links of a text

-- the link that is open at a place of a paragraph, by the first place of the paragraph and this one
abbrev pub Links : Type 0
Links = ℕ → ℕ → Option Link

-- how many units the instruction of a link may have
-- Profile: a longer one leads nowhere, so that a page is not much longer than its document
abbrev pub longest_instruction : ℕ
longest_instruction = 2048

-- the instruction of a field that begins at a place, and whose result begins at another one, in front of which the last
-- reference to a note ends
-- Profile: a reference ends a link, and is one by itself, so that the address of a link is written once
abbrev pub link_between : ℕ → ℕ → ℕ → Option ℕ → Option Link
link_between note referred began None = None
link_between note referred began (Some result) =
    if nat_le referred result && nat_le result (began + 2 + longest_instruction) then
    Some (record { note = note; begin = began + 1; end = result - 1 }) else None

abbrev pub link_to : ℕ → ℕ → Option OpenField → Option Link
link_to note referred None = None
link_to note referred (Some field) = link_between note referred field.began field.result

-- how many items there are up to the last one that refers to a note
abbrev pub count_up_to : Bool → ℕ → ℕ
count_up_to is_reference zero = if is_reference then 1 else 0
count_up_to is_reference (suc more) = suc (suc more)

abbrev pub up_to_reference : List Item → ℕ
up_to_reference [] = 0
up_to_reference (item ∷ items) = count_up_to (is_some item.note) (up_to_reference items)

-- the links of the note with this number, from 1, or of the main text: that of the outermost hyperlink whose result
-- begins in the paragraph, up to the first reference to a note in it
abbrev pub links_of : ℕ → List Item → Links
links_of note items begin place =
    link_to note (up_to_reference (take place items)) (hyperlink_in begin (open_fields (take place items)))

-- ---- the places of paragraphs

-- a table inside of a cell, its row and, but for the mark of the row, its cell
abbrev pub nested_cell : Option ℕ → List Element
nested_cell None = []
nested_cell (Some number) = NestedCell number ∷ []

abbrev pub nested_elements : Option NestedPlace → List Element
nested_elements None = []
nested_elements (Some place) = NestedTable place.table ∷ NestedRow place.row ∷ nested_cell place.cell

-- the table, its head or its body, the row and the cell
abbrev pub cell_form : Grid → InCell → CellForm
cell_form grid cell = record { number = grid.cell; span = cell.span }

abbrev pub outer_cell : Grid → InCell → List Element
outer_cell grid cell =
    if cell.in_head then Table grid.table ∷ TableHead ∷ Row grid.row ∷ HeadCell (cell_form grid cell) ∷ [] else Table
    grid.table ∷ TableBody ∷ Row grid.row ∷ Cell (cell_form grid cell) ∷ []

-- and the tables inside of it
abbrev pub cell_of : Grid → InCell → List Element
cell_of grid cell =
    outer_cell grid cell ++ (nested_elements cell.nested.second ++ nested_elements cell.nested.third)

-- the cell of a paragraph that is so, by the cells of the text; the mark of a row is in none of them
abbrev pub own_span : Cells → ℕ → Bool → Option Span
own_span cells number keeps = if keeps then cells.spans number else Some single

abbrev pub cell_at : Cells → Grid → Standing → Bool → Option InCell
cell_at cells grid standing in_head =
    if not (is_in_table standing) then None else Some (record {
      in_head = in_head;
      span = own_span cells grid.ended (row_goes_on standing);
      nested = cells.nested grid.number;
    })

-- an item is in its lists, by those that are open before it
abbrev pub item_elements : Lists → Option ListItem → ℕ → List Element
item_elements lists None number = []
item_elements lists (Some item) number = list_elements (with_item lists item number)

-- the paragraph itself
abbrev pub paragraph_form : ℕ → Look → ParagraphForm
paragraph_form number look = record {
  number = number;
  level = look.level;
  right_to_left = look.right_to_left;
  breaks_page = look.breaks_page;
}

-- what is around a paragraph, in a cell or not
abbrev pub around_of : Grid → Option InCell → Option ListItem → Lists → List Element
around_of grid None item lists = item_elements lists item grid.number
around_of grid (Some cell) item lists = cell_of grid cell

-- in a part of another cell, and at the mark of a row of a table inside of a cell, nothing is seen, and there is no
-- paragraph
abbrev pub is_row_end : Option NestedPlace → Bool
is_row_end None = false
is_row_end (Some place) = not (is_some place.cell)

abbrev pub is_nested_row_end : NestedPlaces → Bool
is_nested_row_end nested = is_row_end nested.second || is_row_end nested.third

abbrev pub is_bare_in_cell : Option InCell → Bool
is_bare_in_cell None = false
is_bare_in_cell (Some cell) = not (is_some cell.span) || is_nested_row_end cell.nested

abbrev pub own_elements : Bool → ℕ → Look → List Element
own_elements bare_place number look = if bare_place then [] else AParagraph (paragraph_form number look) ∷ []

-- what a paragraph is in, in a cell or not, and the paragraph
abbrev pub block_of : Grid → Option InCell → Look → Lists → List Element
block_of grid cell look lists =
    around_of grid cell look.item lists ++ own_elements (is_bare_in_cell cell) grid.number look

-- the first of some paragraphs behind others: the first rows of a table that are heads are its head
abbrev pub in_head : List Paragraph → List Paragraph → Bool
in_head before here = (grid_of before).heads && is_head_row here

abbrev pub paragraph_block : Cells → List Paragraph → Paragraph → List Paragraph → List Element
paragraph_block cells before paragraph more =
    block_of (grid_of before) (cell_at cells (grid_of before) paragraph.standing (in_head before (paragraph ∷ more)))
    (look_in paragraph) (open_lists_of before)

-- a label, where it has units
abbrev pub label_places : List Element → List ℕ → Places
label_places block [] = []
label_places block (unit ∷ units) = map (shown_place (block ++ Label ∷ [])) (label_glyphs (unit ∷ units))

-- ---- the anchors of a text

-- so many numbers from one on
abbrev pub consecutive : ℕ → ℕ → List ℕ
consecutive first zero = []
consecutive first (suc more) = first ∷ consecutive (first + 1) more

-- how many bookmarks at the front of a list, which are in the order of their places, begin before a place
abbrev pub lead : List Bookmark → ℕ → ℕ
lead [] place = 0
lead (bookmark ∷ bookmarks) place = if nat_lt bookmark.from place then suc (lead bookmarks place) else 0

-- the bookmarks that begin at the first place or behind it, and before the second, by their numbers
abbrev pub anchors_of : List Bookmark → ℕ → ℕ → List ℕ
anchors_of bookmarks begin end = consecutive (lead bookmarks begin) (lead bookmarks end - lead bookmarks begin)

-- their places are in front of what is shown of the paragraph
abbrev pub anchor_places : List Element → List ℕ → Places
anchor_places block consecutive = map (λ number. bare_place (block ++ Anchor number ∷ [])) consecutive

-- the links, the anchors and the cells of a text
pub record Hypertext : Type 0 where
  pub links : Links
  pub anchors : ℕ → ℕ → List ℕ
  pub cells : Cells

abbrev pub hypertext_of : List Bookmark → ℕ → List Item → TableCells → Hypertext
hypertext_of bookmarks note items cells =
    record { links = links_of note items; anchors = anchors_of bookmarks; cells = cells_by cells }

-- ---- the cells of a text

abbrev pub has_label : Option ParagraphValues → Bool
has_label None = false
has_label (Some values) = is_some values.label

-- a paragraph of so many items from a place on has its mark alone, no number of a list, and no bookmark begins at it
abbrev pub is_mark_alone : List Bookmark → List ParagraphValues → ℕ → ℕ → ℕ → Bool
is_mark_alone bookmarks values number place count =
    count == 1
    && (not (has_label (slice_get values number)) && lead bookmarks place == lead bookmarks (place + count))

abbrev pub table_cells_of : List Bookmark → List ParagraphValues → List Item → TableCells
table_cells_of bookmarks values text = record {
  spans = cells_in (is_mark_alone bookmarks values) text;
  nested = nested_in (is_mark_alone bookmarks values) text;
}

-- how many items paragraphs have
abbrev pub paragraphs_len : List Paragraph → ℕ
paragraphs_len [] = 0
paragraphs_len (paragraph ∷ paragraphs) = paragraphs_len paragraphs + length paragraph.items

-- the places of a paragraph in a block, from a place on: its anchors, its label where it is here, and its items
abbrev pub paragraph_places : Hypertext → List Element → ℕ → ℕ → Paragraph → Places
paragraph_places hypertext block count begin paragraph =
    anchor_places block (hypertext.anchors begin (begin + length paragraph.items))
    ++ ((if is_here paragraph then label_places block (units_of_label paragraph) else [])
    ++ items_places (hypertext.links begin) block count begin paragraph.items)

-- paragraphs behind others, the nearest first, and behind so many references, inside of elements
unfoldable pub paragraphs_places : Hypertext → List Element → List Paragraph → ℕ → List Paragraph → Places
paragraphs_places hypertext outer before count [] = []
paragraphs_places hypertext outer before count (paragraph ∷ more) =
    paragraph_places hypertext (outer ++ paragraph_block hypertext.cells before paragraph more) count (paragraphs_len
    before) paragraph
    ++ paragraphs_places hypertext outer (paragraph ∷ before) (count + length (references_in paragraph.items)) more

abbrev pub text_places : Hypertext → List Element → List Paragraph → Places
text_places hypertext outer paragraphs = paragraphs_places hypertext outer [] 0 paragraphs

-- ---- the places of notes

-- the label of a note is its number; where it has none, an arrow back
abbrev pub label_of : Option ℕ → Glyph
label_of None = Unit 0x21A9
label_of (Some number) = NoteMark number

abbrev pub note_path : ℕ → List Element
note_path number = Notes ∷ Note number ∷ []

abbrev pub note_places : Formats → Manner → ℕ → Reference → List Item → Places
note_places formats manner number reference note =
    if reference.is_shown then shown_place (note_path number ++ BackLink number ∷ []) (label_of reference.number) ∷
    text_places (hypertext_of [] number note no_cells) (note_path number) (paragraphs_of formats manner note) else []

-- the notes of references, the first of which has this number
unfoldable pub notes_places : Formats → Manner → ℕ → List Reference → List (List Item) → Places
notes_places formats manner number [] notes = []
notes_places formats manner number (reference ∷ references) [] = []
notes_places formats manner number (reference ∷ references) (note ∷ notes) =
    note_places formats manner number reference note ++ notes_places formats manner (number + 1) references notes

-- ---- the places of a document: its main text, and then the notes that it refers to

abbrev pub document_places : Formats → List ParagraphValues → Options → Document → Places
document_places formats values options document =
    let paragraphs = with_values values (paragraphs_of formats (main_manner options document) document.main) in
    let cells = table_cells_of document.bookmarks values document.main in
    text_places (hypertext_of document.bookmarks 0 document.main cells) [] paragraphs
    ++ notes_places formats (note_manner options document) 1 (references_of paragraphs) document.notes
