-- The paths of a document have few elements, whose numbers have few digits.
use Rattle.std.proofs.Common.{◌≡◌, ℕ, zero, suc, ◌+◌, ◌-◌, ◌*◌, ◌<◌, ◌≤◌, ◌==◌, Bool, true, false, not, ◌&&◌, List, [], ◌∷◌, ◌++◌}
use Rattle.std.proofs.Common.{length, Option, None, Some, arith, if◌then◌else◌, refl, slice_get}
use Rattle.std.specs.Prelude.{⊤, nat_le, nat_lt}
use Rattle.std.specs.List.{All}
use Rattle.std.proofs.lemmas.Bool.{ltb-true}
use Rattle.char_formats.specs.declared.format.CharFormat.{CharFormat}
use Rattle.char_formats.specs.declared.format.Position.{Position}
use Rattle.char_formats.specs.declared.format.Position.TheVariants.{Normal, Raised as IsRaised, Lowered as IsLowered}
use Rattle.doc_model.specs.declared.item.Item.{Item}
use Rattle.doc_model.specs.Settings.{is_inside}
use Rattle.doc_model.specs.Stretches.{stretches}
use Rattle.list_numbers.specs.declared.paragraph_values.ParagraphValues.{ParagraphValues}
use Rattle.document_bookmarks.specs.declared.bookmark_order.Bookmark.{Bookmark}
use Rattle.view_places.specs.declared.element.Element.{Element}
use Rattle.view_places.specs.declared.element.Element.TheVariants.{Notes, Note, Table, TableHead, TableBody, Row, Cell}
use Rattle.view_places.specs.declared.element.Element.TheVariants.{Paragraph as AParagraph, Reference as AReference}
use Rattle.view_places.specs.declared.element.Element.TheVariants.{BackLink, HeadCell, Label, List as AList, Item as AnItem}
use Rattle.view_places.specs.declared.element.Element.TheVariants.{Bold, Italic, Underline, Strike, SmallCaps, Caps}
use Rattle.view_places.specs.declared.element.Element.TheVariants.{Raised, Lowered, Link as ALink}
use Rattle.view_places.specs.declared.element.Element.TheVariants.{NestedTable, NestedRow, NestedCell}
use Rattle.nested_tables.specs.declared.walk.NestedPlace.{NestedPlace}
use Rattle.view_places.specs.declared.element.Link.{Link}
use Rattle.view_places.specs.declared.element.Span.{Span}
use Rattle.view_places.proofs.Public.{heavy, AreFew, IsOuter, IsSmall, IsSmallSpanIn, few_either, few_joined, few_none}
use Rattle.view_places.proofs.Public.{few_one, few_within}
use Rattle.cell_spans.specs.declared.tables.Tables.{Tables}
use Rattle.cell_spans.specs.Spans.{single}
use Rattle.cell_spans.specs.Tables.{behind_outside, no_tables}
use Rattle.cell_spans.proofs.Public.{small_no_tables, small_outside, small_single}
use Rattle.doc_view.specs.declared.standing.Standing.{Standing}
use Rattle.doc_view.specs.declared.standing.Standing.TheVariants.{Outside, Inside, Cell as InACell, Row as InARow, HeadRow}
use Rattle.doc_view.specs.declared.references.Reference.{Reference}
use Rattle.doc_view.specs.Layout.{is_in_table, row_goes_on}
use Rattle.doc_view.specs.Seen.{Paragraph, standing_of}
use Rattle.doc_places.specs.declared.grid.Grid.{Grid}
use Rattle.doc_places.specs.declared.grid.InCell.{InCell}
use Rattle.doc_places.specs.declared.lists.Frame.{Frame}
use Rattle.doc_places.specs.declared.lists.ListItem.{ListItem}
use Rattle.doc_places.specs.declared.lists.Lists.{Lists}
use Rattle.doc_places.specs.declared.looks.Look.{Look}
use Rattle.doc_places.specs.Cells.{cells_in, definition_in, tables_behind, tables_by, tables_from}
use Rattle.doc_places.specs.Grid.{grid_of}
use Rattle.doc_places.specs.Lists.{frame_at, frame_elements, level_elements, list_elements, open_lists_of, with_item}
use Rattle.doc_places.specs.Looks.{heading_level, level_of_outline, look_in, look_of}
use Rattle.doc_places.specs.Places.{Cells, cell_form, nested_cell, nested_elements, outer_cell, around_of}
use Rattle.doc_places.specs.Places.{paragraph_block, block_of, cell_at, cell_of, table_cells_of, format_elements}
use Rattle.doc_places.specs.Places.{element_if, in_head, inline_elements, is_bare_in_cell, is_mark_alone, item_elements}
use Rattle.doc_places.specs.Places.{link_elements}
use Rattle.doc_places.specs.Places.{note_elements, note_path, own_elements, own_span, paragraph_form, position_elements}

-- ---- within a paragraph

few_given : (there : Bool) (e : Element) → heavy e ≤ 0 → IsSmall e → AreFew IsSmall 1 0 (element_if there e)
few_given true e light small = few_one IsSmall 0 e light small
few_given false e light small = few_within IsSmall 0 1 0 0 [] (omega arith) (omega arith) (few_none IsSmall)

few_position : (position : Position) → AreFew IsSmall 1 0 (position_elements position)
few_position Normal = few_within IsSmall 0 1 0 0 [] (omega arith) (omega arith) (few_none IsSmall)
few_position IsRaised = few_one IsSmall 0 Raised (omega arith) tt
few_position IsLowered = few_one IsSmall 0 Lowered (omega arith) tt

pub few_format : (format : CharFormat) → AreFew IsSmall 7 0 (format_elements format)
few_format format =
    let position = position_elements format.position in
    let caps = element_if format.caps Caps in
    let small = element_if format.small_caps SmallCaps in
    let strike = element_if format.strike Strike in
    let under = element_if format.underline Underline in
    let italic = element_if format.italic Italic in
    let bold = element_if format.bold Bold in
    few_joined IsSmall 1 6 0 0 bold (italic ++ (under ++ (strike ++ (small ++ (caps ++ position)))))
    (few_given format.bold Bold (omega arith) tt)
    (few_joined IsSmall 1 5 0 0 italic (under ++ (strike ++ (small ++ (caps ++ position))))
    (few_given format.italic Italic (omega arith) tt)
    (few_joined IsSmall 1 4 0 0 under (strike ++ (small ++ (caps ++ position)))
    (few_given format.underline Underline (omega arith) tt)
    (few_joined IsSmall 1 3 0 0 strike (small ++ (caps ++ position)) (few_given format.strike Strike (omega arith) tt)
    (few_joined IsSmall 1 2 0 0 small (caps ++ position) (few_given format.small_caps SmallCaps (omega arith) tt)
    (few_joined IsSmall 1 1 0 0 caps position (few_given format.caps Caps (omega arith) tt) (few_position format.position))))))

few_link : (link : Option Link) → AreFew IsSmall 1 0 (link_elements link)
few_link None = few_within IsSmall 0 1 0 0 [] (omega arith) (omega arith) (few_none IsSmall)
few_link (Some link) = few_one IsSmall 0 (ALink link) (omega arith) tt

pub few_bare : (link : Option Link) → AreFew IsSmall 8 0 (link_elements link)
few_bare link = few_within IsSmall 1 8 0 0 (link_elements link) (omega arith) (omega arith) (few_link link)

few_note : (count : ℕ) (format : CharFormat) (number : Option ℕ) → count + 1 < 1000000 → AreFew IsSmall 8 0 (note_elements count
    format number)
few_note count format None low =
    few_joined IsSmall 7 1 0 0 (format_elements format) (AReference (count + 1) ∷ []) (few_format format) (few_one IsSmall 0 (AReference
    (count + 1)) (omega arith) low)
few_note count format (Some number) low =
    few_within IsSmall 2 8 0 0 (Raised ∷ AReference (count + 1) ∷ []) (omega arith) (omega arith) (few_joined IsSmall 1 1 0 0 (Raised ∷ [])
    (AReference (count + 1) ∷ []) (few_one IsSmall 0 Raised (omega arith) tt) (few_one IsSmall 0 (AReference (count + 1)) (omega arith) low))

pub few_inline : (link : Option Link) (count : ℕ) (format : CharFormat) (reference : Option Reference) → count + 1 <
    1000000 → AreFew IsSmall 8 0 (inline_elements link count format reference)
few_inline link count format None low =
    few_joined IsSmall 1 7 0 0 (link_elements link) (format_elements format) (few_link link) (few_format format)
few_inline link count format (Some reference) low = few_note count format reference.number low

-- ---- around a paragraph

few_frame : (frame : Option Frame) → AreFew IsOuter 2 1 (frame_elements frame)
few_frame None = few_within IsOuter 0 2 0 1 [] (omega arith) (omega arith) (few_none IsOuter)
few_frame (Some frame) =
    let list : Element = AList (record { first = frame.first; is_ordered = frame.is_ordered }) in
    few_joined IsOuter 1 1 0 1 (list ∷ []) (AnItem frame.item ∷ []) (few_one IsOuter 0 list (omega arith) tt) (few_one IsOuter 1 (AnItem frame.item)
    (omega arith) tt)

few_levels : (lists : Lists) (level : ℕ) → AreFew IsOuter (2 * level) level (level_elements lists level)
few_levels lists zero = (few_none IsOuter)
few_levels lists (suc level) =
    let outer = level_elements lists level in
    let inner = frame_elements (frame_at lists level) in
    few_within IsOuter (2 * level + 2) (2 * suc level) (level + 1) (suc level) (outer ++ inner) (omega arith) (omega arith)
    (few_joined IsOuter (2 * level) 2 level 1 outer inner (few_levels lists level) (few_frame (frame_at lists level)))

few_item : (lists : Lists) (item : Option ListItem) (number : ℕ) → AreFew IsOuter 12 6 (item_elements lists item number)
few_item lists None number = few_within IsOuter 0 12 0 6 [] (omega arith) (omega arith) (few_none IsOuter)
few_item lists (Some item) number = few_levels (with_item lists item number) 6

few_outer : (grid : Grid) (cell : InCell) → IsSmallSpanIn cell.span → AreFew IsOuter 4 3 (outer_cell grid cell)
few_outer grid cell small =
    let form = cell_form grid cell in
    few_either IsOuter 4 3 cell.in_head
    (Table grid.table ∷ TableHead ∷ Row grid.row ∷ HeadCell form ∷ [])
    (Table grid.table ∷ TableBody ∷ Row grid.row ∷ Cell form ∷ [])
    (four (Table grid.table) TableHead (Row grid.row) (HeadCell form) (omega arith) (omega arith) (omega arith) (omega arith)
    tt tt tt small)
    (four (Table grid.table) TableBody (Row grid.row) (Cell form) (omega arith) (omega arith) (omega arith) (omega arith)
    tt tt tt small)
  where
    four : (one two three last : Element) → heavy one ≤ 0 → heavy two ≤ 0 → heavy three ≤ 3 → heavy last ≤ 0 → IsOuter one →
        IsOuter two → IsOuter three → IsOuter last → AreFew IsOuter 4 3 (one ∷ two ∷ three ∷ last ∷ [])
    four one two three last h1 h2 h3 h4 a b c d =
        few_joined IsOuter 1 3 0 3 (one ∷ []) (two ∷ three ∷ last ∷ []) (few_one IsOuter 0 one h1 a)
        (few_joined IsOuter 1 2 0 3 (two ∷ []) (three ∷ last ∷ []) (few_one IsOuter 0 two h2 b)
        (few_joined IsOuter 1 1 3 0 (three ∷ []) (last ∷ []) (few_one IsOuter 3 three h3 c) (few_one IsOuter 0 last h4 d)))

few_nested_cell : (number : Option ℕ) → AreFew IsOuter 1 0 (nested_cell number)
few_nested_cell None = few_within IsOuter 0 1 0 0 [] (omega arith) (omega arith) (few_none IsOuter)
few_nested_cell (Some number) = few_one IsOuter 0 (NestedCell number) (omega arith) tt

few_nested : (place : Option NestedPlace) → AreFew IsOuter 3 0 (nested_elements place)
few_nested None = few_within IsOuter 0 3 0 0 [] (omega arith) (omega arith) (few_none IsOuter)
few_nested (Some place) =
    let cell = nested_cell place.cell in
    few_joined IsOuter 1 2 0 0 (NestedTable place.table ∷ []) (NestedRow place.row ∷ cell) (few_one IsOuter 0 (NestedTable place.table)
    (omega arith) tt)
    (few_joined IsOuter 1 1 0 0 (NestedRow place.row ∷ []) cell (few_one IsOuter 0 (NestedRow place.row) (omega arith) tt) (few_nested_cell
    place.cell))

few_cell : (grid : Grid) (cell : InCell) → IsSmallSpanIn cell.span → AreFew IsOuter 12 6 (cell_of grid cell)
few_cell grid cell small =
    let second = nested_elements cell.nested.second in
    let third = nested_elements cell.nested.third in
    few_within IsOuter 10 12 3 6 (cell_of grid cell) (omega arith) (omega arith)
    (few_joined IsOuter 4 6 3 0 (outer_cell grid cell) (second ++ third) (few_outer grid cell small)
    (few_joined IsOuter 3 3 0 0 second third (few_nested cell.nested.second) (few_nested cell.nested.third)))

-- a cell that the spans of the text say
abbrev IsSmallCell : Option InCell → Type 0
IsSmallCell None = ⊤
IsSmallCell (Some cell) = IsSmallSpanIn cell.span

small_own : (cells : Cells) → ((number : ℕ) → IsSmallSpanIn (cells.spans number)) → (number : ℕ) (keeps : Bool) →
    IsSmallSpanIn (own_span cells number keeps)
small_own cells small number true = small number
small_own cells small number false = small_single

small_cell : (cells : Cells) → ((number : ℕ) → IsSmallSpanIn (cells.spans number)) → (grid : Grid) (standing : Standing)
    (in_head : Bool) → IsSmallCell (cell_at cells grid standing in_head)
small_cell cells small grid standing in_head =
    elim (not (is_in_table standing)) as (λ (b : Bool). IsSmallCell (if b then None else Some (record {
      in_head = in_head;
      span = own_span cells grid.ended (row_goes_on standing);
      nested = cells.nested grid.number;
    }))) [ true ↦ tt | false ↦ small_own cells small grid.ended (row_goes_on standing) ]

few_around : (grid : Grid) (cell : Option InCell) (item : Option ListItem) (lists : Lists) → IsSmallCell cell → AreFew IsOuter 12 6
    (around_of grid cell item lists)
few_around grid None item lists small = few_item lists item grid.number
few_around grid (Some cell) item lists small = few_cell grid cell small

low_level : (outline : Option ℕ) → level_of_outline outline < 10
low_level None = omega arith
low_level (Some outline) =
    elim (nat_lt outline 9) as (λ (b : Bool). nat_lt outline 9 ≡ b → (if b then outline + 1 else 0) < 10) [
      | true ↦ λ is. omega (arith, ltb-true outline 9 is)
      | false ↦ λ is. omega arith
    ] refl

low_heading : (outline : Option ℕ) (in_table is_text : Bool) → heading_level outline in_table is_text < 10
low_heading outline in_table is_text =
    elim (is_text && not in_table) as (λ (b : Bool). (if b then level_of_outline outline else 0) < 10)
    [ true ↦ low_level outline | false ↦ omega arith ]

low_look : (values : Option ParagraphValues) (in_table is_text : Bool) → (look_of values in_table is_text).level < 10
low_look None in_table is_text = omega arith
low_look (Some values) in_table is_text = low_heading values.outline in_table is_text

few_own : (bare : Bool) (number : ℕ) (look : Look) → look.level < 10 → AreFew IsOuter 1 0 (own_elements bare number look)
few_own true number look low = few_within IsOuter 0 1 0 0 [] (omega arith) (omega arith) (few_none IsOuter)
few_own false number look low = few_one IsOuter 0 (AParagraph (paragraph_form number look)) (omega arith) low

-- a paragraph and what is around it
pub few_block : (cells : Cells) → ((number : ℕ) → IsSmallSpanIn (cells.spans number)) → (before : List Paragraph)
    (paragraph : Paragraph) (more : List Paragraph) → AreFew IsOuter 13 6 (paragraph_block cells before paragraph more)
few_block cells small before paragraph more =
    let grid = grid_of before in
    let head = in_head before (paragraph ∷ more) in
    let cell = cell_at cells grid paragraph.standing head in
    let look = look_in paragraph in
    few_joined IsOuter 12 1 6 0 (around_of grid cell look.item (open_lists_of before)) (own_elements (is_bare_in_cell
    cell) grid.number look)
    (few_around grid cell look.item (open_lists_of before) (small_cell cells small grid paragraph.standing head))
    (few_own (is_bare_in_cell cell) grid.number look (low_look paragraph.values (is_in_table paragraph.standing) (nat_le
    2 (length
    paragraph.items))))

-- what is around a note
pub few_note_path : (number : ℕ) → number < 1000000 → AreFew IsOuter 2 0 (note_path number)
few_note_path number low =
    few_joined IsOuter 1 1 0 0 (Notes ∷ []) (Note number ∷ []) (few_one IsOuter 0 Notes (omega arith) tt) (few_one IsOuter 0 (Note number) (omega
    arith) low)

-- ---- cells

small_by : (tables : Tables) (standing : Standing) (is_mark : Bool) (definition : List ℕ) → All IsSmallSpanIn
    tables.spans → All IsSmallSpanIn (tables_by tables standing is_mark definition).spans
small_by tables Outside is_mark definition small = small_outside tables small
small_by tables Inside is_mark definition small = small
small_by tables InACell is_mark definition small = small
small_by tables InARow is_mark definition small = small
small_by tables HeadRow is_mark definition small = small

small_behind : (tables : Tables) (is_mark : Bool) (last : Option Item) → All IsSmallSpanIn tables.spans → All
    IsSmallSpanIn (tables_behind tables is_mark last).spans
small_behind tables is_mark None small = small_outside tables small
small_behind tables is_mark (Some last) small =
    small_by tables (standing_of last.unit last.mark) is_mark (definition_in last.mark) small

small_from : (is_mark : ℕ → ℕ → ℕ → Bool) (number place : ℕ) (tables : Tables) (parts : List (List Item)) → All
    IsSmallSpanIn tables.spans → All IsSmallSpanIn (tables_from is_mark number place tables parts).spans
unfolding tables_from
small_from is_mark number place tables [] small = small
small_from is_mark number place tables (items ∷ more) small =
    let mark = is_mark number place (length items) in
    let last = slice_get items (length items - 1) in
    small_from is_mark (number + 1) (place + length items) (tables_behind tables mark last) more (small_behind tables mark
    last small)

-- no cell of a text reaches far
pub small_cells : (bookmarks : List Bookmark) (values : List ParagraphValues) (text : List Item) → All IsSmallSpanIn
    (table_cells_of bookmarks values text).spans
small_cells bookmarks values text =
    let tables = tables_from (is_mark_alone bookmarks values) 0 0 no_tables (stretches is_inside text) in
    small_outside tables (small_from (is_mark_alone bookmarks values) 0 0 no_tables (stretches is_inside text)
    small_no_tables)
