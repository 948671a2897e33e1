-- How paragraphs are in a page of text: one that is outside of tables is a line, and so is a row of a table, whose
-- cells are
-- behind tabs, and the paragraphs of a cell behind spaces. Paragraphs that are not here leave nothing. In front of its own text
-- a paragraph has the break of a page and its label.
use Rattle.std.specs.Prelude.{ℕ, Bool, true, false, List, [], ◌∷◌, ◌++◌, if◌then◌else◌, not}
use Rattle.std.specs.List.{take_while, list_any}
use Rattle.doc_view.specs.declared.line.Line.{Line}
use Rattle.doc_view.specs.declared.standing.Standing.{Standing}
use Rattle.doc_view.specs.declared.standing.Standing.TheVariants.{Outside, Inside, Cell, Row, HeadRow}
use Rattle.doc_view.specs.Glyphs.{glyphs_text}
use Rattle.doc_view.specs.Labels.{opening_text}
use Rattle.doc_view.specs.Seen.{Paragraph, is_here, glyphs_in}

abbrev pub is_in_table : Standing → Bool
is_in_table Outside = false
is_in_table Inside = true
is_in_table Cell = true
is_in_table Row = true
is_in_table HeadRow = true

-- a row goes on behind it
abbrev pub row_goes_on : Standing → Bool
row_goes_on Outside = false
row_goes_on Inside = true
row_goes_on Cell = true
row_goes_on Row = false
row_goes_on HeadRow = false

abbrev pub closes_cell : Standing → Bool
closes_cell Outside = false
closes_cell Inside = false
closes_cell Cell = true
closes_cell Row = false
closes_cell HeadRow = false

-- a row ends that is a head of its table
abbrev pub ends_head : Standing → Bool
ends_head Outside = false
ends_head Inside = false
ends_head Cell = false
ends_head Row = false
ends_head HeadRow = true

-- of the paragraphs before one, the nearest first: those of its row, and those of its cell
abbrev pub row_before : List Paragraph → List Paragraph
row_before before = take_while (λ paragraph. row_goes_on paragraph.standing) before

abbrev pub cell_before : List Paragraph → List Paragraph
cell_before before = take_while (λ paragraph. not (closes_cell paragraph.standing)) (row_before before)

abbrev pub some_here : List Paragraph → Bool
some_here paragraphs = list_any is_here paragraphs

-- what is between lines, and before the first one
abbrev pub line_front : List ℕ → Bool → List ℕ
line_front lead some = if some then 10 ∷ [] else lead

-- what is before a cell: a tab where it is not the first one of its row
abbrev pub tab_front : Bool → List ℕ
tab_front later = if later then 9 ∷ [] else []

-- what is before a paragraph of a table, where these are here: one in its cell, in its row, before it at all; and
-- whether it is in a later cell
abbrev pub inner_front : List ℕ → Line → List ℕ
inner_front lead line =
    if line.in_cell then 32 ∷ [] else
    (if line.in_row then [] else line_front lead line.some) ++ tab_front line.later

-- what is before a paragraph, in a table or not; before the first one of a text, its lead
abbrev pub front_at : List ℕ → Line → Bool → List ℕ
front_at lead line in_table = if in_table then inner_front lead line else line_front lead line.some

-- the paragraphs before one, the nearest first
abbrev pub line_behind : List Paragraph → Line
line_behind before = record {
  some = some_here before;
  in_row = some_here (row_before before);
  in_cell = some_here (cell_before before);
  later = list_any (λ paragraph. closes_cell paragraph.standing) (row_before before);
}

-- a paragraph with those before it, the nearest first
abbrev pub paragraph_text : List ℕ → List Paragraph → Paragraph → List ℕ
paragraph_text lead before paragraph =
    let in_table = is_in_table paragraph.standing in
    if is_here paragraph then (front_at lead (line_behind before) in_table ++ opening_text in_table paragraph.values)
    ++ glyphs_text in_table (glyphs_in paragraph.items) else []

-- paragraphs behind those before them; the last line ends too
unfoldable pub text_from : List ℕ → List Paragraph → List Paragraph → List ℕ
text_from lead before [] = if some_here before then 10 ∷ [] else []
text_from lead before (paragraph ∷ more) =
    paragraph_text lead before paragraph ++ text_from lead (paragraph ∷ before) more

-- a text with its lead, where some of it is here
abbrev pub layout_of : List ℕ → List Paragraph → List ℕ
layout_of lead paragraphs = text_from lead [] paragraphs
