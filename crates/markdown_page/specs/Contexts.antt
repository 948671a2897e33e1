-- What is before a place of a page, besides the line: behind characters, and behind elements that are opened and
-- closed.
use Rattle.std.specs.Prelude.{ℕ, ◌+◌, ◌-◌, ◌==◌, nat_le, nat_lt, Bool, true, false, not, ◌&&◌, ◌||◌, Option, None}
use Rattle.std.specs.Prelude.{List, [], ◌∷◌, if◌then◌else◌}
use Rattle.view_places.specs.declared.element.Element.{Element}
use Rattle.view_places.specs.declared.element.Element.TheVariants.{Notes, Note, Table, TableHead, TableBody, Row, Cell}
use Rattle.view_places.specs.declared.element.Element.TheVariants.{HeadCell, List as AList, Item, Paragraph, Label}
use Rattle.view_places.specs.declared.element.Element.TheVariants.{NestedTable, NestedRow, NestedCell}
use Rattle.view_places.specs.declared.element.Element.TheVariants.{Reference, BackLink, Bold, Italic, Underline, Strike}
use Rattle.view_places.specs.declared.element.Element.TheVariants.{Link, Anchor}
use Rattle.view_places.specs.declared.element.Element.TheVariants.{SmallCaps, Caps, Raised, Lowered}
use Rattle.view_places.specs.declared.element.Paragraph.{Paragraph as ParagraphForm}
use Rattle.markdown_page.specs.declared.context.Seam.{Seam}
use Rattle.markdown_page.specs.declared.context.Seam.TheVariants.{Other, Word, Closed}
use Rattle.markdown_page.specs.declared.context.CellLine.{CellLine}
use Rattle.markdown_page.specs.declared.context.CellLine.TheVariants.{Outside, First, Next}
use Rattle.markdown_page.specs.declared.context.Context.{Context}
use Rattle.markdown_page.specs.declared.context.TheConstants.{MAX_COLUMNS, MAX_LEVELS}

-- ---- characters

-- a digit, a letter of ASCII, and all beyond ASCII
abbrev pub is_word : ℕ → Bool
is_word code =
    (nat_le 48 code && nat_le code 57) || ((nat_le 65 code && nat_le code 90)
    || ((nat_le 97 code && nat_le code 122) || nat_le 128 code))

abbrev pub character_seam : ℕ → Seam
character_seam code = if is_word code then Word else Other

-- an emphasis that ends within a word
abbrev pub is_parted : Seam → ℕ → Bool
is_parted Other code = false
is_parted Word code = false
is_parted Closed code = is_word code

-- ---- elements

-- what is written now is no character of a word
abbrev pub cut : Context → Context
cut context = record context { seam = Other }

-- one more column, as far as a table has them
abbrev pub more_cells : ℕ → ℕ
more_cells cells = if nat_lt cells MAX_COLUMNS then cells + 1 else cells

-- so many cells of a row are columns: in the first row all of them
abbrev pub column_limit : Context → ℕ
column_limit context = if context.columns == 0 then MAX_COLUMNS else context.columns

abbrev pub note_opened : Context → Context
note_opened context = record context { seam = Other; in_note = true; begun = true }

abbrev pub table_opened : Context → Context
table_opened context = record context { seam = Other; columns = 0 }

abbrev pub row_opened : Context → Context
row_opened context = record context { seam = Other; cells = 0 }

abbrev pub cell_opened : Context → Context
cell_opened context = record context { seam = Other; cells = more_cells context.cells; cell = First }

-- one more item, as far as they are counted
abbrev pub more_levels : ℕ → ℕ
more_levels levels = if nat_lt levels MAX_LEVELS then levels + 1 else levels

abbrev pub item_opened : Context → Context
item_opened context = record context { seam = Other; begun = true; levels = more_levels context.levels }

abbrev pub line_begun : Context → Bool → Context
line_begun context has_marker = record context { seam = Other; begun = context.begun || has_marker }

abbrev pub opened : Context → Element → Context
opened context Notes = cut context
opened context (Note number) = note_opened context
opened context (Table first) = table_opened context
opened context TableHead = cut context
opened context TableBody = cut context
opened context (Row first) = row_opened context
opened context (Cell number) = cell_opened context
opened context (HeadCell number) = cell_opened context
opened context (NestedTable first) = cut context
opened context (NestedRow first) = cut context
opened context (NestedCell number) = cut context
opened context (AList list) = cut context
opened context (Item number) = item_opened context
opened context (Paragraph paragraph) = line_begun context (not (paragraph.level == 0))
opened context Label = cut context
opened context (Reference number) = cut context
opened context (BackLink number) = cut context
opened context (Link link) = context
opened context (Anchor number) = context
opened context Bold = cut context
opened context Italic = cut context
opened context Underline = cut context
opened context Strike = cut context
opened context SmallCaps = cut context
opened context Caps = cut context
opened context Raised = cut context
opened context Lowered = cut context

abbrev pub note_closed : Context → Context
note_closed context = record context { seam = Other; in_note = false; begun = false }

abbrev pub row_closed : Context → Context
row_closed context = record context {
  seam = Other;
  begun = false;
  columns = if context.columns == 0 then context.cells else context.columns;
}

abbrev pub cell_closed : Context → Context
cell_closed context = record context { seam = Other; cell = Outside }

abbrev pub item_closed : Context → Context
item_closed context = record context { seam = Other; begun = false; levels = context.levels - 1 }

abbrev pub paragraph_closed_in : CellLine → Context → Context
paragraph_closed_in Outside context = record context { seam = Other; begun = false }
paragraph_closed_in First context = record context { seam = Other; cell = Next }
paragraph_closed_in Next context = cut context

abbrev pub emphasis_closed : Context → Context
emphasis_closed context = record context { seam = Closed }

abbrev pub closed : Context → Element → Context
closed context Notes = cut context
closed context (Note number) = note_closed context
closed context (Table first) = cut context
closed context TableHead = cut context
closed context TableBody = cut context
closed context (Row first) = row_closed context
closed context (Cell number) = cell_closed context
closed context (HeadCell number) = cell_closed context
closed context (NestedTable first) = cut context
closed context (NestedRow first) = cut context
closed context (NestedCell number) = cut context
closed context (AList list) = cut context
closed context (Item number) = item_closed context
closed context (Paragraph paragraph) = paragraph_closed_in context.cell context
closed context Label = cut context
closed context (Reference number) = cut context
closed context (BackLink number) = cut context
closed context (Link link) = context
closed context (Anchor number) = context
closed context Bold = emphasis_closed context
closed context Italic = emphasis_closed context
closed context Underline = cut context
closed context Strike = emphasis_closed context
closed context SmallCaps = cut context
closed context Caps = cut context
closed context Raised = cut context
closed context Lowered = cut context
