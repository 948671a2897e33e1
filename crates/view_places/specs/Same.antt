-- Elements that are the same.
use Rattle.std.specs.Prelude.{ℕ, ◌==◌, Bool, false, not, ◌&&◌, is_some, Option, None, Some, if◌then◌else◌}
use Rattle.view_places.specs.declared.element.Cell.{Cell as CellForm}
use Rattle.view_places.specs.declared.element.Span.{Span}
use Rattle.view_places.specs.declared.element.Code.{Code}
use Rattle.view_places.specs.declared.element.Element.{Element}
use Rattle.view_places.specs.declared.element.Element.TheVariants.{Notes, Note, Table, TableHead, TableBody, Row, Cell}
use Rattle.view_places.specs.declared.element.Element.TheVariants.{HeadCell, List, Item, Paragraph, Label, Reference}
use Rattle.view_places.specs.declared.element.Element.TheVariants.{BackLink, Bold, Italic, Underline, Strike, SmallCaps}
use Rattle.view_places.specs.declared.element.Element.TheVariants.{Caps, Raised, Lowered, Link, Anchor}
use Rattle.view_places.specs.declared.element.Element.TheVariants.{NestedTable, NestedRow, NestedCell}

-- an element with a number
abbrev pub numbered_code : ℕ → ℕ → Code
numbered_code kind number = record {
  kind = kind;
  number = number;
  begin = 0;
  end = 0;
  level = 0;
  one = false;
  other = false;
}

-- how far a cell reaches, or nothing
abbrev pub cell_reach : Option Span → Span
cell_reach None = record { columns = 0; rows = 0 }
cell_reach (Some span) = span

abbrev pub cell_code : ℕ → CellForm → Code
cell_code kind cell = record (numbered_code kind cell.number) {
  begin = (cell_reach cell.span).columns;
  end = (cell_reach cell.span).rows;
  one = is_some cell.span;
}

-- an element by numbers
abbrev pub code_of : Element → Code
code_of Notes = numbered_code 0 0
code_of (Note number) = numbered_code 1 number
code_of (Table first) = numbered_code 2 first
code_of TableHead = numbered_code 3 0
code_of TableBody = numbered_code 4 0
code_of (Row first) = numbered_code 5 first
code_of (Cell cell) = cell_code 6 cell
code_of (HeadCell cell) = cell_code 7 cell
code_of (List list) = record (numbered_code 8 list.first) { one = list.is_ordered }
code_of (Item number) = numbered_code 9 number
code_of (Paragraph paragraph) = record (numbered_code 10 paragraph.number) {
  level = paragraph.level;
  one = paragraph.right_to_left;
  other = paragraph.breaks_page;
}
code_of Label = numbered_code 11 0
code_of (Reference number) = numbered_code 12 number
code_of (BackLink number) = numbered_code 13 number
code_of Bold = numbered_code 14 0
code_of Italic = numbered_code 15 0
code_of Underline = numbered_code 16 0
code_of Strike = numbered_code 17 0
code_of SmallCaps = numbered_code 18 0
code_of Caps = numbered_code 19 0
code_of Raised = numbered_code 20 0
code_of Lowered = numbered_code 21 0
code_of (Link link) = record (numbered_code 22 link.note) { begin = link.begin; end = link.end }
code_of (Anchor number) = numbered_code 23 number
code_of (NestedTable first) = numbered_code 24 first
code_of (NestedRow first) = numbered_code 25 first
code_of (NestedCell number) = numbered_code 26 number

abbrev pub equal : Bool → Bool → Bool
equal one other = if one then other else not other

abbrev pub same_code : Code → Code → Bool
same_code one two =
    one.kind == two.kind && (one.number == two.number && (one.begin == two.begin && (one.end == two.end
    && (one.level == two.level && (equal one.one two.one && equal one.other two.other)))))

-- elements are the same where their numbers are
abbrev pub same : Element → Element → Bool
same one other = same_code (code_of one) (code_of other)
