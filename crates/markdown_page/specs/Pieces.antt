-- What a page writes where elements are opened and closed, and for what is no character.
use Rattle.std.specs.Prelude.{ℕ, zero, suc, ◌==◌, nat_lt, Bool, true, false, not, ◌&&◌, ◌||◌, List, [], ◌∷◌, ◌++◌, map, codes, if◌then◌else◌}
use Rattle.std.specs.Fmt.{decimal}
use Rattle.markdown_text.specs.declared.line.LineState.{LineState}
use Rattle.markdown_text.specs.declared.line.LineState.TheVariants.{Start, Digits, Within, Bracket, Colon}
use Rattle.markdown_text.specs.Tokens.{Token, Character, Markup}
use Rattle.markdown_text.specs.Tokens.{Tag as ATag}
use Rattle.view_places.specs.declared.element.Element.{Element}
use Rattle.view_places.specs.declared.element.Element.TheVariants.{Notes, Note, Table, TableHead, TableBody, Row, Cell}
use Rattle.view_places.specs.declared.element.Element.TheVariants.{HeadCell, List as AList, Item, Paragraph, Label}
use Rattle.view_places.specs.declared.element.Element.TheVariants.{NestedTable, NestedRow, NestedCell}
use Rattle.view_places.specs.declared.element.Element.TheVariants.{Reference, BackLink, Bold, Italic, Underline, Strike}
use Rattle.view_places.specs.declared.element.Element.TheVariants.{Link, Anchor}
use Rattle.view_places.specs.declared.element.Element.TheVariants.{SmallCaps, Caps, Raised, Lowered}
use Rattle.view_places.specs.declared.glyph.Glyph.{Glyph}
use Rattle.view_places.specs.declared.glyph.Glyph.TheVariants.{Unit, Tab, LineBreak, PageBreak, NoteMark}
use Rattle.view_places.specs.declared.glyph.Glyph.TheVariants.{Picture as APicture, Object as AnObject}
use Rattle.markdown_page.specs.declared.marks.Mark.{Mark}
use Rattle.markdown_page.specs.declared.marks.Mark.TheVariants as mark
use Rattle.markdown_page.specs.declared.marks.TagName.{TagName}
use Rattle.markdown_page.specs.declared.marks.TagName.TheVariants as tag
use Rattle.markdown_page.specs.declared.context.Seam.{Seam}
use Rattle.markdown_page.specs.declared.context.Seam.TheVariants.{Other, Word, Closed}
use Rattle.markdown_page.specs.declared.context.CellLine.{CellLine}
use Rattle.markdown_page.specs.declared.context.CellLine.TheVariants.{Outside, First, Next}
use Rattle.markdown_page.specs.declared.context.Context.{Context}
use Rattle.markdown_page.specs.declared.pieces.Piece.{Piece}
use Rattle.markdown_page.specs.declared.pieces.Piece.TheVariants.{Nothing, Write, Insert, Space, Number, Levels, Rule}
use Rattle.markdown_page.specs.declared.pieces.Piece.TheVariants.{Picture, Object}
use Rattle.markdown_page.specs.declared.pieces.Piece.TheVariants.{Tab as ATab}
use Rattle.markdown_page.specs.declared.pieces.Pieces.{Pieces}
use Rattle.markdown_page.specs.Marks.{heading_mark, mark_text, tag_text}
use Rattle.markdown_page.specs.Contexts.{column_limit}

-- ---- the tokens of pieces

-- a text as characters
abbrev pub characters : List ℕ → List Token
characters text = map Character text

abbrev pub markup : List ℕ → List Token
markup text = map Markup text

-- a mark so many times
abbrev pub marks_text : Mark → ℕ → List ℕ
marks_text mark zero = []
marks_text mark (suc count) = marks_text mark count ++ mark_text mark

-- the line below heads of so many columns
abbrev pub delimiter_row_text : ℕ → List ℕ
delimiter_row_text columns = mark_text mark.RuleFront ++ (marks_text mark.RuleColumn columns ++ mark_text mark.LineEnd)

abbrev pub piece_tokens : Piece → List Token
piece_tokens Nothing = []
piece_tokens (Write mark) = markup (mark_text mark)
piece_tokens (Insert tag) = ATag (tag_text tag) ∷ []
piece_tokens Space = Character 32 ∷ []
piece_tokens ATab = Character 9 ∷ []
piece_tokens (Number number) = markup (decimal number)
piece_tokens (Levels levels) = markup (marks_text mark.Level levels)
piece_tokens (Rule columns) = markup (delimiter_row_text columns)
piece_tokens Picture = characters (codes "[picture]")
piece_tokens Object = characters (codes "[object]")

abbrev pub pieces_tokens : Pieces → List Token
pieces_tokens pieces = piece_tokens pieces.first ++ (piece_tokens pieces.second ++ piece_tokens pieces.third)

abbrev pub three : Piece → Piece → Piece → Pieces
three first second third = record { first = first; second = second; third = third }

abbrev pub none : Pieces
none = three Nothing Nothing Nothing

abbrev pub one : Piece → Pieces
one piece = three piece Nothing Nothing

abbrev pub two : Piece → Piece → Pieces
two first second = three first second Nothing

-- a piece where it is to be there
abbrev pub piece_if : Bool → Piece → Piece
piece_if there piece = if there then piece else Nothing

-- ---- what is opened

-- a line of a note that has no marker is indented
abbrev pub indent : Context → Piece
indent context = piece_if context.in_note (piece_if (not context.begun) (Write mark.Indent))

-- an item is behind the markers of those that it is in, where its line has none of theirs
abbrev pub item_front : Context → Pieces
item_front context = three (indent context) (piece_if (not context.begun) (Levels context.levels)) (Write mark.Item)

-- an emphasis that begins within a word, or right behind another one
abbrev pub comment : Seam → Piece
comment Other = Nothing
comment Word = Insert tag.Comment
comment Closed = Insert tag.Comment

abbrev pub emphasis : Context → Mark → Pieces
emphasis context mark = two (comment context.seam) (Write mark)

abbrev pub number_pieces : ℕ → Mark → Pieces
number_pieces number end = three (Write mark.NoteFront) (Number number) (Write end)

-- cells beyond the columns of a table are in the last one, each on its own line
abbrev pub cell_front : Context → Piece
cell_front context =
    if context.cells == 0 then Write mark.FirstCell else
    if nat_lt context.cells (column_limit context) then Write mark.NextCell else Insert tag.LineBreak

abbrev pub paragraph_front : CellLine → Context → ℕ → Pieces
paragraph_front Outside context level =
    two (indent context) (piece_if (not (level == 0)) (Write (heading_mark level)))
paragraph_front First context level = none
paragraph_front Next context level = one (Insert tag.LineBreak)

abbrev pub opening : Context → Element → Pieces
opening context Notes = none
opening context (Note number) = number_pieces number mark.NoteEnd
opening context (Table first) = none
opening context TableHead = none
opening context TableBody = none
opening context (Row first) = one (indent context)
opening context (Cell number) = one (cell_front context)
opening context (HeadCell number) = one (cell_front context)
opening context (NestedTable first) = none
opening context (NestedRow first) = none
opening context (NestedCell number) = none
opening context (AList list) = none
opening context (Item number) = item_front context
opening context (Paragraph paragraph) = paragraph_front context.cell context paragraph.level
opening context Label = none
opening context (Reference number) = none
opening context (BackLink number) = none
opening context (Link link) = none
opening context (Anchor number) = none
opening context Bold = emphasis context mark.Strong
opening context Italic = emphasis context mark.Emphasis
opening context Underline = one (Insert tag.Underline)
opening context Strike = emphasis context mark.Strike
opening context SmallCaps = none
opening context Caps = none
opening context Raised = one (Insert tag.Raised)
opening context Lowered = one (Insert tag.Lowered)

-- ---- what is closed

abbrev pub is_start : LineState → Bool
is_start Start = true
is_start Digits = false
is_start Within = false
is_start Bracket = false
is_start Colon = false

-- below the first row the columns of a table
abbrev pub row_end : Context → Pieces
row_end context =
    if context.columns == 0 then three (Write mark.RowEnd) (piece_if context.in_note (Write mark.Indent)) (Rule
    context.cells) else one (Write mark.RowEnd)

-- a line that has begun ends with an empty one behind it; in a note each has, since it is indented
abbrev pub block_end : Bool → Pieces
block_end begun = one (piece_if begun (Write mark.BlockEnd))

-- a marker without a text has a space behind it, so that it is one
abbrev pub paragraph_end : CellLine → LineState → Context → Pieces
paragraph_end Outside line context =
    two (piece_if (context.begun && is_start line) Space)
    (piece_if ((context.begun || context.in_note) || not (is_start line)) (Write mark.BlockEnd))
paragraph_end First line context = none
paragraph_end Next line context = none

abbrev pub closing : LineState → Context → Element → Pieces
closing line context Notes = none
closing line context (Note number) = block_end context.begun
closing line context (Table first) = one (Write mark.LineEnd)
closing line context TableHead = none
closing line context TableBody = none
closing line context (Row first) = row_end context
closing line context (Cell number) = none
closing line context (HeadCell number) = none
closing line context (NestedTable first) = none
closing line context (NestedRow first) = none
closing line context (NestedCell number) = none
closing line context (AList list) = none
closing line context (Item number) = block_end context.begun
closing line context (Paragraph paragraph) = paragraph_end context.cell line context
closing line context Label = none
closing line context (Reference number) = number_pieces number mark.ReferenceEnd
closing line context (BackLink number) = none
closing line context (Link link) = none
closing line context (Anchor number) = none
closing line context Bold = one (Write mark.Strong)
closing line context Italic = one (Write mark.Emphasis)
closing line context Underline = one (Insert tag.UnderlineEnd)
closing line context Strike = one (Write mark.Strike)
closing line context SmallCaps = none
closing line context Caps = none
closing line context Raised = one (Insert tag.RaisedEnd)
closing line context Lowered = one (Insert tag.LoweredEnd)

-- ---- glyphs that are no units

-- a line of tags alone would be a block of HTML
abbrev pub break : LineState → Pieces
break line = two (piece_if (is_start line) Space) (Insert tag.LineBreak)

abbrev pub other_pieces : LineState → Glyph → Pieces
other_pieces line (Unit unit) = none
other_pieces line Tab = one ATab
other_pieces line LineBreak = break line
other_pieces line PageBreak = break line
other_pieces line (NoteMark number) = none
other_pieces line (APicture place) = one Picture
other_pieces line AnObject = one Object
