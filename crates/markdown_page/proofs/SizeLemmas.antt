-- How many bytes a page has.
use Rattle.std.proofs.Common.{◌≡◌, ℕ, zero, suc, ◌+◌, ◌-◌, ◌*◌, ◌<◌, ◌≤◌, ◌==◌, Bool, true, false, not, ◌&&◌, ◌||◌, List, [], ◌∷◌}
use Rattle.std.proofs.Common.{◌++◌, map, length, Option, None, Some, refl, sym, ap, subst, ◌∙◌, arith, if◌then◌else◌}
use Rattle.std.specs.Prelude.{⊤, codes, nat_le, nat_lt}
use Rattle.std.specs.Char.{encode_utf8}
use Rattle.std.specs.Fmt.{decimal}
use Rattle.std.proofs.lemmas.Bool.{leb-true, ltb-true}
use Rattle.std.proofs.lemmas.List.{append-nil}
use Rattle.doc_model.specs.declared.document.Document.{Document}
use Rattle.view_paths.specs.Events.{Event, Turn, Leaf, Open, Close, events_from, events_up_to, turns}
use Rattle.view_paths.specs.Events.{Tag as PathTag}
use Rattle.view_paths.specs.Paths.{last_path}
use Rattle.view_paths.specs.Openings.{opened_from}
use Rattle.view_paths.proofs.Public.{event_cost, events_cost, events_from-append, shown_cost, total, total-append}
use Rattle.view_paths.proofs.Public.{total-less}
use Rattle.view_places.specs.declared.element.Element.{Element}
use Rattle.view_places.specs.declared.element.Element.TheVariants.{Notes, Note, Table, TableHead, TableBody, Row, Cell}
use Rattle.view_places.specs.declared.element.Element.TheVariants.{HeadCell, List as AList, Item, Paragraph, Label}
use Rattle.view_places.specs.declared.element.Element.TheVariants.{Reference, BackLink, Bold, Italic, Underline, Strike}
use Rattle.view_places.specs.declared.element.Element.TheVariants.{SmallCaps, Caps, Raised, Lowered, Link, Anchor}
use Rattle.view_places.specs.declared.element.Element.TheVariants.{NestedTable, NestedRow, NestedCell}
use Rattle.view_places.specs.declared.glyph.Glyph.{Glyph}
use Rattle.view_places.specs.declared.glyph.Glyph.TheVariants.{Unit, Tab, LineBreak, PageBreak, NoteMark}
use Rattle.view_places.specs.declared.glyph.Glyph.TheVariants.{Picture as APicture, Object as AnObject}
use Rattle.view_places.specs.Same.{same}
use Rattle.view_places.specs.SameLaws.{same_exact}
use Rattle.view_places.proofs.Public.{IsSmall, heavy}
use Rattle.text_codes.specs.Halves.{half_text, replacement}
use Rattle.glyph_units.specs.Units.{unit_half, unit_text}
use Rattle.glyph_units.specs.Glyphs.{unit_in}
use Rattle.glyph_units.proofs.Public.{closed_size, either_size, six_digits, size, size-append, size-one, unit_length}
use Rattle.glyph_units.proofs.Public.{waiting}
use Rattle.markdown_text.specs.declared.line.LineState.{LineState}
use Rattle.markdown_text.specs.declared.line.LineState.TheVariants.{Start, Digits, Within, Bracket, Colon}
use Rattle.markdown_text.specs.Lines.{is_among, is_special}
use Rattle.markdown_text.specs.Tokens.{Token, Character, Markup, Tag, Destination, after_token, after_tokens, break_reference}
use Rattle.markdown_text.specs.Tokens.{destination_text, escaped_in_line, escaped_by, printed_from, printed_token}
use Rattle.markdown_text.specs.Tokens.{reference}
use Rattle.markdown_text.specs.Tokens.{start_reference}
use Rattle.markdown_page.specs.declared.marks.Mark.{Mark}
use Rattle.markdown_page.specs.declared.marks.Mark.TheVariants as mark
use Rattle.markdown_page.specs.declared.marks.TagName.TheVariants as tag
use Rattle.markdown_page.specs.declared.context.Seam.{Seam}
use Rattle.markdown_page.specs.declared.context.Seam.TheVariants.{Other, Word, Closed}
use Rattle.markdown_page.specs.declared.context.CellLine.{CellLine}
use Rattle.markdown_page.specs.declared.context.CellLine.TheVariants.{Outside, First, Next}
use Rattle.markdown_page.specs.declared.context.Context.{Context}
use Rattle.markdown_page.specs.declared.pieces.Piece.{Piece}
use Rattle.markdown_page.specs.declared.pieces.Piece.TheVariants.{Nothing, Write, Insert, Space, Number, Levels, Rule}
use Rattle.markdown_page.specs.declared.pieces.Piece.TheVariants.{Picture, Object}
use Rattle.markdown_page.specs.declared.pieces.Piece.TheVariants.{Tab as ATab}
use Rattle.markdown_page.specs.declared.pieces.Pieces.{Pieces}
use Rattle.markdown_page.specs.Marks.{heading_mark, mark_text, tag_text}
use Rattle.markdown_page.specs.Contexts.{character_seam, closed, column_limit, cut, is_parted, more_cells, more_levels}
use Rattle.markdown_page.specs.Contexts.{opened, paragraph_closed_in}
use Rattle.markdown_page.specs.Destinations.{address_at, address_of, link_end_tokens, link_front_tokens, link_tokens}
use Rattle.markdown_page.specs.Pieces.{block_end, break, cell_front, one, three, characters, closing, comment, emphasis}
use Rattle.markdown_page.specs.Pieces.{piece_if, indent, is_start}
use Rattle.markdown_page.specs.Pieces.{item_front, marks_text, markup, none, number_pieces, opening, other_pieces}
use Rattle.markdown_page.specs.Pieces.{paragraph_end}
use Rattle.markdown_page.specs.Pieces.{paragraph_front, piece_tokens, pieces_tokens, row_end, delimiter_row_text}
use Rattle.markdown_page.specs.Pages.{Events, State, behind_event, character_tokens, closing_tokens, event_context, event_tokens}
use Rattle.markdown_page.specs.Pages.{fresh, glyph_shown, glyph_tokens, half_tokens, page_text, page_tokens}
use Rattle.markdown_page.specs.Pages.{start_state, state_behind}
use Rattle.markdown_page.specs.Pages.{text_tokens, tokens_behind, tokens_from, turn_pieces, turn_tokens, turned_context}
use Rattle.markdown_page.specs.Pages.{unit_tokens}
use Rattle.markdown_page.specs.Pages.{without_half}
use Rattle.markdown_page.specs.Lengths.{destination_bytes, url_bytes}
use Rattle.markdown_page.specs.Shape.{Places, all_shaped}
use Rattle.markdown_page.proofs.PutLemmas.{state_of-append, tokens_of-append}

-- ---- tokens

-- the most bytes of a token, wherever it is
abbrev pub token_size : Token → ℕ
token_size (Character code) = 5
token_size (Markup code) = size (code ∷ [])
token_size (Tag inner) = size inner + 2
token_size (Destination url) = size (destination_text url) + 2

abbrev pub tokens_size : List Token → ℕ
tokens_size tokens = total token_size tokens

abbrev IsShortIn : Option (List ℕ) → Type 0
IsShortIn None = ⊤
IsShortIn (Some text) = size text ≤ 5

either_short : (test : Bool) (one other : Option (List ℕ)) → IsShortIn one → IsShortIn other → IsShortIn (if test then one
    else other)
either_short true one other a b = a
either_short false one other a b = b

start_short : (line : LineState) (code : ℕ) → IsShortIn (start_reference line code)
unfolding encode_utf8
start_short Start code =
    either_size 5 (code == 32) (codes "&#32;") (codes "&#9;") (closed_size (codes "&#32;") 5 refl) (closed_size (codes
    "&#9;") 5 refl)
start_short Digits code = tt
start_short Within code = tt
start_short Bracket code = tt
start_short Colon code = tt

reference_short : (line : LineState) (code : ℕ) → IsShortIn (reference line code)
unfolding encode_utf8
reference_short line code =
    either_short (is_among (10 ∷ 13 ∷ []) code) (Some (break_reference code)) (if is_among (9 ∷ 32 ∷ []) code then
    start_reference line code else None)
    (either_size 5 (code == 10) (codes "&#10;") (codes "&#13;") (closed_size (codes "&#10;") 5 refl) (closed_size (codes
    "&#13;") 5 refl))
    (either_short (is_among (9 ∷ 32 ∷ []) code) (start_reference line code) None (start_short line code) tt)

escaped_few : (found : Option (List ℕ)) (special : Bool) (code : ℕ) → IsShortIn found → size (escaped_by found special code)
    ≤ 5
unfolding encode_utf8
escaped_few (Some text) special code short = short
escaped_few None true code short =
    let front : List ℕ = 92 ∷ [] in
    let one : size front ≡ 1 = refl in
    omega (arith, one, size-one code, size-append front (code ∷ []))
escaped_few None false code short = omega (arith, size-one code)

token_few : (line : LineState) (token : Token) → size (printed_token line token) ≤ token_size token
unfolding encode_utf8
token_few line (Character code) =
    escaped_few (reference line code) (is_special line code) code (reference_short line code)
token_few line (Markup code) = omega arith
token_few line (Tag inner) =
    let front : List ℕ = 60 ∷ [] in
    let back : List ℕ = 62 ∷ [] in
    let one : size front ≡ 1 = refl in
    let other : size back ≡ 1 = refl in
    let long : size (front ++ (inner ++ back)) ≤ size inner + 2 =
    omega (arith, one, other, size-append front (inner ++ back), size-append inner back) in
    long
token_few line (Destination url) =
    let front : List ℕ = 40 ∷ [] in
    let back : List ℕ = 41 ∷ [] in
    let one : size front ≡ 1 = refl in
    let other : size back ≡ 1 = refl in
    let inner = destination_text url in
    let long : size (front ++ (inner ++ back)) ≤ size inner + 2 =
    omega (arith, one, other, size-append front (inner ++ back), size-append inner back) in
    long

printed_size : (line : LineState) (tokens : List Token) → size (printed_from line tokens) ≤ tokens_size tokens
printed_size line [] = omega arith
printed_size line (token ∷ tokens) =
    let one = printed_token line token in
    let rest = printed_from (after_token line token) tokens in
    let long : size (one ++ rest) ≤ token_size token + tokens_size tokens =
    omega (arith, token_few line token, printed_size (after_token line token) tokens, size-append one rest) in
    long

-- ---- pieces

markup_size : (text : List ℕ) → tokens_size (markup text) ≡ size text
markup_size [] = refl
markup_size (code ∷ text) =
    let parts : size ((code ∷ []) ++ text) ≡ size (code ∷ []) + size text = size-append (code ∷ []) text in
    let long : size (code ∷ []) + tokens_size (markup text) ≡ size (code ∷ text) =
    omega (arith, parts, markup_size text) in
    long

levels_size : (count : ℕ) → size (marks_text mark.Level count) ≡ 2 * count
unfolding encode_utf8
levels_size zero = refl
levels_size (suc count) =
    let own : size (mark_text mark.Level) ≡ 2 = refl in
    let long : size (marks_text mark.Level count ++ mark_text mark.Level) ≡ 2 * suc count =
    omega (arith, own, levels_size count, size-append (marks_text mark.Level count) (mark_text mark.Level)) in
    long

columns_size : (count : ℕ) → size (marks_text mark.RuleColumn count) ≡ 6 * count
unfolding encode_utf8
columns_size zero = refl
columns_size (suc count) =
    let own : size (mark_text mark.RuleColumn) ≡ 6 = refl in
    let long : size (marks_text mark.RuleColumn count ++ mark_text mark.RuleColumn) ≡ 6 * suc count =
    omega (arith, own, columns_size count, size-append (marks_text mark.RuleColumn count) (mark_text mark.RuleColumn)) in
    long

abbrev piece_size : Piece → ℕ
piece_size piece = tokens_size (piece_tokens piece)

abbrev pieces_size : Pieces → ℕ
pieces_size pieces = piece_size pieces.first + (piece_size pieces.second + piece_size pieces.third)

pieces_few : (pieces : Pieces) → tokens_size (pieces_tokens pieces) ≡ pieces_size pieces
pieces_few pieces =
    omega (
      arith,
      total-append token_size (piece_tokens pieces.first) (piece_tokens pieces.second ++ piece_tokens pieces.third),
      total-append token_size (piece_tokens pieces.second) (piece_tokens pieces.third),
    )

either_piece : (bound : ℕ) (test : Bool) (one other : Piece) → piece_size one ≤ bound → piece_size other ≤ bound →
    piece_size (if test then one else other) ≤ bound
either_piece bound true one other a b = a
either_piece bound false one other a b = b

nothing_size : piece_size Nothing ≡ 0
nothing_size = refl

given_size : (bound : ℕ) (test : Bool) (piece : Piece) → piece_size piece ≤ bound → piece_size (piece_if test piece) ≤
    bound
given_size bound test piece few = either_piece bound test piece Nothing few (omega arith)

-- a mark of at most so many bytes
write_size : (one : Mark) (bound : ℕ) → nat_le (size (mark_text one)) bound ≡ true → piece_size (Write one) ≤ bound
write_size one bound is = omega (arith, markup_size (mark_text one), closed_size (mark_text one) bound is)

insert_size : (piece : Piece) (bound : ℕ) → nat_le (piece_size piece) bound ≡ true → piece_size piece ≤ bound
insert_size piece bound is = leb-true (piece_size piece) bound is

indent_size : (context : Context) → piece_size (indent context) ≤ 4
unfolding encode_utf8
indent_size context =
    given_size 4 context.in_note (piece_if (not context.begun) (Write mark.Indent)) (given_size 4 (not context.begun)
    (Write
    mark.Indent) (write_size mark.Indent 4 refl))

-- the counts of a context are bounded
pub record IsLow (context : Context) : Type 0 where
  pub levels : context.levels ≤ 255
  pub cells : context.cells ≤ 255

comment_size : (seam : Seam) → piece_size (comment seam) ≤ 8
unfolding encode_utf8
comment_size Other = omega arith
comment_size Word = insert_size (Insert tag.Comment) 8 refl
comment_size Closed = insert_size (Insert tag.Comment) 8 refl

heading_size : (level : ℕ) → piece_size (Write (heading_mark level)) ≤ 7
unfolding encode_utf8
heading_size level =
    either (level == 1) mark.Heading1 (if level == 2 then mark.Heading2 else if level == 3 then mark.Heading3 else if level
    == 4 then mark.Heading4 else if level == 5 then mark.Heading5 else mark.Heading6) (write_size mark.Heading1 7 refl)
    (either (level == 2) mark.Heading2 (if level == 3 then mark.Heading3 else if level == 4 then mark.Heading4 else if level
    == 5 then mark.Heading5 else mark.Heading6) (write_size mark.Heading2 7 refl)
    (either (level == 3) mark.Heading3 (if level == 4 then mark.Heading4 else if level == 5 then mark.Heading5 else
    mark.Heading6) (write_size mark.Heading3 7 refl)
    (either (level == 4) mark.Heading4 (if level == 5 then mark.Heading5 else mark.Heading6) (write_size mark.Heading4 7
    refl)
    (either (level == 5) mark.Heading5 mark.Heading6 (write_size mark.Heading5 7 refl) (write_size mark.Heading6 7 refl)))))
  where
    either : (test : Bool) (one other : Mark) → piece_size (Write one) ≤ 7 → piece_size (Write other) ≤ 7 → piece_size (Write
        (if test then one else other)) ≤ 7
    either true one other a b = a
    either false one other a b = b

-- ---- what is opened and closed

-- the most bytes where an element is opened, and where it is closed
abbrev pub open_most : Element → ℕ
open_most (Note number) = size (decimal number) + 5
open_most (Item number) = 516
open_most element = 16

abbrev pub close_most : Element → ℕ
close_most (Row first) = 1539
close_most (Reference number) = size (decimal number) + 3
close_most element = 9

numbered_size : (number bound : ℕ) (last : Mark) → nat_le (size (mark_text last)) bound ≡ true → pieces_size
    (number_pieces
    number last) ≤ size (decimal number) + (2 + bound)
unfolding encode_utf8
numbered_size number bound last is =
    omega (arith, write_size mark.NoteFront 2 refl, write_size last bound is, markup_size (decimal number))

emphasis_size : (context : Context) (own : Mark) → nat_le (size (mark_text own)) 2 ≡ true → pieces_size (emphasis context
    own) ≤ 16
emphasis_size context own is = omega (arith, comment_size context.seam, write_size own 2 is, nothing_size)

cell_size : (context : Context) → piece_size (cell_front context) ≤ 5
unfolding encode_utf8
cell_size context =
    either_piece 5 (context.cells == 0) (Write mark.FirstCell) (if nat_lt context.cells (column_limit context) then Write
    mark.NextCell else Insert tag.LineBreak) (write_size mark.FirstCell 5 refl)
    (either_piece 5 (nat_lt context.cells (column_limit context)) (Write mark.NextCell) (Insert tag.LineBreak) (write_size
    mark.NextCell 5 refl) (insert_size (Insert tag.LineBreak) 5 refl))

front_size : (cell : CellLine) (context : Context) (level : ℕ) → pieces_size (paragraph_front cell context level) ≤ 16
unfolding encode_utf8
front_size Outside context level =
    omega (
      arith,
      nothing_size,
      indent_size context,
      given_size 7 (not (level == 0)) (Write (heading_mark level)) (heading_size level),
    )
front_size First context level = omega arith
front_size Next context level = omega (arith, nothing_size, insert_size (Insert tag.LineBreak) 5 refl)

item_size : (context : Context) → IsLow context → pieces_size (item_front context) ≤ 516
unfolding encode_utf8
item_size context low =
    omega (
      arith,
      indent_size context,
      given_size 510 (not context.begun) (Levels context.levels) (omega (
        arith,
        markup_size (marks_text mark.Level context.levels),
        levels_size context.levels,
        low.levels,
      )),
      write_size mark.Item 2 refl,
    )

one_size : (piece : Piece) (bound : ℕ) → piece_size piece ≤ bound → piece_size piece + (piece_size Nothing + piece_size
    Nothing) ≤ bound
one_size piece bound few = omega (arith, few, nothing_size)

open_few : (context : Context) → IsLow context → (e : Element) → pieces_size (opening context e) ≤ open_most e
unfolding encode_utf8
open_few context low Notes = omega arith
open_few context low (Note number) = omega (arith, numbered_size number 3 mark.NoteEnd refl)
open_few context low (Table first) = omega arith
open_few context low TableHead = omega arith
open_few context low TableBody = omega arith
open_few context low (Row first) = one_size (indent context) 16 (omega (arith, indent_size context))
open_few context low (Cell cell) = one_size (cell_front context) 16 (omega (arith, cell_size context))
open_few context low (HeadCell cell) = one_size (cell_front context) 16 (omega (arith, cell_size context))
open_few context low (AList list) = omega arith
open_few context low (Item number) = item_size context low
open_few context low (Paragraph paragraph) = front_size context.cell context paragraph.level
open_few context low Label = omega arith
open_few context low (Reference number) = omega arith
open_few context low (BackLink number) = omega arith
open_few context low Bold = emphasis_size context mark.Strong refl
open_few context low Italic = emphasis_size context mark.Emphasis refl
open_few context low Underline = one_size (Insert tag.Underline) 16 (insert_size (Insert tag.Underline) 16 refl)
open_few context low Strike = emphasis_size context mark.Strike refl
open_few context low SmallCaps = omega arith
open_few context low Caps = omega arith
open_few context low Raised = one_size (Insert tag.Raised) 16 (insert_size (Insert tag.Raised) 16 refl)
open_few context low Lowered = one_size (Insert tag.Lowered) 16 (insert_size (Insert tag.Lowered) 16 refl)
open_few context low (Link link) = omega arith
open_few context low (Anchor number) = omega arith
open_few context low (NestedTable first) = omega arith
open_few context low (NestedRow first) = omega arith
open_few context low (NestedCell number) = omega arith

either_pieces : (bound : ℕ) (test : Bool) (one other : Pieces) → pieces_size one ≤ bound → pieces_size other ≤ bound →
    pieces_size (if test then one else other) ≤ bound
either_pieces bound true one other a b = a
either_pieces bound false one other a b = b

row_size : (context : Context) → IsLow context → pieces_size (row_end context) ≤ 1539
unfolding encode_utf8
row_size context low =
    let rule = Rule context.cells in
    let front : size (mark_text mark.RuleFront) ≡ 1 = refl in
    let back : size (mark_text mark.LineEnd) ≡ 1 = refl in
    let columns = marks_text mark.RuleColumn context.cells in
    let line : piece_size rule ≤ 1532 =
    omega (
      arith,
      front,
      back,
      low.cells,
      markup_size (delimiter_row_text context.cells),
      columns_size context.cells,
      size-append (mark_text mark.RuleFront) (columns ++ mark_text mark.LineEnd),
      size-append columns (mark_text mark.LineEnd),
    ) in
    either_pieces 1539 (context.columns == 0) (three (Write mark.RowEnd) (piece_if context.in_note (Write mark.Indent))
    rule)
    (one (Write mark.RowEnd))
    (omega (
      arith,
      line,
      write_size mark.RowEnd 3 refl,
      given_size 4 context.in_note (Write mark.Indent) (write_size mark.Indent 4 refl),
    ))
    (one_size (Write mark.RowEnd) 1539 (write_size mark.RowEnd 1539 refl))

block_size : (begun : Bool) → pieces_size (block_end begun) ≤ 9
unfolding encode_utf8
block_size begun =
    one_size (piece_if begun (Write mark.BlockEnd)) 9 (given_size 9 begun (Write mark.BlockEnd) (write_size
    mark.BlockEnd 9
    refl))

end_size : (cell : CellLine) (line : LineState) (context : Context) → pieces_size (paragraph_end cell line context) ≤ 9
unfolding encode_utf8
end_size Outside line context =
    omega (
      arith,
      nothing_size,
      given_size 5 (context.begun && is_start line) Space (insert_size Space 5 refl),
      given_size 2 ((context.begun || context.in_note) || not (is_start line)) (Write mark.BlockEnd) (write_size
          mark.BlockEnd 2 refl),
    )
end_size First line context = omega arith
end_size Next line context = omega arith

close_few : (line : LineState) (context : Context) → IsLow context → (e : Element) → pieces_size (closing line context e) ≤
    close_most e
unfolding encode_utf8
close_few line context low Notes = omega arith
close_few line context low (Note number) = block_size context.begun
close_few line context low (Table first) = one_size (Write mark.LineEnd) 9 (write_size mark.LineEnd 9 refl)
close_few line context low TableHead = omega arith
close_few line context low TableBody = omega arith
close_few line context low (Row first) = row_size context low
close_few line context low (Cell cell) = omega arith
close_few line context low (HeadCell cell) = omega arith
close_few line context low (AList list) = omega arith
close_few line context low (Item number) = block_size context.begun
close_few line context low (Paragraph paragraph) = end_size context.cell line context
close_few line context low Label = omega arith
close_few line context low (Reference number) = omega (arith, numbered_size number 1 mark.ReferenceEnd refl)
close_few line context low (BackLink number) = omega arith
close_few line context low Bold = one_size (Write mark.Strong) 9 (write_size mark.Strong 9 refl)
close_few line context low Italic = one_size (Write mark.Emphasis) 9 (write_size mark.Emphasis 9 refl)
close_few line context low Underline = one_size (Insert tag.UnderlineEnd) 9 (insert_size (Insert tag.UnderlineEnd) 9 refl)
close_few line context low Strike = one_size (Write mark.Strike) 9 (write_size mark.Strike 9 refl)
close_few line context low SmallCaps = omega arith
close_few line context low Caps = omega arith
close_few line context low Raised = one_size (Insert tag.RaisedEnd) 9 (insert_size (Insert tag.RaisedEnd) 9 refl)
close_few line context low Lowered = one_size (Insert tag.LoweredEnd) 9 (insert_size (Insert tag.LoweredEnd) 9 refl)
close_few line context low (Link link) = omega arith
close_few line context low (Anchor number) = omega arith
close_few line context low (NestedTable first) = omega arith
close_few line context low (NestedRow first) = omega arith
close_few line context low (NestedCell number) = omega arith

-- ---- the counts stay bounded

low_cells : (cells : ℕ) → cells ≤ 255 → more_cells cells ≤ 255
low_cells cells low =
    elim (nat_lt cells 255) as (λ (b : Bool). nat_lt cells 255 ≡ b → (if b then cells + 1 else cells) ≤ 255) [
      | true ↦ λ is. omega (arith, ltb-true cells 255 is)
      | false ↦ λ is. low
    ] refl

low_levels : (levels : ℕ) → levels ≤ 255 → more_levels levels ≤ 255
low_levels levels low =
    elim (nat_lt levels 255) as (λ (b : Bool). nat_lt levels 255 ≡ b → (if b then levels + 1 else levels) ≤ 255) [
      | true ↦ λ is. omega (arith, ltb-true levels 255 is)
      | false ↦ λ is. low
    ] refl

-- behind a context nothing more waits, and the counts stay bounded
record Follows (before after : Context) : Type 0 where
  pub half : after.half ≡ before.half
  pub low : IsLow before → IsLow after

kept : (before after : Context) → after.half ≡ before.half → after.levels ≡ before.levels → after.cells ≡ before.cells →
    Follows before after
kept before after half levels cells = record {
  half = half;
  low = λ low. record { levels = omega (arith, levels, low.levels); cells = omega (arith, cells, low.cells) };
}

opened_follows : (context : Context) (e : Element) → Follows context (opened context e)
opened_follows context Notes = kept context (opened context Notes) refl refl refl
opened_follows context (Note number) = kept context (opened context (Note number)) refl refl refl
opened_follows context (Table first) = kept context (opened context (Table first)) refl refl refl
opened_follows context TableHead = kept context (opened context TableHead) refl refl refl
opened_follows context TableBody = kept context (opened context TableBody) refl refl refl
opened_follows context (Row first) = record {
  half = refl;
  low = λ low. record { levels = low.levels; cells = omega arith };
}
opened_follows context (Cell cell) = record {
  half = refl;
  low = λ low. record { levels = low.levels; cells = low_cells context.cells low.cells };
}
opened_follows context (HeadCell cell) = record {
  half = refl;
  low = λ low. record { levels = low.levels; cells = low_cells context.cells low.cells };
}
opened_follows context (AList list) = kept context (opened context (AList list)) refl refl refl
opened_follows context (Item number) = record {
  half = refl;
  low = λ low. record { levels = low_levels context.levels low.levels; cells = low.cells };
}
opened_follows context (Paragraph paragraph) = kept context (opened context (Paragraph paragraph)) refl refl refl
opened_follows context Label = kept context (opened context Label) refl refl refl
opened_follows context (Reference number) = kept context (opened context (Reference number)) refl refl refl
opened_follows context (BackLink number) = kept context (opened context (BackLink number)) refl refl refl
opened_follows context Bold = kept context (opened context Bold) refl refl refl
opened_follows context Italic = kept context (opened context Italic) refl refl refl
opened_follows context Underline = kept context (opened context Underline) refl refl refl
opened_follows context Strike = kept context (opened context Strike) refl refl refl
opened_follows context SmallCaps = kept context (opened context SmallCaps) refl refl refl
opened_follows context Caps = kept context (opened context Caps) refl refl refl
opened_follows context Raised = kept context (opened context Raised) refl refl refl
opened_follows context Lowered = kept context (opened context Lowered) refl refl refl
opened_follows context (Link link) = kept context context refl refl refl
opened_follows context (Anchor number) = kept context context refl refl refl
opened_follows context (NestedTable first) = kept context (opened context (NestedTable first)) refl refl refl
opened_follows context (NestedRow first) = kept context (opened context (NestedRow first)) refl refl refl
opened_follows context (NestedCell number) = kept context (opened context (NestedCell number)) refl refl refl

paragraph_follows : (cell : CellLine) (context : Context) → Follows context (paragraph_closed_in cell context)
paragraph_follows Outside context = kept context (paragraph_closed_in Outside context) refl refl refl
paragraph_follows First context = kept context (paragraph_closed_in First context) refl refl refl
paragraph_follows Next context = kept context (paragraph_closed_in Next context) refl refl refl

closed_follows : (context : Context) (e : Element) → Follows context (closed context e)
closed_follows context Notes = kept context (closed context Notes) refl refl refl
closed_follows context (Note number) = kept context (closed context (Note number)) refl refl refl
closed_follows context (Table first) = kept context (closed context (Table first)) refl refl refl
closed_follows context TableHead = kept context (closed context TableHead) refl refl refl
closed_follows context TableBody = kept context (closed context TableBody) refl refl refl
closed_follows context (Row first) = kept context (closed context (Row first)) refl refl refl
closed_follows context (Cell cell) = kept context (closed context (Cell cell)) refl refl refl
closed_follows context (HeadCell cell) = kept context (closed context (HeadCell cell)) refl refl refl
closed_follows context (AList list) = kept context (closed context (AList list)) refl refl refl
closed_follows context (Item number) = record {
  half = refl;
  low = λ low. record { levels = omega (arith, low.levels); cells = low.cells };
}
closed_follows context (Paragraph paragraph) = paragraph_follows context.cell context
closed_follows context Label = kept context (closed context Label) refl refl refl
closed_follows context (Reference number) = kept context (closed context (Reference number)) refl refl refl
closed_follows context (BackLink number) = kept context (closed context (BackLink number)) refl refl refl
closed_follows context Bold = kept context (closed context Bold) refl refl refl
closed_follows context Italic = kept context (closed context Italic) refl refl refl
closed_follows context Underline = kept context (closed context Underline) refl refl refl
closed_follows context Strike = kept context (closed context Strike) refl refl refl
closed_follows context SmallCaps = kept context (closed context SmallCaps) refl refl refl
closed_follows context Caps = kept context (closed context Caps) refl refl refl
closed_follows context Raised = kept context (closed context Raised) refl refl refl
closed_follows context Lowered = kept context (closed context Lowered) refl refl refl
closed_follows context (Link link) = kept context context refl refl refl
closed_follows context (Anchor number) = kept context context refl refl refl
closed_follows context (NestedTable first) = kept context (closed context (NestedTable first)) refl refl refl
closed_follows context (NestedRow first) = kept context (closed context (NestedRow first)) refl refl refl
closed_follows context (NestedCell number) = kept context (closed context (NestedCell number)) refl refl refl

-- ---- characters

character_size : (seam : Seam) (code : ℕ) → tokens_size (character_tokens seam code) ≤ 13
unfolding encode_utf8
character_size seam code =
    let front = piece_tokens (piece_if (is_parted seam code) (Insert tag.Comment)) in
    let one : tokens_size (Character code ∷ []) ≡ 5 = refl in
    omega (
      arith,
      one,
      given_size 8 (is_parted seam code) (Insert tag.Comment) (insert_size (Insert tag.Comment) 8 refl),
      total-append token_size front (Character code ∷ []),
    )

text_size : (seam : Seam) (text : List ℕ) → tokens_size (text_tokens seam text) ≤ 13 * length text
text_size seam [] = omega arith
text_size seam (code ∷ text) =
    let one = character_tokens seam code in
    let rest = text_tokens (character_seam code) text in
    let long : tokens_size (one ++ rest) ≤ 13 * suc (length text) =
    omega (
      arith,
      character_size seam code,
      text_size (character_seam code) text,
      total-append token_size one rest,
    ) in
    long

half_length : (half : Option ℕ) → length (half_text half) ≡ waiting half
half_length None = refl
half_length (Some unit) = refl

half_size : (context : Context) → tokens_size (half_tokens context) ≤ 13 * waiting context.half
half_size context = omega (arith, text_size context.seam (half_text context.half), half_length context.half)

-- ---- events

abbrev close_size : Document → Element → ℕ
close_size document e = close_most e + (3 + destination_bytes document e)

abbrev open_size : Element → ℕ
open_size e = open_most e + 1

-- both for an element
abbrev pub marks_size : Document → Element → ℕ
marks_size document e = open_size e + close_size document e

-- the most bytes of a glyph
abbrev pub show_most : Glyph → ℕ
show_most (Unit unit) = 13
show_most Tab = 13
show_most LineBreak = 13
show_most PageBreak = 45
show_most (NoteMark number) = 45
show_most (APicture place) = 45
show_most AnObject = 45

abbrev cost_of : Document → Event Element Glyph → ℕ
cost_of document event = event_cost open_size (close_size document) show_most event

behind_size : (state : State) (pieces : LineState → Context → Pieces) (bound : ℕ) → ((line : LineState) → pieces_size (pieces
    line (without_half state.context)) ≤ bound) → tokens_size (tokens_behind state pieces) ≤ 13 * waiting
    state.context.half + bound
behind_size state pieces bound few =
    let half = half_tokens state.context in
    let here = pieces (after_tokens state.line half) (without_half state.context) in
    omega (
      arith,
      half_size state.context,
      few (after_tokens state.line half),
      pieces_few here,
      total-append token_size half (pieces_tokens here),
    )

link_front : (url : Option (List ℕ)) → tokens_size (link_front_tokens url) ≤ 1
unfolding encode_utf8
link_front None = omega arith
link_front (Some url) =
    let one : tokens_size (Markup 91 ∷ []) ≡ 1 = refl in
    omega (arith, one)

link_end : (url : Option (List ℕ)) → tokens_size (link_end_tokens url) ≤ 3 + url_bytes url
unfolding encode_utf8
link_end None = omega arith
link_end (Some url) =
    let one : size (93 ∷ []) ≡ 1 = refl in
    let long : size (93 ∷ []) + ((size (destination_text url) + 2) + 0) ≤ 3 + size (destination_text url) =
    omega (arith, one) in
    long

without_low : (context : Context) → IsLow context → IsLow (without_half context)
without_low context low = record { levels = low.levels; cells = low.cells }

turn_size : (state : State) → IsLow state.context → (turn : PathTag Element) → tokens_size (turn_tokens state turn) ≤ 13 *
    waiting state.context.half + cost_of state.document (Turn turn)
turn_size state low (Open path e) =
    let pieces = turn_pieces (Open path e) in
    let link = link_tokens state.document (Open path e) in
    omega (
      arith,
      behind_size state pieces (open_most e) (λ line. open_few (without_half state.context) (without_low state.context low) e),
      link_front (address_at state.document e),
      total-append token_size (tokens_behind state pieces) link,
    )
turn_size state low (Close path e) =
    let pieces = turn_pieces (Close path e) in
    let link = link_tokens state.document (Close path e) in
    omega (
      arith,
      behind_size state pieces (close_most e) (λ line. close_few line (without_half state.context) (without_low state.context
          low) e),
      link_end (address_at state.document e),
      total-append token_size (tokens_behind state pieces) link,
    )

break_size : (line : LineState) → pieces_size (break line) ≤ 13
unfolding encode_utf8
break_size line =
    omega (
      arith,
      nothing_size,
      given_size 5 (is_start line) Space (insert_size Space 5 refl),
      insert_size (Insert tag.LineBreak) 4 refl,
    )

other_size : (line : LineState) (glyph : Glyph) → pieces_size (other_pieces line glyph) ≤ show_most glyph
unfolding encode_utf8
other_size line (Unit unit) = omega arith
other_size line Tab = one_size ATab 13 (insert_size ATab 13 refl)
other_size line LineBreak = break_size line
other_size line PageBreak = omega (arith, break_size line)
other_size line (NoteMark number) = omega arith
other_size line (APicture place) = one_size Picture 45 (insert_size Picture 45 refl)
other_size line AnObject = one_size Object 45 (insert_size Object 45 refl)

other_glyph : (state : State) (glyph : Glyph) → tokens_size (glyph_tokens state None glyph) ≤ 13 * waiting state.context.half
    + show_most glyph
other_glyph state glyph =
    behind_size state (λ line context. other_pieces line glyph) (show_most glyph) (λ line. other_size line glyph)

unit_size : (context : Context) (unit : ℕ) → tokens_size (unit_tokens context unit) + 13 * waiting (unit_half context.half
    unit) ≤ 13 * waiting context.half + 13
unit_size context unit =
    omega (
      arith,
      text_size context.seam (unit_text context.half unit),
      unit_length context.half unit,
    )

-- an event, and what waits behind it
event_size : (state : State) → IsLow state.context → (event : Event Element Glyph) → tokens_size (event_tokens state event) +
    13 * waiting (event_context state.context event).half ≤ 13 * waiting state.context.half + cost_of state.document event
event_size state low (Turn (Open path e)) =
    let none : waiting (without_half state.context).half ≡ 0 = refl in
    omega (
      arith,
      none,
      turn_size state low (Open path e),
      ap waiting (opened_follows (without_half state.context) e).half,
    )
event_size state low (Turn (Close path e)) =
    let none : waiting (without_half state.context).half ≡ 0 = refl in
    omega (
      arith,
      none,
      turn_size state low (Close path e),
      ap waiting (closed_follows (without_half state.context) e).half,
    )
event_size state low (Leaf path (Unit unit)) = unit_size state.context unit
event_size state low (Leaf path Tab) = omega (arith, other_glyph state Tab)
event_size state low (Leaf path LineBreak) = omega (arith, other_glyph state LineBreak)
event_size state low (Leaf path PageBreak) = omega (arith, other_glyph state PageBreak)
event_size state low (Leaf path (NoteMark number)) = omega (arith, other_glyph state (NoteMark number))
event_size state low (Leaf path (APicture place)) = omega (arith, other_glyph state (APicture place))
event_size state low (Leaf path AnObject) = omega (arith, other_glyph state AnObject)

shown_low : (context : Context) → IsLow context → (found : Option ℕ) → IsLow (glyph_shown context found)
shown_low context low None = record { levels = low.levels; cells = low.cells }
shown_low context low (Some unit) = record { levels = low.levels; cells = low.cells }

event_low : (context : Context) → IsLow context → (event : Event Element Glyph) → IsLow (event_context context event)
event_low context low (Turn (Open path e)) =
    (opened_follows (without_half context) e).low (without_low context low)
event_low context low (Turn (Close path e)) =
    (closed_follows (without_half context) e).low (without_low context low)
event_low context low (Leaf path glyph) = shown_low context low (unit_in glyph)

events_size : (state : State) → IsLow state.context → (events : Events) → tokens_size (tokens_from state events) + 13 *
    waiting
    (state_behind state events).context.half ≤ 13 * waiting state.context.half + total (cost_of state.document) events
unfolding tokens_from state_behind
events_size state low [] = omega arith
events_size state low (event ∷ events) =
    let one = event_tokens state event in
    let rest = tokens_from (behind_event state event) events in
    let long : tokens_size (one ++ rest) + 13 * waiting (state_behind (behind_event state event) events).context.half ≤
    13 *
    waiting state.context.half + (cost_of state.document event + total (cost_of state.document) events) =
    omega (
      arith,
      event_size state low event,
      events_size (behind_event state event) (event_low state.context low event) events,
      total-append token_size one rest,
    ) in
    long

-- ---- a page

-- what the places of a page open, and what they show
pub page_size : (document : Document) (places : Places) → size (page_text document places) ≤ total (marks_size document)
    (opened_from same [] (all_shaped places)) + shown_cost show_most (all_shaped places)
page_size document places =
    let shaped = all_shaped places in
    let events : Events = events_up_to same [] shaped in
    let last : Events = turns same (last_path [] shaped) [] in
    let state = start_state document in
    let low : IsLow state.context = record { levels = omega arith; cells = omega arith } in
    let tokens = tokens_from state events in
    let between = state_behind state events in
    let closing = tokens_from between last in
    let half = half_tokens (state_behind between last).context in
    let whole : shaped ++ [] ≡ shaped = append-nil shaped in
    let all : events_from same [] shaped ≡ events ++ last =
    ap (λ (xs : Places). events_from same [] xs) (sym whole) ∙ events_from-append same [] shaped [] in
    let none : total (close_size document) [] ≡ 0 = refl in
    let fresh_half : waiting state.context.half ≡ 0 = refl in
    omega (
      arith,
      none,
      fresh_half,
      printed_size Start (page_tokens document places),
      total-append token_size tokens (closing ++ half),
      total-append token_size closing half,
      half_size (state_behind between last).context,
      events_size state low (events ++ last),
      ap tokens_size (tokens_of-append state events last),
      total-append token_size tokens closing,
      ap (λ (s : State). waiting s.context.half) (state_of-append state events last),
      ap (total (cost_of document)) all,
      events_cost same same_exact open_size (close_size document) show_most [] shaped,
    )

-- both for an element with small numbers, but for the destination of a link
pub small_marks : (document : Document) (e : Element) → IsSmall e → marks_size document e ≤ (29 + 518 * heavy e) +
    destination_bytes document e
small_marks document Notes small = omega arith
small_marks document (Note number) small = omega (arith, six_digits number small)
small_marks document (Table first) small = omega arith
small_marks document TableHead small = omega arith
small_marks document TableBody small = omega arith
small_marks document (Row first) small = omega arith
small_marks document (Cell cell) small = omega arith
small_marks document (HeadCell cell) small = omega arith
small_marks document (AList list) small = omega arith
small_marks document (Item number) small = omega arith
small_marks document (Paragraph paragraph) small = omega arith
small_marks document Label small = omega arith
small_marks document (Reference number) small = omega (arith, six_digits number small)
small_marks document (BackLink number) small = omega arith
small_marks document Bold small = omega arith
small_marks document Italic small = omega arith
small_marks document Underline small = omega arith
small_marks document Strike small = omega arith
small_marks document SmallCaps small = omega arith
small_marks document Caps small = omega arith
small_marks document Raised small = omega arith
small_marks document Lowered small = omega arith
small_marks document (Link link) small = omega arith
small_marks document (Anchor number) small = absurd small
small_marks document (NestedTable first) small = omega arith
small_marks document (NestedRow first) small = omega arith
small_marks document (NestedCell number) small = omega arith
