-- The header texts of a page of text: behind an empty line, each that has a glyph, behind its name.
use Rattle.std.specs.Prelude.{ℕ, ◌+◌, ◌/◌, ◌%◌, ◌==◌, Bool, ◌||◌, List, [], ◌∷◌, ◌++◌, codes, if◌then◌else◌}
use Rattle.std.specs.Fmt.{decimal}
use Rattle.doc_model.specs.declared.item.Item.{Item}
use Rattle.doc_view.specs.declared.reading.Manner.{Manner}
use Rattle.doc_view.specs.Seen.{Formats, paragraphs_of}
use Rattle.doc_view.specs.Layout.{layout_of, some_here}

-- [MS-DOC] PlcfHdd: six texts of each section
abbrev pub header_kind : ℕ → List ℕ
header_kind kind =
    if kind == 0 then codes "even header" else
    if kind == 1 then codes "odd header" else
    if kind == 2 then codes "even footer" else
    if kind == 3 then codes "odd footer" else
    if kind == 4 then codes "first header" else codes "first footer"

-- the name of the header text with this number, on a line of its own; the first six are those of the separators of notes
abbrev pub header_title : ℕ → List ℕ
header_title number =
    codes "[" ++ (header_kind (number % 6) ++ (codes " of section " ++ (decimal (number / 6) ++ codes "]\n")))

-- what is before a header text: an empty line before the first one
abbrev pub header_lead : Bool → ℕ → List ℕ
header_lead begun number = (if begun then [] else 10 ∷ []) ++ header_title number

abbrev pub header_text : Formats → Manner → Bool → ℕ → List Item → List ℕ
header_text formats manner begun number text =
    layout_of (header_lead begun number) (paragraphs_of formats manner text)

-- the header texts from this number on, where some header text before them was there or none
unfoldable pub headers_from : Formats → Manner → Bool → ℕ → List (List Item) → List ℕ
headers_from formats manner begun number [] = []
headers_from formats manner begun number (text ∷ texts) =
    header_text formats manner begun number text
    ++ headers_from formats manner (begun || some_here (paragraphs_of formats manner text)) (number + 1) texts
