-- [MS-DOC] PlcfandRef, PlcfendRef, PlcfSpa: CPs at which the marks of comments, of endnotes and of shapes are. A mark
-- is the character of its story at such a CP, with nothing beside it. What it refers to is left out.
use Rattle.std.specs.Prelude.{ℕ, ◌+◌, ◌==◌, Bool, false, List, [], ◌++◌, length, take, Option, Some, None, slice_get}
use Rattle.std.specs.Prelude.{option_map, if◌then◌else◌}
use Rattle.std.specs.Option.{option_and_then, unwrap_or}
use Rattle.std.specs.List.{filter_map, flat_map, list_any, sum_by}
use Rattle.doc_bits.specs.Plc.{plc_cp}
use Rattle.doc_bits.specs.declared.places.Story.{Story}
use Rattle.doc_bits.specs.declared.places.Story.TheVariants.{Main, Note, Head}
use Rattle.fib_form.specs.Fib.{table_part}
use Rattle.fib_versions.specs.declared.further.Further.{Further}
use Rattle.fib_versions.specs.declared.further.Further.TheVariants.{Comments, Endnotes, TextBoxes, HeaderTextBoxes}
use Rattle.fib_versions.specs.Versions.{further_count}
use Rattle.doc_parts.specs.Table.{plc_part}
use Rattle.doc_parts.specs.Tabulated.{tabulate}
use Rattle.doc_model.specs.declared.item.Item.{Item}
use Rattle.doc_model.specs.declared.document.Document.{Document}
use Rattle.doc_columns.specs.Attached.{attached_of, has_something}
use Rattle.text_losses.specs.declared.features.Reference.{Reference}

-- ---- where marks are said to be

-- the pair of the table of the marks of a story
abbrev pub mark_pair : Further → ℕ
mark_pair Comments = 4
mark_pair Endnotes = 46
mark_pair TextBoxes = 40
mark_pair HeaderTextBoxes = 41

-- [MS-DOC] ATRDPre10, the number of an endnote, Spa: how many bytes such a table has for a mark beside its CP
abbrev pub mark_size : Further → ℕ
mark_size Comments = 30
mark_size Endnotes = 2
mark_size TextBoxes = 26
mark_size HeaderTextBoxes = 26

-- the CPs of a table but the last one
abbrev pub table_cps : ℕ → List ℕ → List ℕ
table_cps size table = tabulate (plc_cp table) (plc_part size table).count

-- Profile: where there are no comments nothing is a mark of one
abbrev pub has_no_marks : List ℕ → Further → Bool
has_no_marks wd Comments = further_count wd Comments == 0
has_no_marks wd Endnotes = false
has_no_marks wd TextBoxes = false
has_no_marks wd HeaderTextBoxes = false

-- the CPs of the marks of a story
abbrev pub mark_cps : List ℕ → List ℕ → Further → List ℕ
mark_cps wd table story =
    if has_no_marks wd story then [] else table_cps (mark_size story) (table_part wd table (mark_pair story))

-- whether a mark of a story is said to be at a CP of the main text, or of the header texts
abbrev pub Names : Type 0
Names = Further → ℕ → Bool

abbrev pub names_of : List ℕ → List ℕ → Names
names_of wd table story cp = list_any (λ named. named == cp) (mark_cps wd table story)

-- ---- the marks of texts

-- the story whose mark a character of the main text may be; of a header text a shape's alone
abbrev pub main_mark : ℕ → Option Further
main_mark unit =
    if unit == 0x05 then Some Comments else
    if unit == 0x02 then Some Endnotes else
    if unit == 0x08 then Some TextBoxes else None

abbrev pub head_mark : ℕ → Option Further
head_mark unit = if unit == 0x08 then Some HeaderTextBoxes else None

abbrev pub mark_of_unit : Story → ℕ → Option Further
mark_of_unit Main unit = main_mark unit
mark_of_unit (Note number) unit = None
mark_of_unit (Head number) unit = head_mark unit

-- it is one where a table names it
abbrev pub where_named : Names → ℕ → Option Further → Option Further
where_named names cp None = None
where_named names cp (Some to) = if names to cp then Some to else None

-- the story whose mark an item at a CP is
abbrev pub marked_story : Names → Story → ℕ → Item → Option Further
marked_story names story cp item =
    if has_something (attached_of item) then None else where_named names cp (mark_of_unit story item.unit)

-- the same of an item of a text that begins at a CP
abbrev pub marked_story_at : Names → Story → ℕ → List Item → ℕ → Option Further
marked_story_at names story begin text at = option_and_then (marked_story names story (begin + at)) (slice_get text at)

-- the same of each item
abbrev pub text_marks : Names → Story → ℕ → List Item → List (Option Further)
text_marks names story begin text = tabulate (marked_story_at names story begin text) (length text)

-- ---- the references

abbrev pub reference_at : Story → ℕ → Option Further → Option Reference
reference_at story at mark = option_map (λ to. record { to = to; story = story; at = at }) mark

-- those of a text, by its marks
abbrev pub references_by : Story → List (Option Further) → List Reference
references_by story marks =
    filter_map (λ reference. reference)
    (tabulate (λ at. reference_at story at (unwrap_or (slice_get marks at) None)) (length marks))

abbrev pub text_references : Names → Story → ℕ → List Item → List Reference
text_references names story begin text = references_by story (text_marks names story begin text)

-- the CP of the header texts at which one of them begins
abbrev pub head_begin : List (List Item) → ℕ → ℕ
head_begin heads number = sum_by length (take number heads)

abbrev pub head_at : List (List Item) → ℕ → List Item
head_at heads number = unwrap_or (slice_get heads number) []

-- the references of a header text
abbrev pub head_references : Names → List (List Item) → ℕ → List Reference
head_references names heads number =
    text_references names (Head number) (head_begin heads number) (head_at heads number)

-- those of all header texts
abbrev pub all_head_references : Names → List (List Item) → List Reference
all_head_references names heads =
    flat_map (λ references. references) (tabulate (head_references names heads) (length heads))

-- those of a document: of the main text, and of its header texts. Notes have none
abbrev pub references : Names → Document → List Reference
references names document = text_references names Main 0 document.main ++ all_head_references names document.heads
