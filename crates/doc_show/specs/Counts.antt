-- The line that says how much an accepted document has.
use Rattle.std.specs.Prelude.{ℕ, is_some, List, ◌++◌, length, codes}
use Rattle.std.specs.List.{count_by}
use Rattle.std.specs.Fmt.{decimal}
use Rattle.style_sheet.specs.Sheet.{Sheet}
use Rattle.doc_model.specs.declared.document.Document.{Document}
use Rattle.plain_doc.specs.RulesOfSheet.{item_count, section_count}
use Rattle.doc_show.specs.declared.counts.Counts.{Counts}
use Rattle.text_codes.specs.Shown.{line}

-- the number of slots with a style
abbrev pub style_count : Sheet → ℕ
style_count sheet = count_by is_some sheet.styles

-- the items of all texts, the styles, the sections, the notes, the streams that are carried along
abbrev pub counts_of : Document → Counts
counts_of document = record {
  units = item_count document;
  styles = style_count document.sheet;
  sections = section_count document.main;
  notes = length document.notes;
  streams = length document.carried.streams;
}

abbrev pub counts_line : Counts → List ℕ
counts_line counts =
    codes "accepted: units " ++ (decimal counts.units
    ++ (codes " styles " ++ (decimal counts.styles
    ++ (codes " sections " ++ (decimal counts.sections
    ++ (codes " notes " ++ (decimal counts.notes
    ++ (codes " streams " ++ line (decimal counts.streams)))))))))

abbrev pub accepted_line_of : Document → List ℕ
accepted_line_of document = counts_line (counts_of document)
