-- One document after another.
use Rattle.std.specs.Prelude.{ℕ, ◌+◌, length}
use Rattle.doc_model.specs.declared.document.Document.{Document}
use Rattle.doc_join.specs.declared.renumbering.Renumbering.{Renumbering}
use Rattle.doc_join.specs.Numbers.{numbers_of_first, numbers_of_second}
use Rattle.doc_join.specs.Styles.{joined_sheet}
use Rattle.doc_join.specs.Texts.{joined_main, texts_of_both}
use Rattle.doc_join.specs.Bookmarks.{joined_bookmarks}

-- how the style numbers of the first document go on, and those of the second
abbrev pub first_numbers : Document → Renumbering
first_numbers first = numbers_of_first first.sheet

abbrev pub second_numbers : Document → Document → Renumbering
second_numbers first second = numbers_of_second first.sheet second.sheet

-- [MS-DOC] PlcfHdd: the first six texts are the separators of notes, of which a document has one set
abbrev pub separators : ℕ
separators = 6

-- the first document and then the second, with all that is carried unread as the first has it
abbrev pub document_join : Document → Document → Document
document_join first second =
    let first_maps = first_numbers first in
    let second_maps = second_numbers first second in
    record {
      main = joined_main first_maps first.main second_maps second.main;
      notes = texts_of_both 0 first_maps first.notes second_maps second.notes;
      heads = texts_of_both separators first_maps first.heads second_maps second.heads;
      sheet = joined_sheet first.sheet second.sheet;
      carried = first.carried;
      bookmarks = joined_bookmarks (length first.main) first.bookmarks second.bookmarks;
    }

-- the slots of both sheets
abbrev pub slots_together : Document → Document → ℕ
slots_together first second = length first.sheet.styles + length second.sheet.styles

-- [MS-DOC] Stshif: the most slots
abbrev pub most_slots : ℕ
most_slots = 4094
