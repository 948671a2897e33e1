-- A command makes three changes at most.
use Rattle.std.proofs.Common.{ℕ, ◌≤◌, refl, List, length, arith}
use Rattle.std.specs.Prelude.{Bool, true, false}
use Rattle.doc_bits.specs.declared.places.Story.{Story}
use Rattle.doc_bits.specs.declared.places.Story.TheVariants.{Main, Note as NoteText, Head as HeadText}
use Rattle.prop_map.specs.Settings.{Properties}
use Rattle.doc_model.specs.declared.item.Item.{Item}
use Rattle.doc_model.specs.declared.document.Document.{Document}
use Rattle.edit_script.specs.declared.commands.Command.TheVariants.{Insert, Erase, Char, Plain, Para, Style, Field}
use Rattle.edit_script.specs.declared.commands.Command.TheVariants.{Note, Split, Merge, Sect, Row, StyleChar}
use Rattle.edit_script.specs.declared.commands.Command.TheVariants.{StylePara, Bookmark, Unmark, Save}
use Rattle.edit_ops.specs.Edits.{erased, section_changes}
use Rattle.edit_ops.specs.Laws.{ChangesAreFew, FormattingMovesNoItems}

few_erased : (document : Document) (story : Story) (from to : ℕ) → length (erased document story from to) ≤ 3
few_erased document Main from to = omega arith
few_erased document (NoteText number) from to = omega arith
few_erased document (HeadText number) from to = omega arith

few_of_section : (main : List Item) (at : ℕ) (new : Bool) (set : Properties) → length (section_changes main at new set)
    ≤ 3
few_of_section main at false set = omega arith
few_of_section main at true set = omega arith

pub few_changes : ChangesAreFew
few_changes document (Insert story at text) = omega arith
few_changes document (Erase story from to) = few_erased document story from to
few_changes document (Char story from to set) = omega arith
few_changes document (Plain story from to) = omega arith
few_changes document (Para story at set) = omega arith
few_changes document (Style story at istd) = omega arith
few_changes document (Field story at type code result) = omega arith
few_changes document (Note at text) = omega arith
few_changes document (Split story at) = omega arith
few_changes document (Merge story at) = few_erased document story _ _
few_changes document (Sect at new set) = few_of_section document.main at new set
few_changes document (Row story at width cells) = omega arith
few_changes document (StyleChar istd set) = omega arith
few_changes document (StylePara istd set) = omega arith
few_changes document (Bookmark name from to) = omega arith
few_changes document (Unmark name) = omega arith
few_changes document (Save full) = omega arith

-- commands that move no items say so
pub formatting_moves : FormattingMovesNoItems
formatting_moves document (Insert story at text) is = absurd is
formatting_moves document (Erase story from to) is = absurd is
formatting_moves document (Char story from to set) is = record { added = refl; removed = refl }
formatting_moves document (Plain story from to) is = record { added = refl; removed = refl }
formatting_moves document (Para story at set) is = record { added = refl; removed = refl }
formatting_moves document (Style story at istd) is = record { added = refl; removed = refl }
formatting_moves document (Field story at type code shown) is = absurd is
formatting_moves document (Note at text) is = absurd is
formatting_moves document (Split story at) is = absurd is
formatting_moves document (Merge story at) is = absurd is
formatting_moves document (Sect at new set) is = absurd is
formatting_moves document (Row story at width cells) is = absurd is
formatting_moves document (StyleChar istd set) is = record { added = refl; removed = refl }
formatting_moves document (StylePara istd set) is = record { added = refl; removed = refl }
formatting_moves document (Bookmark name from to) is = absurd is
formatting_moves document (Unmark name) is = absurd is
formatting_moves document (Save full) is = absurd is
