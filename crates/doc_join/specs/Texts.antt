-- The texts of a joined document.
use Rattle.std.specs.Prelude.{ℕ, ◌+◌, ◌-◌, ◌<◌, List, ◌++◌, length, map, take, drop, All, option_map}
use Rattle.std.specs.Option.{ForSome}
use Rattle.text_codes.specs.Paragraph.{section_mark}
use Rattle.doc_model.specs.declared.item.Item.{Item}
use Rattle.doc_model.specs.declared.item.Mark.{Mark}
use Rattle.doc_join.specs.declared.renumbering.Renumbering.{Renumbering}
use Rattle.doc_join.specs.Settings.{renumbered_chp}

-- a mark with the number that its style has now
abbrev pub renumbered_mark : Renumbering → Mark → Mark
renumbered_mark numbers mark = record mark { istd = mark.istd + numbers.before }

-- an item: the style that it names, and that of its mark
abbrev pub renumbered_item : Renumbering → Item → Item
renumbered_item numbers item = record item {
  chp = renumbered_chp numbers item.chp;
  mark = option_map (renumbered_mark numbers) item.mark;
}

abbrev pub renumbered_text : Renumbering → List Item → List Item
renumbered_text numbers text = map (renumbered_item numbers) text

abbrev pub renumbered_texts : Renumbering → List (List Item) → List (List Item)
renumbered_texts numbers texts = map (renumbered_text numbers) texts

-- [MS-DOC] a section that is not the last one ends with 0x0C
abbrev pub ending_section : Item → Item
ending_section item = record item { unit = section_mark }

-- a text whose last item ends a section that is not the last one
abbrev pub section_ended : List Item → List Item
section_ended text = take (length text - 1) text ++ map ending_section (drop (length text - 1) text)

-- the main text of the first document, its last section ended, and then that of the second
abbrev pub joined_main : Renumbering → List Item → Renumbering → List Item → List Item
joined_main first_numbers first second_numbers second =
    section_ended (renumbered_text first_numbers first) ++ renumbered_text second_numbers second

-- the texts of the first document, and then those of the second from a number on
abbrev pub texts_of_both : ℕ → Renumbering → List (List Item) → Renumbering → List (List Item) → List (List Item)
texts_of_both from first_numbers first second_numbers second =
    renumbered_texts first_numbers first ++ renumbered_texts second_numbers (drop from second)

-- the style of the mark is within the sheet
abbrev pub HasOwnStyle : Renumbering → Item → Type 0
HasOwnStyle numbers item = ForSome item.mark (λ mark. mark.istd < numbers.slots)

abbrev pub HaveOwnStyles : Renumbering → List Item → Type 0
HaveOwnStyles numbers text = All (HasOwnStyle numbers) text

abbrev pub AllHaveOwnStyles : Renumbering → List (List Item) → Type 0
AllHaveOwnStyles numbers texts = All (HaveOwnStyles numbers) texts
